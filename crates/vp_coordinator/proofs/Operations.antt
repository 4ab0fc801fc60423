-- A row that makes the call wait does the same whatever was in the transaction's place before.
use Rattle.std.proofs.Common.{◌≡◌, ℕ, Bool, true, false, List, [], ◌∷◌, ◌++◌, length, if◌then◌else◌, Option, Some, None, Result, Ok, Err, refl, ap}
use Rattle.std.specs.Prelude.{◌||◌, nat_le}
use Rattle.std.specs.Option.{option_map_or}
use Rattle.vp_model.specs.Types.{View, Live, Pending, Answer}
use Rattle.vp_model.specs.Types.answer
use Rattle.vp_model.specs.Types.message
use Rattle.vp_model.specs.Transactions.{Deed}
use Rattle.vp_model.specs.Words.{for_each, put_number}
use Rattle.vp_model.specs.Catalogue.{Catalogue, find_record}
use Rattle.vp_model.specs.Site.{Lent, with_message, with_messages, with_each_message, lent_reply}
use Rattle.vp_model.specs.Calls.{prepare_for, read_at, write_at, prepare_parts, is_bad_table, is_too_large, short, with_record}
use Rattle.vp_transactions.proofs.Hands.{put_live_again}
use Rattle.vp_coordinator.specs.InPlace.{in_place}
use Rattle.vp_coordinator.specs.Records.{usable_record}

module _ (t : Live) (p : Pending) (l : Lent) where
  pub read_at_in_place : (id rec q : ℕ) → read_at id t p rec q (in_place t l) ≡ read_at id t p rec q l
  unfolding read_at
  read_at_in_place id rec q =
      ap (λ live. record { coordinator = record l.coordinator { live = live }; here = l.here; effects = with_message id (message.ReadRequest t.txn t.view p.number rec) q l.effects }) (put_live_again t (record t { remote = t.remote ++ (q, rec) ∷ []; parts = put_number q t.parts; pending = Some (record p { missing = q ∷ [] }) }) l.coordinator.live refl)

  pub write_at_in_place : (id rec : ℕ) (sites : List ℕ) → write_at id t p rec sites (in_place t l) ≡ write_at id t p rec sites l
  unfolding write_at
  write_at_in_place id rec sites =
      ap (λ live. record { coordinator = record l.coordinator { live = live }; here = l.here; effects = with_messages id (message.WriteRequest t.txn t.view p.number rec) sites l.effects }) (put_live_again t (record t { parts = for_each sites put_number t.parts; pending = Some (record p { missing = sites }) }) l.coordinator.live refl)

  pub prepare_in_place : (catalogue : Catalogue) (id : ℕ) → prepare_parts catalogue id t p (in_place t l) ≡ prepare_parts catalogue id t p l
  unfolding prepare_parts
  prepare_in_place catalogue id =
      ap (λ live. record { coordinator = record l.coordinator { live = live }; here = l.here; effects = with_each_message id (prepare_for catalogue t p) t.parts l.effects }) (put_live_again t (record t { pending = Some (record p { missing = t.parts }) }) l.coordinator.live refl)

pub ruleset waits_in_place = (read_at_in_place, write_at_in_place, prepare_in_place)

-- the record of a read or a write is sought first
abbrev pub by_record : Result ℕ Answer → ℕ → (ℕ → Lent → Lent) → Lent → Lent
by_record (Ok rec) port use_record l = use_record rec l
by_record (Err answer) port use_record l = lent_reply answer port l

module _ (port : ℕ) (use_record : ℕ → Lent → Lent) (l : Lent) where
  by_find : (found : Option ℕ) (f : ℕ → Lent) (none : Lent) (g : ℕ → Result ℕ Answer) (r : Result ℕ Answer) → ((rec : ℕ) → f rec ≡ by_record (g rec) port use_record l) → none ≡ by_record r port use_record l → option_map_or f found none ≡ by_record (option_map_or g found r) port use_record l
  by_find None f none g r some nothing = nothing
  by_find (Some rec) f none g r some nothing = some rec

  by_test : (b : Bool) (x y : Lent) (r s : Result ℕ Answer) → x ≡ by_record r port use_record l → y ≡ by_record s port use_record l → (if b then x else y) ≡ by_record (if b then r else s) port use_record l
  by_test true x y r s first second = first
  by_test false x y r s first second = second

  by_weights : (told : ℕ × ℕ → Answer) (rec : ℕ) (weights : Option (ℕ × ℕ)) → option_map_or (λ w. lent_reply (told w) port l) weights (use_record rec l) ≡ by_record (option_map_or (λ w. Err (told w)) weights (Ok rec)) port use_record l
  by_weights told rec None = refl
  by_weights told rec (Some weights) = refl

module _ (catalogue : Catalogue) (held : Option View) (t : Live) (p : Pending) (name : List ℕ) (asked : ℕ → Deed) (use_record : ℕ → Lent → Lent) (l : Lent) where
  pub record_first : with_record catalogue held t p name asked use_record l ≡ by_record (usable_record catalogue held l.bars t p name asked) p.port use_record l
  unfolding with_record
  record_first =
      by_find p.port use_record l (find_record catalogue name) _ _ _ _
      (λ rec. by_test p.port use_record l (is_bad_table catalogue (asked rec)) _ _ _ _ refl
      (by_test p.port use_record l (nat_le 64 (length t.answers) || is_too_large t (asked rec)) _ _ _ _ refl
      (by_weights p.port use_record l (λ (w : ℕ × ℕ). answer.Inaccessible t.txn p.number name w.0 w.1) rec (short catalogue held l.bars rec (asked rec)))))
      refl
