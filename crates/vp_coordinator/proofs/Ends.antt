-- Several transactions end, one after the other.
use Rattle.std.proofs.Common.{◌≡◌, ◌∙◌, ◌&&◌, ◌<◌, ℕ, Bool, true, not, List, [], ◌∷◌, drop, filter, length, Option, Some, None, sym, ap, refl, arith}
use Rattle.std.specs.Prelude.{slice_get}
use Rattle.std.specs.List.{list_all}
use Rattle.std.specs.Option.{option_map_or}
use Rattle.std.proofs.lemmas.Bool.Decides.{nat_tests}
use Rattle.vp_model.specs.Types.{Live, Pending, Ending}
use Rattle.vp_base.specs.declared.site.Ending.TheVariants.{TimedOut, ViewChanged}
use Rattle.vp_model.specs.Words.{for_each, for_some, is_empty, first, same_txn, without_first}
use Rattle.vp_model.specs.Site.{Lent, lent_coordinator}
use Rattle.vp_model.specs.Transactions.{close, close_all, finish}
use Rattle.vp_model.specs.Views.{abandon}
use Rattle.vp_model.specs.Step.{is_marked_call, least_of, least_missing, with_marks, mark_calls, time_out_calls}
use Rattle.vp_transactions.specs.Waiting.{waits, all_wait}
use Rattle.vp_coordinator.specs.Ends.{timed_out}
use Rattle.vp_model.proofs.SameTxn.{same_txn-self}

-- the same state with these transactions as the live ones
abbrev pub with_live : List Live → Lent → Lent
with_live live l = lent_coordinator (λ c. record c { live = live }) l

module _ (id : ℕ) (why : Live → Ending) where
  close_with : (t : Live) (live : List Live) (l : Lent) → close id t (why t) (with_live live l) ≡ with_live (without_first (λ u. same_txn u.txn t.txn) live) (close id t (why t) l)
  unfolding close finish
  close_with t live l = refl

  first_goes : (t : Live) (live : List Live) (l : Lent) → close id t (why t) (with_live (t ∷ live) l) ≡ with_live live (close id t (why t) l)
  first_goes t live l = close_with t (t ∷ live) l ∙ rw (same_txn-self t.txn) refl

  -- ending each live transaction is ending each of those that were taken out before
  in_place_goes : (live : List Live) (l : Lent) → close_all id why live (with_live live l) ≡ with_live [] (close_all id why live l)
  in_place_goes [] l = refl
  in_place_goes (t ∷ live) l = rw (first_goes t live l) (in_place_goes live (close id t (why t) l))

  out_goes : (live : List Live) (l : Lent) → close_all id why live (with_live [] l) ≡ with_live [] (close_all id why live l)
  out_goes [] l = refl
  out_goes (t ∷ live) l = rw (close_with t [] l) (out_goes live (close id t (why t) l))

-- the first transaction is ended, and then those after it
pub closed_first : (id : ℕ) (why : Live → Ending) (live rest : List Live) (t : Live) (l m : Lent) → Some t ≡ slice_get live 0 → rest ≡ drop 1 live → m ≡ close id t (why t) l → close_all id why rest m ≡ close_all id why live l
closed_first id why [] rest t l m e r h = absurd (cc)
closed_first id why (u ∷ live) rest t l m e r h = let same : t ≡ u = cc in rw (r, h, same) refl

pub fewer_left : (live rest : List Live) (t : Live) → Some t ≡ slice_get live 0 → rest ≡ drop 1 live → length rest < length live
fewer_left [] rest t e r = absurd (cc)
fewer_left (u ∷ live) rest t e r = rw r (omega arith)

pub all_closed : (id : ℕ) (why : Live → Ending) (live : List Live) (l : Lent) → None ≡ slice_get live 0 → l ≡ close_all id why live l
all_closed id why [] l e = refl
all_closed id why (t ∷ live) l e = absurd (cc)

pub all_left : (id : ℕ) (l : Lent) → abandon id l ≡ close_all id (λ t. ViewChanged id t.view None) l.live (with_live [] l)
unfolding abandon
all_left id l =
    in_place_goes id (λ t. ViewChanged id t.view None) l.live l ∙ sym (out_goes id (λ t. ViewChanged id t.view None) l.live l)

module _ (id : ℕ) where
  ends_at : (t : Live) (missing : List ℕ) (l : Lent) → not (is_empty missing) ≡ true → for_some (first missing) (λ at. close id t (TimedOut at)) l ≡ close id t (TimedOut (least_of missing)) l
  ends_at t [] l h = absurd (cc)
  ends_at t (q ∷ missing) l h = refl

  ends_late : (t : Live) (q : Option Pending) (l : Lent) → option_map_or (λ (p : Pending). not (is_empty p.missing)) q true ≡ true → is_marked_call q ≡ true → for_some (option_map_or (λ (p : Pending). first p.missing) q None) (λ at. close id t (TimedOut at)) l ≡ close id t (TimedOut (least_missing q)) l
  ends_late t None l h m = absurd (cc)
  ends_late t (Some p) l h m = ends_at t p.missing l h

  abbrev late : Live → Bool
  late t = waits t && is_marked_call t.pending

  late_only : (xs : List Live) → all_wait xs ≡ true → list_all late (filter (λ t. is_marked_call t.pending) xs) ≡ true
  late_only [] h = refl
  late_only (x ∷ xs) h = let rest = late_only xs in grind (arith, nat_tests, h, rest)

  one_ends : (t : Live) (l : Lent) → late t ≡ true → timed_out id t l ≡ close id t (TimedOut (least_missing t.pending)) l
  one_ends t l h = ends_late t t.pending l (grind (arith, nat_tests, h)) (grind (arith, nat_tests, h))

  each_ends : (xs : List Live) (l : Lent) → list_all late xs ≡ true → for_each xs (timed_out id) l ≡ close_all id (λ t. TimedOut (least_missing t.pending)) xs l
  each_ends [] l h = refl
  each_ends (t ∷ xs) l h =
      let one : late t ≡ true = grind (arith, nat_tests, h) in
      let rest : list_all late xs ≡ true = grind (arith, nat_tests, h) in
      rw (one_ends t l one) (each_ends xs (close id t (TimedOut (least_missing t.pending)) l) rest)

  pub late_end : (xs : List Live) (l : Lent) → all_wait xs ≡ true → for_each (filter (λ t. is_marked_call t.pending) xs) (timed_out id) l ≡ close_all id (λ t. TimedOut (least_missing t.pending)) (filter (λ t. is_marked_call t.pending) xs) l
  late_end xs l h = each_ends (filter (λ t. is_marked_call t.pending) xs) l (late_only xs h)

  pub time_out_is : (l : Lent) → all_wait l.live ≡ true → time_out_calls id l ≡ lent_coordinator with_marks (for_each (filter (λ t. is_marked_call t.pending) l.live) (timed_out id) l)
  unfolding time_out_calls mark_calls
  time_out_is l h = ap (λ o. lent_coordinator with_marks o) (sym (late_end l.live l h))
