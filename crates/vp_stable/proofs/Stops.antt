-- An append on a disk that is to stop: the calls that were done decide whether the batch is there.
use Rattle.std.proofs.Common.{◌≡◌, ◌∙◌, ⊎_elim, ℕ, suc, ◌+◌, Bool, true, false, List, [], ◌∷◌, length, refl, sym, subst, arith}
use Rattle.std.proofs.lemmas.Bool.Decides.{nat_tests}
use Rattle.std.specs.Prelude.{IsErrOf, nat_lt, IfSome, IsErr, Option, Some, None, Result, OnOk, Ok, Err}
use Rattle.vp_outside.specs.Disk.{Halves, InHalf, Written, Becomes, DiskState, log_of, Steps}
use Rattle.vp_outside.specs.declared.sink.OutFault.{OutFault}
use Rattle.vp_outside.specs.declared.sink.OutFault.TheVariants.{Failed, NoMemory}
use Rattle.vp_outside.proofs.Halves.{InHalf-refl}
use Rattle.vp_stable.specs.Stops.{WritesToStop, AppendsToStop, StaysPut, PutsWhere}
use Rattle.vp_stable.proofs.Tears.{torn_after, torn_written}
use Rattle.vp_stable.proofs.Writes.{in_half_as, in_half_then, becomes-as, becomes-same, becomes-then, both_written}

pub appends_as : (S T : Bool → Halves → Halves → Type 0) (calls : ℕ) (old new : DiskState) → ((kept : Bool) (a b : Halves) → S kept a b → T kept a b) → AppendsToStop S calls old new → AppendsToStop T calls old new
appends_as S T calls old new f h = record {
  read = becomes-as _ _ (f (nat_lt 2 calls)) h.read;
  synced = λ as_told. becomes-as _ _ (f (nat_lt 3 calls)) (h.synced as_told);
}

pub some_as : {P Q : ℕ → Type 0} (o : Option ℕ) → ((n : ℕ) → P n → Q n) → IfSome o P → IfSome o Q
some_as None f h = tt
some_as (Some n) f h = f n h

-- where memory wasn't lacking, a call that isn't done comes after the stop
pub out_failed : {T : Type 0} (result : Result T OutFault) → (IsErrOf result NoMemory → ⊥) → IsErr result → IsErrOf result Failed
out_failed (Ok x) enough is_err = absurd cc
out_failed (Err Failed) enough is_err = refl
out_failed (Err NoMemory) enough is_err = absurd (enough refl)

module _ (half : ℕ) (piece : List ℕ) (gate : ℕ) where
  abbrev where_kept : Bool → Halves → Halves → Type 0
  where_kept kept = InHalf half (PutsWhere piece gate kept)

  -- what follows the closed gate is not part of the log
  first_stays : (a b : List ℕ) → Written (gate + 1) piece a b → StaysPut piece gate a b
  first_stays a b written batch batches is log = torn_after gate batches a log (length piece) b (torn_written (gate + 1) piece a b written)

  none_stays : (told : Option Halves) → Becomes (where_kept false) told told
  none_stays told = becomes-same (where_kept false) told (λ log. InHalf-refl half (StaysPut piece gate) log (λ a batch batches is log. log))

  -- the first write stops
  pub first_stops : {T : Type 0} (calls : ℕ) (old new : DiskState) (result : Result T OutFault) → WritesToStop (InHalf half (Written (gate + 1) piece)) calls old new result → IsErrOf result Failed
      → AppendsToStop where_kept calls old new
  first_stops calls old new result h failed =
      let synced = λ (as_told : old.synced old.asked ≡ log_of old). subst (Becomes (where_kept false) (log_of old)) (sym (h.not_synced failed ∙ as_told)) (none_stays (log_of old)) in
      ⊎_elim
      (λ none. subst (λ calls. AppendsToStop where_kept calls old new) (sym none.0) (record { read = subst (Becomes (where_kept false) (log_of old)) (sym none.1) (none_stays (log_of old)); synced = synced }))
      (λ one. subst (λ calls. AppendsToStop where_kept calls old new) (sym one.0) (record { read = becomes-as _ _ (in_half_as half first_stays) one.1; synced = synced }))
      (h.stopped failed)

  -- the second one, after the first
  module _ (left : ℕ) (a b c : DiskState) (asked : b.asked ≡ a.asked) (synced : b.synced a.asked ≡ b.logs a.asked) (first : Steps (InHalf half (Written (gate + 1) piece)) a b) where
    stays : Becomes (where_kept false) (log_of a) (b.logs a.asked)
    stays = becomes-as _ _ (in_half_as half first_stays) first

    opens : Steps (InHalf half (Written gate (1 ∷ []))) b c → Becomes (where_kept true) (log_of a) (c.logs a.asked)
    opens second =
        let told : Becomes (InHalf half (Written gate (1 ∷ []))) (b.logs a.asked) (c.logs a.asked) = subst (λ (name : Option (List ℕ)). Becomes (InHalf half (Written gate (1 ∷ []))) (b.logs name) (c.logs name)) asked second in
        becomes-then _ _ _ (in_half_then half (both_written piece gate)) first told

    pub second_stops : {T : Type 0} (result : Result T OutFault) → WritesToStop (InHalf half (Written gate (1 ∷ []))) left b c result → IsErrOf result Failed → AppendsToStop where_kept (suc (suc left)) a c
    second_stops result h failed =
        let as_synced : c.synced a.asked ≡ b.logs a.asked = subst (λ (name : Option (List ℕ)). c.synced name ≡ b.synced name) asked (h.not_synced failed) ∙ synced in
        let not_yet = λ (as_told : a.synced a.asked ≡ log_of a). subst (Becomes (where_kept false) (log_of a)) (sym as_synced) stays in
        ⊎_elim
        (λ none. subst (λ left. AppendsToStop where_kept (suc (suc left)) a c) (sym none.0) (record {
          read = subst (Becomes (where_kept false) (log_of a)) (sym (subst (λ (name : Option (List ℕ)). c.logs name ≡ b.logs name) asked none.1)) stays;
          synced = not_yet;
        }))
        (λ one. subst (λ left. AppendsToStop where_kept (suc (suc left)) a c) (sym one.0) (record { read = opens one.1; synced = not_yet }))
        (h.stopped failed)

    pub both_done : (later : ℕ) → left ≡ suc (suc later) → c.synced b.asked ≡ c.logs b.asked → Steps (InHalf half (Written gate (1 ∷ []))) b c → AppendsToStop where_kept (suc (suc left)) a c
    both_done later left_is told second =
        let as_told : c.synced a.asked ≡ c.logs a.asked = subst (λ (name : Option (List ℕ)). c.synced name ≡ c.logs name) asked told in
        let third : nat_lt 2 (suc (suc left)) ≡ true = grind (arith, nat_tests, left_is) in
        let fourth : nat_lt 3 (suc (suc left)) ≡ true = grind (arith, nat_tests, left_is) in
        record {
          read = subst (λ k. Becomes (where_kept k) (log_of a) (c.logs a.asked)) (sym third) (opens second);
          synced = λ _. subst (λ k. Becomes (where_kept k) (log_of a) (c.synced a.asked)) (sym fourth) (subst (Becomes (where_kept true) (log_of a)) (sym as_told) (opens second));
        }

  -- both, as far as they were done
  pub put_stops : {T U : Type 0} (calls : ℕ) (a b c : DiskState) → b.asked ≡ a.asked → Steps (InHalf half (Written (gate + 1) piece)) a b
      → (result : Result T OutFault) → (IsErrOf result NoMemory → ⊥) → OnOk result (Steps (InHalf half (Written gate (1 ∷ []))) b c)
      → IfSome b.until_stop (λ left. WritesToStop (InHalf half (Written gate (1 ∷ []))) left b c result)
      → (done : U) → WritesToStop {T = U} (InHalf half (Written (gate + 1) piece)) calls a b (Ok done) → AppendsToStop where_kept calls a c
  put_stops calls a b c asked first result enough second stop done was =
      let now : WritesToStop (InHalf half (Written gate (1 ∷ []))) left b c result = subst (λ o. IfSome o (λ left. WritesToStop (InHalf half (Written gate (1 ∷ []))) left b c result)) was.done.2 stop in
      subst (λ calls. AppendsToStop where_kept calls a c) (sym was.done.1) (by result enough second now)
    where
      left : ℕ
      left = was.done.0

      by : {T : Type 0} (result : Result T OutFault) → (IsErrOf result NoMemory → ⊥) → OnOk result (Steps (InHalf half (Written gate (1 ∷ []))) b c)
          → WritesToStop (InHalf half (Written gate (1 ∷ []))) left b c result → AppendsToStop where_kept (suc (suc left)) a c
      by (Ok x) enough second now = both_done left a b c asked was.done.3 first now.done.0 now.done.1 now.done.3 second
      by (Err e) enough second now = second_stops left a b c asked was.done.3 first (Err e) now (out_failed (Err e) enough refl)
