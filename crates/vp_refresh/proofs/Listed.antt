-- The list of the copies under refresh after an answer.
use Rattle.std.proofs.Common.{◌≡◌, ◌<◌, ℕ, zero, suc, ◌==◌, List, [], ◌∷◌, length, get_or, set, map, Some, None, sym, ap, arith}
use Rattle.std.proofs.lemmas.Bool.{eqb-true}
use Rattle.std.proofs.lemmas.List.Quantifiers.{position-Some}
use Rattle.std.specs.List.{position}
use Rattle.std.specs.List.Sorted.{IsStrictlyIncreasing}
use Rattle.vp_model.specs.Types.{Stored, Refreshing}
use Rattle.vp_model.specs.Words.{put_at}
use Rattle.vp_model.specs.Messages.{with_answer}
use Rattle.vp_lists.proofs.Halving.{none_passes, one_changed, others_differ}

module _ (rec from : ℕ) (stored : Stored) (refresh : List Refreshing) where
  pub answered : IsStrictlyIncreasing (map (λ (r : Refreshing). r.rec) refresh) → (at : ℕ) (d : Refreshing) → position (λ r. r.rec == rec) refresh ≡ Some at → set refresh at (record (get_or refresh at d) { answers = put_at from stored (get_or refresh at d).answers }) ≡ map (with_answer rec from stored) refresh
  answered ascend at d there =
      let place = position-Some (λ (r : Refreshing). r.rec == rec) refresh at d there in
      let here : (get_or refresh at d).rec ≡ rec = eqb-true _ _ place.1 in
      sym (one_changed (λ (r : Refreshing). r.rec == rec) (λ r. record r { answers = put_at from stored r.answers }) refresh at d place.0 place.1 (others_differ (λ (r : Refreshing). r.rec) refresh ascend rec at d place.0 here))

  pub answered-nowhere : position (λ r. r.rec == rec) refresh ≡ None → refresh ≡ map (with_answer rec from stored) refresh
  answered-nowhere there = sym (none_passes (λ (r : Refreshing). r.rec == rec) (λ r. record r { answers = put_at from stored r.answers }) refresh there)

recs_kept : (refresh : List Refreshing) (at : ℕ) (d r : Refreshing) → at < length refresh → r.rec ≡ (get_or refresh at d).rec → map (λ (r : Refreshing). r.rec) (set refresh at r) ≡ map (λ (r : Refreshing). r.rec) refresh
recs_kept [] at d r within same = absurd (omega arith)
recs_kept (q ∷ refresh) zero d r within same = ap (λ n. n ∷ map (λ (r : Refreshing). r.rec) refresh) same
recs_kept (q ∷ refresh) (suc at) d r within same = ap (λ recs. q.rec ∷ recs) (recs_kept refresh at d r (omega arith) same)

pub still_ascend : (refresh : List Refreshing) (at : ℕ) (d r : Refreshing) → at < length refresh → r.rec ≡ (get_or refresh at d).rec → IsStrictlyIncreasing (map (λ (r : Refreshing). r.rec) refresh) → IsStrictlyIncreasing (map (λ (r : Refreshing). r.rec) (set refresh at r))
still_ascend refresh at d r within same ascend = rw (recs_kept refresh at d r within same) ascend
