use Rattle.std.proofs.Common.{rules, nat_lt, ℕ}
use Rattle.std.proofs.lemmas.List.Sorted.{answers_always}
use Rattle.vp_model.specs.Types.{Stored}
use Rattle.vp_lists.proofs.Halving.{ascend_from_adjacent}
use Rattle.vp_records.proofs.site_copies.ascends.Goals as goal

pub returns : goal.returns
returns c = λ all.
    let adjacent = c.is_sorted_by.ensures.cases (λ (a : ℕ × Stored) (b : ℕ × Stored). nat_lt a.0 b.0) (answers_always _ _ _ (λ f a r g called. search rules)) in
    ascend_from_adjacent (λ (copy : ℕ × Stored). copy.0) c.args.copies.now (rw all at adjacent)
