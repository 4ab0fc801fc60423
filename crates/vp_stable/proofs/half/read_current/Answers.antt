use Rattle.std.proofs.Common.{◌≡◌}
use Rattle.std.specs.Prelude.{IfSome}
use Rattle.vp_stable.proofs.Recoveries.{first_read, second_read}
use Rattle.vp_stable.proofs.Times.{quiet_join, told_before}
use Rattle.vp_stable.proofs.half.read_current.Goals as goal
use Rattle.vp_stable.proofs.half.read_current.Goals.{then-generations, else-generations}

pub returns-clause-told : goal.returns-clause-told
returns-clause-told g c =
    let quiet = c.read_half.ensures.quiet in
    let second = told_before (λ o. IfSome o (λ log. c.in_ok-second.second.items ≡ log.1)) quiet c.in_ok-second.ensures.told in
    let of_first = rw c.deref.ensures.value at c.in_ok-generation.ensures in
    let of_second = rw c.deref-2.ensures.value at c.in_ok-generation-2.ensures in
    elim c.if-generations.branch [
      | then-generations w ↦ rw w.result-is (second_read _ _ _ _ of_first of_second _ w.if-generations.true c.in_ok-first.ensures.told second)
      | else-generations w ↦ rw w.result-is (first_read _ _ _ _ of_first of_second _ w.if-generations.false c.in_ok-first.ensures.told second)
    ]

pub returns-clause-generation : goal.returns-clause-generation
returns-clause-generation g c =
    let of_first = rw c.deref.ensures.value at c.in_ok-generation.ensures in
    let of_second = rw c.deref-2.ensures.value at c.in_ok-generation-2.ensures in
    elim c.if-generations.branch [
      | then-generations w ↦ rw w.result-is of_second
      | else-generations w ↦ rw w.result-is of_first
    ]

-- nothing is written
pub returns-in_err-second-clause-quiet : goal.returns-in_err-second-clause-quiet
returns-in_err-second-clause-quiet g c = quiet_join c.read_half.ensures.quiet c.read_half-2.ensures.quiet

pub returns-in_err-generation-clause-quiet : goal.returns-in_err-generation-clause-quiet
returns-in_err-generation-clause-quiet g c = quiet_join c.read_half.ensures.quiet c.read_half-2.ensures.quiet

pub returns-in_err-generation-2-clause-quiet : goal.returns-in_err-generation-2-clause-quiet
returns-in_err-generation-2-clause-quiet g c = quiet_join c.read_half.ensures.quiet c.read_half-2.ensures.quiet

pub returns-clause-quiet : goal.returns-clause-quiet
returns-clause-quiet g c = quiet_join c.read_half.ensures.quiet c.read_half-2.ensures.quiet
