use Rattle.std.proofs.Common.{Some}
use Rattle.vp_merge.proofs.Entries.{noted, kept_place, first_now, first_before}
use Rattle.vp_merge.proofs.numbers.FrameNumbers.note.Goals as goal

pub returns-then-is_none-clause-same : goal.returns-then-is_none-clause-same
returns-then-is_none-clause-same c = λ bytes. kept_place _ _ bytes c.args.frame.now (Some c.args.number) (c.get_mut.follows.holds (Some c.args.number)).0

pub returns-then-is_none-clause-noted : goal.returns-then-is_none-clause-noted
returns-then-is_none-clause-noted c = λ bytes. noted _ _ bytes c.args.frame.now c.in-Some.first.now (Some c.args.number) c.args.number c.in-Some.ensures.value (c.get_mut.follows.holds (Some c.args.number)).0 (first_now c.in-Some.first.now c.args.number c.is_none.result c.is_none.ensures c.if-is_none.true)

pub returns-else-is_none-clause-same : goal.returns-else-is_none-clause-same
returns-else-is_none-clause-same c = λ bytes. kept_place _ _ bytes c.args.frame.now c.in-Some.first.now (c.get_mut.follows.holds c.in-Some.first.now).0

pub returns-else-is_none-clause-noted : goal.returns-else-is_none-clause-noted
returns-else-is_none-clause-noted c = λ bytes. noted _ _ bytes c.args.frame.now c.in-Some.first.now c.in-Some.first.now c.args.number c.in-Some.ensures.value (c.get_mut.follows.holds c.in-Some.first.now).0 (first_before c.in-Some.first.now c.args.number c.is_none.result c.is_none.ensures c.if-is_none.false)
