use Rattle.std.proofs.Common.{arith}
use Rattle.std.proofs.lemmas.List.{take_all}
use Rattle.vp_refresh.proofs.Least.{newest_is}
use Rattle.vp_refresh.proofs.newest.newest.Goals as goal

pub returns-clause-newest : goal.returns-clause-newest
returns-clause-newest c =
    rw (c.loop-answer.invariant, take_all c.loop-answer.answer-index c.args.answers.now (omega (arith, c.loop-answer-test.false))) (newest_is c.args.own.now c.args.answers.now c.requires)
