use Rattle.std.proofs.Common.{◌≡◌, take}
use Rattle.vp_model.specs.Refresh.{newest}
use Rattle.vp_refresh.proofs.newest.newest.Given as goal

abbrev pub invariant-loop-answer : goal.invariant-loop-answer
invariant-loop-answer l = l.best ≡ newest l.own (take l.answer-index l.answers)
