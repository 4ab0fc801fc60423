use Rattle.std.proofs.Common.{◌≡◌, take}
use Rattle.vp_model.specs.Words.{for_each}
use Rattle.vp_pictures.specs.Steps.{say_commit}
use Rattle.vp_pictures.proofs.sheet.Sheet.say_commits.Given as goal

abbrev pub invariant-loop-commit : goal.invariant-loop-commit
invariant-loop-commit l = l.self ≡ for_each (take l.commit-index l.commits) (say_commit l.x) l.fn.self
