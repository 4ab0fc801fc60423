use Rattle.std.proofs.Common.{◌≡◌, take}
use Rattle.vp_model.specs.Words.{for_each}
use Rattle.vp_pictures.specs.Steps.{say_message}
use Rattle.vp_pictures.proofs.sheet.Sheet.say_messages.Given as goal

abbrev pub invariant-loop-sent : goal.invariant-loop-sent
invariant-loop-sent l = l.self ≡ for_each (take l.sent-index l.messages) (say_message l.catalog l.x) l.fn.self
