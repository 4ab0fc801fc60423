use Rattle.std.proofs.Common.{◌≡◌, take}
use Rattle.vp_model.specs.Words.{for_each}
use Rattle.vp_pictures.specs.Steps.{say_reply}
use Rattle.vp_pictures.proofs.sheet.Sheet.say_replies.Given as goal

abbrev pub invariant-loop-reply : goal.invariant-loop-reply
invariant-loop-reply l = l.self ≡ for_each (take l.reply-index l.replies) (say_reply l.x) l.fn.self
