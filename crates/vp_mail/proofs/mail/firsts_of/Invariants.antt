use Rattle.std.proofs.Common.{◌≡◌, map, take}
use Rattle.vp_model.specs.Words.{first}
use Rattle.vp_mail.proofs.mail.firsts_of.Given as goal

abbrev pub invariant-loop-queue : goal.invariant-loop-queue
invariant-loop-queue l = l.firsts.items ≡ map first (take l.queue-index l.queues)
