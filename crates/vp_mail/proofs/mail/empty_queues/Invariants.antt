use Rattle.std.proofs.Common.{◌≡◌, length}
use Rattle.vp_mail.specs.Queues.{AreEmpty}
use Rattle.vp_mail.proofs.mail.empty_queues.Given as goal

abbrev pub invariant-loop : goal.invariant-loop
invariant-loop l = (length l.queues.items ≡ l.counter) × AreEmpty l.queues.items
