use Rattle.std.proofs.Common.{◌≡◌}
use Rattle.vp_mail.specs.Posted.{post_messages}
use Rattle.vp_mail.proofs.mail.Mail.send.Given as goal

abbrev pub invariant-loop-message : goal.invariant-loop-message
invariant-loop-message l = l.self ≡ post_messages l.yielded l.initial.self
