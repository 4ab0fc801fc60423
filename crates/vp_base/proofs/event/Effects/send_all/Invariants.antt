use Rattle.std.proofs.Common.{◌≡◌, take}
use Rattle.vp_base.specs.Effects.{with_messages}
use Rattle.vp_base.proofs.event.Effects.send_all.Given as goal

abbrev pub invariant-loop-site : goal.invariant-loop-site
invariant-loop-site l = l.self ≡ with_messages l.from l.message (take l.site-index l.sites) l.initial.self
