use Rattle.std.proofs.Common.{◌≡◌, take}
use Rattle.vp_model.specs.Site.{with_each_message}
use Rattle.vp_model.specs.Calls.{prepare_for}
use Rattle.vp_coordinator.proofs.commits.ask_parts.Given as goal

abbrev pub invariant-loop-site : goal.invariant-loop-site
invariant-loop-site l = l.effects ≡ with_each_message l.at.id (prepare_for l.at.catalog.now l.handled.live l.handled.pending) (take l.site-index l.handled.live.parts) l.initial.effects
