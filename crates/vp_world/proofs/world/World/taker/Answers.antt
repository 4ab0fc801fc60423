use Rattle.std.proofs.Common.{◌≡◌, IfOk, subst}
use Rattle.vp_model.specs.World.{WorldState}
use Rattle.vp_world.specs.Known.{Known}
use Rattle.vp_world.specs.Steps.{taker, taker_now}
use Rattle.vp_world.proofs.Taking.{taken_so}
use Rattle.vp_world.proofs.world.World.taker.Goals as goal

pub returns : goal.returns
returns c =
    let now = subst (λ (w : WorldState). IfOk c.taker.result (λ site. site ≡ taker_now c.args.event.now w)) c.deref.ensures c.taker.ensures in
    subst (λ (k : Known). IfOk c.taker.result (λ site. site ≡ taker k.catalogue c.args.event.now k.world)) c.self.view_is
    (taken_so c.taker.result c.self.inside.catalog.value c.args.event.now c.self.inside.state.value now)
