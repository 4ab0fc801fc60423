use Rattle.std.proofs.Common.{◌≡◌, ◌∙◌, ap, sym, subst, Option, Some, None}
use Rattle.vp_model.specs.Site.{SiteState}
use Rattle.vp_model.specs.World.{site_of}
use Rattle.vp_world.specs.Steps.{taker}
use Rattle.vp_cluster.specs.declared.host.StoppedLog.{StoppedLog}
use Rattle.vp_stopping.specs.Singles.{StopsOf}
use Rattle.vp_stopping.proofs.stopped.Front.stop.Goals as goal

pub stop-requires-clause-lent : goal.stop-requires-clause-lent
stop-requires-clause-lent c = c.requires.lent c.in-Some.id c.in-Some-into_site.site (sym c.in_ok-id.ensures ∙ c.in-Some.is) (sym c.into_site.ensures ∙ c.in-Some-into_site.is)

pub returns-in-None-clause-stops : goal.returns-in-None-clause-stops
returns-in-None-clause-stops c = λ id site takes up.
    let front = c.args.self in
    let own = c.in-Some-into_site.site in
    let same : c.in-Some.id ≡ id = (let z = sym (sym c.in_ok-id.ensures ∙ c.in-Some.is) ∙ takes in cc) in
    let it : own ≡ site = (let z = sym (sym c.into_site.ensures ∙ c.in-Some-into_site.is) ∙ ap (site_of front.steps.world.world) same ∙ up in cc) in (
      c.stop.new.self,
      subst (λ (x : SiteState). StopsOf c.args.event.now x None front.nodes c.stop.new.self) it
          (subst (λ (left : Option StoppedLog). StopsOf c.args.event.now own left front.nodes c.stop.new.self) c.in-None.is c.in_ok-stop.ensures.stops),
    )

pub returns-clause-stops : goal.returns-clause-stops
returns-clause-stops c =
    let front = c.args.self in
    let own = c.in-Some-into_site.site in
    let takes : taker front.steps.world.catalogue c.args.event.now front.steps.world.world ≡ Some c.in-Some.id = sym c.in_ok-id.ensures ∙ c.in-Some.is in (
      takes,
      λ site up.
          let it : own ≡ site = (let z = sym (sym c.into_site.ensures ∙ c.in-Some-into_site.is) ∙ up in cc) in
          subst (λ (x : SiteState). StopsOf c.args.event.now x (Some c.in-Some-2.left) front.nodes c.stop.new.self) it
          (subst (λ (left : Option StoppedLog). StopsOf c.args.event.now own left front.nodes c.stop.new.self) c.in-Some-2.is c.in_ok-stop.ensures.stops),
      c.stop.ensures.same,
    )
