use Rattle.std.proofs.Common.{rules, ◌≡◌, ◌<◌, ◌^◌, subst, Some, Option}
use Rattle.std.specs.Prelude.{IfSome, option_and_then}
use Rattle.vp_model.specs.Types.{Newest}
use Rattle.vp_model.specs.Site.{SiteState}
use Rattle.vp_model.specs.World.{site_of}
use Rattle.vp_model.specs.Generated.{newest}
use Rattle.vp_replay.proofs.Making.{next_some}
use Rattle.vp_replay.proofs.drawing.Draws.work.Goals as goal

pub call-requires-clause-number : goal.call-requires-clause-number
call-requires-clause-number c =
    let is : option_and_then (λ (site : SiteState). newest site.live) (site_of c.args.world.now.world c.args.site) ≡ Some c.in-Some.newest = search rules in
    (next_some (site_of c.args.world.now.world c.args.site) c.in-Some.newest is, subst (λ (o : Option Newest). IfSome o (λ t. t.next < 2 ^ 32)) is c.requires.numbers)
