use Rattle.std.proofs.Common.{◌∙◌, ap, sym, subst}
use Rattle.vp_model.specs.Catalogue.{Catalogue}
use Rattle.vp_model.specs.World.{start_world}
use Rattle.vp_world.specs.Known.{Known}
use Rattle.vp_merge.specs.Played.{IsReached}
use Rattle.vp_merge.proofs.Reached.{starts_reached}
use Rattle.vp_merge.proofs.played.Played.start.Goals as goal

pub returns-clause-played : goal.returns-clause-played
returns-clause-played c =
    let world = c.in_ok-new.ensures ∙ ap (λ (k : Catalogue). let w : Known = record { catalogue = k; world = start_world k } in w) c.in_ok-copy_of.ensures in
    subst (λ (w : Known). IsReached w.catalogue w.world c.new-2.result) (sym world)
    (subst (IsReached c.args.catalog.now (start_world c.args.catalog.now)) (sym c.new-2.ensures) (starts_reached c.args.catalog.now c.requires))
