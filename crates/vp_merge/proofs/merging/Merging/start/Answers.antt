use Rattle.std.proofs.Common.{◌∙◌, ap, sym, subst, []}
use Rattle.vp_model.specs.World.{start_world}
use Rattle.vp_world.specs.Known.{Known}
use Rattle.vp_fitting.specs.Merged.{first_track}
use Rattle.vp_merge.specs.Merging.{left_of}
use Rattle.vp_merge.specs.Numbers.{IsIndex}
use Rattle.vp_merge.proofs.Choosing.{left_first}
use Rattle.vp_merge.proofs.Going.{same_state}
use Rattle.vp_merge.proofs.Starting.{no_sent, tracks_there}
use Rattle.vp_merge.proofs.merging.Merging.start.Goals as goal

pub returns-clause-merging : goal.returns-clause-merging
returns-clause-merging c =
    let s = c.in_ok-start.ensures in
    let ts = c.in_ok-tracks_of.ensures in
    let fs = c.in_ok-numbers.ensures in
    record {
      played = s.played;
      catalogue_is = ap (λ (k : Known). k.catalogue) s.world;
      sites = ts.sites;
      tracks_are = ts.are;
      index = subst (IsIndex c.in_ok-numbers.numbers) (sym (ap (λ (k : Known). k.world.sent) s.world ∙ no_sent c.args.catalog.now)) fs.index;
      there = tracks_there c.in_ok-numbers.numbers c.args.recordings.now fs.there c.in_ok-tracks_of.field-0.items ts.left;
    }

pub returns-clause-state : goal.returns-clause-state
returns-clause-state c =
    let s = c.in_ok-start.ensures in
    same_state c.in_ok-start.field-0.world.world (start_world c.args.catalog.now) c.in_ok-start.field-0.events [] (left_of c.args.recordings.now c.in_ok-tracks_of.field-0.items) (first_track c.args.recordings.now)
    (ap (λ (k : Known). k.world) s.world) s.events (left_first c.args.recordings.now c.in_ok-tracks_of.field-0.items c.in_ok-tracks_of.ensures.left)
