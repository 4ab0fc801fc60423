use Rattle.std.proofs.Common.{◌≡◌, map, take}
use Rattle.std.specs.List.{AllByRecursion}
use Rattle.vp_model.specs.Catalogue.{sites_of}
use Rattle.vp_fitting.specs.Merged.{first_track}
use Rattle.vp_merge.specs.Tracks.{IsTrack, track_of}
use Rattle.vp_merge.specs.declared.track.Track.{Track}
use Rattle.vp_merge.proofs.merging.tracks_of.Given as goal

abbrev pub invariant-loop-site : goal.invariant-loop-site
invariant-loop-site l = record {
  sites : map (λ (t : Track). t.site) l.tracks.items ≡ take l.site-index (sites_of l.catalog);
  left : AllByRecursion (λ (t : Track). track_of t ≡ first_track l.recordings t.site) l.tracks.items;
  are : AllByRecursion (IsTrack l.numbers) l.tracks.items;
}
