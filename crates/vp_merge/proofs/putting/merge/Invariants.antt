use Rattle.vp_model.specs.Catalogue.{sites_of}
use Rattle.vp_fitting.specs.Merged.{turns_left}
use Rattle.vp_merge.specs.Merging.{left_of}
use Rattle.vp_merge.proofs.Ending.{IsGoing}
use Rattle.vp_merge.proofs.putting.merge.Given as goal

abbrev pub invariant-turns : goal.invariant-turns
invariant-turns l = IsGoing l.catalog l.recordings l.merging

abbrev pub decreases-turns : goal.decreases-turns
decreases-turns l = turns_left (sites_of l.catalog) (left_of l.recordings l.merging.tracks.items)
