use Rattle.std.proofs.Common.{◌≡◌, ◌≤◌}
use Rattle.vp_pictures.specs.Words.{usable_below}
use Rattle.vp_pictures.proofs.words.usable.Given as goal

abbrev pub invariant-loop-place : goal.invariant-loop-place
invariant-loop-place l = record {
  count : l.count ≡ usable_below l.catalog l.view.members l.place;
  few : l.count ≤ l.place;
}
