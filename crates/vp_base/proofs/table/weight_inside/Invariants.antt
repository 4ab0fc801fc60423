use Rattle.std.proofs.Common.{◌≡◌, ◌≤◌, take}
use Rattle.std.specs.Prelude.{◌*◌}
use Rattle.vp_base.specs.Tables.{weight_inside}
use Rattle.vp_base.proofs.table.weight_inside.Given as goal

abbrev pub invariant-loop-share : goal.invariant-loop-share
invariant-loop-share l = record {
  sum : l.inside ≡ weight_inside l.members (take l.share-index l.shares);
  most : l.inside ≤ 65535 * l.share-index;
}
