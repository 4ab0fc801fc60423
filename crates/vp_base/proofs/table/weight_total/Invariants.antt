use Rattle.std.proofs.Common.{◌≡◌, ◌≤◌, take}
use Rattle.std.specs.Prelude.{◌*◌}
use Rattle.vp_base.specs.Tables.{weight_total}
use Rattle.vp_base.proofs.table.weight_total.Given as goal

abbrev pub invariant-loop-share : goal.invariant-loop-share
invariant-loop-share l = record {
  sum : l.total ≡ weight_total (take l.share-index l.shares);
  most : l.total ≤ 65535 * l.share-index;
}
