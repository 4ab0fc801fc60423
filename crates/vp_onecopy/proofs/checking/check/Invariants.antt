use Rattle.std.proofs.Common.{◌≡◌, take, length}
use Rattle.std.specs.Prelude.{Some}
use Rattle.vp_model.specs.OneCopy.{serial}
use Rattle.vp_onecopy.proofs.checking.check.Given as goal

abbrev pub invariant-loop-commit : goal.invariant-loop-commit
invariant-loop-commit l = record {
  count : length l.map ≡ length l.fn.start;
  played : serial l.start (take l.commit-index l.list) ≡ Some l.map;
}
