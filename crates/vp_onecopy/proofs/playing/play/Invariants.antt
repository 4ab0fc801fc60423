use Rattle.std.proofs.Common.{◌≡◌, take, length}
use Rattle.std.specs.Prelude.{Some}
use Rattle.vp_model.specs.OneCopy.{play}
use Rattle.vp_onecopy.proofs.playing.play.Given as goal

abbrev pub invariant-loop-index : goal.invariant-loop-index
invariant-loop-index l = record {
  count : length l.map ≡ length l.fn.map;
  played : play l.fn.map (take l.index l.ops) ≡ Some l.map;
}
