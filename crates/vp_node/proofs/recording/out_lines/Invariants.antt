use Rattle.std.proofs.Common.{◌≡◌, ◌++◌, map, take}
use Rattle.vp_runs.specs.Turns.{out_line}
use Rattle.vp_node.proofs.recording.out_lines.Given as goal

abbrev pub invariant-loop-datagram : goal.invariant-loop-datagram
invariant-loop-datagram l = l.lines ≡ l.fn.lines ++ map out_line (take l.datagram-index l.datagrams)
