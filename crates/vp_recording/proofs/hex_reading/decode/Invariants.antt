use Rattle.std.proofs.Common.{◌≡◌, ◌*◌, ◌/◌, ◌≤◌, length, take}
use Rattle.vp_recording.specs.Hex.{bytes_of}
use Rattle.vp_recording.proofs.hex_reading.decode.Given as goal

abbrev pub invariant-loop-k : goal.invariant-loop-k
invariant-loop-k l = (l.k ≤ length l.digits / 2) × (l.bytes.items ≡ bytes_of (take (2 * l.k) l.digits))
