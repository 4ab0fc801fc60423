use Rattle.std.proofs.Common.{◌-◌, ◌≤◌, length, take}
use Rattle.vp_recording.proofs.Digits.{AreDigits}
use Rattle.vp_recording.proofs.HexExact.{bytes_from}
use Rattle.vp_recording.proofs.hex_reading.parse_bytes.Given as goal

abbrev pub invariant-loop-count : goal.invariant-loop-count
invariant-loop-count l = (l.count ≤ length l.text) × (l.count ≤ 32768) × AreDigits (take l.count l.text) × bytes_from l.text l.count

abbrev pub decreases-loop-count : goal.decreases-loop-count
decreases-loop-count l = 32768 - l.count
