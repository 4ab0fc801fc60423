use Rattle.std.proofs.Common.{◌≡◌, ◌≤◌, ◌+◌, ◌*◌, ◌-◌, ◌^◌, ◌<◌}
use Rattle.vp_text.specs.Reading.{meets, begins_number}
use Rattle.vp_text.proofs.digits.begins_some.Given as goal

abbrev pub invariant-loop : goal.invariant-loop
invariant-loop l = (meets l.least l.most (20 - l.counter) l.low l.high ≡ begins_number l.fn.least l.fn.most l.fn.number) × (l.high + 1 ≤ 2 * l.low) × (l.low ≤ 10 * 2 ^ 64) × (l.most < 2 ^ 64)
