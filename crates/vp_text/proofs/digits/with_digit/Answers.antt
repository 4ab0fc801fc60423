use Rattle.std.proofs.Common.{◌<◌, ◌+◌, ◌*◌, ◌-◌, sym, arith}
use Rattle.vp_text.proofs.Loops.{number_past}
use Rattle.vp_text.proofs.digits.with_digit.Goals as goal

pub returns-in_err-checked_mul-in-Some : goal.returns-in_err-checked_mul-in-Some
returns-in_err-checked_mul-in-Some c =
    let past : c.args.most < c.in-Some.number * 10 + (c.args.byte - 48) = omega (arith, c.in_err-checked_mul-in-Some.ensures) in
    rw (c.from_residual.ensures, c.in-Some.is) (sym (number_past c.args.least c.args.most c.in-Some.number c.args.byte past (omega arith)))

pub returns-in_err-next-in-Some : goal.returns-in_err-next-in-Some
returns-in_err-next-in-Some c =
    let past : c.args.most < c.in-Some.number * 10 + (c.args.byte - 48) = omega (arith, c.in_err-next-in-Some.ensures) in
    rw (c.from_residual-in_err-next-in-Some.ensures, c.in-Some.is) (sym (number_past c.args.least c.args.most c.in-Some.number c.args.byte past (omega arith)))
