use Rattle.std.proofs.Common.{refl}
use Rattle.std.proofs.lemmas.Result.{err_from_is_err_and}
use Rattle.vp_catalog.specs.EntryReading.{port_at}
use Rattle.vp_catalog.proofs.reading.parse_port.Goals as goal

pub returns-in_err-literal : goal.returns-in_err-literal
unfolding port_at
returns-in_err-literal c =
    let p = err_from_is_err_and c.from_residual.result c.from_residual.ensures.1 in
    rw (p.1, p.2, c.in_err-literal.ensures.read) refl

pub returns-in_err-number_u8 : goal.returns-in_err-number_u8
unfolding port_at
returns-in_err-number_u8 c =
    let p = err_from_is_err_and c.from_residual-in_err-number_u8.result c.from_residual-in_err-number_u8.ensures.1 in
    rw (p.1, p.2, c.in_ok-literal.ensures.read, c.in_err-number_u8.ensures.read) refl

pub returns-in_err-literal-2 : goal.returns-in_err-literal-2
unfolding port_at
returns-in_err-literal-2 c =
    let p = err_from_is_err_and c.from_residual-in_err-literal-2.result c.from_residual-in_err-literal-2.ensures.1 in
    rw (p.1, p.2, c.in_ok-literal.ensures.read, c.in_ok-number_u8.ensures.read, c.in_err-literal-2.ensures.read) refl

pub returns-in_err-port : goal.returns-in_err-port
unfolding port_at
returns-in_err-port c =
    let p = err_from_is_err_and c.from_residual-in_err-port.result c.from_residual-in_err-port.ensures.1 in
    rw (p.1, p.2, c.in_ok-literal.ensures.read, c.in_ok-number_u8.ensures.read, c.in_ok-literal-2.ensures.read, c.in_err-port.ensures) refl

pub returns-in_err-literal-3 : goal.returns-in_err-literal-3
unfolding port_at
returns-in_err-literal-3 c =
    let p = err_from_is_err_and c.from_residual-in_err-literal-3.result c.from_residual-in_err-literal-3.ensures.1 in
    rw (p.1, p.2, c.in_ok-literal.ensures.read, c.in_ok-number_u8.ensures.read, c.in_ok-literal-2.ensures.read, c.in_ok-port.ensures, c.in_err-literal-3.ensures.read) refl
