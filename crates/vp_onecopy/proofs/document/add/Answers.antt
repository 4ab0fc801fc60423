use Rattle.std.proofs.Common.{refl, sym}
use Rattle.vp_base.proofs.Among.{placed, unplaced}
use Rattle.vp_onecopy.proofs.document.add.Goals as goal

pub returns-in-Some : goal.returns-in-Some
returns-in-Some c =
    let found = placed c.args.history.now.names c.in-Start.name c.in-Some.field-0 (sym (rw (c.as_slice.ensures, c.as_bytes.ensures.bytes) at c.in-Some.ensures)) in
    rw c.in-Start.is (refl, (c.in-Some.field-0, found))

pub returns-in_ok-push-in-Start-2 : goal.returns-in_ok-push-in-Start-2
returns-in_ok-push-in-Start-2 c =
    let none = sym (rw (c.as_slice.ensures, c.as_bytes.ensures.bytes) at c.in_default.ensures) in
    rw c.in-Start.is (rw (c.in_ok-push-in-Start.ensures.ok, c.in_ok-push-in-Start-2.ensures.ok) refl, λ named. unplaced c.args.history.now.names c.in-Start.name named.0 none named.1)
