use Rattle.std.proofs.Common.{◌≡◌, ◌∙◌, sym, ap, subst, arith, Ok, Err}
use Rattle.vp_runs.specs.declared.arrival.Arrival.{Arrival}
use Rattle.vp_runs.specs.Arrivals.{IsArrival, arrival_of, arrival}
use Rattle.vp_runs.proofs.Shaped.{arrives}
use Rattle.vp_wire.specs.Decoded.{IsReadAs, read_frame}
use Rattle.vp_node.proofs.arrivals.arrival.Goals as goal

pub returns-in-Ok-clause-what : goal.returns-in-Ok-clause-what
unfolding arrival
returns-in-Ok-clause-what c =
    let read : read_frame c.args.bytes.now ≡ Ok c.in-Ok.frame = subst (IsReadAs (read_frame c.args.bytes.now)) c.in-Ok.is (c.frames_are_read.ensures.answers c.args.bytes.now c.decode.result c.decode.ensures) in
    c.arrival_of.ensures ∙ ap (arrival_of c.args.catalog.now c.args.id c.args.port) (sym read)

pub returns-in-Err-BadFrame-clause-what : goal.returns-in-Err-BadFrame-clause-what
unfolding arrival
returns-in-Err-BadFrame-clause-what c =
    let is = c.in-Err-BadFrame.is ∙ ap Err c.in-Err-BadFrame.field-0-is in
    let read : read_frame c.args.bytes.now ≡ Err c.in-Err-BadFrame.at = subst (IsReadAs (read_frame c.args.bytes.now)) is (c.frames_are_read.ensures.answers c.args.bytes.now c.decode.result c.decode.ensures) in
    rw c.in-Err-BadFrame.at-is (ap (arrival_of c.args.catalog.now c.args.id c.args.port) (sym read))

pub returns-in-Ok-clause-form : goal.returns-in-Ok-clause-form
returns-in-Ok-clause-form c =
    subst (λ (what : Arrival). IsArrival what) (sym (returns-in-Ok-clause-what c)) (arrives c.args.catalog.now c.args.id (record { port = c.args.port; bytes = c.args.bytes.now }) (omega (arith, c.ranges.port.fits)))
