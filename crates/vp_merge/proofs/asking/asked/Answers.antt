use Rattle.std.proofs.Common.{◌≡◌, ◌∙◌, sym, ap, subst, Ok, Err, refl}
use Rattle.vp_fitting.specs.Asked.{asks, asks_of}
use Rattle.vp_wire.specs.Decoded.{IsReadAs, read_frame}
use Rattle.vp_runs.specs.Arrivals.{IsArrival}
use Rattle.vp_runs.specs.declared.arrival.Arrival.{Arrival}
use Rattle.vp_merge.proofs.OwnEvents.{asks_form}
use Rattle.vp_merge.proofs.asking.asked.Goals as goal

pub returns-in-Ok-clause-what : goal.returns-in-Ok-clause-what
unfolding asks
returns-in-Ok-clause-what c =
    let read : read_frame c.args.bytes.now ≡ Ok c.in-Ok.frame = subst (IsReadAs (read_frame c.args.bytes.now)) c.in-Ok.is (c.frames_are_read.ensures.answers c.args.bytes.now c.decode.result c.decode.ensures) in
    c.asked_by.ensures ∙ ap (asks_of c.args.site) (sym read)

pub returns-in-Err-BadFrame-clause-what : goal.returns-in-Err-BadFrame-clause-what
unfolding asks
returns-in-Err-BadFrame-clause-what c =
    let is = c.in-Err-BadFrame.is ∙ ap Err c.in-Err-BadFrame.field-0-is in
    let read : read_frame c.args.bytes.now ≡ Err c.in-Err-BadFrame.at = subst (IsReadAs (read_frame c.args.bytes.now)) is (c.frames_are_read.ensures.answers c.args.bytes.now c.decode.result c.decode.ensures) in
    rw c.in-Err-BadFrame.at-is (ap (asks_of c.args.site) (sym read))

pub returns-in-Ok-clause-form : goal.returns-in-Ok-clause-form
returns-in-Ok-clause-form c = subst (λ (a : Arrival). IsArrival a) (sym (returns-in-Ok-clause-what c)) (asks_form c.args.site c.args.bytes.now (asks c.args.site c.args.bytes.now) refl)
