use Rattle.std.proofs.Common.{◌≡◌, ◌∙◌, ap, sym, Some, None, arith, length, vec_len}
use Rattle.std.specs.List.{position}
use Rattle.std.proofs.lemmas.Slice.Eq.{bytes_eq-Decides}
use Rattle.vp_disks.specs.NamedLogs.{is_named, halves_of}
use Rattle.vp_disks.specs.declared.log_bytes.NamedLog.{NamedLog}
use Rattle.vp_disks.proofs.NamedPlaces.{position-push, halves_of-push}
use Rattle.vp_disks.proofs.log_bytes.take_place.Goals as goal

pub returns-in_ok-push-in-None-clause-place : goal.returns-in_ok-push-in-None-clause-place
returns-in_ok-push-in-None-clause-place c =
    let name = c.args.name.now in
    let logs = c.args.logs.now.items in
    let none : position (is_named name) logs ≡ None = cc c.in-None.ensures.place in
    let kept : c.in_ok-kept-in-None.field-0 ≡ name = c.in_ok-kept-in-None.ensures ∙ c.as_slice.ensures in
    let last = position-push (is_named name) logs (record { name = c.in_ok-kept-in-None.field-0; log = c.new.result }) none ((bytes_eq-Decides c.in_ok-kept-in-None.field-0 name).1 kept) in
    let logs_len : vec_len c.args.logs.now ≡ length logs = omega arith in
    ap (position (is_named name)) c.in_ok-push-in-None.ensures.items ∙ last ∙ ap (λ n. Some n) (sym logs_len ∙ sym c.len-place.ensures)

pub returns-in_ok-push-in-None-clause-ok : goal.returns-in_ok-push-in-None-clause-ok
returns-in_ok-push-in-None-clause-ok c = λ log unnamed.
    let empty : NamedLog = record { name = c.in_ok-kept-in-None.field-0; log = c.new.result } in
    ap (halves_of log unnamed) c.in_ok-push-in-None.ensures.items ∙ halves_of-push log unnamed c.args.logs.now.items empty c.new.ensures
