use Rattle.std.proofs.Common.{rules, ◌++◌, length}
use Rattle.vp_disks.specs.declared.change_list.Entry.TheVariants.{Attached}
use Rattle.vp_disks.proofs.KeptChanges.{changes_in-more, changes_in-push, piece_in-appended}
use Rattle.vp_disks.proofs.change_list.ChangeList.attached.Goals as goal

pub returns-in_err-push-clause-err : goal.returns-in_err-push-clause-err
returns-in_err-push-clause-err c =
    let bytes = c.self.inside.bytes.items in
    let more = changes_in-more bytes c.args.name.now c.self.inside.entries.items c.self.invariant in
    search rules

pub returns-clause-ok : goal.returns-clause-ok
returns-clause-ok c =
    let bytes = c.self.inside.bytes.items in
    let piece = c.args.name.now in
    let pushed = changes_in-push bytes piece c.self.inside.entries.items (Attached (record { start = length bytes; end = length (bytes ++ piece) })) c.self.invariant in
    let kept = piece_in-appended bytes piece in
    search rules
