use Rattle.std.proofs.Common.{rules, ◌++◌, length}
use Rattle.std.proofs.lemmas.List.{append_assoc}
use Rattle.vp_disks.specs.declared.change_list.Entry.TheVariants.{Laid}
use Rattle.vp_disks.proofs.KeptChanges.{changes_in-more, changes_in-push, change_in-laid}
use Rattle.vp_disks.proofs.change_list.ChangeList.laid.Goals as goal

pub returns-in_err-second-clause-err : goal.returns-in_err-second-clause-err
returns-in_err-second-clause-err c =
    let more = changes_in-more c.self.inside.bytes.items c.args.first.now c.self.inside.entries.items c.self.invariant in
    search rules

pub returns-in_err-push-clause-err : goal.returns-in_err-push-clause-err
returns-in_err-push-clause-err c =
    let bytes = c.self.inside.bytes.items in
    let first = c.args.first.now in
    let second = c.args.second.now in
    let joined = append_assoc bytes first second in
    let more = changes_in-more bytes (first ++ second) c.self.inside.entries.items c.self.invariant in
    search rules

pub returns-clause-ok : goal.returns-clause-ok
returns-clause-ok c =
    let bytes = c.self.inside.bytes.items in
    let first = c.args.first.now in
    let second = c.args.second.now in
    let joined = append_assoc bytes first second in
    let entry = Laid (record { start = length bytes; end = length (bytes ++ first) }) (record { start = length (bytes ++ first); end = length ((bytes ++ first) ++ second) }) in
    let pushed = changes_in-push bytes (first ++ second) c.self.inside.entries.items entry c.self.invariant in
    let laid = change_in-laid bytes first second in
    search rules
