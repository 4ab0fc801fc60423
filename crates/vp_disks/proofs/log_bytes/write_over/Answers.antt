use Rattle.std.proofs.Common.{arith, ◌≡◌, ◌++◌, length, take, drop}
use Rattle.std.proofs.lemmas.List.{take_at}
use Rattle.vp_disks.proofs.Torn.{written-lengthened}
use Rattle.vp_disks.proofs.log_bytes.write_over.Goals as goal

pub returns-clause-ok : goal.returns-clause-ok
returns-clause-ok c =
    let bytes = c.overwrite.new.bytes in
    let half = c.lengthen.new.half in
    let lengthened = c.in_ok-lengthen.ensures.ok in
    let whole : take half.len (bytes ++ drop (length bytes) half.items) ≡ bytes = take_at bytes (drop (length bytes) half.items) half.len (omega arith) in
    let over = written-lengthened c.args.at c.args.piece.now c.args.half.now.items in
    cc (c.overwrite.ensures, c.deref_mut.ensures.value)
