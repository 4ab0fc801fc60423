use Rattle.std.proofs.Common.{◌≡◌, length, rules}
use Rattle.vp_stable.proofs.Measured.{piece_made}
use Rattle.vp_stable.proofs.batches.after_gate.Goals as goal

pub returns-clause-bytes : goal.returns-clause-bytes
returns-clause-bytes c =
    let free : length c.extend_from_slice.new.self.items ≡ 8 = search rules in
    piece_made c.args.batch.now c.extend_from_slice.new.self.items c.encode_batch.new.out.items c.deref_mut.result.now c.write_u64.new.buf c.push.new.self.items c.len-length.result
    c.encode_batch.new.out.len free c.in_ok-encode_batch.ensures.whole c.deref_mut.ensures.value c.deref_mut.ensures.len c.len-length.ensures c.write_u64.ensures c.in_ok-push.ensures.items
