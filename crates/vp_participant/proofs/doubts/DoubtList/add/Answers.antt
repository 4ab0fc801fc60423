use Rattle.std.proofs.Common.{rules, ◌≡◌, true, false}
use Rattle.vp_model.specs.Words.{put_txn, has_txn}
use Rattle.vp_model.specs.Durable.{put_doubt}
use Rattle.vp_model.specs.Types.{Doubt}
use Rattle.vp_participant.proofs.Named.{named_put, named_again, named_back}
use Rattle.vp_participant.proofs.doubts.DoubtList.add.Goals as goal

pub invariant_of-self-then-not-is_known : goal.invariant_of-self-then-not-is_known
invariant_of-self-then-not-is_known c =
    let names = c.self.inside.names in
    let more : c.put.new.self ≡ put_txn c.args.part.now.txn names = search rules in
    let same : c.put-2.new.items.items ≡ c.self.inside.items.items = search rules in
    let new : has_txn names c.args.part.now.txn ≡ false = search rules in
    rw (c.remove.ensures, more, same) (named_back names c.self.inside.items.items c.args.part.now.txn new c.self.invariant)

pub invariant_of-self-else-not-is_known : goal.invariant_of-self-else-not-is_known
invariant_of-self-else-not-is_known c =
    let names = c.self.inside.names in
    let more : c.put.new.self ≡ put_txn c.args.part.now.txn names = search rules in
    let same : c.put-2.new.items.items ≡ c.self.inside.items.items = search rules in
    let known : has_txn names c.args.part.now.txn ≡ true = search rules in
    rw (more, same) (named_again names c.self.inside.items.items c.args.part.now.txn known c.self.invariant)

pub invariant_of-self-in_default : goal.invariant_of-self-in_default
invariant_of-self-in_default c =
    let names = c.self.inside.names in
    let doubts = c.self.inside.items.items in
    let doubt : Doubt = record { txn = c.args.part.now.txn; view = c.args.part.now.view; writes = c.args.writes.now } in
    let named : c.put.new.self ≡ put_txn c.args.part.now.txn names = search rules in
    let more : c.put-2.new.items.items ≡ put_doubt doubt doubts = search rules in
    rw (named, more) (named_put names doubts doubt c.self.invariant)
