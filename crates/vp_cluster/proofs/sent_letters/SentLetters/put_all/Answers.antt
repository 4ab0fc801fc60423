use Rattle.vp_cluster.proofs.Filed.{framed_at, one_more_sent}
use Rattle.vp_cluster.proofs.sent_letters.SentLetters.put_all.Goals as goal

pub put-requires : goal.put-requires
put-requires c = framed_at c.args.messages.now c.loop-sent.sent-index _ c.requires c.loop-sent-test.true c.sent-item.is

pub loop-sent-preserved : goal.loop-sent-preserved
loop-sent-preserved c =
    one_more_sent c.args.catalog.now c.args.from c.args.self.now c.args.messages.now c.loop-sent.sent-index _ _ _ c.loop-sent-test.true c.sent-item.is c.loop-sent.invariant c.in_ok-put.ensures
