use Rattle.std.proofs.lemmas.Result.{IfOk-weaker}
use Rattle.vp_bytes.specs.Ranges.{next_rank}
use Rattle.vp_bytes.proofs.Ranks.{ranks_range, ranks_between}
use Rattle.vp_bytes.proofs.txn_ranges.read_ascending_txn.Goals as goal

pub read_txn_between-requires : goal.read_txn_between-requires
read_txn_between-requires c = rw (c.txn_above.ensures, c.txn_below.ensures) (ranks_range c.args.following (next_rank c.args.last) c.requires.room)

pub returns-clause-range : goal.returns-clause-range
returns-clause-range c =
    IfOk-weaker c.read_txn_between.result _ _ (λ t h. ranks_between c.args.following (next_rank c.args.last) t c.requires.room (rw (← c.txn_above.ensures, ← c.txn_below.ensures) h)) c.read_txn_between.ensures.range
