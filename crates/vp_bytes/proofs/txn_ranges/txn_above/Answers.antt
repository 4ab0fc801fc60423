use Rattle.std.proofs.Common.{arith}
use Rattle.vp_base.specs.Identifiers.{IsTxn}
use Rattle.vp_base.specs.Reading.{txn_of}
use Rattle.vp_bytes.specs.Ranges.{next_rank}
use Rattle.vp_bytes.proofs.Ranks.{rank_sum, of_rank}
use Rattle.vp_bytes.proofs.txn_ranges.txn_above.Goals as goal

pub returns-in-None : goal.returns-in-None
returns-in-None c =
    let t = txn_of c.of.result 1 1 in
    let h : IsTxn t = record { site_some = omega (arith, c.of.ensures); site_fits = omega (arith, c.of.ensures); life_some = omega arith; life_fits = omega arith; seq_some = omega arith; seq_fits = omega arith } in
    of_rank t h (next_rank c.args.last) (rw c.in-None.is (omega (arith, rank_sum t h, c.of.ensures)))
