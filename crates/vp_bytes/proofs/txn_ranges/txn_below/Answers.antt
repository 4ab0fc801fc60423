use Rattle.std.proofs.Common.{◌-◌, ◌/◌, ◌%◌, ◌^◌, arith}
use Rattle.vp_base.specs.Identifiers.{IsTxn}
use Rattle.vp_base.specs.Reading.{txn_of}
use Rattle.vp_bytes.specs.Ranges.{last_rank}
use Rattle.vp_bytes.proofs.Ranks.{rank_sum, of_rank}
use Rattle.vp_bytes.proofs.txn_ranges.txn_below.Goals as goal

pub returns : goal.returns
returns c =
    let b = c.args.following in
    let most = 2 ^ 32 - 1 in
    let t = txn_of (16 - b / most / most) (most - b / most % most) (most - b % most) in
    let fits = c.ranges.following.fits in
    let h : IsTxn t = record { site_some = omega arith; site_fits = omega arith; life_some = omega arith; life_fits = omega arith; seq_some = omega arith; seq_fits = omega arith } in
    rw (c.of.ensures, c.from-most.ensures) (of_rank t h (last_rank - b) (omega (arith, rank_sum t h)))
