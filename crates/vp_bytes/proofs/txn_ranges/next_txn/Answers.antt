use Rattle.std.proofs.Common.{◌≡◌, ◌≤◌, ◌+◌, suc, arith}
use Rattle.vp_base.specs.Identifiers.{IsTxn}
use Rattle.vp_base.specs.Reading.{txn_of}
use Rattle.vp_bytes.specs.Ranges.{rank}
use Rattle.vp_bytes.proofs.Ranks.{rank_sum, of_rank}
use Rattle.vp_bytes.proofs.txn_ranges.next_txn.Goals as goal

pub of-requires-clause-most : goal.of-requires-clause-most
of-requires-clause-most c = omega (arith, rank_sum c.args.txn c.requires.txn, c.requires.room, c.get.ensures.value, c.if-txn-lt4294967295.false, c.if-txn-lt4294967295-2.false)

pub returns-then-txn-lt4294967295 : goal.returns-then-txn-lt4294967295
returns-then-txn-lt4294967295 c =
    let t = c.args.txn in
    let h = c.requires.txn in
    let u = txn_of t.site t.life (t.seq + 1) in
    let k : IsTxn u = record { site_some = h.site_some; site_fits = h.site_fits; life_some = h.life_some; life_fits = h.life_fits; seq_some = omega arith; seq_fits = omega (arith, c.if-txn-lt4294967295.true) } in
    of_rank u k (suc (rank t)) (omega (arith, rank_sum t h, rank_sum u k))

pub returns-then-txn-lt4294967295-2 : goal.returns-then-txn-lt4294967295-2
returns-then-txn-lt4294967295-2 c =
    let t = c.args.txn in
    let h = c.requires.txn in
    let u = txn_of t.site (t.life + 1) 1 in
    let k : IsTxn u = record { site_some = h.site_some; site_fits = h.site_fits; life_some = omega arith; life_fits = omega (arith, c.if-txn-lt4294967295-2.true); seq_some = omega arith; seq_fits = omega arith } in
    of_rank u k (suc (rank t)) (omega (arith, rank_sum t h, rank_sum u k, h.seq_fits, c.if-txn-lt4294967295.false))

pub returns-else-txn-lt4294967295-2 : goal.returns-else-txn-lt4294967295-2
returns-else-txn-lt4294967295-2 c =
    let t = c.args.txn in
    let h = c.requires.txn in
    let u = txn_of c.of.result 1 1 in
    let site : c.of.result ≡ t.site + 1 = omega (arith, c.of.ensures, c.get.ensures.value) in
    let last : t.site + 1 ≤ 16 = omega (arith, rank_sum t h, c.requires.room, c.if-txn-lt4294967295.false, c.if-txn-lt4294967295-2.false) in
    let k : IsTxn u = record { site_some = omega (arith, site); site_fits = omega (arith, site, last); life_some = omega arith; life_fits = omega arith; seq_some = omega arith; seq_fits = omega arith } in
    of_rank u k (suc (rank t)) (omega (arith, rank_sum t h, rank_sum u k, h.seq_fits, h.life_fits, site, c.if-txn-lt4294967295.false, c.if-txn-lt4294967295-2.false))
