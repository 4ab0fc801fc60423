use Rattle.vp_outside.specs.Disk.{InHalf, Torn, CutTo, MaybeCut}
use Rattle.vp_stable.specs.Writing.{MayClear}
use Rattle.vp_stable.proofs.Writes.{on_err, on_err_as, on_ok_as, in_half_as, in_half_then, becomes-as, becomes-then, tears_one, tears_then, cut_may_clear, torn_may_clear, cut_clears}
use Rattle.vp_stable.proofs.Times.{others_join}
use Rattle.vp_stable.proofs.writing.clear.Goals as goal

-- a cut that isn't done
pub returns-in_err-cut_synced-clause-fault : goal.returns-in_err-cut_synced-clause-fault
returns-in_err-cut_synced-clause-fault g c = on_err _ (becomes-as _ _ (in_half_as c.args.half cut_may_clear) c.in_err-cut_synced.ensures.not_cut)

pub returns-in_err-cut_synced-clause-any_moment : goal.returns-in_err-cut_synced-clause-any_moment
returns-in_err-cut_synced-clause-any_moment g c = tears_one _ _ _ _ _ (in_half_as c.args.half cut_may_clear) c.cut_synced.ensures.time

-- the write of the gate
pub returns-clause-cleared : goal.returns-clause-cleared
returns-clause-cleared g c =
    let written = rw c.cut_synced.ensures.others.stays.same_name at c.write_synced.ensures.written in
    on_ok_as _ (becomes-then _ _ _ (in_half_then c.args.half cut_clears) c.in_ok-cut_synced.ensures.cut) written

pub returns-clause-fault : goal.returns-clause-fault
returns-clause-fault g c =
    let torn = rw c.cut_synced.ensures.others.stays.same_name at c.write_synced.ensures.torn in
    on_err_as _ (becomes-then _ _ _ (in_half_then c.args.half torn_may_clear) c.in_ok-cut_synced.ensures.cut) torn

pub returns-clause-any_moment : goal.returns-clause-any_moment
returns-clause-any_moment g c =
    let old = g.D.Disk.state c.args.disk.now in
    let mid = g.D.Disk.state c.cut_synced.new.disk in
    let new = g.D.Disk.state c.write_synced.new.disk in
    let clears = InHalf c.args.half MayClear in
    let cuts = InHalf c.args.half (CutTo 0) in
    let torn = InHalf c.args.half (Torn 0 1) in
    let time = rw c.cut_synced.ensures.others.stays.same_name at c.write_synced.ensures.time in
    tears_then old.asked old mid new clears cuts torn (in_half_then c.args.half torn_may_clear)
    (tears_one old.asked old mid (InHalf c.args.half (MaybeCut 0)) clears (in_half_as c.args.half cut_may_clear) c.cut_synced.ensures.time)
    c.in_ok-cut_synced.ensures.cut c.in_ok-cut_synced.ensures.durable c.cut_synced.ensures.others.honest.0 (tears_one old.asked mid new torn torn (λ a b step. step) time)

pub returns-clause-others : goal.returns-clause-others
returns-clause-others g c = others_join c.cut_synced.ensures.others c.write_synced.ensures.others
