use Rattle.std.proofs.Common.{◌+◌, length, rules}
use Rattle.std.specs.Prelude.{IsErrOf}
use Rattle.vp_outside.specs.Disk.{InHalf, Written, Torn}
use Rattle.vp_outside.specs.declared.sink.OutFault.TheVariants.{Failed}
use Rattle.vp_stable.specs.Writing.{MayPut}
use Rattle.vp_stable.proofs.Writes.{on_err, on_err_as, on_ok_as, in_half_as, in_half_then, becomes-as, becomes-then, tears_one, tears_then, first_torn, second_torn, both_written}
use Rattle.vp_stable.proofs.Stops.{some_as, out_failed, first_stops, put_stops}
use Rattle.vp_stable.proofs.Times.{others_join}
use Rattle.vp_stable.proofs.writing.put.Goals as goal

-- a first write that isn't done
pub returns-in_err-write_synced-clause-fault : goal.returns-in_err-write_synced-clause-fault
returns-in_err-write_synced-clause-fault g c =
    on_err _ (becomes-as _ _ (in_half_as c.args.half (first_torn c.args.piece.now c.args.gate (length c.args.piece.now))) c.in_err-write_synced.ensures.torn)

pub returns-in_err-write_synced-clause-any_moment : goal.returns-in_err-write_synced-clause-any_moment
returns-in_err-write_synced-clause-any_moment g c =
    tears_one _ _ _ _ _ (in_half_as c.args.half (first_torn c.args.piece.now c.args.gate (length c.args.piece.now))) c.write_synced.ensures.time

pub returns-in_err-write_synced-clause-stop : goal.returns-in_err-write_synced-clause-stop
returns-in_err-write_synced-clause-stop g c enough =
    let failed : IsErrOf c.write_synced.result Failed = out_failed c.write_synced.result (λ memory. enough (search rules)) (search rules) in
    some_as _ (λ calls h. first_stops c.args.half c.args.piece.now c.args.gate calls (g.D.Disk.state c.args.disk.now) (g.D.Disk.state c.write_synced.new.disk) c.write_synced.result h failed) c.write_synced.ensures.stop

-- the second write
pub returns-clause-put : goal.returns-clause-put
returns-clause-put g c =
    let written = rw c.write_synced.ensures.others.stays.same_name at c.write_synced-2.ensures.written in
    on_ok_as _ (becomes-then _ _ _ (in_half_then c.args.half (both_written c.args.piece.now c.args.gate)) c.in_ok-write_synced.ensures.written) written

pub returns-clause-fault : goal.returns-clause-fault
returns-clause-fault g c =
    let torn = rw c.write_synced.ensures.others.stays.same_name at c.write_synced-2.ensures.torn in
    on_err_as _ (becomes-then _ _ _ (in_half_then c.args.half (second_torn c.args.piece.now c.args.gate)) c.in_ok-write_synced.ensures.written) torn

pub returns-clause-any_moment : goal.returns-clause-any_moment
returns-clause-any_moment g c =
    let old = g.D.Disk.state c.args.disk.now in
    let mid = g.D.Disk.state c.write_synced.new.disk in
    let new = g.D.Disk.state c.write_synced-2.new.disk in
    let piece = c.args.piece.now in
    let puts = InHalf c.args.half (MayPut piece c.args.gate) in
    let written = InHalf c.args.half (Written (c.args.gate + 1) piece) in
    let torn = InHalf c.args.half (Torn c.args.gate 1) in
    let time = rw c.write_synced.ensures.others.stays.same_name at c.write_synced-2.ensures.time in
    tears_then old.asked old mid new puts written torn (in_half_then c.args.half (second_torn piece c.args.gate))
    (tears_one old.asked old mid (InHalf c.args.half (Torn (c.args.gate + 1) (length piece))) puts (in_half_as c.args.half (first_torn piece c.args.gate (length piece))) c.write_synced.ensures.time)
    c.in_ok-write_synced.ensures.written c.in_ok-write_synced.ensures.durable c.write_synced.ensures.others.honest.0 (tears_one old.asked mid new torn torn (λ a b step. step) time)

pub returns-clause-others : goal.returns-clause-others
returns-clause-others g c = others_join c.write_synced.ensures.others c.write_synced-2.ensures.others

pub returns-clause-stop : goal.returns-clause-stop
returns-clause-stop g c enough =
    some_as _ (λ calls h. put_stops c.args.half c.args.piece.now c.args.gate calls (g.D.Disk.state c.args.disk.now) (g.D.Disk.state c.write_synced.new.disk) (g.D.Disk.state c.write_synced-2.new.disk)
    c.write_synced.ensures.others.stays.same_name c.in_ok-write_synced.ensures.written c.write_synced-2.result enough c.write_synced-2.ensures.written c.write_synced-2.ensures.stop c.in_ok-write_synced.field-0 h) c.in_ok-write_synced.ensures.stop
