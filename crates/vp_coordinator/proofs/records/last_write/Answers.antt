use Rattle.std.proofs.Common.{rules, tests}
use Rattle.std.proofs.lemmas.Iterator.Adapters.{YieldsList-from_rev_slice}
use Rattle.std.proofs.lemmas.Iterator.Search.{find_from_yields_List}
use Rattle.vp_coordinator.specs.Records.{writes}
use Rattle.vp_coordinator.proofs.LastWrites.{write_found, read_found, none_found}
use Rattle.vp_coordinator.proofs.records.last_write.Goals as goal

pub returns-in-Some-Write : goal.returns-in-Some-Write
returns-in-Some-Write c =
    let found = find_from_yields_List (writes c.args.rec) _ _ c.find.result c.find.ensures.ran (YieldsList-from_rev_slice c.args.ops.now cc) (λ x b q k. search (rules, tests)) in
    write_found c.args.rec c.args.ops.now _ _ _ (rw c.in-Some-Write.is at found) c.in-Some-Write.field-0-is

pub returns-in-Some-Read : goal.returns-in-Some-Read
returns-in-Some-Read c =
    let found = find_from_yields_List (writes c.args.rec) _ _ c.find.result c.find.ensures.ran (YieldsList-from_rev_slice c.args.ops.now cc) (λ x b q k. search (rules, tests)) in
    read_found c.args.rec c.args.ops.now _ _ _ (rw c.in-Some-Read.is at found) c.in-Some-Read.field-0-is

pub returns-in-None : goal.returns-in-None
returns-in-None c =
    let found = find_from_yields_List (writes c.args.rec) _ _ c.find.result c.find.ensures.ran (YieldsList-from_rev_slice c.args.ops.now cc) (λ x b q k. search (rules, tests)) in
    none_found c.args.rec c.args.ops.now (rw c.in-None.is at found)
