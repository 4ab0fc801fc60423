use Rattle.std.proofs.Common.{◌∙◌, sym, ap, Some}
use Rattle.std.proofs.lemmas.Option.{get_or_from_slice_get}
use Rattle.vp_model.specs.Types.{Live}
use Rattle.vp_model.specs.Words.{same_txn}
use Rattle.vp_lists.proofs.Found.{find_none, find_some, changed_some, changed_none}
use Rattle.vp_lists.proofs.Named.{named}
use Rattle.vp_transactions.proofs.live.replace.Goals as goal

pub returns-in-None-clause-taken : goal.returns-in-None-clause-taken
returns-in-None-clause-taken c =
    sym (find_none (λ (u : Live). same_txn u.txn c.args.name.now) c.args.live.now (sym c.in-None.ensures))

pub returns-in-None-clause-rest : goal.returns-in-None-clause-rest
returns-in-None-clause-rest c =
    sym (changed_none (λ (u : Live). same_txn u.txn c.args.name.now) (λ (u : Live). c.args.t) c.args.live.now (sym c.in-None.ensures))

pub returns-in-Some-clause-taken : goal.returns-in-Some-clause-taken
returns-in-Some-clause-taken c =
    let here = get_or_from_slice_get c.args.live.now c.in-Some.place c.item_mut.result.now c.args.t c.item_mut.ensures.value in
    let found = find_some (λ (u : Live). same_txn u.txn c.args.name.now) c.args.live.now c.in-Some.place c.args.t (sym c.in-Some.ensures) in
    ap Some (c.replace.ensures.value ∙ sym here) ∙ sym found

pub returns-in-Some-clause-named : goal.returns-in-Some-clause-named
returns-in-Some-clause-named c =
    let here = get_or_from_slice_get c.args.live.now c.in-Some.place c.item_mut.result.now c.args.t c.item_mut.ensures.value in
    let name = named (λ (u : Live). u.txn) c.args.name.now c.args.live.now c.in-Some.place c.args.t (sym c.in-Some.ensures) in
    ap (λ (u : Live). u.txn) (c.replace.ensures.value ∙ sym here) ∙ name

pub returns-in-Some-clause-rest : goal.returns-in-Some-clause-rest
returns-in-Some-clause-rest c =
    rw c.replace.ensures.after (sym (changed_some (λ (u : Live). same_txn u.txn c.args.name.now) (λ (u : Live). c.args.t) c.args.live.now c.in-Some.place c.args.t (sym c.in-Some.ensures)))
