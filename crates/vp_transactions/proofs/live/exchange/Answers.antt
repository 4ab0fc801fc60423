use Rattle.std.proofs.Common.{◌∙◌, sym, ap}
use Rattle.std.specs.Option.{option_map_or}
use Rattle.std.proofs.lemmas.Option.{get_or_from_slice_get}
use Rattle.vp_model.specs.Types.{Live}
use Rattle.vp_model.specs.Words.{same_txn}
use Rattle.vp_lists.proofs.Found.{find_none, find_some, changed_some, changed_none}
use Rattle.vp_transactions.proofs.live.exchange.Goals as goal

pub returns-in-Some-clause-live : goal.returns-in-Some-clause-live
returns-in-Some-clause-live c =
    rw c.swap.ensures.x_after (sym (changed_some (λ (u : Live). same_txn u.txn c.args.t.now.txn) (λ (u : Live). c.args.t.now) c.args.live.now c.in-Some.place c.args.t.now (sym c.in-Some.ensures)))

pub returns-in-Some-clause-left : goal.returns-in-Some-clause-left
returns-in-Some-clause-left c =
    let here = get_or_from_slice_get c.args.live.now c.in-Some.place c.item_mut.result.now c.args.t.now c.item_mut.ensures.value in
    let found = find_some (λ (u : Live). same_txn u.txn c.args.t.now.txn) c.args.live.now c.in-Some.place c.args.t.now (sym c.in-Some.ensures) in
    c.swap.ensures.y_after ∙ sym here ∙ sym (ap (λ o. option_map_or (λ (u : Live). u) o c.args.t.now) found)

pub returns-in_default-clause-live : goal.returns-in_default-clause-live
returns-in_default-clause-live c =
    sym (changed_none (λ (u : Live). same_txn u.txn c.args.t.now.txn) (λ (u : Live). c.args.t.now) c.args.live.now (sym c.in_default.ensures))

pub returns-in_default-clause-left : goal.returns-in_default-clause-left
returns-in_default-clause-left c =
    let none = find_none (λ (u : Live). same_txn u.txn c.args.t.now.txn) c.args.live.now (sym c.in_default.ensures) in
    sym (ap (λ o. option_map_or (λ (u : Live). u) o c.args.t.now) none)
