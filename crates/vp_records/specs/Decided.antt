-- The ways in which decisions are kept.
use Rattle.std.specs.Prelude.{◌≡◌, false, List, if◌then◌else◌, filter, not, ⊤}
use Rattle.std.specs.List.{AllByRecursion}
use Rattle.vp_model.specs.Types.{TxnId, Decision}
use Rattle.vp_model.specs.Words.{change_first, is_empty, same_txn, txn_before}
use Rattle.vp_records.specs.declared.decided.Form.{Form}
use Rattle.vp_records.specs.declared.decided.Form.TheVariants as form

-- each waits for some site
abbrev pub AreAwaited : List Decision → Type 0
AreAwaited decisions = AllByRecursion (λ (d : Decision). is_empty d.waiting ≡ false) decisions

-- no decision is on a transaction that comes after this one
abbrev pub IsHighest : TxnId → List Decision → Type 0
IsHighest txn decisions = AllByRecursion (λ (d : Decision). txn_before txn d.txn ≡ false) decisions

-- with this decision for the one on its transaction, or without either where it waits for no site
abbrev pub with_changed : Decision → List Decision → List Decision
with_changed d decisions =
    if is_empty d.waiting
    then filter (λ (e : Decision). not (same_txn e.txn d.txn)) decisions
    else change_first (λ (e : Decision). same_txn e.txn d.txn) (λ e. d) decisions

-- the decisions that are kept in this way
abbrev pub decisions_in : Form → List Decision
decisions_in (form.ByTxn table) = table
decisions_in (form.Listed list) = list

-- in a table, each waits for some site
abbrev pub IsForm : Form → Type 0
IsForm (form.ByTxn table) = AreAwaited table
IsForm (form.Listed list) = ⊤
