-- Transactions in doubt and decisions after a change.
use Rattle.std.proofs.Common.{◌≡◌, ℕ, Bool, true, false, List, [], ◌∷◌, map, refl, arith}
use Rattle.std.specs.Prelude.{filter, not, ◌==◌, if◌then◌else◌}
use Rattle.std.specs.List.{AllByRecursion}
use Rattle.std.proofs.lemmas.Bool.Decides.{nat_tests}
use Rattle.vp_base.specs.Identifiers.{IsTxn}
use Rattle.vp_bytes.specs.Fields.{IsAscending}
use Rattle.vp_bytes.specs.Decisions.{IsDecision}
use Rattle.vp_model.specs.Types.{TxnId, Doubt, Decision}
use Rattle.vp_model.specs.Words.{same_txn, txn_before, is_empty}
use Rattle.vp_model.specs.Durable.{put_doubt, without_doubt, put_decision, with_decision, acknowledged}
use Rattle.vp_laws.specs.Shapes.{IsDoubt, AreDoubts, AreDecisions, doubt_before, decision_before}
use Rattle.vp_laws.proofs.Lists.Items.{all_filter, all_put, all_map, ascends_put, ascends_filter, ascends_map}
use Rattle.vp_laws.proofs.Shapes.Numbers.{ascending_filter, some_sites}
use Rattle.vp_laws.proofs.Lists.Keeps.{by_test}

txn_alike : (x y z : TxnId) → same_txn x y ≡ true → txn_before y z ≡ true → txn_before x z ≡ true
txn_alike x y z e b = grind (arith, nat_tests, e, b)

txn_onward : (x y z : TxnId) → txn_before x y ≡ true → txn_before y z ≡ true → txn_before x z ≡ true
txn_onward x y z e b = grind (arith, nat_tests, e, b)

txn_total : (x y : TxnId) → same_txn x y ≡ false → txn_before x y ≡ false → txn_before y x ≡ true
txn_total x y e b = grind (arith, nat_tests, e, b)

pub put_doubts : (d : Doubt) (doubts : List Doubt) → IsDoubt d → AreDoubts doubts → AreDoubts (put_doubt d doubts)
put_doubts d doubts i a = record {
  each = all_put IsDoubt (λ (a : Doubt) (b : Doubt). same_txn a.txn b.txn) doubt_before d doubts i a.each;
  ascend = ascends_put (λ (a : Doubt) (b : Doubt). same_txn a.txn b.txn) doubt_before (λ x y z e b. txn_alike x.txn y.txn z.txn e b) (λ x y z e b. txn_onward x.txn y.txn z.txn e b) (λ x y e b. txn_total x.txn y.txn e b) d doubts a.ascend;
}

pub fewer_doubts : (txn : TxnId) (doubts : List Doubt) → AreDoubts doubts → AreDoubts (without_doubt txn doubts)
fewer_doubts txn doubts a = let test : Doubt → Bool = λ d. not (same_txn d.txn txn) in record { each = all_filter IsDoubt test doubts a.each; ascend = ascends_filter doubt_before test doubts a.ascend }

put_decisions : (d : Decision) (decisions : List Decision) → IsDecision d → AreDecisions decisions → AreDecisions (put_decision d decisions)
put_decisions d decisions i a = record {
  each = all_put IsDecision (λ (a : Decision) (b : Decision). same_txn a.txn b.txn) decision_before d decisions i a.each;
  ascend = ascends_put (λ (a : Decision) (b : Decision). same_txn a.txn b.txn) decision_before (λ x y z e b. txn_alike x.txn y.txn z.txn e b) (λ x y z e b. txn_onward x.txn y.txn z.txn e b) (λ x y e b. txn_total x.txn y.txn e b) d decisions a.ascend;
}

pub with_decisions : (txn : TxnId) (waiting : List ℕ) (decisions : List Decision) → IsTxn txn → IsAscending 1 16 waiting → AreDecisions decisions → AreDecisions (with_decision txn waiting decisions)
with_decisions txn waiting decisions t w a = by_test AreDecisions (is_empty waiting) decisions (put_decision (record { txn = txn; waiting = waiting }) decisions) (λ e. a) (λ e. put_decisions (record { txn = txn; waiting = waiting }) decisions (t, some_sites waiting e w) a)

-- a decision whose sites may all have acknowledged it
abbrev IsLoose : Decision → Type 0
IsLoose d = IsTxn d.txn × IsAscending 1 16 d.waiting

module _ (txn : TxnId) (site : ℕ) where
  abbrev less : Decision → Decision
  less d = if same_txn d.txn txn then (record { txn = d.txn; waiting = filter (λ q. not (q == site)) d.waiting }) else d

  less_is : (d : Decision) → IsDecision d → IsLoose (less d)
  less_is d i = by_test IsLoose (same_txn d.txn txn) (record { txn = d.txn; waiting = filter (λ q. not (q == site)) d.waiting }) d (λ e. (i.0, ascending_filter 1 16 (λ q. not (q == site)) d.waiting i.1.2)) (λ e. (i.0, i.1.2))

  less_txn : (d : Decision) → (less d).txn ≡ d.txn
  less_txn d = by_test (λ (z : Decision). z.txn ≡ d.txn) (same_txn d.txn txn) (record { txn = d.txn; waiting = filter (λ q. not (q == site)) d.waiting }) d (λ e. refl) (λ e. refl)

  less_before : (a b : Decision) → decision_before a b ≡ true → decision_before (less a) (less b) ≡ true
  less_before a b h = rw (less_txn a, less_txn b) h

  kept_some : (decisions : List Decision) → AllByRecursion IsLoose decisions → AllByRecursion IsDecision (filter (λ (d : Decision). not (is_empty d.waiting)) decisions)
  kept_some [] h = tt
  kept_some (d ∷ decisions) h =
      let rest = kept_some decisions h.1 in
      by_test (AllByRecursion IsDecision) (not (is_empty d.waiting)) (d ∷ filter (λ (d : Decision). not (is_empty d.waiting)) decisions) (filter (λ (d : Decision). not (is_empty d.waiting)) decisions) (λ e. ((h.0.0, some_sites d.waiting (grind (arith, e)) h.0.1), rest)) (λ e. rest)

  pub fewer_decisions : (decisions : List Decision) → AreDecisions decisions → AreDecisions (acknowledged txn site decisions)
  fewer_decisions decisions a = record {
    each = kept_some (map less decisions) (all_map IsDecision IsLoose less less_is decisions a.each);
    ascend = ascends_filter decision_before (λ (d : Decision). not (is_empty d.waiting)) (map less decisions) (ascends_map decision_before less less_before decisions a.ascend);
  }
