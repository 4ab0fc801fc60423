-- A session from its beginning to its end.
use Rattle.std.proofs.Common.{◌≡◌, ◌∙◌, ℕ, [], Some, refl, sym, ap, subst}
use Rattle.std.specs.Prelude.{Ok}
use Rattle.vp_base.specs.Identifiers.{IsTxn}
use Rattle.vp_model.specs.Types.{TxnId, Answer}
use Rattle.vp_model.specs.Types.answer
use Rattle.vp_model.specs.Types.call
use Rattle.vp_laws.specs.Shapes.{IsAnswer}
use Rattle.vp_outside.specs.Links.{LinkState}
use Rattle.vp_client.specs.Asked.{Asks}
use Rattle.vp_client.specs.declared.asking.AskFault.{AskFault}
use Rattle.vp_procedure.specs.declared.procedure.Procedure.{Procedure}
use Rattle.vp_proc.specs.declared.ended.End.{End}
use Rattle.vp_proc.specs.declared.session.Session.{Session}
use Rattle.vp_proc.specs.Scripts.{script}
use Rattle.vp_proc.specs.Telling.{begun_in}
use Rattle.vp_proc.specs.Ran.{Breaks, Ends}
use Rattle.vp_proc.specs.Stepping.{IsAt}

begun_is_txn : (a : Answer) (txn : TxnId) → begun_in a ≡ Some txn → IsAnswer a → IsTxn txn
begun_is_txn (answer.Begun t view) txn is shaped = let same : t ≡ txn = cc in subst (λ (u : TxnId). IsTxn u) same shaped.0
begun_is_txn _ txn is shaped = absurd cc

abbrev pub fresh : ℕ → ℕ → ℕ → TxnId → Session
fresh port site turns txn = record { port = port; site = site; turns = turns; txn = txn; ops = [] }

module _ (port site turns : ℕ) (txn : TxnId) (s : Session) (is : s ≡ fresh port site turns txn) where
  pub fresh_txn : (a : Answer) → begun_in a ≡ Some txn → IsAnswer a → IsTxn s.txn
  fresh_txn a begun shaped = subst (λ (t : TxnId). IsTxn t) (sym (ap (λ (b : Session). b.txn) is)) (begun_is_txn a txn begun shaped)

  pub fresh_at : (p : Procedure) (old now : LinkState) (a : Answer) → begun_in a ≡ Some txn → Asks port site call.Begin turns old now (Ok a) → IsAt s p old (script p) now
  fresh_at p old now a begun asks = subst (λ (b : Session). IsAt b p old (script p) now) (sym is) (
      record { first = a; named = begun; begun = now; opened = asks; exchanges = []; tells = (refl, refl); conversed = refl })

  module _ (s' : Session) (same : s' ≡ record s { ops = s'.ops }) (p : Procedure) (old new : LinkState) where
    all : s' ≡ record (fresh port site turns txn) { ops = s'.ops }
    all = same ∙ ap (λ (b : Session). record b { ops = s'.ops }) is

    pub its_end : (end : End) → Ends s'.port s'.site s'.turns p old s'.ops end new → Ends port site turns p old s'.ops end new
    its_end end h = subst (λ (b : Session). Ends b.port b.site b.turns p old s'.ops end new) all h

    pub its_fault : (fault : AskFault) → Breaks s'.port s'.site s'.turns p old fault new → Breaks port site turns p old fault new
    its_fault fault h = subst (λ (b : Session). Breaks b.port b.site b.turns p old fault new) all h
