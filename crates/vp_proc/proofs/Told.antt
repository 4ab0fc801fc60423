-- What was told so far, after one more answer.
use Rattle.std.proofs.Common.{◌≡◌, ◌∙◌, ◌+◌, ℕ, List, [], ◌∷◌, ◌++◌, length, Some, refl, sym, ap, arith}
use Rattle.std.specs.Prelude.{Ok}
use Rattle.vp_model.specs.Types.{TxnId, Op, Answer, Call}
use Rattle.vp_outside.specs.Links.{LinkState}
use Rattle.vp_client.specs.Conversations.{Exchange}
use Rattle.vp_client.proofs.Conversations.{conversations_join}
use Rattle.vp_procedure.specs.declared.procedure.Procedure.{Procedure}
use Rattle.vp_proc.specs.Scripts.{Script, script}
use Rattle.vp_proc.specs.Telling.{next_call, told, Tells}
use Rattle.vp_proc.specs.Ran.{HasTold, AsksNext}

-- one more exchange of a script
tells_more : (txn : TxnId) (number n : ℕ) (s : Script) (xs : List Exchange) (ops : List Op) (left after : Script) (a : Answer) (operation : Op) → n ≡ number + length ops
    → Tells txn number s xs ops left → told left a ≡ Some (operation, after) → Tells txn number s (xs ++ (next_call txn n left, Some a) ∷ []) (ops ++ operation ∷ []) after
tells_more txn number n s [] ops left after a operation is t e =
    let same : n ≡ number = omega (arith, is, ap length t.0) in (
      a,
      ap (λ (c : Call). (c, Some a)) (ap (λ (k : ℕ). next_call txn k left) same ∙ ap (next_call txn number) t.1),
      operation,
      after,
      ap (λ (l : Script). told l a) (sym t.1) ∙ e,
      [],
      ap (λ (o : List Op). o ++ operation ∷ []) t.0,
      (refl, refl),
    )
tells_more txn number n s (x ∷ more) ops left after a operation is t e = (
  t.0,
  t.1,
  t.2,
  t.3,
  t.4,
  t.5 ++ operation ∷ [],
  ap (λ (o : List Op). o ++ operation ∷ []) t.6,
  tells_more txn (number + 1) n t.3 more t.5 left after a operation (omega (arith, is, ap length t.6)) t.7 e,
)

module _ (port site turns : ℕ) (p : Procedure) (old : LinkState) where
  -- the next call was answered as it asks for
  pub told_more : (txn : TxnId) (ops : List Op) (left after : Script) (now new : LinkState) (a : Answer) (operation : Op) → HasTold port site turns p old txn ops left now
      → AsksNext port site turns p old txn ops left now new (Ok a) → told left a ≡ Some (operation, after) → HasTold port site turns p old txn (ops ++ operation ∷ []) after new
  told_more txn ops left after now new a operation h asks e = record {
    first = h.first;
    named = h.named;
    begun = h.begun;
    opened = h.opened;
    exchanges = h.exchanges ++ (next_call txn (length ops + 1) left, Some a) ∷ [];
    tells = tells_more txn 1 (length ops + 1) (script p) h.exchanges ops left after a operation (omega arith) h.tells e;
    conversed = conversations_join port site turns h.exchanges ((next_call txn (length ops + 1) left, Some a) ∷ []) h.begun now new h.conversed (new, asks, refl);
  }
