-- What `proc` prints of a procedure, or of an input that is none.
use Rattle.std.proofs.Common.{◌≡◌, ◌≢◌, ◌∙◌, ap, refl, sym, subst, ℕ, Bool, List, inl, inr}
use Rattle.std.specs.Prelude.{Option, Some, None, Result, Ok, Err, OnErr}
use Rattle.vp_model.specs.Words.{value_at}
use Rattle.vp_outside.specs.Links.{LinkState, Binds, StaysBound}
use Rattle.vp_outside.specs.declared.datagram.Datagram.{Datagram}
use Rattle.vp_outside.specs.declared.datagram.Dispatch.{Dispatch}
use Rattle.vp_client.specs.declared.asking.AskFault.{AskFault}
use Rattle.vp_gateway.specs.Served.{bound_at}
use Rattle.vp_proc.specs.Ran.{Runs}
use Rattle.vp_proc.specs.declared.ended.Ended.{Ended}
use Rattle.vp_procedure.specs.declared.procedure.Procedure.{Procedure}
use Rattle.vp_procedure.specs.Document.{IsProcedureText}
use Rattle.vp_procedure.specs.declared.draft.ProcedureInput.{ProcedureInput}
use Rattle.vp_procedure.specs.declared.fault.ProcedureFault.{ProcedureFault}
use Rattle.vp_procedure.specs.declared.fault.ProcedureFault.TheVariants as texts
use Rattle.vp_status.specs.declared.status.Status.{Status}
use Rattle.vp_status.specs.declared.status.Status.TheVariants as status
use Rattle.vp_top.specs.Asked.{IsUnbound}
use Rattle.vp_top.specs.Procedures.{HasRun, IsNoProcedure, IsInput, ProcedureGives, TellsProcedure}
use Rattle.vp_top.specs.Program.{IsProcedureAnswer, usage_text}

module _ (own turns site : ℕ) (bytes : List ℕ) (link link' : LinkState) where
  some_fault : (f : ProcedureFault) (end : Status) (text : List ℕ) → TellsProcedure f end text → f ≢ texts.NoMemory
  some_fault f end text told is = subst (λ (f : ProcedureFault). TellsProcedure f end text) is told

  no_fault : (it : ProcedureInput) → IsProcedureText it bytes → (end : Status) (text : List ℕ) → IsNoProcedure bytes end text → ⊥
  no_fault it spelled end text r =
      let same = r.only (Ok it) spelled
      (λ bad. some_fault r.fault end text r.told (let is : Err r.fault ≡ Err texts.NoMemory = bad in cc))
      (λ bad. cc) in cc

  same_input : (a b : ProcedureInput) → IsProcedureText a bytes → IsInput bytes b → b ≡ a
  same_input a b spelled i = let same = i.only (Ok a) spelled (λ bad. cc) (λ bad. cc) in cc

  pub no_procedure : ((it : ProcedureInput) → IsProcedureText it bytes → ⊥) → (end : Status) (text : List ℕ) → IsProcedureAnswer own turns site bytes link link' end text → IsNoProcedure bytes end text
  no_procedure none end text (inl refused) = refused.0
  no_procedure none end text (inr (inl lacks)) = absurd (none lacks.0.0 lacks.0.1.spelled)
  no_procedure none end text (inr (inr at)) = absurd (none at.0 at.1.spelled)

  module _ (it : ProcedureInput) (spelled : IsProcedureText it bytes) where
    pub run_told : (port : ℕ) → value_at site it.catalog.sites ≡ Some port → (end : Status) (text : List ℕ) → IsProcedureAnswer own turns site bytes link link' end text
        → ProcedureGives own turns port site it.procedure link link' end text
    run_told port there end text (inl refused) = absurd (no_fault it spelled end text refused.0)
    run_told port there end text (inr (inl lacks)) =
        let same = same_input it lacks.0.0 spelled lacks.0.1 in
        let bad : None ≡ Some port = sym lacks.0.2 ∙ ap (λ (i : ProcedureInput). value_at site i.catalog.sites) same ∙ there in
        absurd cc
    run_told port there end text (inr (inr at)) =
        let same = same_input it at.0 spelled at.1 in
        let ports : Some at.2 ≡ Some port = sym at.3 ∙ ap (λ (i : ProcedureInput). value_at site i.catalog.sites) same ∙ there in
        let is : at.2 ≡ port = cc in
        subst (λ (n : ℕ). ProcedureGives own turns n site it.procedure link link' end text) is
        (subst (λ (i : ProcedureInput). ProcedureGives own turns at.2 site i.procedure link link' end text) same at.4)

    pub missing_told : value_at site it.catalog.sites ≡ None → (end : Status) (text : List ℕ) → IsProcedureAnswer own turns site bytes link link' end text → (end ≡ status.Usage) × (text ≡ usage_text)
    missing_told missing end text (inl refused) = absurd (no_fault it spelled end text refused.0)
    missing_told missing end text (inr (inl lacks)) = (lacks.1, lacks.2)
    missing_told missing end text (inr (inr at)) =
        let same = same_input it at.0 spelled at.1 in
        let bad : None ≡ Some at.2 = sym missing ∙ ap (λ (i : ProcedureInput). value_at site i.catalog.sites) (sym same) ∙ at.3 in
        absurd cc

-- ---- the port that was bound

abbrev link_of : Option (List Datagram) → ℕ → Option (List Dispatch) → Option ℕ → Bool → ℕ → ℕ → LinkState
link_of left given handed asked bound faults losses = record { left = left; given = given; handed = handed; asked = asked; bound = bound; faults = faults; losses = losses }

link_same : {l l' : Option (List Datagram)} {g g' : ℕ} {h h' : Option (List Dispatch)} {a a' : Option ℕ} {b b' : Bool} {f f' : ℕ} {s s' : ℕ} →
    l ≡ l' → g ≡ g' → h ≡ h' → a ≡ a' → b ≡ b' → f ≡ f' → s ≡ s' → link_of l g h a b f s ≡ link_of l' g' h' a' b' f' s'
link_same p q r t u v w = rw (p, q, r, t, u, v, w) refl

bound_is : {E : Type 0} (own : ℕ) (old new : LinkState) (u : Unit {0}) → Binds {E = E} own old new (Ok u) → new ≡ bound_at own old
bound_is own old new u b = link_same b.gives_none.same_left b.gives_none.same_given b.hands_none.same_handed b.asked b.bound b.cause.ok b.hands_none.same_losses

pub has_run : {E : Type 0} (own turns port site : ℕ) (p : Procedure) (old mid new : LinkState) (u : Unit {0}) (answered : Result Ended AskFault) → Binds {E = E} own old mid (Ok u) → Runs port site turns p mid new answered
    → StaysBound mid new → HasRun own turns port site p old new answered
has_run own turns port site p old mid new u answered b runs stays = record {
  bound = record { asked = stays.same_port ∙ b.asked; bound = stays.same_bound ∙ b.bound };
  runs = subst (λ (s : LinkState). Runs port site turns p s new answered) (bound_is own old mid u b) runs;
}

pub unbound : {E : Type 0} (own : ℕ) (old new : LinkState) (e : E) → Binds {T = Unit {0}} own old new (Err e) → IsUnbound own old new
unbound own old new e b = record { asked = b.asked; unbound = b.bound; rose = b.cause.failed; none_came = b.gives_none; none_sent = b.hands_none }

-- what is so whatever comes of printing it
pub left_so : {T E P : Type 0} (r : Result T E) → P → OnErr r P
left_so (Ok x) h = tt
left_so (Err e) h = h
