-- The steps of a session: what comes of the answer to a call.
use Rattle.std.proofs.Common.{◌≡◌, ◌≢◌, ◌+◌, ℕ, List, [], ◌∷◌, ◌++◌, length, true, false, Option, Some, None, refl, ap, subst, option_map, inl, inr}
use Rattle.std.specs.Prelude.{Result, Ok, Err}
use Rattle.std.proofs.lemmas.Bool.{false≢true}
use Rattle.vp_model.specs.Types.{Op, Answer, Call}
use Rattle.vp_model.specs.Types.op
use Rattle.vp_model.specs.Types.answer
use Rattle.vp_model.specs.Types.call
use Rattle.vp_outside.specs.Links.{LinkState}
use Rattle.vp_client.specs.Asked.{Asks}
use Rattle.vp_client.specs.declared.asking.AskFault.{AskFault}
use Rattle.vp_client.specs.declared.asking.AskFault.TheVariants as faults
use Rattle.vp_procedure.specs.declared.procedure.Procedure.{Procedure}
use Rattle.vp_procedure.specs.declared.procedure.Statement.{Statement}
use Rattle.vp_proc.specs.declared.ended.End.{End}
use Rattle.vp_proc.specs.declared.ended.End.TheVariants as ends
use Rattle.vp_proc.specs.declared.session.Session.{Session}
use Rattle.vp_proc.specs.declared.walk.Mode.{Mode}
use Rattle.vp_proc.specs.Scripts.{Script, Variables, number_in, script_from, with_variable}
use Rattle.vp_proc.specs.declared.walk.Step.{Step}
use Rattle.vp_proc.specs.Walking.{IsFailure, after_read, comes_to}
use Rattle.vp_proc.specs.Telling.{content_in, is_written, is_committed, is_end, told}
use Rattle.vp_proc.specs.Ran.{AsksAbort, HasAborted, Ends, Breaks}
use Rattle.vp_proc.specs.Stepping.{IsAt, IsRefused, IsToAbort, Finishes}
use Rattle.vp_proc.proofs.Told.{told_more}

-- one operation more
abbrev pub grown : Session → Op → Session
grown s operation = record s { ops = s.ops ++ operation ∷ [] }

-- ---- what was asked

pub asks_read : (s : Session) (name : List ℕ) (number : ℕ) (now new : LinkState) (answered : Result Answer AskFault) → number ≡ length s.ops + 1 → Asks s.port s.site (call.Read s.txn number name) s.turns now new answered
    → Asks s.port s.site (call.Read s.txn (length s.ops + 1) name) s.turns now new answered
asks_read s name number now new answered is h = subst (λ (n : ℕ). Asks s.port s.site (call.Read s.txn n name) s.turns now new answered) is h

-- what is sent is a copy of the value
pub asks_write : (s : Session) (name value sent : List ℕ) (number : ℕ) (now new : LinkState) (answered : Result Answer AskFault) → number ≡ length s.ops + 1 → sent ≡ value
    → Asks s.port s.site (call.Write s.txn number name sent) s.turns now new answered → Asks s.port s.site (call.Write s.txn (length s.ops + 1) name value) s.turns now new answered
asks_write s name value sent number now new answered is same h =
    subst (λ (v : List ℕ). Asks s.port s.site (call.Write s.txn (length s.ops + 1) name v) s.turns now new answered) same
    (subst (λ (n : ℕ). Asks s.port s.site (call.Write s.txn n name sent) s.turns now new answered) is h)

module _ (s : Session) (p : Procedure) (old : LinkState) where
  abbrev AsksFor : Call → LinkState → LinkState → Result Answer AskFault → Type 0
  AsksFor words now new answered = Asks s.port s.site words s.turns now new answered

  -- ---- the abort

  pub abort_asked : (end : End) (now new : LinkState) (answered : Result Answer AskFault) → IsToAbort s p old end now → AsksFor (call.Abort s.txn (length s.ops + 1)) now new answered
      → AsksAbort s.port s.site s.turns p old s.ops end new answered
  abort_asked end now new answered due asks = record { txn = s.txn; now = now; due = due; asks = asks }

  pub abort_done : (end : End) (now new : LinkState) (answered : Result Answer AskFault) → IsToAbort s p old end now → AsksFor (call.Abort s.txn (length s.ops + 1)) now new answered
      → answered ≢ Err faults.NoMemory → HasAborted s.port s.site s.turns p old s.ops end new
  abort_done end now new answered due asks some = (answered, abort_asked end now new answered due asks, some)

  ends_aborted : (end : End) (now new : LinkState) → IsToAbort s p old end now → HasAborted s.port s.site s.turns p old s.ops end new → Ends s.port s.site s.turns p old s.ops end new
  ends_aborted (ends.Done n) now new due h = absurd due
  ends_aborted (ends.NotNumber line) now new due h = h
  ends_aborted (ends.Overflow line) now new due h = h
  ends_aborted (ends.Failed code) now new due h = h
  ends_aborted (ends.Refused a) now new due h = inr (inr h)

  -- the script comes to an end
  pub stop_due : (end : End) (now : LinkState) → IsFailure end → IsAt s p old (Script.stops end) now → IsToAbort s p old end now
  stop_due (ends.Done n) now failure at = absurd failure
  stop_due (ends.NotNumber line) now failure at = at
  stop_due (ends.Overflow line) now failure at = at
  stop_due (ends.Failed code) now failure at = at
  stop_due (ends.Refused a) now failure at = absurd failure

  -- memory ran out in it
  abort_lost : (end : End) (new : LinkState) → AsksAbort s.port s.site s.turns p old s.ops end new (Err faults.NoMemory) → Breaks s.port s.site s.turns p old faults.NoMemory new
  abort_lost end new h = inr (inr (refl, record { txn = h.txn; ops = s.ops; last = inr (end, h) }))

  pub stopped : (end : End) (now new : LinkState) → IsToAbort s p old end now → HasAborted s.port s.site s.turns p old s.ops end new → Finishes s p old new (Ok end)
  stopped end now new due h = ends_aborted end now new due h

  pub stop_lost : (end : End) (new : LinkState) → AsksAbort s.port s.site s.turns p old s.ops end new (Err faults.NoMemory) → Finishes s p old new (Err faults.NoMemory)
  stop_lost end new h = abort_lost end new h

  -- ---- a refusal

  pub refused_closed : (a : Answer) (new : LinkState) → IsRefused s p old a new → is_end a ≡ true → Finishes s p old new (Ok (ends.Refused a))
  refused_closed a new h closed = inr (inl (record { txn = s.txn; refused = h; closed = closed }))

  pub refused_due : (a : Answer) (now : LinkState) → IsRefused s p old a now → is_end a ≡ false → IsToAbort s p old (ends.Refused a) now
  refused_due a now h on = (h, on)

  -- ---- the commit

  module _ (number : ℕ) (now new : LinkState) (at : IsAt s p old (Script.gives number) now) where
    pub commit_done : (a : Answer) → AsksFor (call.Commit s.txn (length s.ops + 1)) now new (Ok a) → is_committed a ≡ true → Finishes s p old new (Ok (ends.Done number))
    commit_done a asks is = record { txn = s.txn; now = now; has_told = at; said = a; asks = asks; committed = is }

    pub commit_refused : (a : Answer) → AsksFor (call.Commit s.txn (length s.ops + 1)) now new (Ok a) → is_committed a ≡ false → IsRefused s p old a new
    commit_refused a asks other = record { left = Script.gives number; now = now; has_told = at; asks = asks; refuses = other }

    pub commit_broken : (fault : AskFault) → AsksFor (call.Commit s.txn (length s.ops + 1)) now new (Err fault) → Finishes s p old new (Err fault)
    commit_broken fault asks = inr (inl (record { txn = s.txn; ops = s.ops; left = Script.gives number; now = now; has_told = at; wanted = tt; asks = asks }))

  -- ---- between two calls

  -- this is the step
  pub at_step : (line : ℕ) (vars : Variables) (m : Mode) (rest : List Statement) (step step' : Step) (now : LinkState) → step ≡ step' → IsAt s p old (comes_to line vars m rest step) now
      → IsAt s p old (comes_to line vars m rest step') now
  at_step line vars m rest step step' now is at = subst (λ (t : Step). IsAt s p old (comes_to line vars m rest t) now) is at

  pub ran_out : (left : Script) (now : LinkState) → IsAt s p old left now → Breaks s.port s.site s.turns p old faults.NoMemory now
  ran_out left now at = inr (inr (refl, record { txn = s.txn; ops = s.ops; last = inl (left, at) }))

  -- ---- a read

  module _ (rec : ℕ) (name : List ℕ) (go : Option (List ℕ) → Script) (now new : LinkState) (at : IsAt s p old (Script.reads rec name go) now) where
    pub read_told : (a : Answer) (content : Option (List ℕ)) → AsksFor (call.Read s.txn (length s.ops + 1) name) now new (Ok a) → content_in a ≡ Some content → IsAt (grown s (op.Read rec content)) p old (go content) new
    read_told a content asks is =
        told_more s.port s.site s.turns p old s.txn s.ops (Script.reads rec name go) (go content) now new a (op.Read rec content) at asks (ap (option_map {U = Op × Script} (λ (c : Option (List ℕ)). (op.Read rec c, go c))) is)

    pub read_refused : (a : Answer) → AsksFor (call.Read s.txn (length s.ops + 1) name) now new (Ok a) → content_in a ≡ None → IsRefused s p old a new
    read_refused a asks none = record { left = Script.reads rec name go; now = now; has_told = at; asks = asks; refuses = none }

    pub read_broken : (fault : AskFault) → AsksFor (call.Read s.txn (length s.ops + 1) name) now new (Err fault) → Breaks s.port s.site s.turns p old fault new
    read_broken fault asks = inr (inl (record { txn = s.txn; ops = s.ops; left = Script.reads rec name go; now = now; has_told = at; wanted = tt; asks = asks }))

  -- ---- a write

  module _ (rec : ℕ) (name value : List ℕ) (more : Script) (now new : LinkState) (at : IsAt s p old (Script.writes rec name value more) now) where
    pub write_told : (a : Answer) → AsksFor (call.Write s.txn (length s.ops + 1) name value) now new (Ok a) → is_written a ≡ true → IsAt (grown s (op.Write rec (Some value))) p old more new
    write_told a asks is = told_more s.port s.site s.turns p old s.txn s.ops (Script.writes rec name value more) more now new a (op.Write rec (Some value)) at asks (by_answer a is)
      where
        by_answer : (a : Answer) → is_written a ≡ true → told (Script.writes rec name value more) a ≡ Some (op.Write rec (Some value), more)
        by_answer (answer.Written txn number) is = refl
        by_answer _ is = absurd (false≢true is)

    pub write_refused : (a : Answer) → AsksFor (call.Write s.txn (length s.ops + 1) name value) now new (Ok a) → is_written a ≡ false → IsRefused s p old a new
    write_refused a asks other = record { left = Script.writes rec name value more; now = now; has_told = at; asks = asks; refuses = other }

    pub write_broken : (fault : AskFault) → AsksFor (call.Write s.txn (length s.ops + 1) name value) now new (Err fault) → Breaks s.port s.site s.turns p old fault new
    write_broken fault asks = inr (inl (record { txn = s.txn; ops = s.ops; left = Script.writes rec name value more; now = now; has_told = at; wanted = tt; asks = asks }))

-- what is left after a read whose content is a number, or none
pub read_number : (line : ℕ) (vars : Variables) (m : Mode) (rest : List Statement) (var : ℕ) (content : Option (List ℕ)) (n : ℕ) → number_in content ≡ Some n
    → after_read line vars m rest var content ≡ script_from (line + 1) rest (with_variable var n vars) m
read_number line vars m rest var content n is = rw is refl

pub read_no_number : (line : ℕ) (vars : Variables) (m : Mode) (rest : List Statement) (var : ℕ) (content : Option (List ℕ)) → number_in content ≡ None → after_read line vars m rest var content ≡ Script.stops (ends.NotNumber line)
read_no_number line vars m rest var content is = rw is refl
