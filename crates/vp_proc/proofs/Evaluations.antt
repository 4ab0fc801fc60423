-- What was told of a script is what its evaluation does.
use Rattle.std.proofs.Common.{◌≡◌, ◌∙◌, ◌+◌, ℕ, List, [], ◌∷◌, ◌++◌, Bool, true, false, cond, Option, Some, None, refl, sym, ap, subst, option_map, append_assoc, inl, inr}
use Rattle.std.specs.Option.{option_map_or}
use Rattle.std.specs.Prelude.{slice_get, slice_set, option_and_then}
use Rattle.std.proofs.lemmas.List.{append-nil}
use Rattle.std.proofs.lemmas.Slice.Eq.{bytes_eq-Decides}
use Rattle.vp_model.specs.Types.{TxnId, Op, Answer}
use Rattle.vp_model.specs.Types.op
use Rattle.vp_model.specs.Types.answer
use Rattle.vp_model.specs.Words.{same_content}
use Rattle.vp_model.specs.OneCopy.{Values, play, play_one}
use Rattle.vp_client.specs.Conversations.{Exchange}
use Rattle.vp_outside.specs.Links.{LinkState}
use Rattle.vp_procedure.specs.declared.procedure.Procedure.{Procedure}
use Rattle.vp_proc.specs.declared.ended.End.{End}
use Rattle.vp_proc.specs.declared.ended.End.TheVariants as ends
use Rattle.vp_proc.specs.declared.ended.Ended.{Ended}
use Rattle.vp_proc.specs.Ran.{HasTold, Ends}
use Rattle.vp_proc.specs.Scripts.{Script, script, Evaluated, content_at, eval, eval_after}
use Rattle.vp_proc.specs.Telling.{content_in, told, Tells}
use Rattle.vp_proc.specs.Claims.{AreAsTold, BeginWith, IsEvaluation, IsEvaluated, IsItsOwn, RunsAreEvaluations}

-- ---- one operation

content_is : (a b : Option (List ℕ)) → same_content a b ≡ true → a ≡ b
content_is None None e = refl
content_is None (Some b) e = absurd cc
content_is (Some a) None e = absurd cc
content_is (Some a) (Some b) e = ap Some ((bytes_eq-Decides a b).0 e)

-- a read that can be played is of the content that is there
read_is : (m next : Values) (rec : ℕ) (content : Option (List ℕ)) → play_one m (op.Read rec content) ≡ Some next → (next ≡ m) × (content_at m rec ≡ content)
read_is m next rec content e = go (slice_get m rec) refl e
  where
    there : (kept : Option (List ℕ)) (b : Bool) → same_content content kept ≡ b → cond b (Some m) None ≡ Some next → (next ≡ m) × (kept ≡ content)
    there kept true same e = let is : m ≡ next = cc in (sym is, sym (content_is content kept same))
    there kept false same e = absurd cc

    go : (found : Option (Option (List ℕ))) → slice_get m rec ≡ found → cond (option_map_or (same_content content) found false) (Some m) None ≡ Some next
        → (next ≡ m) × (option_map_or (λ c. c) found None ≡ content)
    go None is e = absurd cc
    go (Some kept) is e = there kept (same_content content kept) refl e

-- the first of some operations, and the others
first_is : (m now : Values) (operation : Op) (later : List Op) → play m (operation ∷ later) ≡ Some now → (next : Values) × (play_one m operation ≡ Some next) × (play next later ≡ Some now)
first_is m now operation later e = go (play_one m operation) refl e
  where
    go : (o : Option Values) → play_one m operation ≡ o → option_and_then (λ next. play next later) o ≡ Some now → (next : Values) × (play_one m operation ≡ Some next) × (play next later ≡ Some now)
    go None is e = absurd cc
    go (Some next) is e = (next, is, e)

-- what an answer to a read tells
read_told : (rec : ℕ) (go : Option (List ℕ) → Script) (c : Option (Option (List ℕ))) (operation : Op) (after : Script) → option_map {U = Op × Script} (λ content. (op.Read rec content, go content)) c ≡ Some (operation, after)
    → (content : Option (List ℕ)) × (operation ≡ op.Read rec content) × (after ≡ go content)
read_told rec go None operation after e = absurd cc
read_told rec go (Some content) operation after e =
    let is : (op.Read rec content, go content) ≡ (operation, after) = cc in
    (content, sym (ap (λ (p : Op × Script). p.0) is), sym (ap (λ (p : Op × Script). p.1) is))

-- what an answer to a write tells
write_told : (rec : ℕ) (name value : List ℕ) (more : Script) (a : Answer) (operation : Op) (after : Script) → told (Script.writes rec name value more) a ≡ Some (operation, after)
    → (operation ≡ op.Write rec (Some value)) × (after ≡ more)
write_told rec name value more (answer.Written txn number) operation after e =
    let is : (op.Write rec (Some value), more) ≡ (operation, after) = cc in
    (sym (ap (λ (p : Op × Script). p.0) is), sym (ap (λ (p : Op × Script). p.1) is))
write_told rec name value more _ operation after e = absurd cc

-- ---- the operations

follows : (txn : TxnId) (number : ℕ) (s : Script) (xs : List Exchange) (before ops : List Op) (left : Script) (m now : Values) → Tells txn number s xs ops left → play m ops ≡ Some now
    → eval_after before m s ≡ eval_after (before ++ ops) now left
unfolding eval_after
follows txn number s [] before ops left m now t e =
    let played : Some m ≡ Some now = ap (play m) (sym t.0) ∙ e in
    let same : m ≡ now = cc in
    ap (λ (b : List Op). eval_after b m s) (sym (append-nil before) ∙ ap (λ (o : List Op). before ++ o) (sym t.0))
    ∙ ap (λ (n : Values). eval_after (before ++ ops) n s) same ∙ ap (eval_after (before ++ ops) now) (sym t.1)
follows txn number (Script.reads rec name go) (x ∷ more) before ops left m now t e =
    let r = read_told rec go (content_in t.0) t.2 t.3 t.4 in
    let f = first_is m now t.2 t.5 (ap (play m) (sym t.6) ∙ e) in
    let i = read_is m f.0 rec r.0 (ap (play_one m) (sym r.1) ∙ f.1) in
    ap (λ (c : Option (List ℕ)). eval_after (before ++ op.Read rec c ∷ []) m (go c)) i.1
    ∙ ap (λ (n : Values). eval_after (before ++ op.Read rec r.0 ∷ []) n (go r.0)) (sym i.0)
    ∙ ap (eval_after (before ++ op.Read rec r.0 ∷ []) f.0) (sym r.2)
    ∙ ap (λ (o : Op). eval_after (before ++ o ∷ []) f.0 t.3) (sym r.1)
    ∙ follows txn (number + 1) t.3 more (before ++ t.2 ∷ []) t.5 left f.0 now t.7 f.2
    ∙ ap (λ (o : List Op). eval_after o now left) (append_assoc before (t.2 ∷ []) t.5 ∙ ap (λ (o : List Op). before ++ o) (sym t.6))
follows txn number (Script.writes rec name value rest) (x ∷ more) before ops left m now t e =
    let r = write_told rec name value rest t.0 t.2 t.3 t.4 in
    let f = first_is m now t.2 t.5 (ap (play m) (sym t.6) ∙ e) in
    let set : Some (slice_set m rec (Some value)) ≡ Some f.0 = ap (play_one m) (sym r.0) ∙ f.1 in
    let next : slice_set m rec (Some value) ≡ f.0 = cc in
    ap (λ (n : Values). eval_after (before ++ op.Write rec (Some value) ∷ []) n rest) next
    ∙ ap (eval_after (before ++ op.Write rec (Some value) ∷ []) f.0) (sym r.1)
    ∙ ap (λ (o : Op). eval_after (before ++ o ∷ []) f.0 t.3) (sym r.0)
    ∙ follows txn (number + 1) t.3 more (before ++ t.2 ∷ []) t.5 left f.0 now t.7 f.2
    ∙ ap (λ (o : List Op). eval_after o now left) (append_assoc before (t.2 ∷ []) t.5 ∙ ap (λ (o : List Op). before ++ o) (sym t.6))
follows txn number (Script.gives n) (x ∷ more) before ops left m now t e = absurd (let none : None ≡ Some (t.2, t.3) = t.4 in cc)
follows txn number (Script.stops end) (x ∷ more) before ops left m now t e = absurd (let none : None ≡ Some (t.2, t.3) = t.4 in cc)

-- the operations of an evaluation begin with those before
begins : (s : Script) (before : List Op) (m : Values) → BeginWith (eval_after before m s).ops before
unfolding eval_after
begins (Script.reads rec name go) before m =
    let operation : Op = op.Read rec (content_at m rec) in
    let r = begins (go (content_at m rec)) (before ++ operation ∷ []) m in
    (operation ∷ r.0, r.1 ∙ append_assoc before (operation ∷ []) r.0)
begins (Script.writes rec name value more) before m =
    let operation : Op = op.Write rec (Some value) in
    let r = begins more (before ++ operation ∷ []) (slice_set m rec (Some value)) in
    (operation ∷ r.0, r.1 ∙ append_assoc before (operation ∷ []) r.0)
begins (Script.gives n) before m = ([], sym (append-nil before))
begins (Script.stops end) before m = ([], sym (append-nil before))

-- ---- the law

is_evaluation : (e : Evaluated) (ops : List Op) (now : Values) (left : Script) → e ≡ eval_after ops now left → IsEvaluation e ops now left
unfolding eval_after
is_evaluation e ops now (Script.reads rec name go) is =
    subst (λ (v : Evaluated). BeginWith v.ops (ops ++ op.Read rec (content_at now rec) ∷ [])) (sym is) (begins (go (content_at now rec)) (ops ++ op.Read rec (content_at now rec) ∷ []) now)
is_evaluation e ops now (Script.writes rec name value more) is =
    subst (λ (v : Evaluated). BeginWith v.ops (ops ++ op.Write rec (Some value) ∷ [])) (sym is) (begins more (ops ++ op.Write rec (Some value) ∷ []) (slice_set now rec (Some value)))
is_evaluation e ops now (Script.gives n) is = is
is_evaluation e ops now (Script.stops end) is = is

pub runs_evaluate : RunsAreEvaluations
runs_evaluate p txn exchanges ops left m now t e = is_evaluation (eval p m) ops now left (follows txn 1 (script p) exchanges [] ops left m now t e)

-- ---- a run that has ended

module _ (port site turns : ℕ) (p : Procedure) (old : LinkState) where
  abbrev Told : TxnId → List Op → Script → LinkState → Type 0
  Told txn ops left now = HasTold port site turns p old txn ops left now

  told_begins : (txn : TxnId) (ops : List Op) (left : Script) (now : LinkState) → Told txn ops left now → (m last : Values) → AreAsTold m ops last → BeginWith (eval p m).ops ops
  told_begins txn ops left now h m last e =
      subst (λ (v : Evaluated). BeginWith v.ops ops) (sym (follows txn 1 (script p) h.exchanges [] ops left m last h.tells e)) (begins left ops last)

  -- what was told before the end
  ends_begin : (ops : List Op) (end : End) (new : LinkState) → Ends port site turns p old ops end new → (m last : Values) → AreAsTold m ops last → BeginWith (eval p m).ops ops
  ends_begin ops (ends.Done n) new h m last e = told_begins h.txn ops (Script.gives n) h.now h.has_told m last e
  ends_begin ops (ends.NotNumber line) new h m last e = told_begins h.1.txn ops (Script.stops (ends.NotNumber line)) h.1.now h.1.due m last e
  ends_begin ops (ends.Overflow line) new h m last e = told_begins h.1.txn ops (Script.stops (ends.Overflow line)) h.1.now h.1.due m last e
  ends_begin ops (ends.Failed code) new h m last e = told_begins h.1.txn ops (Script.stops (ends.Failed code)) h.1.now h.1.due m last e
  ends_begin ops (ends.Refused a) new (inl not_begun) m last e = subst (λ (o : List Op). BeginWith (eval p m).ops o) (sym not_begun.none) ((eval p m).ops, refl)
  ends_begin ops (ends.Refused a) new (inr (inl closed)) m last e = told_begins closed.txn ops closed.refused.left closed.refused.now closed.refused.has_told m last e
  ends_begin ops (ends.Refused a) new (inr (inr h)) m last e = told_begins h.1.txn ops h.1.due.0.left h.1.due.0.now h.1.due.0.has_told m last e

  ends_are : (ops : List Op) (end : End) (new : LinkState) → Ends port site turns p old ops end new → (m last : Values) → AreAsTold m ops last → IsItsOwn end
      → eval p m ≡ record { ops = ops; last = last; end = end }
  ends_are ops (ends.Done n) new h m last e own = runs_evaluate p h.txn h.has_told.exchanges ops (Script.gives n) m last h.has_told.tells e
  ends_are ops (ends.NotNumber line) new h m last e own = runs_evaluate p h.1.txn h.1.due.exchanges ops (Script.stops (ends.NotNumber line)) m last h.1.due.tells e
  ends_are ops (ends.Overflow line) new h m last e own = runs_evaluate p h.1.txn h.1.due.exchanges ops (Script.stops (ends.Overflow line)) m last h.1.due.tells e
  ends_are ops (ends.Failed code) new h m last e own = runs_evaluate p h.1.txn h.1.due.exchanges ops (Script.stops (ends.Failed code)) m last h.1.due.tells e
  ends_are ops (ends.Refused a) new h m last e own = absurd own

  pub ended_evaluated : (it : Ended) (new : LinkState) → Ends port site turns p old it.ops it.end new → IsEvaluated p it
  ended_evaluated it new h = record { begins = ends_begin it.ops it.end new h; is = ends_are it.ops it.end new h }
