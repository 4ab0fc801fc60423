-- The loop over the statements of a procedure.
use Rattle.std.proofs.Common.{◌≡◌, ◌∙◌, ◌+◌, ◌≤◌, ◌<◌, ℕ, zero, suc, List, [], ◌∷◌, Bool, length, drop, get_or, Option, None, refl, sym, ap, subst, arith}
use Rattle.std.specs.Prelude.{Result, Ok}
use Rattle.std.proofs.lemmas.List.{drop_all, drop_more}
use Rattle.vp_model.specs.Catalogue.{Catalogue}
use Rattle.vp_catalog.proofs.Apart.{sites_few}
use Rattle.vp_outside.specs.Links.{LinkState, StaysBound}
use Rattle.vp_client.specs.declared.asking.AskFault.{AskFault}
use Rattle.vp_procedure.specs.declared.procedure.Procedure.{Procedure}
use Rattle.vp_procedure.specs.declared.procedure.Statement.{Statement}
use Rattle.vp_procedure.specs.Procedures.{AreStatements, IsProcedure, IsStatement, opened_by}
use Rattle.vp_proc.specs.declared.ended.End.{End}
use Rattle.vp_proc.specs.declared.ended.End.TheVariants as ends
use Rattle.vp_proc.specs.declared.session.Session.{Session}
use Rattle.vp_proc.specs.declared.walk.Mode.TheVariants as mode
use Rattle.vp_proc.specs.declared.walk.Step.{Step}
use Rattle.vp_proc.specs.declared.walk.Walk.{Walk}
use Rattle.vp_proc.specs.Scripts.{Script, script, script_from, zeros}
use Rattle.vp_proc.specs.Stepping.{IsAt, IsToAbort, GoesOn, Grows}
use Rattle.vp_proc.specs.Walking.{IsSome, StepsSo, comes_to, depth_of}

-- each statement of a procedure is one
statement_is : (c : Catalogue) (ifs : List Bool) (ss : List Statement) (i : ℕ) (s : Statement) → AreStatements c ifs ss → i < length ss → IsStatement c (get_or ss i s)
statement_is c ifs [] i s are below = absurd are
statement_is c ifs (t ∷ []) zero s are below = are.0
statement_is c ifs (t ∷ []) (suc i) s are below = absurd (omega (arith, below))
statement_is c ifs (t ∷ u ∷ rest) zero s are below = are.0
statement_is c ifs (t ∷ u ∷ rest) (suc i) s are below = statement_is c (opened_by t ifs) (u ∷ rest) i s are.3 (omega (arith, below))

pub some_statement : (p : Procedure) (i : ℕ) (s : Statement) → IsProcedure p → i < length p.statements → s ≡ get_or p.statements i s → IsSome s
some_statement p i s is below at =
    (is.0, is.1.catalogue_is, subst (λ (t : Statement). IsStatement is.0 t) (sym at) (statement_is is.0 [] p.statements i s is.1.statements_are below))

-- the next statement, and those after it
pub past : (p : Procedure) (ss : List Statement) (i : ℕ) (s : Statement) → ss ≡ p.statements → i < length ss → s ≡ get_or ss i s → drop i p.statements ≡ s ∷ drop (i + 1) p.statements
past p ss i s same below at =
    let within = subst (λ (l : List Statement). i < length l) same below in
    let there = subst (λ (l : List Statement). s ≡ get_or l i s) same at in
    drop_more p.statements i s within ∙ ap (λ (t : Statement). t ∷ drop (i + 1) p.statements) (sym there)

-- lines have small numbers
pub first_small : (p : Procedure) → IsProcedure p → p.first ≤ 274
first_small p is =
    let sites = sites_few 0 is.0.sites is.1.catalogue_is.so_far.sites_are (omega arith) in
    let records = is.1.catalogue_is.so_far.few in
    let first = is.1.first_is in
    omega (arith, sites, records, first)

-- what a session comes to by a call
abbrev pub Goes : Session → Walk → Step → LinkState → Session → Walk → LinkState → Result (Option End) AskFault → Type 0
Goes s walk step now s' walk' new result = (p : Procedure) (old : LinkState) (rest : List Statement) → IsAt s p old (comes_to walk.line walk.vars walk.mode rest step) now
    → GoesOn s' p old (script_from (walk.line + 1) rest walk'.vars walk'.mode) new result

pub still_same : (s0 s s' : Session) → s ≡ record s0 { ops = s.ops } → Grows s s' → s' ≡ record s0 { ops = s'.ops }
still_same s0 s s' same grows = grows.same ∙ ap (λ (b : Session). record b { ops = s'.ops }) same

module _ (s0 : Session) (p : Procedure) (start : LinkState) where
  -- So many statements were passed.
  pub record Going (s : Session) (walk : Walk) (now : LinkState) (i : ℕ) : Type 0 where
    pub at : (old : LinkState) → IsAt s0 p old (script p) start → IsAt s p old (script_from walk.line (drop i p.statements) walk.vars walk.mode) now
    pub same : s ≡ record s0 { ops = s.ops }
    pub few : length s.ops ≤ i
    pub line : walk.line ≡ p.first + i
    pub depth : depth_of walk.mode ≤ i
    pub vars : length walk.vars ≡ 26
    pub stays : StaysBound start now

  pub begins : (walk : Walk) → length s0.ops ≡ 0 → walk.line ≡ p.first → walk.vars ≡ zeros → walk.mode ≡ mode.Doing → Going s0 walk start 0
  begins walk none line vars doing = record {
    at = λ old at. rw (line, vars, doing) at;
    same = refl;
    few = omega (arith, none);
    line = omega (arith, line);
    depth = rw doing (omega arith);
    vars = rw vars refl;
    stays = record { same_port = refl; same_bound = refl };
  }

  -- the next statement, and its step
  stepped : (s : Session) (walk walk' : Walk) (now : LinkState) (i : ℕ) (t : Statement) (step : Step) → Going s walk now i → drop i p.statements ≡ t ∷ drop (i + 1) p.statements → StepsSo walk t walk' step
      → (old : LinkState) → IsAt s0 p old (script p) start → IsAt s p old (comes_to walk'.line walk'.vars walk'.mode (drop (i + 1) p.statements) step) now
  stepped s walk walk' now i t step g next so old at =
      subst (λ (left : Script). IsAt s p old left now)
      (ap (λ (ss : List Statement). script_from walk.line ss walk.vars walk.mode) next ∙ so.is (drop (i + 1) p.statements)
      ∙ ap (λ (line : ℕ). comes_to line walk'.vars walk'.mode (drop (i + 1) p.statements) step) (sym so.line))
      (g.at old at)

  pub taken : (s s' : Session) (walk walk' last : Walk) (now new : LinkState) (i : ℕ) (t : Statement) (step : Step) (result : Result (Option End) AskFault) → Going s walk now i
      → drop i p.statements ≡ t ∷ drop (i + 1) p.statements → StepsSo walk t walk' step → Goes s walk' step now s' last new result
      → (old : LinkState) → IsAt s0 p old (script p) start → GoesOn s' p old (script_from (walk'.line + 1) (drop (i + 1) p.statements) last.vars last.mode) new result
  taken s s' walk walk' last now new i t step result g next so goes old at = goes p old (drop (i + 1) p.statements) (stepped s walk walk' now i t step g next so old at)

  -- after a statement that wasn't the last one
  pub goes_on : (s s' : Session) (walk walk' last : Walk) (now new : LinkState) (i : ℕ) (t : Statement) (step : Step) → Going s walk now i → drop i p.statements ≡ t ∷ drop (i + 1) p.statements
      → StepsSo walk t walk' step → Goes s walk' step now s' last new (Ok None) → (last ≡ record walk' { vars = last.vars }) × (length last.vars ≡ 26) → Grows s s' → StaysBound now new
      → Going s' (record last { line = last.line + 1 }) new (i + 1)
  goes_on s s' walk walk' last now new i t step g next so goes kept grows stays =
      let line : last.line ≡ walk'.line = ap (λ (w : Walk). w.line) kept.0 in
      let passed : last.mode ≡ walk'.mode = ap (λ (w : Walk). w.mode) kept.0 in
      record {
        at = λ old at.
            subst (λ (n : ℕ). IsAt s' p old (script_from (n + 1) (drop (i + 1) p.statements) last.vars last.mode) new) (sym line)
            (taken s s' walk walk' last now new i t step (Ok None) g next so goes old at);
        same = still_same s0 s s' g.same grows;
        few = omega (arith, grows.few, g.few);
        line = omega (arith, line, so.line, g.line);
        depth = rw passed (omega (arith, so.depth, g.depth));
        vars = kept.1;
        stays = record { same_port = stays.same_port ∙ g.stays.same_port; same_bound = stays.same_bound ∙ g.stays.same_bound };
      }

  -- no statement is left
  pub stops : (s : Session) (walk : Walk) (now : LinkState) (i : ℕ) (ss : List Statement) → ss ≡ p.statements → length ss ≤ i → Going s walk now i → (old : LinkState) → IsAt s0 p old (script p) start
      → IsToAbort s p old (ends.Failed 0) now
  unfolding script_from
  stops s walk now i ss same past g old at =
      let all : length p.statements ≤ i = subst (λ (l : List Statement). length l ≤ i) same past in
      let none : drop i p.statements ≡ [] = drop_all i p.statements all in
      subst (λ (l : List Statement). IsAt s p old (script_from walk.line l walk.vars walk.mode) now) none (g.at old at)
