-- The step for each statement.
use Rattle.std.proofs.Common.{◌≡◌, ℕ, zero, suc, ◌+◌, ◌≤◌, List, [], ◌∷◌, ◌==◌, length, Bool, true, false, Option, Some, None, refl, ap, arith}
use Rattle.std.specs.Prelude.{nat_lt, map, if◌then◌else◌}
use Rattle.std.specs.Fmt.{decimal}
use Rattle.std.specs.List.{AllByRecursion}
use Rattle.vp_model.specs.Catalogue.{Catalogue, RecordEntry, sites_of}
use Rattle.vp_base.specs.Words.{IsName}
use Rattle.vp_base.proofs.Among.{place_is_name}
use Rattle.vp_catalog.specs.Entries.{IsRecord}
use Rattle.vp_catalog.specs.Document.{IsCatalogue}
use Rattle.vp_procedure.specs.Procedures.{names_of}
use Rattle.vp_procedure.specs.declared.procedure.Expr.{Expr}
use Rattle.vp_procedure.specs.declared.procedure.Statement.{Statement}
use Rattle.vp_procedure.specs.declared.procedure.Statement.TheVariants as statement
use Rattle.vp_proc.specs.declared.ended.End.TheVariants as ends
use Rattle.vp_proc.specs.declared.walk.Mode.{Mode}
use Rattle.vp_proc.specs.declared.walk.Mode.TheVariants as mode
use Rattle.vp_proc.specs.declared.walk.Step.{Step}
use Rattle.vp_proc.specs.declared.walk.Step.TheVariants as steps
use Rattle.vp_proc.specs.Scripts.{Script, Variables, branch, passed, script_from, value_of, with_number, with_variable}
use Rattle.vp_proc.specs.declared.walk.Walk.{Walk}
use Rattle.vp_proc.specs.Walking.{IsSome, IsStep, StepsSo, comes_to, depth_of}

-- a statement with this step, after which the variables and the mode are these
abbrev pub Comes : ℕ → Variables → Mode → Statement → Variables → Mode → Step → Type 0
Comes line vars m s vars' m' step = (rest : List Statement) → script_from line (s ∷ rest) vars m ≡ comes_to line vars' m' rest step

pub passing : (line : ℕ) (vars : Variables) (to_else : Bool) (depth : ℕ) (s : Statement) → Comes line vars (mode.Passing to_else depth) s vars (passed to_else depth s) steps.Next
unfolding script_from
passing line vars to_else depth s rest = refl

pub passed_depth : (to_else : Bool) (depth : ℕ) (s : Statement) → depth_of (passed to_else depth s) ≤ depth + 1
passed_depth to_else depth (statement.IfLess a b) = omega arith
passed_depth to_else depth (statement.IfEqual a b) = omega arith
passed_depth true zero statement.Else = omega arith
passed_depth true (suc depth) statement.Else = omega arith
passed_depth false depth statement.Else = omega arith
passed_depth to_else zero statement.End = omega arith
passed_depth to_else (suc depth) statement.End = omega arith
passed_depth to_else depth (statement.Read var name rec) = omega arith
passed_depth to_else depth (statement.Set var e) = omega arith
passed_depth to_else depth (statement.Write name rec e) = omega arith
passed_depth to_else depth (statement.Fail code) = omega arith
passed_depth to_else depth (statement.Give e) = omega arith

module _ (line : ℕ) (vars : Variables) where
  abbrev pub Does : Statement → Variables → Mode → Step → Type 0
  Does s vars' m' step = Comes line vars mode.Doing s vars' m' step

  pub reading : (var : ℕ) (name : List ℕ) (rec : ℕ) → Does (statement.Read var name rec) vars mode.Doing (steps.Read var name rec)
  unfolding script_from
  reading var name rec rest = refl

  pub setting : (var : ℕ) (e : Expr) (n : ℕ) → value_of vars e ≡ Some n → Does (statement.Set var e) (with_variable var n vars) mode.Doing steps.Next
  unfolding script_from
  setting var e n is rest = rw is refl

  pub setting_none : (var : ℕ) (e : Expr) → value_of vars e ≡ None → Does (statement.Set var e) vars mode.Doing (steps.Stop (ends.Overflow line))
  unfolding script_from
  setting_none var e is rest = rw is refl

  pub writing : (name : List ℕ) (rec : ℕ) (e : Expr) (n : ℕ) → value_of vars e ≡ Some n → Does (statement.Write name rec e) vars mode.Doing (steps.Write name rec (decimal n))
  unfolding script_from
  writing name rec e n is rest = rw is refl

  pub writing_none : (name : List ℕ) (rec : ℕ) (e : Expr) → value_of vars e ≡ None → Does (statement.Write name rec e) vars mode.Doing (steps.Stop (ends.Overflow line))
  unfolding script_from
  writing_none name rec e is rest = rw is refl

  pub comparing_less : (a b : Expr) (x y : ℕ) → value_of vars a ≡ Some x → value_of vars b ≡ Some y → Does (statement.IfLess a b) vars (branch (nat_lt x y)) steps.Next
  unfolding script_from
  comparing_less a b x y is and rest = rw (is, and) refl

  pub comparing_equal : (a b : Expr) (x y : ℕ) → value_of vars a ≡ Some x → value_of vars b ≡ Some y → Does (statement.IfEqual a b) vars (branch (x == y)) steps.Next
  unfolding script_from
  comparing_equal a b x y is and rest = rw (is, and) refl

  first_none : (a : Option ℕ) (go : ℕ → Script) → a ≡ None → with_number (ends.Overflow line) a go ≡ Script.stops (ends.Overflow line)
  first_none a go is = rw is refl

  second_none : (a b : Option ℕ) (go : ℕ → ℕ → Script) → b ≡ None → with_number (ends.Overflow line) a (λ x. with_number (ends.Overflow line) b (λ y. go x y)) ≡ Script.stops (ends.Overflow line)
  second_none None b go is = refl
  second_none (Some x) b go is = rw is refl

  pub less_none_first : (a b : Expr) → value_of vars a ≡ None → Does (statement.IfLess a b) vars mode.Doing (steps.Stop (ends.Overflow line))
  unfolding script_from
  less_none_first a b is rest = first_none (value_of vars a) _ is

  pub less_none_second : (a b : Expr) → value_of vars b ≡ None → Does (statement.IfLess a b) vars mode.Doing (steps.Stop (ends.Overflow line))
  unfolding script_from
  less_none_second a b is rest = second_none (value_of vars a) (value_of vars b) (λ x y. script_from (line + 1) rest vars (branch (nat_lt x y))) is

  pub equal_none_first : (a b : Expr) → value_of vars a ≡ None → Does (statement.IfEqual a b) vars mode.Doing (steps.Stop (ends.Overflow line))
  unfolding script_from
  equal_none_first a b is rest = first_none (value_of vars a) _ is

  pub equal_none_second : (a b : Expr) → value_of vars b ≡ None → Does (statement.IfEqual a b) vars mode.Doing (steps.Stop (ends.Overflow line))
  unfolding script_from
  equal_none_second a b is rest = second_none (value_of vars a) (value_of vars b) (λ x y. script_from (line + 1) rest vars (branch (x == y))) is

  pub passing_else : Does statement.Else vars (mode.Passing false 0) steps.Next
  unfolding script_from
  passing_else rest = refl

  pub closing : Does statement.End vars mode.Doing steps.Next
  unfolding script_from
  closing rest = refl

  pub failing : (code : ℕ) → Does (statement.Fail code) vars mode.Doing (steps.Stop (ends.Failed code))
  unfolding script_from
  failing code rest = refl

  pub giving : (e : Expr) (n : ℕ) → value_of vars e ≡ Some n → Does (statement.Give e) vars mode.Doing (steps.Give n)
  unfolding script_from
  giving e n is rest = rw is refl

  pub giving_none : (e : Expr) → value_of vars e ≡ None → Does (statement.Give e) vars mode.Doing (steps.Stop (ends.Overflow line))
  unfolding script_from
  giving_none e is rest = rw is refl

-- ---- what a step wants

all_names : (sites : List ℕ) (records : List RecordEntry) → AllByRecursion (IsRecord sites) records → AllByRecursion (λ n. IsName n n) (map (λ entry. entry.name) records)
all_names sites [] h = tt
all_names sites (r ∷ records) h = (h.0.name_is, all_names sites records h.1)

names_are : (c : Catalogue) → IsCatalogue c → AllByRecursion (λ n. IsName n n) (names_of c)
names_are c h = all_names (sites_of c) c.records h.so_far.records_are

pub read_step : (var : ℕ) (name : List ℕ) (rec : ℕ) → IsSome (statement.Read var name rec) → IsStep (steps.Read var name rec)
read_step var name rec h = (h.2.0, place_is_name (names_of h.0) rec name (names_are h.0 h.1) h.2.1)

-- ---- the walk after a step

-- a statement that leaves the walk as it is
pub stays_so : (walk : Walk) (s : Statement) (step : Step) → walk.mode ≡ mode.Doing → Does walk.line walk.vars s walk.vars mode.Doing step → IsStep step → length walk.vars ≡ 26 → StepsSo walk s walk step
stays_so walk s step doing does ok vars = record { line = refl; is = λ rest. rw doing (does rest); step_is = ok; depth = omega arith; vars = vars }

pub sets_so : (old new : Walk) (var : ℕ) (e : Expr) (n : ℕ) → old.mode ≡ mode.Doing → new ≡ record old { vars = with_variable var n old.vars } → value_of old.vars e ≡ Some n → length new.vars ≡ 26 → StepsSo old (statement.Set var e) new steps.Next
sets_so old new var e n doing is value vars = record {
  line = ap (λ (w : Walk). w.line) is;
  is = λ rest. rw (is, doing) (setting old.line old.vars var e n value rest);
  step_is = tt;
  depth = rw is (omega arith);
  vars = vars;
}

-- a statement that only changes what is passed over
pub turns_so : (old new : Walk) (s : Statement) (m : Mode) → old.mode ≡ mode.Doing → new ≡ record old { mode = m } → depth_of m ≡ 0 → Does old.line old.vars s old.vars m steps.Next → length old.vars ≡ 26 → StepsSo old s new steps.Next
turns_so old new s m doing is depth does vars = record {
  line = ap (λ (w : Walk). w.line) is;
  is = λ rest. rw (is, doing) (does rest);
  step_is = tt;
  depth = rw is (omega (arith, depth));
  vars = rw is vars;
}

pub passes_so : (old new : Walk) (s : Statement) (to_else : Bool) (depth : ℕ) → old.mode ≡ mode.Passing to_else depth → new ≡ record old { mode = passed to_else depth s } → length old.vars ≡ 26 → StepsSo old s new steps.Next
passes_so old new s to_else depth is_passing is vars = record {
  line = ap (λ (w : Walk). w.line) is;
  is = λ rest. rw (is, is_passing) (passing old.line old.vars to_else depth s rest);
  step_is = tt;
  depth = rw (is, is_passing) (passed_depth to_else depth s);
  vars = rw is vars;
}

-- ---- an `if`

-- the `if` that compares so, and whether it holds
abbrev pub an_if : Bool → Expr → Expr → Statement
an_if less a b = if less then statement.IfLess a b else statement.IfEqual a b

abbrev pub if_holds : Bool → ℕ → ℕ → Bool
if_holds less x y = if less then nat_lt x y else (x == y)

if_does : (line : ℕ) (vars : Variables) (less : Bool) (a b : Expr) (x y : ℕ) → value_of vars a ≡ Some x → value_of vars b ≡ Some y → Does line vars (an_if less a b) vars (branch (if_holds less x y)) steps.Next
if_does line vars true a b x y is and = comparing_less line vars a b x y is and
if_does line vars false a b x y is and = comparing_equal line vars a b x y is and

no_depth : (b : Bool) → depth_of (branch b) ≡ 0
no_depth true = refl
no_depth false = refl

pub if_so : (old new : Walk) (less holds : Bool) (a b : Expr) (x y : ℕ) → old.mode ≡ mode.Doing → value_of old.vars a ≡ Some x → value_of old.vars b ≡ Some y → holds ≡ if_holds less x y → new ≡ record old { mode = branch holds } → length old.vars ≡ 26 → StepsSo old (an_if less a b) new steps.Next
if_so old new less holds a b x y doing first second is walk vars = turns_so old new (an_if less a b) (branch holds) doing walk (no_depth holds) (rw is (if_does old.line old.vars less a b x y first second)) vars

first_does : (line : ℕ) (vars : Variables) (less : Bool) (a b : Expr) → value_of vars a ≡ None → Does line vars (an_if less a b) vars mode.Doing (steps.Stop (ends.Overflow line))
first_does line vars true a b is = less_none_first line vars a b is
first_does line vars false a b is = equal_none_first line vars a b is

second_does : (line : ℕ) (vars : Variables) (less : Bool) (a b : Expr) → value_of vars b ≡ None → Does line vars (an_if less a b) vars mode.Doing (steps.Stop (ends.Overflow line))
second_does line vars true a b is = less_none_second line vars a b is
second_does line vars false a b is = equal_none_second line vars a b is

pub if_none_first : (walk : Walk) (less : Bool) (a b : Expr) → walk.mode ≡ mode.Doing → value_of walk.vars a ≡ None → length walk.vars ≡ 26 → StepsSo walk (an_if less a b) walk (steps.Stop (ends.Overflow walk.line))
if_none_first walk less a b doing is vars = stays_so walk (an_if less a b) (steps.Stop (ends.Overflow walk.line)) doing (first_does walk.line walk.vars less a b is) tt vars

pub if_none_second : (walk : Walk) (less : Bool) (a b : Expr) → walk.mode ≡ mode.Doing → value_of walk.vars b ≡ None → length walk.vars ≡ 26 → StepsSo walk (an_if less a b) walk (steps.Stop (ends.Overflow walk.line))
if_none_second walk less a b doing is vars = stays_so walk (an_if less a b) (steps.Stop (ends.Overflow walk.line)) doing (second_does walk.line walk.vars less a b is) tt vars
