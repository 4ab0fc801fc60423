-- What a procedure does: each statement is passed once, from the first to the last.
use Rattle.std.specs.Prelude.{ℕ, zero, suc, ◌+◌, ◌-◌, ◌^◌, Bool, true, false, ◌==◌, ◌&&◌, nat_lt, nat_le, if◌then◌else◌, List, [], ◌∷◌, ◌++◌, replicate, get_or, set, slice_get, slice_set, Option, Some, None}
use Rattle.std.specs.Fmt.{decimal}
use Rattle.std.specs.Option.{option_map_or}
use Rattle.std.specs.Str.{bytes_eq}
use Rattle.std.specs.Str.Parse.{digits_value}
use Rattle.vp_model.specs.Types.{Op}
use Rattle.vp_model.specs.Types.op
use Rattle.vp_model.specs.OneCopy.{Values}
use Rattle.vp_procedure.specs.declared.procedure.Term.{Term}
use Rattle.vp_procedure.specs.declared.procedure.Term.TheVariants as term
use Rattle.vp_procedure.specs.declared.procedure.Expr.{Expr}
use Rattle.vp_procedure.specs.declared.procedure.Expr.TheVariants as expr
use Rattle.vp_procedure.specs.declared.procedure.Statement.{Statement}
use Rattle.vp_procedure.specs.declared.procedure.Statement.TheVariants as statement
use Rattle.vp_procedure.specs.declared.procedure.Procedure.{Procedure}
use Rattle.vp_proc.specs.declared.ended.End.{End}
use Rattle.vp_proc.specs.declared.ended.End.TheVariants as ends
use Rattle.vp_proc.specs.declared.walk.Mode.{Mode}
use Rattle.vp_proc.specs.declared.walk.Mode.TheVariants as mode

-- ---- numbers

abbrev pub greatest : ℕ
greatest = 2 ^ 64 - 1

-- the number of the range whose decimal text the content is
abbrev pub number_in : Option (List ℕ) → Option ℕ
number_in None = None
number_in (Some text) = let n = digits_value 10 text in if bytes_eq text (decimal n) && nat_le n greatest then Some n else None

-- one number for each letter
abbrev pub Variables : Type 0
Variables = List ℕ

abbrev pub zeros : Variables
zeros = replicate 26 0

abbrev pub with_variable : ℕ → ℕ → Variables → Variables
with_variable letter n vars = set vars (letter - 97) n

abbrev pub term_value : Variables → Term → ℕ
term_value vars (term.Var letter) = get_or vars (letter - 97) 0
term_value vars (term.Number value) = value

-- none above the range and below 0
abbrev pub value_of : Variables → Expr → Option ℕ
value_of vars (expr.Just a) = Some (term_value vars a)
value_of vars (expr.Sum a b) = let sum = term_value vars a + term_value vars b in if nat_le sum greatest then Some sum else None
value_of vars (expr.Difference a b) = if nat_le (term_value vars b) (term_value vars a) then Some (term_value vars a - term_value vars b) else None

-- ---- scripts

-- It reads a record, and goes on by the content that is there; or writes one, and goes on; or comes to its result; or to another end.
pub data Script : Type 0 where
  reads : ℕ → List ℕ → (Option (List ℕ) → Script) → Script
  writes : ℕ → List ℕ → List ℕ → Script → Script
  gives : ℕ → Script
  stops : End → Script

-- with the number, if there is one
abbrev pub with_number : End → Option ℕ → (ℕ → Script) → Script
with_number end None go = Script.stops end
with_number end (Some n) go = go n

-- A statement that is passed over. An `else` ends that, too, if `to_else`; so many `if`s are open within.
abbrev pub passed : Bool → ℕ → Statement → Mode
passed to_else depth (statement.IfLess a b) = mode.Passing to_else (depth + 1)
passed to_else depth (statement.IfEqual a b) = mode.Passing to_else (depth + 1)
passed true zero statement.Else = mode.Doing
passed to_else zero statement.End = mode.Doing
passed to_else (suc depth) statement.End = mode.Passing to_else depth
passed to_else depth s = mode.Passing to_else depth

-- the branch of an `if`: what follows is done, or is passed over to its `else` or its `end`
abbrev pub branch : Bool → Mode
branch true = mode.Doing
branch false = mode.Passing true 0

-- The statements from this line on, with these variables. Those of a procedure end with `result`.
unfoldable pub script_from : ℕ → List Statement → Variables → Mode → Script
script_from line [] vars m = Script.stops (ends.Failed 0)
script_from line (s ∷ rest) vars (mode.Passing to_else depth) = script_from (line + 1) rest vars (passed to_else depth s)
script_from line (statement.Read var name rec ∷ rest) vars mode.Doing =
    Script.reads rec name (λ content. with_number (ends.NotNumber line) (number_in content) (λ n. script_from (line + 1) rest (with_variable var n vars) mode.Doing))
script_from line (statement.Set var e ∷ rest) vars mode.Doing =
    with_number (ends.Overflow line) (value_of vars e) (λ n. script_from (line + 1) rest (with_variable var n vars) mode.Doing)
script_from line (statement.Write name rec e ∷ rest) vars mode.Doing =
    with_number (ends.Overflow line) (value_of vars e) (λ n. Script.writes rec name (decimal n) (script_from (line + 1) rest vars mode.Doing))
script_from line (statement.IfLess a b ∷ rest) vars mode.Doing =
    with_number (ends.Overflow line) (value_of vars a) (λ x. with_number (ends.Overflow line) (value_of vars b) (λ y.
    script_from (line + 1) rest vars (branch (nat_lt x y))))
script_from line (statement.IfEqual a b ∷ rest) vars mode.Doing =
    with_number (ends.Overflow line) (value_of vars a) (λ x. with_number (ends.Overflow line) (value_of vars b) (λ y.
    script_from (line + 1) rest vars (branch (x == y))))
script_from line (statement.Else ∷ rest) vars mode.Doing = script_from (line + 1) rest vars (mode.Passing false 0)
script_from line (statement.End ∷ rest) vars mode.Doing = script_from (line + 1) rest vars mode.Doing
script_from line (statement.Fail code ∷ rest) vars mode.Doing = Script.stops (ends.Failed code)
script_from line (statement.Give e ∷ rest) vars mode.Doing = with_number (ends.Overflow line) (value_of vars e) (λ n. Script.gives n)

abbrev pub script : Procedure → Script
script p = script_from p.first p.statements zeros mode.Doing

-- ---- on one copy

-- the operations, the last map, and the end
pub record Evaluated : Type 0 where
  pub ops : List Op
  pub last : Values
  pub end : End

-- the content of a record; none if the map lacks it
abbrev pub content_at : Values → ℕ → Option (List ℕ)
content_at m rec = option_map_or (λ content. content) (slice_get m rec) None

-- The script on this map, after these operations. A read is one of them also if its content is no number.
unfoldable pub eval_after : List Op → Values → Script → Evaluated
eval_after ops m (Script.reads rec name go) = let content = content_at m rec in eval_after (ops ++ op.Read rec content ∷ []) m (go content)
eval_after ops m (Script.writes rec name value more) = eval_after (ops ++ op.Write rec (Some value) ∷ []) (slice_set m rec (Some value)) more
eval_after ops m (Script.gives n) = record { ops = ops; last = m; end = ends.Done n }
eval_after ops m (Script.stops end) = record { ops = ops; last = m; end = end }

-- the evaluation of a procedure on a map
abbrev pub eval : Procedure → Values → Evaluated
eval p m = eval_after [] m (script p)
