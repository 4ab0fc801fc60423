-- The lines of a history, each allowed by the lines before it.
use Rattle.std.specs.Prelude.{◌≡◌, ℕ, List, [], ◌∷◌, ◌++◌, length, Bool, true, false, Some, None, codes, ◌&&◌, ◌==◌, nat_lt}
use Rattle.std.specs.Fmt.{decimal}
use Rattle.std.specs.List.{AllByRecursion}
use Rattle.vp_text.specs.Tokens.{HasItems}
use Rattle.vp_base.specs.Words.{IsName, IsValue, IsPlace}
use Rattle.vp_base.specs.Identifiers.{IsTxnText, IsViewFrom}
use Rattle.vp_model.specs.Types.{ViewId, Op, Commit}
use Rattle.vp_model.specs.Types.op
use Rattle.vp_onecopy.specs.declared.line.HistoryLine.{HistoryLine}
use Rattle.vp_onecopy.specs.declared.line.HistoryLine.TheVariants as kind

-- what the lines before say: the names of the start lines, the view of the last commit line, and the number of commit lines
pub record Before : Type 0 where
  pub names : List (List ℕ)
  pub last : ViewId
  pub commits : ℕ

-- ` r NAME VALUE`, ` a NAME`, ` w NAME VALUE` or ` d NAME`, where the name is that of a start line
abbrev pub OpText : List (List ℕ) → Op → List ℕ → Type 0
OpText names (op.Read rec None) text = (name : List ℕ) × IsPlace names rec name × (text ≡ codes " a " ++ name)
OpText names (op.Write rec None) text = (name : List ℕ) × IsPlace names rec name × (text ≡ codes " d " ++ name)
OpText names (op.Read rec (Some value)) text = (name : List ℕ) × IsPlace names rec name × IsValue value value × (text ≡ codes " r " ++ (name ++ 32 ∷ value))
OpText names (op.Write rec (Some value)) text = (name : List ℕ) × IsPlace names rec name × IsValue value value × (text ≡ codes " w " ++ (name ++ 32 ∷ value))

abbrev pub AllNames : List (List ℕ) → Type 0
AllNames names = AllByRecursion (λ n. IsName n n) names

-- an operation may come where there are names
abbrev pub some_names : List (List ℕ) → Bool
some_names [] = false
some_names (name ∷ names) = true

-- any number of operations, and the newline
abbrev pub OpsText : List (List ℕ) → List Op → List ℕ → Type 0
OpsText names = HasItems (λ (u : Unit {0}). some_names names) (λ u op. u) (λ u. OpText names) (10 ∷ []) tt

-- Start lines come before the commit lines, and there are at most 256.
abbrev pub may_start : Before → Bool
may_start before = (before.commits == 0) && nat_lt (length before.names) 256

pub record StartText (before : Before) (name value : List ℕ) (text : List ℕ) : Type 0 where
  pub allowed : may_start before ≡ true
  pub name_is : IsName name name
  pub value_is : IsValue value value
  pub parts : text ≡ codes "start " ++ (name ++ 32 ∷ (value ++ 10 ∷ []))

pub record CommitText (before : Before) (commit : Commit) (text : List ℕ) : Type 0 where
  pub txn : List ℕ
  pub view : List ℕ
  pub ops : List ℕ
  pub txn_is : IsTxnText commit.txn txn
  pub view_is : IsViewFrom before.last commit.view view
  pub ops_are : OpsText before.names commit.ops ops
  pub no_tables : commit.tables ≡ []
  pub parts : text ≡ codes "commit " ++ (txn ++ 32 ∷ (view ++ ops))

-- The lines before it allow the line, and this is its text.
abbrev pub LineText : Before → HistoryLine → List ℕ → Type 0
LineText before (kind.Start name value) text = StartText before name value text
LineText before (kind.Commit commit) text = CommitText before commit text
LineText before kind.End text = text ≡ codes "end " ++ (decimal before.commits ++ 10 ∷ [])
