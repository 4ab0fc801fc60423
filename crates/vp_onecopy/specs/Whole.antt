-- The histories that have a text.
use Rattle.std.specs.Prelude.{◌≡◌, ◌≢◌, ⊤, ℕ, ◌≤◌, false, List, [], length, Option, Some, None, All, AllPairs}
use Rattle.vp_base.specs.Identifiers.{IsView, IsTxn}
use Rattle.vp_base.specs.Order.{view_before}
use Rattle.vp_base.specs.Words.{IsName, IsValue}
use Rattle.vp_model.specs.Types.{Op, Commit}
use Rattle.vp_model.specs.Types.op
use Rattle.vp_onecopy.specs.Playing.{CommitsWithin}
use Rattle.vp_onecopy.specs.declared.map.History.{History}

-- the content that an operation reads or writes
abbrev pub op_content : Op → Option (List ℕ)
op_content (op.Read rec value) = value
op_content (op.Write rec value) = value

-- a content is none, or a value
abbrev pub IsContent : Option (List ℕ) → Type 0
IsContent None = ⊤
IsContent (Some value) = IsValue value value

-- The transaction, its view and the contents of its operations have texts. Its tables have none, so there are none.
pub record IsEntry (commit : Commit) : Type 0 where
  pub txn : IsTxn commit.txn
  pub view : IsView commit.view
  pub values : All (λ operation. IsContent (op_content operation)) commit.ops
  pub no_tables : commit.tables ≡ []

-- Each of at most 256 records has a name of its own and a value, each operation is on one of them, and the views don't fall.
pub record IsWhole (h : History) : Type 0 where
  pub few : length h.names ≤ 256
  pub named : All (λ name. IsName name name) h.names
  pub apart : AllPairs (λ (a b : List ℕ). a ≢ b) h.names
  pub values : length h.start ≡ length h.names
  pub starting : All (λ value. IsValue value value) h.start
  pub entries : All IsEntry h.commits
  pub places : CommitsWithin (length h.start) h.commits
  pub ascending : AllPairs (λ (a b : Commit). view_before b.view a.view ≡ false) h.commits
