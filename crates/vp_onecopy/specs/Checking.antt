-- The result of checking a list of transactions.
use Rattle.std.specs.Prelude.{◌≡◌, ◌≤◌, ◌-◌, ⊤, ℕ, List, ◌∷◌, ◌++◌, length, slice_index_or, Option, Some, None}
use Rattle.vp_model.specs.Types.{TxnId, Op, Commit}
use Rattle.vp_model.specs.OneCopy.{Values, serial}
use Rattle.vp_onecopy.specs.Playing.{op_record, IsFirstMisread}
use Rattle.vp_onecopy.specs.declared.playing.PlayFault.{PlayFault}
use Rattle.vp_onecopy.specs.declared.playing.PlayFault.TheVariants as faults
use Rattle.vp_onecopy.specs.declared.checking.Verdict.{Verdict}
use Rattle.vp_onecopy.specs.declared.checking.Verdict.TheVariants as verdicts

-- The transactions before this one can be played, and so can its operations before this one, which reads another value than they
-- leave.
pub record IsFirstDifference (start : Values) (list : List Commit) (txn : TxnId) (place rec : ℕ) (kept read : Option (List ℕ)) : Type 0 where
  pub front : List Commit
  pub commit : Commit
  pub back : List Commit
  pub parts : list ≡ front ++ commit ∷ back
  pub txn_is : commit.txn ≡ txn
  pub before : Values
  pub played : serial start front ≡ Some before
  pub after : Values
  pub misread : IsFirstMisread before commit.ops after place rec kept read
  pub not_serial : serial start list ≡ None

-- a serial run and the copy that it leaves, or the first read of another value
abbrev pub Decides : Values → List Commit → Verdict → Type 0
Decides start list (verdicts.Serial map) = serial start list ≡ Some map
Decides start list (verdicts.Differs txn place rec kept read) = IsFirstDifference start list txn place rec kept read

-- ---- what a fault in playing one transaction says

-- the place of the fault is that of an operation
abbrev pub IsWithin : List Op → PlayFault → Type 0
IsWithin ops (faults.Differs place kept read) = (1 ≤ place) × (place ≤ length ops)
IsWithin ops faults.NoMemory = ⊤

-- the transaction, and the record of that operation
abbrev pub Tells : Commit → PlayFault → Verdict → Type 0
Tells commit (faults.Differs place kept read) verdict =
    (x : Op) × (x ≡ slice_index_or commit.ops (place - 1) x) × (verdict ≡ verdicts.Differs commit.txn place (op_record x) kept read)
Tells commit faults.NoMemory verdict = ⊥
