-- What the check of a history prints.
use Rattle.std.specs.Prelude.{◌≡◌, ℕ, List, [], ◌∷◌, ◌++◌, length, map, slice_index_or, codes, Option, Some, None, Ok, Err}
use Rattle.std.specs.Fmt.{decimal}
use Rattle.vp_base.specs.Identifiers.{txn_text}
use Rattle.vp_model.specs.Types.{TxnId}
use Rattle.vp_model.specs.OneCopy.{Values, serial}
use Rattle.vp_onecopy.specs.Checking.{IsFirstDifference}
use Rattle.vp_onecopy.specs.Passing.{AnsweredAll, IsOnly}
use Rattle.vp_onecopy.specs.declared.map.History.{History}
use Rattle.vp_onecopy.specs.declared.fault.HistoryFault.{HistoryFault}
use Rattle.vp_onecopy.specs.declared.fault.HistoryFault.TheVariants as faults
use Rattle.vp_status.specs.Refused.{bad_line_text, twice_text}
use Rattle.vp_status.specs.declared.status.Status.{Status}
use Rattle.vp_status.specs.declared.status.Status.TheVariants as status

-- the word and the value, or the text for none
abbrev pub content_text : List ℕ → List ℕ → Option (List ℕ) → List ℕ
content_text word absent None = absent
content_text word absent (Some value) = word ++ value

abbrev pub value_text : List ℕ → Option (List ℕ) → List ℕ
value_text name value = name ++ (content_text (32 ∷ []) [] value ++ 10 ∷ [])

-- each record with its value; a record without one alone
abbrev pub values_text : List (List ℕ) → Values → List ℕ
values_text [] values = []
values_text (name ∷ names) [] = []
values_text (name ∷ names) (value ∷ values) = value_text name value ++ values_text names values

-- the count of transactions, and the copy that they leave
abbrev pub serial_text : ℕ → List (List ℕ) → Values → List ℕ
serial_text count names values = codes "serial " ++ (decimal count ++ 10 ∷ values_text names values)

-- the transaction, the index of its operation, the record, and both contents
abbrev pub difference_text : TxnId → ℕ → List ℕ → Option (List ℕ) → Option (List ℕ) → List ℕ
difference_text txn place name kept read =
    codes "differs "
    ++ (txn_text txn ++ 32 ∷ (decimal place ++ 32 ∷ (name
    ++ (content_text (codes " kept ") (codes " absent") kept ++ (content_text (codes " read ") (codes " absent") read ++ 10 ∷ [])))))

-- the history is a serial run on one copy, or has a first read of another value
abbrev pub IsVerdict : History → Status → List ℕ → Type 0
IsVerdict h status.Done text =
    (values : Values) × (serial (map Some h.start) h.commits ≡ Some values) × (text ≡ serial_text (length h.commits) h.names values)
IsVerdict h status.Differs text =
    (txn : TxnId)
    × (place rec : ℕ)
    × (kept read : Option (List ℕ))
    × IsFirstDifference (map Some h.start) h.commits txn place rec kept read
    × (text ≡ difference_text txn place (slice_index_or h.names rec []) kept read)
IsVerdict h _ text = ⊥

-- the bytes are any lines and then this history and no other, and this is the verdict on it
pub record IsChecked (bytes : List ℕ) (end : Status) (text : List ℕ) : Type 0 where
  pub history : History
  pub spelled : AnsweredAll bytes (Ok history)
  pub only : IsOnly bytes (Ok history)
  pub verdict : IsVerdict history end text

-- the status and the text of a fault
abbrev pub Finds : HistoryFault → Status → List ℕ → Type 0
Finds (faults.BadLine line at) status.BadLine text = text ≡ bad_line_text line at
Finds (faults.Twice line) status.BadLine text = text ≡ twice_text line
Finds _ _ text = ⊥

-- the bytes are no such text: this is their one fault, in the first line that has one
pub record IsMisspelled (bytes : List ℕ) (end : Status) (text : List ℕ) : Type 0 where
  pub fault : HistoryFault
  pub answered : AnsweredAll bytes (Err fault)
  pub only : IsOnly bytes (Err fault)
  pub told : Finds fault end text

-- The text that is defined for an input of `check` at each status; no other status is possible.
abbrev pub IsCheckAnswer : List ℕ → Status → List ℕ → Type 0
IsCheckAnswer bytes status.Done text = IsChecked bytes status.Done text
IsCheckAnswer bytes status.Differs text = IsChecked bytes status.Differs text
IsCheckAnswer bytes status.BadLine text = IsMisspelled bytes status.BadLine text
IsCheckAnswer bytes _ text = ⊥
