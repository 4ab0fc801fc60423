-- The lines that commands print of what failed, and of a turn at which recordings go no further.
use Rattle.std.specs.Prelude.{ℕ, List, [], ◌∷◌, ◌++◌, codes}
use Rattle.std.specs.Fmt.{decimal}

abbrev pub link_fault_text : List ℕ
link_fault_text = codes "link fault\n"

abbrev pub disk_fault_text : List ℕ
disk_fault_text = codes "disk fault\n"

abbrev pub no_answer_text : List ℕ
no_answer_text = codes "no answer\n"

abbrev pub lives_spent_text : List ℕ
lives_spent_text = codes "lives spent\n"

-- the half of the log that is damaged, and the byte
abbrev pub bad_log_text : ℕ → ℕ → List ℕ
bad_log_text half at = codes "bad log " ++ (decimal half ++ (codes " at " ++ (decimal at ++ 10 ∷ [])))

-- a site, and the number of its turn that waits for what was not sent
abbrev pub unsent_text : ℕ → ℕ → List ℕ
unsent_text site turn = codes "unsent " ++ (decimal site ++ 32 ∷ (decimal turn ++ 10 ∷ []))

-- a site, and the number of its turn that differs
abbrev pub turn_differs_text : ℕ → ℕ → List ℕ
turn_differs_text site turn = codes "differs " ++ (decimal site ++ 32 ∷ (decimal turn ++ 10 ∷ []))
