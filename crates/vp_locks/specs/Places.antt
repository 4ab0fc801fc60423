-- The places of the locks of a table. A slot holds a lock, or held one.
use Rattle.std.specs.Prelude.{ℕ, suc, Bool, false, if◌then◌else◌, List, [], ◌∷◌, map, Option, Some, None}
use Rattle.std.specs.List.{filter_map, slice_get, slice_set}
use Rattle.std.specs.Option.{option_map_or}
use Rattle.vp_base.specs.declared.site.Lock.{Lock}

-- the locks in the slots, in order
abbrev pub present_locks : List (Option Lock) → List Lock
present_locks slots = filter_map (λ s. s) slots

-- the lock at a place
abbrev pub lock_at : List (Option Lock) → ℕ → Option Lock
lock_at slots place = option_map_or (λ s. s) (slice_get slots place) None

abbrev pub passes : (Lock → Bool) → Option Lock → Bool
passes test s = option_map_or test s false

-- the places of the locks that pass a test, ascending
abbrev pub places : (Lock → Bool) → List (Option Lock) → List ℕ
places test [] = []
places test (s ∷ slots) =
    if passes test s then 0 ∷ map suc (places test slots) else map suc (places test slots)

-- the slots after the lock at a place has changed, or was released
abbrev pub revise_slot : (Lock → Option Lock) → List (Option Lock) → ℕ → List (Option Lock)
revise_slot f slots place = option_map_or (λ lock. slice_set slots place (f lock)) (lock_at slots place) slots

-- the lock, unless it isn't kept
abbrev pub if_kept : (Lock → Bool) → Lock → Option Lock
if_kept keeps lock = if keeps lock then Some lock else None
