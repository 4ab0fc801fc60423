-- Reading views, transactions and listed names from left to right.
use Rattle.std.specs.List.{starts_with}
use Rattle.std.specs.Str.{bytes_eq}
use Rattle.std.specs.Prelude.{ℕ, suc, ◌^◌, ◌-◌, List, [], ◌∷◌, ◌++◌, Bool, false, ◌||◌, nat_eq, Option, Some, None, option_map, Result, Ok, ◌==◌, if◌then◌else◌}
use Rattle.vp_text.specs.Reading.{◌>>=◌, scan, literal_at, number_at}
use Rattle.vp_base.specs.declared.ids.ViewId.{ViewId}
use Rattle.vp_base.specs.declared.ids.TxnId.{TxnId}

-- ---- views

abbrev pub view_of : ℕ → ℕ → ViewId
view_of n s = record { number = n; site = s }

-- which sites views have: with the number 0 the site 0, and with others 1 to 16
abbrev pub least_site : ℕ → ℕ
least_site number = if number == 0 then 0 else 1

abbrev pub most_site : ℕ → ℕ
most_site number = if number == 0 then 0 else 16

unfoldable pub view_at : List ℕ → Result (ViewId × List ℕ) ℕ
view_at bytes = do
  number ← number_at 0 (2 ^ 64 - 1) bytes
  at ← literal_at (64 ∷ []) number.1
  site ← number_at (least_site number.0) (most_site number.0) at.1
  Ok (view_of number.0 site.0, site.1)

-- ---- a view that isn't below the last one

abbrev pub least_site_from : ViewId → ℕ → ℕ
least_site_from last number = if number == last.number then last.site else least_site number

unfoldable pub view_from_at : ViewId → List ℕ → Result (ViewId × List ℕ) ℕ
view_from_at last bytes = do
  number ← number_at last.number (2 ^ 64 - 1) bytes
  at ← literal_at (64 ∷ []) number.1
  site ← number_at (least_site_from last number.0) (most_site number.0) at.1
  Ok (view_of number.0 site.0, site.1)

-- ---- transactions

abbrev pub txn_of : ℕ → ℕ → ℕ → TxnId
txn_of s l n = record { site = s; life = l; seq = n }

unfoldable pub txn_at : List ℕ → Result (TxnId × List ℕ) ℕ
txn_at bytes = do
  site ← number_at 1 16 bytes
  dot ← literal_at (46 ∷ []) site.1
  life ← number_at 1 (2 ^ 32 - 1) dot.1
  point ← literal_at (46 ∷ []) life.1
  seq ← number_at 1 (2 ^ 32 - 1) point.1
  Ok (txn_of site.0 life.0 seq.0, seq.1)

-- ---- one of some names

-- some name begins with this prefix
abbrev pub starts_any : List (List ℕ) → List ℕ → Bool
starts_any [] prefix = false
starts_any (name ∷ names) prefix = starts_with nat_eq name prefix || starts_any names prefix

-- the first place of the name in the list
abbrev pub place_of : List (List ℕ) → List ℕ → Option ℕ
place_of [] text = None
place_of (name ∷ names) text = if bytes_eq name text then Some 0 else option_map (λ i. suc i) (place_of names text)

abbrev pub place_step : List (List ℕ) → List ℕ → ℕ → Option (List ℕ)
place_step names prefix c = if starts_any names (prefix ++ c ∷ []) then Some (prefix ++ c ∷ []) else None

unfoldable pub among_at : List (List ℕ) → List ℕ → Result (ℕ × List ℕ) ℕ
among_at names bytes = scan (place_step names) (place_of names) [] bytes
