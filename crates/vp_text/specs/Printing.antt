-- What a printer leaves after the bytes that were there before.
use Rattle.std.specs.Prelude.{◌≡◌, ⊤, ℕ, List, ◌++◌, Bool, true, ◌&&◌, nat_eq, Result, OnOk}
use Rattle.std.specs.List.{starts_with}

-- A beginning of the text was appended to the old bytes, and nothing else changed.
unfoldable pub is_begun : List ℕ → List ℕ → List ℕ → Bool
is_begun old text new = starts_with nat_eq new old && starts_with nat_eq (old ++ text) new

-- The text was appended to the old bytes; after an error, a beginning of it.
pub record Appends {E : Type 0} (result : Result ⊤ E) (old text new : List ℕ) : Type 0 where
  pub whole : OnOk result (new ≡ old ++ text)
  pub begun : is_begun old text new ≡ true
