-- What begins the text of a value, and where a text that is no value's text is at fault.
-- A language is a relation `L`: `L a text` means that the text is a text of the value a.
use Rattle.std.specs.Prelude.{ℕ, ◌≤◌, List, ◌++◌, length, take, Option, Result, Ok, Err, IfSome}

-- The prefix can be completed to the text of some value.
pub record Begins {A : Type 0} (L : A → List ℕ → Type 0) (prefix : List ℕ) : Type 0 where
  pub value : A
  pub more : List ℕ
  pub spelled : L value (prefix ++ more)

-- `at` is the length of the longest prefix of the bytes that begins the text of some value.
pub record IsLongest {A : Type 0} (L : A → List ℕ → Type 0) (bytes : List ℕ) (at : ℕ) : Type 0 where
  pub within : at ≤ length bytes
  pub begins : Begins L (take at bytes)
  pub longest : (n : ℕ) → n ≤ length bytes → Begins L (take n bytes) → n ≤ at

-- The bytes are no value's text, and the fault is at the end of the longest prefix that begins one.
pub record IsRefused {A : Type 0} (L : A → List ℕ → Type 0) (bytes : List ℕ) (at : ℕ) : Type 0 where
  pub none : (a : A) → L a bytes → ⊥
  pub longest : IsLongest L bytes at

-- What a reader of whole texts returns: the value whose text the bytes are, or the exact place of the fault, unless memory ran out,
-- which is a fault without a place.
abbrev pub Answers : {X A E : Type 0} → (A → List ℕ → Type 0) → (X → A) → (E → Option ℕ) → List ℕ → Result X E → Type 0
Answers L view place bytes (Ok x) = L (view x) bytes
Answers L view place bytes (Err e) = IfSome (place e) (IsRefused L bytes)
