-- Datagrams in lower-case hexadecimal, and reading them.
use Rattle.std.specs.Prelude.{◌≡◌, ℕ, ◌+◌, ◌-◌, ◌*◌, ◌<◌, ◌≤◌, ◌&&◌, ◌||◌, nat_le, Bool, true, false, if◌then◌else◌, List, [], ◌∷◌, length, Option, Some, None, Result}
use Rattle.std.specs.List.{AllByRecursion}
use Rattle.hex.specs.Hex.{encode_lower}
use Rattle.vp_text.specs.Reading.{scan, word_step}

-- the most bytes of a datagram
abbrev pub most_bytes : ℕ
most_bytes = 16384

-- 1 to 16,384 bytes
pub record IsDatagram (bytes : List ℕ) : Type 0 where
  pub some : 1 ≤ length bytes
  pub fits : length bytes ≤ most_bytes
  pub bytes_are : AllByRecursion (λ b. b < 256) bytes

-- The text is the datagram's, each byte as two digits.
pub record IsHex (bytes : List ℕ) (text : List ℕ) : Type 0 where
  pub is : text ≡ encode_lower bytes
  pub datagram : IsDatagram bytes

-- ---- reading

abbrev pub is_digit : ℕ → Bool
is_digit c = (nat_le 48 c && nat_le c 57) || (nat_le 97 c && nat_le c 102)

abbrev pub digit_value : ℕ → ℕ
digit_value c = if nat_le c 57 then c - 48 else c - 87

-- digits stand in pairs
abbrev pub is_paired : List ℕ → Bool
is_paired [] = true
is_paired (high ∷ []) = false
is_paired (high ∷ low ∷ digits) = is_paired digits

abbrev pub bytes_of : List ℕ → List ℕ
bytes_of [] = []
bytes_of (high ∷ []) = []
bytes_of (high ∷ low ∷ digits) = (digit_value high * 16 + digit_value low) ∷ bytes_of digits

abbrev pub pairs_done : List ℕ → Option (List ℕ)
pairs_done [] = None
pairs_done (c ∷ digits) = if is_paired (c ∷ digits) then Some (bytes_of (c ∷ digits)) else None

abbrev pub most_digits : ℕ
most_digits = 32768

unfoldable pub bytes_at : List ℕ → Result (List ℕ × List ℕ) ℕ
bytes_at bytes = scan (word_step is_digit most_digits) pairs_done [] bytes
