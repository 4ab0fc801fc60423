-- Numbers in a fixed count of bytes, the highest byte first.
use Rattle.std.specs.Prelude.{◌≡◌, ℕ, ◌<◌, List, length}
use Rattle.std.specs.List.{AllByRecursion}
use Rattle.byteorder.specs.Endian.{big_number, big_bytes}

abbrev pub IsByte : ℕ → Type 0
IsByte c = c < 256

-- Of the byte strings of one length, only the number's own bytes are read as that number.
abbrev pub OnlyItsOwnBytesReadAsANumber : Type 0
OnlyItsOwnBytesReadAsANumber =
    (n x : ℕ) (bytes : List ℕ) → length bytes ≡ n → AllByRecursion IsByte bytes → big_number n bytes ≡ x → bytes ≡ big_bytes n x
