-- The lines of recordings are lines.
use Rattle.std.proofs.Common.{◌≡◌, ℕ, ◌^◌, ◌<◌, List, [], ◌∷◌, ◌++◌, true, sym, subst, arith}
use Rattle.std.specs.Fmt.{decimal}
use Rattle.std.proofs.lemmas.Bool.Decides.{nat_tests}
use Rattle.hex.specs.Hex.{encode_lower}
use Rattle.vp_text.specs.Documents.{HasNoNewline, IsLine, word_line}
use Rattle.vp_text.proofs.Items.{all_each}
use Rattle.vp_text.proofs.Newlines.{decimal_clean, clean, key_clean, key_line, last_line, line_push}
use Rattle.vp_model.specs.Words.{has}
use Rattle.vp_catalog.specs.Sites.{AllSites}
use Rattle.vp_catalog.proofs.Sites.{site_range}
use Rattle.vp_recording.specs.Hex.{IsDatagram, is_digit}
use Rattle.vp_recording.specs.Lines.{hex_line, number_line}
use Rattle.vp_recording.proofs.Digits.{written_are}

digit_clean : (c : ℕ) → is_digit c ≡ true → c ≡ 10 → ⊥
digit_clean c h e = grind (arith, nat_tests, h, e)

worded_line : (word text : List ℕ) → clean word ≡ true → HasNoNewline text → IsLine (word_line word text)
worded_line word text e h = line_push word (text ++ 10 ∷ []) (key_clean word e) (line_push text (10 ∷ []) h last_line)

pub hex_is_line : (word : List ℕ) → clean word ≡ true → (frame t : List ℕ) → IsDatagram frame → t ≡ hex_line word frame → IsLine t
hex_is_line word e frame t d is =
    subst IsLine (sym is) (worded_line word (encode_lower frame) e (all_each (λ c. is_digit c ≡ true) (λ c. c ≡ 10 → ⊥) digit_clean (encode_lower frame) (written_are frame d.bytes_are).digits))

pub number_is_line : (word : List ℕ) → clean word ≡ true → (n : ℕ) (t : List ℕ) → n < 2 ^ 64 → t ≡ number_line word n → IsLine t
number_is_line word e n t fits is = subst IsLine (sym is) (worded_line word (decimal n) e (decimal_clean n fits))

pub site_is_line : (sites : List ℕ) → AllSites sites → (word : List ℕ) → clean word ≡ true → (site : ℕ) (t : List ℕ) → has sites site ≡ true → t ≡ number_line word site → IsLine t
site_is_line sites all word e site t on is = number_is_line word e site t (omega (arith, (site_range sites site all on).1)) is

pub word_is_line : (word t : List ℕ) → clean word ≡ true → t ≡ word ++ 10 ∷ [] → IsLine t
word_is_line word t e is = subst IsLine (sym is) (key_line word e)
