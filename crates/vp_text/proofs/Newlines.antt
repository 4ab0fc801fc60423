-- Texts without newlines, and lines made of them.
use Rattle.std.proofs.Common.{◌≡◌, ℕ, ◌^◌, ◌<◌, List, [], ◌∷◌, ◌++◌, Bool, true, refl, sym, ap, ◌∙◌, arith, append_assoc}
use Rattle.std.specs.Prelude.{nat_lt, ◌&&◌}
use Rattle.std.specs.Fmt.{decimal}
use Rattle.std.proofs.lemmas.Bool.{and_parts, ltb-true}
use Rattle.vp_text.specs.Documents.{HasNoNewline, IsLine}
use Rattle.vp_text.proofs.Items.{all_append, all_each}
use Rattle.vp_text.proofs.Numbers.{IsDigit, decimal_digits}

pub both : (a b : List ℕ) → HasNoNewline a → HasNoNewline b → HasNoNewline (a ++ b)
both = all_append (λ c. c ≡ 10 → ⊥)

pub decimal_clean : (n : ℕ) → n < 2 ^ 64 → HasNoNewline (decimal n)
decimal_clean n fits = all_each IsDigit (λ c. c ≡ 10 → ⊥) (λ c digit same. omega arith) (decimal n) (decimal_digits n fits)

abbrev pub clean : List ℕ → Bool
clean [] = true
clean (c ∷ key) = nat_lt 10 c && clean key

-- a short text without newlines, found by computing
pub key_clean : (key : List ℕ) → clean key ≡ true → HasNoNewline key
key_clean [] e = tt
key_clean (c ∷ key) e = let h = and_parts (nat_lt 10 c) (clean key) e in (λ same. let lt = ltb-true 10 c h.0 in omega arith, key_clean key h.1)

-- ---- lines

pub last_line : IsLine (10 ∷ [])
last_line = ([], tt, refl)

pub line_push : (p l : List ℕ) → HasNoNewline p → IsLine l → IsLine (p ++ l)
line_push p l h k = (p ++ k.0, both p k.0 h k.1, ap (λ (x : List ℕ). p ++ x) k.2 ∙ sym (append_assoc p k.0 (10 ∷ [])))

pub key_line : (key : List ℕ) → clean key ≡ true → IsLine (key ++ 10 ∷ [])
key_line key e = line_push key (10 ∷ []) (key_clean key e) last_line
