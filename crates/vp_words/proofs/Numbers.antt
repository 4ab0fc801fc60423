-- Numbers of words.
use Rattle.std.proofs.Common.{◌≡◌, ℕ, ◌<◌, ◌≤◌, ◌^◌, Bool, true, false, cond, ◌&&◌, List, Some, None, Result, Ok, Err, refl, sym, ap, ◌∙◌, arith}
use Rattle.std.specs.Fmt.{decimal}
use Rattle.std.specs.Prelude.{nat_le}
use Rattle.std.specs.Str.{bytes_eq}
use Rattle.std.specs.Str.Parse.{digits_value}
use Rattle.std.proofs.lemmas.Bool.{le-leb, leb-true, and_parts}
use Rattle.std.proofs.lemmas.Fmt.{decimal_is_IsNumeral}
use Rattle.std.proofs.lemmas.Slice.Eq.{bytes_eq-Decides}
use Rattle.std.specs.Option.{IfSome}
use Rattle.std.specs.Result.{IfOk, result_ok}
use Rattle.vp_text.specs.Reading.{Reads, whole, number_at}
use Rattle.vp_text.specs.Tokens.{IsNumber}
use Rattle.vp_text.specs.declared.cursor.Unexpected.{Unexpected}
use Rattle.vp_text.proofs.Numbers.{number_exact}
use Rattle.vp_text.proofs.Whole.{whole_ok, whole_err}
use Rattle.vp_words.specs.Commands.{number}

-- the number of a word that is a number
number_some : (least most n : ℕ) (word : List ℕ) → n < 2 ^ 64 → IsNumber least most n word → number least most word ≡ Some n
number_some least most n word fits h =
    let value : digits_value 10 word ≡ n = ap (digits_value 10) h.is ∙ (decimal_is_IsNumeral n fits).1 in
    let same : bytes_eq word (decimal n) ≡ true = (bytes_eq-Decides word (decimal n)).1 h.is in
    let large : nat_le least n ≡ true = le-leb least n h.above in
    let small : nat_le n most ≡ true = le-leb n most h.below in
    rw (value, same, large, small) refl

number_none : (least most : ℕ) (word : List ℕ) → ((n : ℕ) → IsNumber least most n word → ⊥) → number least most word ≡ None
number_none least most word none = go (bytes_eq word (decimal value) && (nat_le least value && nat_le value most)) refl
  where
    value : ℕ
    value = digits_value 10 word

    go : (b : Bool) → (bytes_eq word (decimal value) && (nat_le least value && nat_le value most)) ≡ b → cond b (Some value) None ≡ None
    go true e =
        let parts = and_parts (bytes_eq word (decimal value)) (nat_le least value && nat_le value most) e in
        let range = and_parts (nat_le least value) (nat_le value most) parts.1 in
        absurd (none value (record { is = (bytes_eq-Decides word (decimal value)).0 parts.0; above = leb-true least value range.0; below = leb-true value most range.1 }))
    go false e = refl

-- what reading the whole word gives
number_read : (least most n : ℕ) (rest word : List ℕ) → least ≤ most → most < 2 ^ 64 → whole (number_at least most) word ≡ Ok (n, rest) → number least most word ≡ Some n
number_read least most n rest word range fits read =
    let is = whole_ok (number_exact least most range fits) word n rest read in
    number_some least most n word (omega (arith, is.below)) is

number_refused : (least most left : ℕ) (word : List ℕ) → least ≤ most → most < 2 ^ 64 → whole (number_at least most) word ≡ Err left → number least most word ≡ None
number_refused least most left word range fits read =
    number_none least most word (whole_err (number_exact least most range fits) word left read).1.none

pub number_ok : (least most : ℕ) (word after : List ℕ) (r : Result ℕ Unexpected) → least ≤ most → most < 2 ^ 64
    → Reads (λ n. n) (λ e. e.left) r after (whole (number_at least most) word) → result_ok r ≡ number least most word
number_ok least most word after (Ok n) range fits read = sym (number_read least most n after word range fits read)
number_ok least most word after (Err e) range fits read = sym (number_refused least most e.left word range fits read)

pub some_in : {E : Type 0} (P : ℕ → Type 0) (r : Result ℕ E) → IfOk r P → IfSome (result_ok r) P
some_in P (Ok n) h = h
some_in P (Err e) h = h
