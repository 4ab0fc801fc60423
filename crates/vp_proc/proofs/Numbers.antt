-- Contents that are numbers.
use Rattle.std.proofs.Common.{◌≡◌, ℕ, ◌<◌, ◌^◌, Bool, true, false, cond, ◌&&◌, List, Some, None, Result, Ok, Err, refl, sym, ap, ◌∙◌, arith}
use Rattle.std.specs.Fmt.{decimal}
use Rattle.std.specs.Prelude.{nat_le}
use Rattle.std.specs.Result.{result_ok}
use Rattle.std.specs.Str.{bytes_eq}
use Rattle.std.specs.Str.Parse.{digits_value}
use Rattle.std.proofs.lemmas.Bool.{le-leb, leb-true, and_parts}
use Rattle.std.proofs.lemmas.Bool.Decides.{nat_tests}
use Rattle.std.proofs.lemmas.Fmt.{decimal_is_IsNumeral, decimal_nonempty, length-decimal-le}
use Rattle.std.proofs.lemmas.Slice.Eq.{bytes_eq-Decides}
use Rattle.vp_text.specs.Classes.{has}
use Rattle.vp_text.specs.declared.class.Class.TheVariants as classes
use Rattle.vp_text.specs.Reading.{Reads, whole, number_at}
use Rattle.vp_text.specs.Tokens.{IsNumber}
use Rattle.vp_text.specs.declared.cursor.Unexpected.{Unexpected}
use Rattle.vp_text.proofs.Items.{all_each}
use Rattle.vp_text.proofs.Numbers.{IsDigit, decimal_digits, number_exact}
use Rattle.vp_text.proofs.Whole.{whole_ok, whole_err}
use Rattle.vp_base.specs.Words.{IsValue}
use Rattle.vp_proc.specs.Scripts.{greatest, number_in}

-- the number of a text that is one
number_some : (n : ℕ) (text : List ℕ) → IsNumber 0 greatest n text → number_in (Some text) ≡ Some n
number_some n text h =
    let value : digits_value 10 text ≡ n = ap (digits_value 10) h.is ∙ (decimal_is_IsNumeral n (omega (arith, h.below))).1 in
    let same : bytes_eq text (decimal n) ≡ true = (bytes_eq-Decides text (decimal n)).1 h.is in
    let small : nat_le n greatest ≡ true = le-leb n greatest h.below in
    rw (value, same, small) refl

number_none : (text : List ℕ) → ((n : ℕ) → IsNumber 0 greatest n text → ⊥) → number_in (Some text) ≡ None
number_none text none = go (bytes_eq text (decimal value) && nat_le value greatest) refl
  where
    value : ℕ
    value = digits_value 10 text

    go : (b : Bool) → (bytes_eq text (decimal value) && nat_le value greatest) ≡ b → cond b (Some value) None ≡ None
    go true e =
        let parts = and_parts (bytes_eq text (decimal value)) (nat_le value greatest) e in
        absurd (none value (record { is = (bytes_eq-Decides text (decimal value)).0 parts.0; above = omega arith; below = leb-true value greatest parts.1 }))
    go false e = refl

-- what reading the whole text gives
pub number_read : (text after : List ℕ) (r : Result ℕ Unexpected) → Reads (λ n. n) (λ e. e.left) r after (whole (number_at 0 greatest) text) → result_ok r ≡ number_in (Some text)
number_read text after (Ok n) read = sym (number_some n text (whole_ok (number_exact 0 greatest (omega arith) (omega arith)) text n after read))
number_read text after (Err e) read = sym (number_none text (whole_err (number_exact 0 greatest (omega arith) (omega arith)) text e.left read).1.none)

digit_values : (c : ℕ) → IsDigit c → has classes.Value c ≡ true
digit_values c h = grind (arith, nat_tests, h)

-- the decimal text of a number is a value
pub number_is_value : (n : ℕ) → n < 2 ^ 64 → IsValue (decimal n) (decimal n)
number_is_value n fits = record {
  is = refl;
  some = decimal_nonempty n fits;
  short = let few = length-decimal-le 20 n (omega arith) (omega (arith, fits)) fits in omega (arith, few);
  each = all_each IsDigit (λ c. has classes.Value c ≡ true) digit_values (decimal n) (decimal_digits n fits);
}
