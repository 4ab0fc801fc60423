-- Statements are read exactly.
use Rattle.std.proofs.Common.{◌≡◌, ℕ, true, false, List, [], ◌∷◌, refl, arith}
use Rattle.std.specs.Prelude.{slice_index_or}
use Rattle.std.specs.List.{AllByRecursion}
use Rattle.std.proofs.lemmas.Bool.{false≢true}
use Rattle.vp_text.specs.Tokens.{IsLiteral, IsNumber}
use Rattle.vp_text.specs.Classes.{has}
use Rattle.vp_text.specs.declared.class.Class.TheVariants as classes
use Rattle.vp_text.specs.Reading.{is_digit}
use Rattle.vp_text.proofs.Exact.{Exact, Then, Made, Follows, made_exact, then_exact}
use Rattle.vp_text.proofs.Words.{literal_exact}
use Rattle.vp_text.proofs.Fields.{IsOutside, literal_then, literal_outside, made_outside, number_then}
use Rattle.vp_text.proofs.Choices.{follows_from, made_goes}
use Rattle.vp_base.specs.Words.{IsName, IsPlace}
use Rattle.vp_base.specs.Reading.{starts_any}
use Rattle.vp_base.proofs.Among.{among_exact, place_goes}
use Rattle.vp_procedure.specs.declared.procedure.Statement.{Statement}
use Rattle.vp_procedure.specs.declared.procedure.Statement.TheVariants as statement
use Rattle.vp_procedure.specs.declared.keyword.Keyword.TheVariants as kw
use Rattle.vp_procedure.specs.StatementReading.{record_at, read_at, set_at, write_at, comparison, if_at, fail_at, result_at}
use Rattle.vp_procedure.proofs.TermTexts.{LetterText, letter_exact, letter_goes}
use Rattle.vp_procedure.proofs.ExprTexts.{ExprText, expr_exact, expr_ends}

-- ---- the fields

module _ (names : List (List ℕ)) where
  abbrev pub RecordText : List ℕ × ℕ → List ℕ → Type 0
  RecordText = Made (IsPlace names) (λ place. (slice_index_or names place [], place))

  abbrev pub ReadText : Statement → List ℕ → Type 0
  ReadText = Then LetterText (λ var. Then (IsLiteral (32 ∷ [])) (λ _. Then RecordText (λ rec. Made (IsLiteral (10 ∷ [])) (λ u. statement.Read var rec.0 rec.1))))

  abbrev pub WriteText : Statement → List ℕ → Type 0
  WriteText = Then RecordText (λ rec. Then (IsLiteral (32 ∷ [])) (λ _. Made (ExprText false) (λ e. statement.Write rec.0 rec.1 e.0)))

abbrev pub SetText : Statement → List ℕ → Type 0
SetText = Then LetterText (λ var. Then (IsLiteral (32 ∷ [])) (λ _. Made (ExprText false) (λ e. statement.Set var e.0)))

abbrev pub IfText : Statement → List ℕ → Type 0
IfText = Then (ExprText true) (λ a. Made (ExprText false) (λ b. comparison a.1 a.0 b.0))

abbrev pub FailText : Statement → List ℕ → Type 0
FailText = Then (IsNumber 0 255) (λ code. Made (IsLiteral (10 ∷ [])) (λ u. statement.Fail code))

abbrev pub ResultText : Statement → List ℕ → Type 0
ResultText = Made (ExprText false) (λ e. statement.Give e.0)

-- ---- they are read exactly

letter_follows : {B : Type 0} (M : ℕ → B → List ℕ → Type 0) → Follows LetterText M
letter_follows M = λ a a2 text x r b t before longer after. absurd (false≢true (letter_goes (λ c. false) a a2 text x r before longer))

module _ (names : List (List ℕ)) (all : AllByRecursion (λ n. IsName n n) names) (some : starts_any names [] ≡ true) where
  pub record_exact : Exact (RecordText names) (record_at names)
  unfolding record_at
  record_exact = made_exact (λ place. (slice_index_or names place [], place)) (among_exact names some)

  record_follows : {B : Type 0} (M : List ℕ × ℕ → B → List ℕ → Type 0) → ((rec : List ℕ × ℕ) → IsOutside (has classes.Name) (M rec)) → Follows (RecordText names) M
  record_follows M outside = follows_from (has classes.Name) (made_goes (has classes.Name) (place_goes names all)) outside

  pub read_exact : Exact (ReadText names) (read_at names)
  unfolding read_at
  read_exact =
      then_exact (letter_follows (λ var. Then (IsLiteral (32 ∷ [])) (λ _. Then (RecordText names) (λ rec. Made (IsLiteral (10 ∷ [])) (λ u. statement.Read var rec.0 rec.1))))) letter_exact
      (λ var. literal_then (32 ∷ []) (then_exact (record_follows (λ rec. Made (IsLiteral (10 ∷ [])) (λ u. statement.Read var rec.0 rec.1)) (λ rec. made_outside (has classes.Name) (10 ∷ []) refl)) record_exact
      (λ rec. made_exact (λ u. statement.Read var rec.0 rec.1) (literal_exact (10 ∷ [])))))

  pub write_exact : Exact (WriteText names) (write_at names)
  unfolding write_at
  write_exact =
      then_exact (record_follows (λ rec. Then (IsLiteral (32 ∷ [])) (λ _. Made (ExprText false) (λ e. statement.Write rec.0 rec.1 e.0))) (λ rec. literal_outside (has classes.Name) (32 ∷ []) refl)) record_exact
      (λ rec. literal_then (32 ∷ []) (made_exact (λ e. statement.Write rec.0 rec.1 e.0) (expr_exact false)))

pub set_exact : Exact SetText set_at
unfolding set_at
set_exact =
    then_exact (letter_follows (λ var. Then (IsLiteral (32 ∷ [])) (λ _. Made (ExprText false) (λ e. statement.Set var e.0)))) letter_exact
    (λ var. literal_then (32 ∷ []) (made_exact (λ e. statement.Set var e.0) (expr_exact false)))

pub if_exact : Exact IfText if_at
unfolding if_at
if_exact =
    then_exact (λ a a2 text x r b t before longer after. absurd (false≢true (expr_ends true a a2 text x r before longer))) (expr_exact true)
    (λ a. made_exact (λ b. comparison a.1 a.0 b.0) (expr_exact false))

pub fail_exact : Exact FailText fail_at
unfolding fail_at
fail_exact = number_then 0 255 (omega arith) (omega arith) (λ n. made_outside is_digit (10 ∷ []) refl) (λ code. made_exact (λ u. statement.Fail code) (literal_exact (10 ∷ [])))

pub result_exact : Exact ResultText result_at
unfolding result_at
result_exact = made_exact (λ e. statement.Give e.0) (expr_exact false)
