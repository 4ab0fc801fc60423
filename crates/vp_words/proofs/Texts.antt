-- Words as text, and the text of an operand.
use Rattle.std.proofs.Common.{◌≡◌, ℕ, ◌+◌, ◌<◌, Bool, true, false, ◌&&◌, List, [], ◌∷◌, ◌++◌, length, get_or, take, drop, map, Some, None, refl, sym, ap, ap₂, ◌∙◌, IsUtf8}
use Rattle.std.specs.Borrow.{Bor}
use Rattle.std.specs.List.{list_all}
use Rattle.std.specs.Prelude.{if◌then◌else◌}
use Rattle.std.specs.Str.{is_utf8}
use Rattle.std.proofs.lemmas.List.{drop_more, map-append, take_more}
use Rattle.std.proofs.lemmas.List.Folds.{list_all_at}
use Rattle.std.proofs.lemmas.Str.{IsUtf8-from_is_utf8, is_utf8-from_IsUtf8}
-- the first value of an operand, in its row
pub use Rattle.clap.proofs.WalkLemmas.{first_value-rows as first_rows}

abbrev Text : Type 0
Text = List ℕ

abbrev now : List (Bor Text) → List Text
now = map (λ text. text.now)

not_utf8 : (word : Text) → (IsUtf8 word → ⊥) → is_utf8 word ≡ false
not_utf8 word none = go (is_utf8 word) refl
  where
    go : (b : Bool) → is_utf8 word ≡ b → b ≡ false
    go true e = absurd (none (IsUtf8-from_is_utf8 word e))
    go false e = refl

-- a word that isn't UTF-8
pub refused : (words : List Text) (i : ℕ) (word : Text) → i < length words → word ≡ get_or words i word → (IsUtf8 word → ⊥)
    → (if list_all is_utf8 words then Some words else None) ≡ None
refused words i word lt is none =
    let found : is_utf8 (get_or words i word) ≡ false = ap is_utf8 (sym is) ∙ not_utf8 word none in
    rw (list_all_at is_utf8 words i word lt found) refl

-- one more text
pub kept : (words : List Text) (before after : List (Bor Text)) (text : Bor Text) (i : ℕ) (word : Text) → i < length words → word ≡ get_or words i word
    → text.now ≡ word → IsUtf8 word → after ≡ before ++ text ∷ []
    → now before ≡ take i words → list_all is_utf8 words ≡ list_all is_utf8 (drop i words)
    → (now after ≡ take (i + 1) words) × (list_all is_utf8 words ≡ list_all is_utf8 (drop (i + 1) words))
kept words before after text i word lt is same utf8 pushed taken ahead =
    let fine : is_utf8 (get_or words i word) ≡ true = ap is_utf8 (sym is) ∙ is_utf8-from_IsUtf8 word utf8 in (
      ap now pushed ∙ map-append (λ (t : Bor Text). t.now) before (text ∷ []) ∙ ap₂ (λ (x : List Text) (y : Text). x ++ y ∷ []) taken (same ∙ is) ∙ sym (take_more words i word lt),
      ahead ∙ ap (list_all is_utf8) (drop_more words i word lt) ∙ ap (λ (b : Bool). b && list_all is_utf8 (drop (i + 1) words)) fine,
    )
