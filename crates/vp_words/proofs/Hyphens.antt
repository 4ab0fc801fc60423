-- The operands as they are defined: where there is a `-` before the first `--`, there are none.
use Rattle.std.proofs.Common.{◌≡◌, ℕ, ◌+◌, ◌<◌, ◌≤◌, length, get_or, Bool, true, false, ◌||◌, List, [], ◌∷◌, Option, Some, None, refl, sym, ap, ◌∙◌, codes, map, drop, option_map, inl, inr, not}
use Rattle.std.specs.Borrow.{Bor}
use Rattle.std.specs.Prelude.{nat_eq, option_and_then, if◌then◌else◌}
use Rattle.std.specs.List.{list_all, list_any, starts_with}
use Rattle.std.specs.Str.{bytes_eq, is_utf8}
use Rattle.std.proofs.lemmas.Bool.{and_parts}
use Rattle.std.proofs.lemmas.List.{at_drop_all, at_drop_more}
use Rattle.std.proofs.lemmas.List.Sums.{take_while-cons}
use Rattle.std.proofs.lemmas.Slice.Eq.{bytes_eq-Decides}
use Rattle.clap.specs.Walk.{Text}
use Rattle.vp_words.specs.Commands.{command_named, operands, command_of_words}
use Rattle.vp_words.specs.Parsed.{has_hyphen}
use Rattle.vp_words.proofs.Operands.{look, none_after, seen, seen_plain}
use Rattle.vp_words.proofs.Operands.Look.{dashes, long, plain, short}

-- from one word on to the next
pub hyphen_on : (word : Text) (words : List Text) → bytes_eq word (45 ∷ 45 ∷ []) ≡ false → has_hyphen (word ∷ words) ≡ (bytes_eq word (45 ∷ []) || has_hyphen words)
unfolding has_hyphen
hyphen_on word words other = ap (list_any (λ word. bytes_eq word (codes "-"))) (take_while-cons (λ word. not (bytes_eq word (codes "--"))) word words) ∙ rw other refl

pub hyphen_ends : (word : Text) (words : List Text) → bytes_eq word (45 ∷ 45 ∷ []) ≡ true → has_hyphen (word ∷ words) ≡ false
unfolding has_hyphen
hyphen_ends word words same = rw same refl

pub hyphen_met : (word : Text) (words : List Text) → word ≡ 45 ∷ [] → has_hyphen (word ∷ words) ≡ true
hyphen_met word words is = ap (λ (w : Text). has_hyphen (w ∷ words)) is ∙ hyphen_on (45 ∷ []) words refl

pub neither : (a b : Bool) → (a || b) ≡ false → b ≡ false
neither true b e = absurd cc
neither false b e = e

operands_plain : (word : Text) (words : List Text) → bytes_eq word (45 ∷ 45 ∷ []) ≡ false → starts_with nat_eq word (45 ∷ []) ≡ false → operands (word ∷ words) ≡ option_map (λ rest. word ∷ rest) (operands words)
operands_plain word words dashed begins = rw (dashed, begins) refl

-- where there is no such word, `clap` finds the operands
pub seen_operands : (words : List Text) → list_all is_utf8 words ≡ true → has_hyphen words ≡ false → seen words ≡ operands words
unfolding seen
seen_operands [] u h = refl
seen_operands (word ∷ words) u h =
    let parts = and_parts (is_utf8 word) (list_all is_utf8 words) u in
    elim (look word parts.0) [
      | dashes e ↦ rw e refl
      | long w ↦ rw (w.dashes, w.begins, w.more) refl
      | short w ↦ rw (w.dashes, w.begins, w.more) refl
      | plain w ↦ elim w.begins [
        | inl e ↦ absurd (let bad : true ≡ false = sym (hyphen_met word words e) ∙ h in cc)
        | inr other ↦
            let rest = neither (bytes_eq word (45 ∷ [])) (has_hyphen words) (sym (hyphen_on word words w.dashes) ∙ h) in
            seen_plain word words w ∙ ap (option_map (λ rest. word ∷ rest)) (seen_operands words parts.1 rest) ∙ sym (operands_plain word words w.dashes other)
      ]
    ]

-- where there is one, there are no operands
no_operands : (word : Text) (words : List Text) → bytes_eq word (45 ∷ 45 ∷ []) ≡ false → operands words ≡ None → operands (word ∷ words) ≡ None
no_operands word words other none =
    ap (λ (d : Bool). chosen d (starts_with nat_eq word (45 ∷ [])) (operands words)) other
    ∙ ap (chosen false (starts_with nat_eq word (45 ∷ []))) none ∙ nothing (starts_with nat_eq word (45 ∷ []))
  where
    chosen : Bool → Bool → Option (List Text) → Option (List Text)
    chosen d b rest = if d then Some words else (if b then None else option_map (λ rest. word ∷ rest) rest)

    nothing : (b : Bool) → chosen false b None ≡ None
    nothing true = refl
    nothing false = refl

hyphen_operands : (words : List Text) → has_hyphen words ≡ true → operands words ≡ None
unfolding has_hyphen
hyphen_operands [] h = absurd cc
hyphen_operands (word ∷ words) h = dashed (bytes_eq word (45 ∷ 45 ∷ [])) refl (hyphen_operands words)
  where
    alone : bytes_eq word (45 ∷ 45 ∷ []) ≡ false → (has_hyphen words ≡ true → operands words ≡ None) → (b : Bool) → bytes_eq word (45 ∷ []) ≡ b → operands (word ∷ words) ≡ None
    alone other again true e = rw ((bytes_eq-Decides word (45 ∷ [])).0 e) refl
    alone other again false e = no_operands word words other (again (sym (hyphen_on word words other ∙ ap (λ (b : Bool). b || has_hyphen words) e) ∙ h))

    dashed : (b : Bool) → bytes_eq word (45 ∷ 45 ∷ []) ≡ b → (has_hyphen words ≡ true → operands words ≡ None) → operands (word ∷ words) ≡ None
    dashed true e again = absurd (let bad : false ≡ true = sym (hyphen_ends word words e) ∙ h in cc)
    dashed false e again = alone e again (bytes_eq word (45 ∷ [])) refl

-- and no command
pub hyphen_spelled : (words : List Text) → has_hyphen words ≡ true → command_of_words words ≡ None
unfolding has_hyphen
hyphen_spelled [] h = refl
hyphen_spelled (name ∷ words) h = dashed (bytes_eq name (45 ∷ 45 ∷ [])) refl
  where
    alone : bytes_eq name (45 ∷ 45 ∷ []) ≡ false → (b : Bool) → bytes_eq name (45 ∷ []) ≡ b → command_of_words (name ∷ words) ≡ None
    alone other true e = rw ((bytes_eq-Decides name (45 ∷ [])).0 e) (none_after (operands words))
    alone other false e =
        let rest : has_hyphen words ≡ true = sym (hyphen_on name words other ∙ ap (λ (b : Bool). b || has_hyphen words) e) ∙ h in
        ap (option_and_then (command_named name)) (hyphen_operands words rest)

    dashed : (b : Bool) → bytes_eq name (45 ∷ 45 ∷ []) ≡ b → command_of_words (name ∷ words) ≡ None
    dashed true e = absurd (let bad : false ≡ true = sym (hyphen_ends name words e) ∙ h in cc)
    dashed false e = alone e (bytes_eq name (45 ∷ [])) refl

-- ---- the words as the loop sees them

abbrev now : List (Bor Text) → List Text
now = map (λ text. text.now)

-- the test of the remaining words is the test of all words
abbrev pub StandsAt : List (Bor Text) → ℕ → Type 0
StandsAt texts i = has_hyphen (now texts) ≡ has_hyphen (now (drop i texts))

module _ (texts : List (Bor Text)) (i : ℕ) (text : Bor Text) (stands : StandsAt texts i) where
  here : i < length texts → has_hyphen (now texts) ≡ has_hyphen ((get_or texts i text).now ∷ now (drop (i + 1) texts))
  here lt = stands ∙ at_drop_more (λ (l : List (Bor Text)). has_hyphen (now l)) texts i text lt

  pub loop_ends : i < length texts → bytes_eq (get_or texts i text).now (45 ∷ 45 ∷ []) ≡ true → false ≡ has_hyphen (now texts)
  loop_ends lt e = sym (here lt ∙ hyphen_ends (get_or texts i text).now (now (drop (i + 1) texts)) e)

  step : (b : Bool) → i < length texts → bytes_eq (get_or texts i text).now (45 ∷ 45 ∷ []) ≡ false → bytes_eq (get_or texts i text).now (45 ∷ []) ≡ b
      → has_hyphen (now texts) ≡ (b || has_hyphen (now (drop (i + 1) texts)))
  step b lt other e =
      here lt ∙ hyphen_on (get_or texts i text).now (now (drop (i + 1) texts)) other ∙ ap (λ (b : Bool). b || has_hyphen (now (drop (i + 1) texts))) e

  pub loop_met : i < length texts → bytes_eq (get_or texts i text).now (45 ∷ 45 ∷ []) ≡ false → bytes_eq (get_or texts i text).now (45 ∷ []) ≡ true → true ≡ has_hyphen (now texts)
  loop_met lt other e = sym (step true lt other e)

  pub loop_goes : i < length texts → bytes_eq (get_or texts i text).now (45 ∷ 45 ∷ []) ≡ false → bytes_eq (get_or texts i text).now (45 ∷ []) ≡ false → StandsAt texts (i + 1)
  loop_goes lt other e = step false lt other e

pub loop_done : (texts : List (Bor Text)) (i : ℕ) → StandsAt texts i → length texts ≤ i → false ≡ has_hyphen (now texts)
unfolding has_hyphen
loop_done texts i stands le = sym (stands ∙ at_drop_all (λ (l : List (Bor Text)). has_hyphen (now l)) texts i le)
