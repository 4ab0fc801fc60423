use Rattle.std.proofs.Common.{refl, sym, ap, ◌≡◌, ◌∙◌, List, ℕ, Some, Option, Vec, Global, Bor, map, option_map, true, false}
use Rattle.std.proofs.lemmas.Result.{IfOk-weaker}
use Rattle.clap.specs.Faults.{is_simple_and_free}
use Rattle.clap.specs.Words.{app_of, is_simple}
use Rattle.vp_words.specs.Parsed.{has_hyphen}
use Rattle.vp_words.proofs.Spelling.{as_text, of_failure, of_hyphen, of_matches, of_no_text}
use Rattle.vp_words.proofs.words.Command.of.Goals as goal

abbrev now : List (Bor (List ℕ)) → List (List ℕ)
now = map (λ text. text.now)

text_is : (words : List (List ℕ)) (found : Option (Vec (Bor (List ℕ)) Global)) (texts : Vec (Bor (List ℕ)) Global) (slice : List (Bor (List ℕ)))
    → option_map (λ texts. now texts.items) found ≡ as_text words → found ≡ Some texts → slice ≡ texts.items → Some (now slice) ≡ as_text words
text_is words found texts slice e is same = ap (λ (l : List (Bor (List ℕ))). Some (now l)) same ∙ sym (ap (option_map (λ texts. now texts.items)) is) ∙ e

pub returns-in_default-clause-command : goal.returns-in_default-clause-command
returns-in_default-clause-command c = of_no_text c.args.words.now (sym (ap (option_map (λ texts. now texts.items)) c.in_default.is) ∙ c.in_ok-texts.ensures)

pub returns-then-has_hyphen-clause-command : goal.returns-then-has_hyphen-clause-command
returns-then-has_hyphen-clause-command c =
    let text = text_is c.args.words.now c.in_ok-texts.field-0 c.in-Some.texts c.as_slice.result.now c.in_ok-texts.ensures c.in-Some.is c.as_slice.ensures.value in
    of_hyphen c.args.words.now _ text (sym c.has_hyphen.ensures ∙ c.if-has_hyphen.true)

pub returns-in-Ok-clause-command : goal.returns-in-Ok-clause-command
returns-in-Ok-clause-command c =
    let is = c.in_ok-program.ensures in
    let text = text_is c.args.words.now c.in_ok-texts.field-0 c.in-Some.texts c.as_slice-2.result.now c.in_ok-texts.ensures c.in-Some.is c.as_slice-2.ensures.value in
    let none = ap (λ (l : List (Bor (List ℕ))). has_hyphen (now l)) (c.as_slice-2.ensures.value ∙ sym c.as_slice.ensures.value) ∙ sym c.has_hyphen.ensures ∙ c.if-has_hyphen.false in
    IfOk-weaker c.command_meant.result _ _
    (λ command h. h ∙ of_matches c.args.words.now _ (app_of c.in_ok-program.field-0) _ text none is (c.in-Ok.ensures.kinds (ap is_simple_and_free is)) ((c.in-Ok.ensures.matches (ap is_simple is)).1)) c.command_meant.ensures.command

pub returns-clause-command : goal.returns-clause-command
returns-clause-command c =
    let is = c.in_ok-program.ensures in
    let text = text_is c.args.words.now c.in_ok-texts.field-0 c.in-Some.texts c.as_slice-2.result.now c.in_ok-texts.ensures c.in-Some.is c.as_slice-2.ensures.value in
    let none = ap (λ (l : List (Bor (List ℕ))). has_hyphen (now l)) (c.as_slice-2.ensures.value ∙ sym c.as_slice.ensures.value) ∙ sym c.has_hyphen.ensures ∙ c.if-has_hyphen.false in
    of_failure c.args.words.now _ (app_of c.in_ok-program.field-0) _ text none is (c.in-Err.ensures.kinds (ap is_simple_and_free is))
    (λ memory. let bad : false ≡ true = sym c.if-eq.false ∙ c.eq.ensures ∙ rw (c.kind.ensures, memory) refl in cc)
