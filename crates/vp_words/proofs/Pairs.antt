-- The words of an audit: `clap` takes them for one operand, and then they are sites and logs in turn.
use Rattle.std.proofs.Common.{◌≡◌, ℕ, ◌+◌, ◌*◌, ◌<◌, ◌≤◌, Bool, true, false, List, [], ◌∷◌, ◌++◌, length, get_or, drop, map, Option, Some, None, refl, sym, ap, subst, ◌∙◌, arith, max, codes, option_map, append_assoc}
use Rattle.std.specs.Borrow.{Bor}
use Rattle.std.specs.Fmt.{decimal}
use Rattle.std.specs.Prelude.{◌&&◌, IsSomeAnd, nat_le, nat_lt, option_and_then, if◌then◌else◌}
use Rattle.std.specs.List.{list_all}
use Rattle.std.specs.Str.{bytes_eq, is_utf8}
use Rattle.std.specs.Str.Parse.{digits_value}
use Rattle.std.proofs.lemmas.Bool.{and_parts, le-ltb, leb-true, lt-ltb, ltb-true, ne_eqb}
use Rattle.std.proofs.lemmas.Option.{cond_some, none-some}
use Rattle.std.proofs.lemmas.List.{append-nil, at_drop_all, at_drop_more}
use Rattle.clap.proofs.OnLiterals.{clap_on_literals}
use Rattle.clap.specs.Kinds.{Kinds, or_else, range_kinds, values_kinds}
use Rattle.clap.specs.Simple.{Shape}
use Rattle.clap.specs.Walk.{Row, Text, rows_of, walked}
use Rattle.clap.proofs.WalkLemmas.{raw_values-rows}
use Rattle.clap.specs.Matches.{matched_of, raw_values}
use Rattle.clap.specs.declared.builder.range.ValueRange.{ValueRange}
use Rattle.clap.specs.declared.parser.matches.Found.{Found}
use Rattle.clap.specs.declared.error.kind.ErrorKind.{ErrorKind}
use Rattle.clap.specs.declared.builder.value_parser.Reading.TheVariants as reading
use Rattle.clap.specs.declared.builder.value_parser.ValueParser.TheVariants as parser
use Rattle.clap.specs.declared.parser.matches.ValueSource.TheVariants.{CommandLine}
use Rattle.vp_words.specs.Commands.{auditing, pairs, site}
use Rattle.vp_words.specs.Parsed.{audit_app, audit_command, command_meant}
use Rattle.vp_words.specs.declared.words.Command.TheVariants as commands
use Rattle.vp_words.proofs.Operands.{HasNoFlag, Kept, found, found_next, at, level, level_goes, level_kinds, outcome, plain_turn, plain_walk, seen, within}
use Rattle.vp_words.proofs.Parsing.{command_shape, nothing}

-- ---- one operand of several words

abbrev pub audit_shape : Shape
audit_shape = command_shape audit_app

abbrev audit_row : List Text → Row
audit_row words = record { id = codes "PAIRS"; values = words; count = None; source = Some CommandLine; reading = reading.AsWritten }

-- the row of the words, where they are 2 to 32
abbrev pub audit_rows : List Text → Option (List Row)
audit_rows words = outcome (range_kinds 2 32 (length words)) (audit_row words ∷ [])

-- after the first word and these
abbrev following : Text → List Text → Kept
following word words = ([], Some (codes "PAIRS", word ∷ words))

no_flag : HasNoFlag audit_shape
unfolding clap_on_literals
no_flag = record { long = λ n. refl; short = λ c. refl }

texts_fine : (words : List Text) → values_kinds false parser.String words ≡ []
texts_fine [] = refl
texts_fine (word ∷ words) = texts_fine words

counted : (k : Kinds) (rows : List Row) → outcome (or_else (or_else k []) []) rows ≡ outcome k rows
counted [] rows = refl
counted (k ∷ ks) rows = refl

ended : (word : Text) (words : List Text) (t : Bool) → level audit_shape (within true (following word words) 1 t) [] ≡ audit_rows (word ∷ words)
unfolding level level_kinds clap_on_literals
ended word words t =
    ap (λ (fine : Kinds). outcome (or_else (or_else (range_kinds 2 32 (length (word ∷ words))) fine) []) (audit_row (word ∷ words) ∷ [])) (texts_fine (word ∷ words))
    ∙ counted (range_kinds 2 32 (length (word ∷ words))) (audit_row (word ∷ words) ∷ [])

goes : (first : Text) (words : List Text) (word : Text) (rest : List Text)
    → level audit_shape (within true (following first words) 1 true) (word ∷ rest) ≡ level audit_shape (within true (following first (words ++ word ∷ [])) 1 true) rest
unfolding walked clap_on_literals
goes first words word rest = level_goes audit_shape (within true (following first words) 1 true) (within true (following first (words ++ word ∷ [])) 1 true) word rest refl refl

trailing : (first : Text) (words rest : List Text) → level audit_shape (within true (following first words) 1 true) rest ≡ audit_rows (first ∷ words ++ rest)
trailing first words [] = ended first words true ∙ ap (λ (l : List Text). audit_rows (first ∷ l)) (sym (append-nil words))
trailing first words (word ∷ rest) =
    goes first words word rest ∙ trailing first (words ++ word ∷ []) rest ∙ ap (λ (l : List Text). audit_rows (first ∷ l)) (append_assoc words (word ∷ []) rest)

taken : (first : Text) (words rest : List Text) → list_all is_utf8 rest ≡ true
    → level audit_shape (within true (following first words) 1 false) rest ≡ option_and_then (λ more. audit_rows (first ∷ words ++ more)) (seen rest)
unfolding seen walked clap_on_literals
taken first words [] u = ended first words false ∙ ap (λ (l : List Text). audit_rows (first ∷ l)) (sym (append-nil words))
taken first words (word ∷ rest) u =
    let parts = and_parts (is_utf8 word) (list_all is_utf8 rest) u in
    found_next audit_shape true (following first words) 1 (λ more. audit_rows (first ∷ words ++ more)) no_flag (trailing first words) word rest parts.0
    (λ w. level_goes audit_shape (within true (following first words) 1 false) (within true (following first (words ++ word ∷ [])) 1 false) word rest
    (plain_turn audit_shape true (following first words) 1 word w) (plain_walk audit_shape true (following first words) 1 word w)
    ∙ taken first (words ++ word ∷ []) rest parts.1 ∙ moved (seen rest))
  where
    moved : (o : Option (List Text)) → option_and_then (λ more. audit_rows (first ∷ (words ++ word ∷ []) ++ more)) o ≡ option_and_then (λ more. audit_rows (first ∷ words ++ word ∷ more)) o
    moved None = refl
    moved (Some more) = ap (λ (l : List Text). audit_rows (first ∷ l)) (append_assoc words (word ∷ []) more)

pub audit_found : (words : List Text) → list_all is_utf8 words ≡ true → level audit_shape (at nothing 1 false) words ≡ option_and_then audit_rows (seen words)
unfolding level level_kinds walked clap_on_literals
audit_found = found audit_shape nothing 1 audit_rows no_flag dashed
    (λ word words w u. level_goes audit_shape (at nothing 1 false) (within true (following word []) 1 false) word words
    (plain_turn audit_shape false nothing 1 word w) (plain_walk audit_shape false nothing 1 word w) ∙ taken word [] words u)
  where
    dashed : (words : List Text) → level audit_shape (at nothing 1 true) words ≡ audit_rows words
    dashed [] = refl
    dashed (word ∷ words) = level_goes audit_shape (at nothing 1 true) (within true (following word []) 1 true) word words refl refl ∙ trailing word [] words

-- ---- sites and logs in turn

abbrev Logs : Type 0
Logs = List (ℕ × Text)

site_below : (word : Text) (n : ℕ) → site word ≡ Some n → n ≤ 16
site_below word n e =
    let value = digits_value 10 word in
    let some = cond_some (bytes_eq word (decimal value) && (nat_le 1 value && nat_le value 16)) value n e in
    let parts = and_parts (bytes_eq word (decimal value)) (nat_le 1 value && nat_le value 16) some.0 in
    let below = leb-true value 16 (and_parts (nat_le 1 value) (nat_le value 16) parts.1).1 in
    subst (λ (m : ℕ). m ≤ 16) some.1 below

abbrev from_site : ℕ → Text → List Text → ℕ → Option Logs
from_site last log words n = if nat_lt last n then option_map (λ more. (n, log) ∷ more) (pairs n words) else None

-- there are at most 16 sites
few : (last : ℕ) (words : List Text) (logs : Logs) → last ≤ 16 → pairs last words ≡ Some logs → length words + 2 * last ≤ 32
few last [] logs low e = omega (arith, low)
few last (s ∷ []) logs low e = absurd (none-some logs e)
few last (s ∷ log ∷ words) logs low e = go (λ n. few n words) (site s) refl e
  where
    Again : Type 0
    Again = (n : ℕ) (more : Logs) → n ≤ 16 → pairs n words ≡ Some more → length words + 2 * n ≤ 32

    tested : Again → (n : ℕ) → n ≤ 16 → (b : Bool) → nat_lt last n ≡ b → (o : Option Logs) → pairs n words ≡ o
        → (if b then option_map (λ more. (n, log) ∷ more) o else None) ≡ Some logs → length (s ∷ log ∷ words) + 2 * last ≤ 32
    tested again n high true lt None is e = absurd (none-some logs e)
    tested again n high true lt (Some more) is e = let rest = again n more high is in omega (arith, rest, ltb-true last n lt)
    tested again n high false lt o is e = absurd (none-some logs e)

    go : Again → (o : Option ℕ) → site s ≡ o → option_and_then (from_site last log words) o ≡ Some logs → length (s ∷ log ∷ words) + 2 * last ≤ 32
    go again None is e = absurd (none-some logs e)
    go again (Some n) is e = tested again n (site_below s n is) (nat_lt last n) refl (pairs n words) refl e

counts : (word : Text) (words : List Text) (logs : Logs) → pairs 0 (word ∷ words) ≡ Some logs → range_kinds 2 32 (length (word ∷ words)) ≡ []
counts word [] logs e = absurd (none-some logs e)
counts word (log ∷ words) logs e =
    let most = few 0 (word ∷ log ∷ words) logs (omega arith) e in
    let count = length (word ∷ log ∷ words) in
    rw (ne_eqb count 0 (λ e. omega (arith, e)), le-ltb count 2 (omega arith), le-ltb 32 count (omega (arith, most))) refl

-- what `clap` takes for the operand means what the words mean
pub audit_says : (words : List Text) → option_and_then (command_meant (codes "audit")) (audit_rows words) ≡ auditing words
audit_says [] = refl
audit_says (word ∷ words) = go (range_kinds 2 32 (length (word ∷ words))) refl
  where
    none : (k : ErrorKind) (ks : Kinds) → range_kinds 2 32 (length (word ∷ words)) ≡ k ∷ ks → (o : Option Logs) → pairs 0 (word ∷ words) ≡ o → None ≡ option_map commands.Audit o
    none k ks e None is = refl
    none k ks e (Some logs) is = absurd (let bad : k ∷ ks ≡ [] = sym e ∙ counts word words logs is in cc)

    go : (k : Kinds) → range_kinds 2 32 (length (word ∷ words)) ≡ k → option_and_then (command_meant (codes "audit")) (outcome k (audit_row (word ∷ words) ∷ [])) ≡ option_map commands.Audit (pairs 0 (word ∷ words))
    go [] e = refl
    go (k ∷ ks) e = none k ks e (pairs 0 (word ∷ words)) refl

-- ---- the loop over the words

-- the logs that the remaining words give with those so far, where a site waits for its log, or none does
abbrev pub ahead : Option ℕ → ℕ → Logs → List Text → Option Logs
ahead None last logs words = option_map (λ more. logs ++ more) (pairs last words)
ahead (Some site) last logs [] = None
ahead (Some site) last logs (log ∷ words) = option_map (λ more. logs ++ (site, log) ∷ more) (pairs site words)

abbrev now : List (Bor Text) → List Text
now = map (λ word. word.now)

abbrev pub StandsAt : List (Bor Text) → Option ℕ → ℕ → Logs → ℕ → Type 0
StandsAt words named last logs i = pairs 0 (now words) ≡ ahead named last logs (now (drop i words))

pub starts : (words : List (Bor Text)) → StandsAt words None 0 [] 0
starts words = go (pairs 0 (now words))
  where
    go : (o : Option Logs) → o ≡ option_map (λ more. [] ++ more) o
    go None = refl
    go (Some logs) = refl

module _ (words : List (Bor Text)) (i : ℕ) (word : Bor Text) (lt : i < length words) where
  abbrev text : Text
  text = (get_or words i word).now

  here : (named : Option ℕ) (last : ℕ) (logs : Logs) → StandsAt words named last logs i → pairs 0 (now words) ≡ ahead named last logs (text ∷ now (drop (i + 1) words))
  here named last logs stands = stands ∙ at_drop_more (λ (l : List (Bor Text)). ahead named last logs (now l)) words i word lt

  -- the log of the site
  pub with_log : (site last : ℕ) (logs : Logs) → StandsAt words (Some site) last logs i → (log : Text) → log ≡ text → StandsAt words None site (logs ++ (site, log) ∷ []) (i + 1)
  with_log site last logs stands log is =
      subst (λ (l : Text). StandsAt words None site (logs ++ (site, l) ∷ []) (i + 1)) (sym is) (here (Some site) last logs stands ∙ go (pairs site (now (drop (i + 1) words))))
    where
      go : (o : Option Logs) → option_map (λ more. logs ++ (site, text) ∷ more) o ≡ option_map (λ more. (logs ++ (site, text) ∷ []) ++ more) o
      go None = refl
      go (Some more) = ap Some (sym (append_assoc logs ((site, text) ∷ []) more))

  -- no site, or one that isn't above the one before
  module _ (last : ℕ) (logs : Logs) (stands : StandsAt words None last logs i) where
    refused : (o : Option ℕ) → site text ≡ o → ((log : Text) (rest : List Text) → option_and_then (from_site last log rest) o ≡ None) → None ≡ pairs 0 (now words)
    refused o e none = sym (here None last logs stands ∙ go (now (drop (i + 1) words)))
      where
        go : (rest : List Text) → ahead None last logs (text ∷ rest) ≡ None
        go [] = refl
        go (log ∷ rest) = ap (option_map (λ more. logs ++ more)) (ap (option_and_then (from_site last log rest)) e ∙ none log rest)

    pub no_site : None ≡ site text → None ≡ pairs 0 (now words)
    no_site e = refused None (sym e) (λ log rest. refl)

    pub site_too_low : (n : ℕ) → Some n ≡ site text → n ≤ last → None ≡ pairs 0 (now words)
    site_too_low n e low = refused (Some n) (sym e) (λ log rest. rw (le-ltb last n low) refl)

    pub with_site : (n : ℕ) → Some n ≡ site text → last < n → StandsAt words (Some n) last logs (i + 1)
    with_site n e above = here None last logs stands ∙ go (now (drop (i + 1) words))
      where
        joined : (log : Text) (o : Option Logs) → option_map (λ more. logs ++ more) (option_map (λ more. (n, log) ∷ more) o) ≡ option_map (λ more. logs ++ (n, log) ∷ more) o
        joined log None = refl
        joined log (Some more) = refl

        go : (rest : List Text) → ahead None last logs (text ∷ rest) ≡ ahead (Some n) last logs rest
        go [] = refl
        go (log ∷ rest) =
            ap (option_map (λ more. logs ++ more)) (ap (option_and_then (from_site last log rest)) (sym e) ∙ ap (λ (b : Bool). if b then option_map (λ more. (n, log) ∷ more) (pairs n rest) else None) (lt-ltb last n above))
            ∙ joined log (pairs n rest)

pub loop_done : (words : List (Bor Text)) (last : ℕ) (logs : Logs) (i : ℕ) → StandsAt words None last logs i → length words ≤ i → Some logs ≡ pairs 0 (now words)
loop_done words last logs i stands le = sym (stands ∙ at_drop_all (λ (l : List (Bor Text)). ahead None last logs (now l)) words i le ∙ ap Some (append-nil logs))

pub loop_cut : (words : List (Bor Text)) (site last : ℕ) (logs : Logs) (i : ℕ) → StandsAt words (Some site) last logs i → length words ≤ i → None ≡ pairs 0 (now words)
loop_cut words site last logs i stands le = sym (stands ∙ at_drop_all (λ (l : List (Bor Text)). ahead (Some site) last logs (now l)) words i le)

-- ---- what the matches mean

pub audited_by : (f : Found) (given : Option (List Text)) → given ≡ option_map raw_values (matched_of f (codes "PAIRS"))
    → option_and_then (λ words. option_map commands.Audit (pairs 0 words)) given ≡ audit_command (rows_of f)
audited_by f given e = ap (option_and_then (λ words. option_map commands.Audit (pairs 0 words))) (e ∙ raw_values-rows f (codes "PAIRS"))

-- ---- the operand

abbrev pub counts_from : ℕ → ℕ → Option ValueRange
counts_from least most = Some (record { start_inclusive = least; end_inclusive = max most least })

pub some_range : (o : Option ValueRange) (v : ValueRange) → IsSomeAnd o (λ r. r ≡ v) → o ≡ Some v
some_range None v e = absurd e
some_range (Some r) v e = ap Some e
