-- The results of `clap` for the words of the program's commands.
use Rattle.std.proofs.Common.{◌≡◌, ℕ, ◌+◌, true, false, List, [], ◌∷◌, ◌++◌, Option, Some, None, refl, sym, ◌∙◌, codes}
use Rattle.std.specs.Prelude.{option_and_then}
use Rattle.std.specs.List.{list_all}
use Rattle.std.specs.Str.{is_utf8}
use Rattle.clap.proofs.OnLiterals.{clap_on_literals}
use Rattle.clap.specs.Faults.{step_fault, turn_fault}
use Rattle.clap.specs.Simple.{App, Shape, built_leaf, inherited, marked_built, with_leaf_noted}
use Rattle.clap.specs.Walk.{Row, Text, arg_by_index, to_positional, value, walked}
use Rattle.clap.specs.declared.builder.value_parser.Reading.TheVariants as reading
use Rattle.clap.specs.declared.error.kind.ErrorKind.TheVariants as kind
use Rattle.clap.specs.declared.parser.matches.ValueSource.TheVariants.{CommandLine}
use Rattle.vp_words.specs.Parsed.{operand_app, program_app}
use Rattle.vp_words.proofs.Operands.{HasNoFlag, Kept, at, found, held, level, level_goes, level_kinds, level_stops, none_after, plain_turn, plain_walk, seen}

-- a command of the program as `clap` builds it
abbrev pub command_shape : App → Shape
command_shape app = built_leaf (inherited (with_leaf_noted (marked_built program_app.top)) app.top)

abbrev pub operand_shape : Text → List Text → Shape
operand_shape name ids = command_shape (operand_app name ids)

-- ---- the rows of operands

-- the row of an operand
abbrev pub given : Text → Text → Row
given id word = record { id = id; values = word ∷ []; count = None; source = Some CommandLine; reading = reading.AsWritten }

-- The rows of the words, one for each of the ids, after the rows so far.
unfoldable pub operand_rows : List Text → List Row → List Text → Option (List Row)
operand_rows [] rows [] = Some rows
operand_rows [] rows (word ∷ words) = None
operand_rows (id ∷ ids) rows [] = None
operand_rows (id ∷ ids) rows (word ∷ words) = operand_rows ids (rows ++ given id word ∷ []) words

abbrev pub nothing : Kept
nothing = ([], None)

-- after the operand of the id
abbrev pub following : List Row → Text → Text → Kept
following rows id word = (rows, Some (id, word ∷ []))

-- No more words are taken: what was kept makes the rows.
record IsEnd (s : Shape) (h : Kept) (p : ℕ) (rows : List Row) : Type 0 where
  ended : level s (at h p true) [] ≡ Some rows
  turned : (word : Text) → turn_fault s [] (at h p true) word ≡ kind.UnknownArgument ∷ []
  stray : step_fault s p (held h) value ≡ kind.UnknownArgument ∷ []

-- A word is taken, whatever it is, before `--` or after it, and is required.
record IsNext (s : Shape) (h : Kept) (p : ℕ) (next : Text → Kept) : Type 0 where
  missing : level s (at h p true) [] ≡ None
  turned : (word : Text) → turn_fault s [] (at h p true) word ≡ []
  went : (word : Text) → walked s.rules [] (at h p true) word ≡ at (next word) (p + 1) true
  fine : step_fault s p (held h) value ≡ []
  taken : (word : Text) → to_positional s.rules (arg_by_index s.rules p) word (at h p false) (held h) ≡ at (next word) (p + 1) false

-- A word is taken for each of the ids.
abbrev Takes : Shape → Kept → ℕ → List Text → List Row → Type 0
Takes s h p [] rows = IsEnd s h p rows
Takes s h p (id ∷ ids) rows = IsNext s h p (following rows id) × ((word : Text) → Takes s (following rows id word) (p + 1) ids (rows ++ given id word ∷ []))

trailing : (s : Shape) (h : Kept) (p : ℕ) (ids : List Text) (rows : List Row) → Takes s h p ids rows
    → (words : List Text) → level s (at h p true) words ≡ operand_rows ids rows words
unfolding operand_rows
trailing s h p [] rows t [] = t.ended
trailing s h p [] rows t (word ∷ words) = level_stops s (at h p true) word words kind.UnknownArgument [] (t.turned word)
trailing s h p (id ∷ ids) rows t [] = t.0.missing
trailing s h p (id ∷ ids) rows t (word ∷ words) =
    level_goes s (at h p true) (at (following rows id word) (p + 1) true) word words (t.0.turned word) (t.0.went word)
    ∙ trailing s (following rows id word) (p + 1) ids (rows ++ given id word ∷ []) (t.1 word) words

taken : (s : Shape) (h : Kept) (p : ℕ) (ids : List Text) (rows : List Row) → HasNoFlag s → Takes s h p ids rows
    → (words : List Text) → list_all is_utf8 words ≡ true → level s (at h p false) words ≡ option_and_then (operand_rows ids rows) (seen words)
unfolding operand_rows
taken s h p [] rows none t =
    found s h p (operand_rows [] rows) none (trailing s h p [] rows t)
    (λ word words w u. level_stops s (at h p false) word words kind.UnknownArgument [] (plain_turn s false h p word w ∙ t.stray) ∙ sym (none_after (seen words)))
taken s h p (id ∷ ids) rows none t =
    found s h p (operand_rows (id ∷ ids) rows) none (trailing s h p (id ∷ ids) rows t)
    (λ word words w u. level_goes s (at h p false) (at (following rows id word) (p + 1) false) word words (plain_turn s false h p word w ∙ t.0.fine) (plain_walk s false h p word w ∙ t.0.taken word)
    ∙ taken s (following rows id word) (p + 1) ids (rows ++ given id word ∷ []) none (t.1 word) words u)

-- ---- the commands

abbrev Finds : Text → List Text → Type 0
Finds name ids = (words : List Text) → list_all is_utf8 words ≡ true → level (operand_shape name ids) (at nothing 1 false) words ≡ option_and_then (operand_rows ids []) (seen words)

abbrev pub alone_ids : List Text
alone_ids = []

abbrev pub signal_ids : List Text
signal_ids = codes "SITE" ∷ []

abbrev pub draws_ids : List Text
draws_ids = codes "SEED" ∷ codes "COUNT" ∷ []

abbrev pub node_ids : List Text
node_ids = codes "SITE" ∷ codes "LOG" ∷ codes "TURNS" ∷ []

abbrev pub gateway_ids : List Text
gateway_ids = codes "PORT" ∷ codes "TURNS" ∷ codes "SITE" ∷ []

abbrev pub client_ids : List Text
client_ids = codes "PORT" ∷ codes "TURNS" ∷ codes "SITE" ∷ codes "CALL" ∷ []

pub alone_found : (name : Text) → Finds name alone_ids
unfolding level level_kinds clap_on_literals
alone_found name =
    taken (operand_shape name alone_ids) nothing 1 alone_ids [] (record { long = λ n. refl; short = λ c. refl })
    (record { ended = refl; turned = λ word. refl; stray = refl })

pub signal_found : (name : Text) → Finds name signal_ids
unfolding level level_kinds clap_on_literals
signal_found name =
    taken (operand_shape name signal_ids) nothing 1 signal_ids [] (record { long = λ n. refl; short = λ c. refl })
    (record { missing = refl; turned = λ word. refl; went = λ word. refl; fine = refl; taken = λ word. refl }, λ word. (record { ended = refl; turned = λ word. refl; stray = refl }))

pub draws_found : (name : Text) → Finds name draws_ids
unfolding level level_kinds clap_on_literals
draws_found name =
    taken (operand_shape name draws_ids) nothing 1 draws_ids [] (record { long = λ n. refl; short = λ c. refl })
    (record { missing = refl; turned = λ word. refl; went = λ word. refl; fine = refl; taken = λ word. refl }, λ word. (record { missing = refl; turned = λ word. refl; went = λ word. refl; fine = refl; taken = λ word. refl }, λ word. (record { ended = refl; turned = λ word. refl; stray = refl })))

pub node_found : (name : Text) → Finds name node_ids
unfolding level level_kinds clap_on_literals
node_found name =
    taken (operand_shape name node_ids) nothing 1 node_ids [] (record { long = λ n. refl; short = λ c. refl })
    (record { missing = refl; turned = λ word. refl; went = λ word. refl; fine = refl; taken = λ word. refl }, λ word. (record { missing = refl; turned = λ word. refl; went = λ word. refl; fine = refl; taken = λ word. refl }, λ word. (record { missing = refl; turned = λ word. refl; went = λ word. refl; fine = refl; taken = λ word. refl }, λ word. (record { ended = refl; turned = λ word. refl; stray = refl }))))

pub gateway_found : (name : Text) → Finds name gateway_ids
unfolding level level_kinds clap_on_literals
gateway_found name =
    taken (operand_shape name gateway_ids) nothing 1 gateway_ids [] (record { long = λ n. refl; short = λ c. refl })
    (record { missing = refl; turned = λ word. refl; went = λ word. refl; fine = refl; taken = λ word. refl }, λ word. (record { missing = refl; turned = λ word. refl; went = λ word. refl; fine = refl; taken = λ word. refl }, λ word. (record { missing = refl; turned = λ word. refl; went = λ word. refl; fine = refl; taken = λ word. refl }, λ word. (record { ended = refl; turned = λ word. refl; stray = refl }))))

pub client_found : (name : Text) → Finds name client_ids
unfolding level level_kinds clap_on_literals
client_found name =
    taken (operand_shape name client_ids) nothing 1 client_ids [] (record { long = λ n. refl; short = λ c. refl })
    (record { missing = refl; turned = λ word. refl; went = λ word. refl; fine = refl; taken = λ word. refl }, λ word. (record { missing = refl; turned = λ word. refl; went = λ word. refl; fine = refl; taken = λ word. refl }, λ word. (record { missing = refl; turned = λ word. refl; went = λ word. refl; fine = refl; taken = λ word. refl }, λ word. (record { missing = refl; turned = λ word. refl; went = λ word. refl; fine = refl; taken = λ word. refl }, λ word. (record { ended = refl; turned = λ word. refl; stray = refl })))))
