-- The result of `clap` for the program's words is the command that they mean.
use Rattle.std.proofs.Common.{◌≡◌, ◌⊎◌, Bool, true, false, List, [], ◌∷◌, ◌++◌, Option, Some, None, refl, sym, ap, ap₂, subst, ◌∙◌, inl, inr, codes, option_map, append_assoc}
use Rattle.std.specs.Prelude.{fold, if◌then◌else◌, option_and_then}
use Rattle.std.specs.List.{list_all}
use Rattle.std.specs.Str.{bytes_eq, is_utf8}
use Rattle.std.proofs.lemmas.Bool.{and_parts}
use Rattle.std.proofs.lemmas.List.{append-nil}
use Rattle.std.proofs.lemmas.Slice.Eq.{bytes_eq-Decides}
use Rattle.clap.proofs.OnLiterals.{clap_on_literals}
use Rattle.clap.specs.Faults.{fault_of, turn_fault, walk_fault}
use Rattle.clap.specs.Kinds.{IsAmong, Kinds, or_else}
use Rattle.clap.specs.Simple.{App, Shape, built, names_of, subcommand_of}
use Rattle.clap.specs.Walk.{Names, Row, Rule, Text, Walk, idle, nothing_held, subcommand_met, walk_from, walked}
use Rattle.clap.specs.declared.error.kind.ErrorKind.{ErrorKind}
use Rattle.clap.specs.declared.error.kind.ErrorKind.TheVariants as kind
use Rattle.vp_words.specs.Commands.{call, client, command_of, command_named, operands, command_of_words}
use Rattle.vp_words.specs.Parsed.{has_hyphen, command_meant, program_app}
use Rattle.vp_words.specs.declared.words.Command.{Command}
use Rattle.vp_words.specs.declared.words.Command.TheVariants as commands
use Rattle.vp_words.proofs.Hyphens.{hyphen_on, hyphen_spelled, neither, seen_operands}
use Rattle.vp_words.proofs.Parsing.{alone_found, alone_ids, client_found, client_ids, draws_found, draws_ids, gateway_found, gateway_ids, node_found, node_ids, nothing, operand_rows, operand_shape, signal_found, signal_ids}
use Rattle.vp_words.proofs.Pairs.{audit_found, audit_rows, audit_says, audit_shape}
use Rattle.vp_words.proofs.Operands.{IsLong, IsPlain, IsShort, after_map, at, level, level_kinds, look, none_after, outcome, seen}
use Rattle.vp_words.proofs.Operands.Look.{dashes, long, plain, short}

-- what the program makes of the kinds of a failure and of the subcommand
abbrev pub answer : Kinds → Option (Text × List Row) → Option Command
answer [] met = option_and_then (λ m. command_meant m.0 m.1) met
answer (k ∷ ks) met = None

-- ---- the first word

-- a walk that has come to the subcommand, with the words after it
abbrev stopped : Text → List Text → Walk
stopped name words = record { held = nothing_held; waiting = idle; position = 1; is_trailing = false; stopped = Some (name, words) }

stopped_walk : (c : List Rule) (names : Names) (name : Text) (before words : List Text) → fold (walked c names) (stopped name before) words ≡ stopped name (before ++ words)
unfolding walked
stopped_walk c names name before [] = ap (stopped name) (sym (append-nil before))
stopped_walk c names name before (word ∷ words) = stopped_walk c names name (before ++ word ∷ []) words ∙ ap (stopped name) (append_assoc before (word ∷ []) words)

stopped_fault : (s : Shape) (names : Names) (name : Text) (before words : List Text) → walk_fault s names (stopped name before) words ≡ []
unfolding walked walk_fault
stopped_fault s names name before [] = refl
stopped_fault s names name before (word ∷ words) = stopped_fault s names name (before ++ word ∷ []) words

below : (k : Kinds) (name : Text) (rows : List Row) → answer (or_else k []) (Some (name, rows)) ≡ option_and_then (command_meant name) (outcome k rows)
below [] name rows = refl
below (k ∷ ks) name rows = refl

abbrev top : Shape
top = (built program_app).top

abbrev names : Names
names = names_of (built program_app)

abbrev parse : List Text → Option Command
parse words = answer (fault_of program_app words) (subcommand_of program_app words)

-- the command of the name is this one, or has operands with these ids
abbrev MeetsShape : Text → Shape → Type 0
MeetsShape name s = (words : List Text) → parse (name ∷ words) ≡ option_and_then (command_meant name) (level s (at nothing 1 false) words)

abbrev Meets : Text → List Text → Type 0
Meets name ids = MeetsShape name (operand_shape name ids)

replay_met : Meets (codes "replay") alone_ids
unfolding clap_on_literals level level_kinds
replay_met words = rw (stopped_fault top names (codes "replay") [] words, stopped_walk top.rules names (codes "replay") [] words) (below (level_kinds (operand_shape (codes "replay") alone_ids) (at nothing 1 false) words) (codes "replay") _)

check_met : Meets (codes "check") alone_ids
unfolding clap_on_literals level level_kinds
check_met words = rw (stopped_fault top names (codes "check") [] words, stopped_walk top.rules names (codes "check") [] words) (below (level_kinds (operand_shape (codes "check") alone_ids) (at nothing 1 false) words) (codes "check") _)

node_met : Meets (codes "node") node_ids
unfolding clap_on_literals level level_kinds
node_met words = rw (stopped_fault top names (codes "node") [] words, stopped_walk top.rules names (codes "node") [] words) (below (level_kinds (operand_shape (codes "node") node_ids) (at nothing 1 false) words) (codes "node") _)

client_met : Meets (codes "client") client_ids
unfolding clap_on_literals level level_kinds
client_met words = rw (stopped_fault top names (codes "client") [] words, stopped_walk top.rules names (codes "client") [] words) (below (level_kinds (operand_shape (codes "client") client_ids) (at nothing 1 false) words) (codes "client") _)

tick_met : Meets (codes "tick") signal_ids
unfolding clap_on_literals level level_kinds
tick_met words = rw (stopped_fault top names (codes "tick") [] words, stopped_walk top.rules names (codes "tick") [] words) (below (level_kinds (operand_shape (codes "tick") signal_ids) (at nothing 1 false) words) (codes "tick") _)

probe_met : Meets (codes "probe") signal_ids
unfolding clap_on_literals level level_kinds
probe_met words = rw (stopped_fault top names (codes "probe") [] words, stopped_walk top.rules names (codes "probe") [] words) (below (level_kinds (operand_shape (codes "probe") signal_ids) (at nothing 1 false) words) (codes "probe") _)

stop_met : Meets (codes "stop") signal_ids
unfolding clap_on_literals level level_kinds
stop_met words = rw (stopped_fault top names (codes "stop") [] words, stopped_walk top.rules names (codes "stop") [] words) (below (level_kinds (operand_shape (codes "stop") signal_ids) (at nothing 1 false) words) (codes "stop") _)

generate_met : Meets (codes "generate") draws_ids
unfolding clap_on_literals level level_kinds
generate_met words = rw (stopped_fault top names (codes "generate") [] words, stopped_walk top.rules names (codes "generate") [] words) (below (level_kinds (operand_shape (codes "generate") draws_ids) (at nothing 1 false) words) (codes "generate") _)

soak_met : Meets (codes "soak") draws_ids
unfolding clap_on_literals level level_kinds
soak_met words = rw (stopped_fault top names (codes "soak") [] words, stopped_walk top.rules names (codes "soak") [] words) (below (level_kinds (operand_shape (codes "soak") draws_ids) (at nothing 1 false) words) (codes "soak") _)

logs_met : Meets (codes "logs") alone_ids
unfolding clap_on_literals level level_kinds
logs_met words = rw (stopped_fault top names (codes "logs") [] words, stopped_walk top.rules names (codes "logs") [] words) (below (level_kinds (operand_shape (codes "logs") alone_ids) (at nothing 1 false) words) (codes "logs") _)

audit_met : MeetsShape (codes "audit") audit_shape
unfolding clap_on_literals level level_kinds
audit_met words = rw (stopped_fault top names (codes "audit") [] words, stopped_walk top.rules names (codes "audit") [] words) (below (level_kinds audit_shape (at nothing 1 false) words) (codes "audit") _)

gateway_met : Meets (codes "gateway") gateway_ids
unfolding clap_on_literals level level_kinds
gateway_met words = rw (stopped_fault top names (codes "gateway") [] words, stopped_walk top.rules names (codes "gateway") [] words) (below (level_kinds (operand_shape (codes "gateway") gateway_ids) (at nothing 1 false) words) (codes "gateway") _)

merge_met : Meets (codes "merge") alone_ids
unfolding clap_on_literals level level_kinds
merge_met words = rw (stopped_fault top names (codes "merge") [] words, stopped_walk top.rules names (codes "merge") [] words) (below (level_kinds (operand_shape (codes "merge") alone_ids) (at nothing 1 false) words) (codes "merge") _)

proc_met : Meets (codes "proc") gateway_ids
unfolding clap_on_literals level level_kinds
proc_met words = rw (stopped_fault top names (codes "proc") [] words, stopped_walk top.rules names (codes "proc") [] words) (below (level_kinds (operand_shape (codes "proc") gateway_ids) (at nothing 1 false) words) (codes "proc") _)

-- ---- a command's operands

pub each : {X Y : Type 0} (f g : X → Option Y) (o : Option X) → ((x : X) → f x ≡ g x) → option_and_then f o ≡ option_and_then g o
each f g None same = refl
each f g (Some x) same = same x

in_turn : {X Y Z : Type 0} (f : Y → Option Z) (g : X → Option Y) (o : Option X) → option_and_then f (option_and_then g o) ≡ option_and_then (λ x. option_and_then f (g x)) o
in_turn f g None = refl
in_turn f g (Some x) = refl

-- what the rows of the operands mean is what the operands mean
abbrev SaysRows : Text → (List Text → Option (List Row)) → Type 0
SaysRows name rows = (words : List Text) → option_and_then (command_meant name) (rows words) ≡ command_named name words

abbrev Says : Text → List Text → Type 0
Says name ids = SaysRows name (operand_rows ids [])

through : (name : Text) (s : Shape) (rows : List Text → Option (List Row)) (words : List Text) → level s (at nothing 1 false) words ≡ option_and_then rows (seen words) → SaysRows name rows → seen words ≡ operands words
    → option_and_then (command_meant name) (level s (at nothing 1 false) words) ≡ option_and_then (command_named name) (operands words)
through name s rows words found says same =
    ap (option_and_then (command_meant name)) found ∙ in_turn (command_meant name) rows (seen words)
    ∙ each (λ rest. option_and_then (command_meant name) (rows rest)) (command_named name) (seen words) says ∙ ap (option_and_then (command_named name)) same

replay_says : Says (codes "replay") alone_ids
unfolding operand_rows
replay_says [] = refl
replay_says (more ∷ words) = refl

check_says : Says (codes "check") alone_ids
unfolding operand_rows
check_says [] = refl
check_says (more ∷ words) = refl

node_says : Says (codes "node") node_ids
unfolding operand_rows
node_says [] = refl
node_says (site ∷ []) = refl
node_says (site ∷ log ∷ []) = refl
node_says (site ∷ log ∷ turns ∷ []) = refl
node_says (site ∷ log ∷ turns ∷ more ∷ words) = refl

client_says : Says (codes "client") client_ids
unfolding operand_rows
client_says [] = refl
client_says (port ∷ []) = refl
client_says (port ∷ turns ∷ []) = refl
client_says (port ∷ turns ∷ site ∷ []) = refl
client_says (port ∷ turns ∷ site ∷ word ∷ []) = after_map (λ o. option_map (λ call. commands.Client o.0 o.1 o.2 call) (call o.3)) (λ o. (o.0, o.1, o.2, word)) (client port turns site)
client_says (port ∷ turns ∷ site ∷ word ∷ more ∷ words) = refl

tick_says : Says (codes "tick") signal_ids
unfolding operand_rows
tick_says [] = refl
tick_says (site ∷ []) = refl
tick_says (site ∷ more ∷ words) = refl

probe_says : Says (codes "probe") signal_ids
unfolding operand_rows
probe_says [] = refl
probe_says (site ∷ []) = refl
probe_says (site ∷ more ∷ words) = refl

stop_says : Says (codes "stop") signal_ids
unfolding operand_rows
stop_says [] = refl
stop_says (site ∷ []) = refl
stop_says (site ∷ more ∷ words) = refl

generate_says : Says (codes "generate") draws_ids
unfolding operand_rows
generate_says [] = refl
generate_says (seed ∷ []) = refl
generate_says (seed ∷ count ∷ []) = refl
generate_says (seed ∷ count ∷ more ∷ words) = refl

soak_says : Says (codes "soak") draws_ids
unfolding operand_rows
soak_says [] = refl
soak_says (seed ∷ []) = refl
soak_says (seed ∷ count ∷ []) = refl
soak_says (seed ∷ count ∷ more ∷ words) = refl

logs_says : Says (codes "logs") alone_ids
unfolding operand_rows
logs_says [] = refl
logs_says (more ∷ words) = refl

gateway_says : Says (codes "gateway") gateway_ids
unfolding operand_rows
gateway_says [] = refl
gateway_says (port ∷ []) = refl
gateway_says (port ∷ turns ∷ []) = refl
gateway_says (port ∷ turns ∷ site ∷ []) = refl
gateway_says (port ∷ turns ∷ site ∷ more ∷ words) = refl

merge_says : Says (codes "merge") alone_ids
unfolding operand_rows
merge_says [] = refl
merge_says (more ∷ words) = refl

proc_says : Says (codes "proc") gateway_ids
unfolding operand_rows
proc_says [] = refl
proc_says (port ∷ []) = refl
proc_says (port ∷ turns ∷ []) = refl
proc_says (port ∷ turns ∷ site ∷ []) = refl
proc_says (port ∷ turns ∷ site ∷ more ∷ words) = refl

-- ---- a first word that isn't a command's name

record IsOther (name : Text) : Type 0 where
  named : (words : List Text) → command_named name words ≡ None
  met : subcommand_met names idle name ≡ None

turned : (name : Text) (words : List Text) (k : ErrorKind) (ks : Kinds) → turn_fault top names (walk_from nothing_held) name ≡ k ∷ ks → parse (name ∷ words) ≡ None
unfolding clap_on_literals
turned name words k ks e = rw e refl

long_turned : (name : Text) → IsOther name → IsLong name → turn_fault top names (walk_from nothing_held) name ≡ kind.UnknownArgument ∷ []
long_turned name o w = rw (o.met, w.dashes, w.long) refl

short_turned : (name : Text) → IsOther name → IsShort name → turn_fault top names (walk_from nothing_held) name ≡ kind.UnknownArgument ∷ []
unfolding clap_on_literals
short_turned name o w = rw (o.met, w.dashes, w.long, w.short, w.spelled) refl

plain_turned : (name : Text) → IsOther name → IsPlain name → turn_fault top names (walk_from nothing_held) name ≡ kind.UnknownArgument ∷ kind.InvalidSubcommand ∷ []
plain_turned name o w = rw (o.met, w.dashes, w.long, w.short) refl

dashes_parsed : (words : List Text) → parse ((45 ∷ 45 ∷ []) ∷ words) ≡ None
unfolding clap_on_literals
dashes_parsed [] = refl
dashes_parsed (word ∷ words) = refl

other_parsed : (name : Text) (words : List Text) → is_utf8 name ≡ true → IsOther name → parse (name ∷ words) ≡ option_and_then (command_named name) (operands words)
other_parsed name words u o =
    let none : option_and_then (command_named name) (operands words) ≡ None = each (command_named name) (λ rest. None) (operands words) o.named ∙ none_after (operands words) in
    elim (look name u) [
      | dashes e ↦ subst (λ (n : Text). parse (n ∷ words) ≡ None) (sym e) (dashes_parsed words) ∙ sym none
      | long w ↦ turned name words kind.UnknownArgument [] (long_turned name o w) ∙ sym none
      | short w ↦ turned name words kind.UnknownArgument [] (short_turned name o w) ∙ sym none
      | plain w ↦ turned name words kind.UnknownArgument (kind.InvalidSubcommand ∷ []) (plain_turned name o w) ∙ sym none
    ]

-- ---- all words

test : (a b : Text) → (a ≡ b) ⊎ ((bytes_eq a b ≡ false) × (bytes_eq b a ≡ false))
test a b = go (bytes_eq a b) refl (bytes_eq b a) refl
  where
    go : (x : Bool) → bytes_eq a b ≡ x → (y : Bool) → bytes_eq b a ≡ y → (a ≡ b) ⊎ ((bytes_eq a b ≡ false) × (bytes_eq b a ≡ false))
    go true e y f = inl ((bytes_eq-Decides a b).0 e)
    go false e true f = inl (sym ((bytes_eq-Decides b a).0 f))
    go false e false f = inr (e, f)

named_parsed : (name : Text) (words : List Text) → is_utf8 name ≡ true → list_all is_utf8 words ≡ true → seen words ≡ operands words → parse (name ∷ words) ≡ option_and_then (command_named name) (operands words)
named_parsed name words v u same =
    let Goal : Text → Type 0 = λ n. parse (n ∷ words) ≡ option_and_then (command_named n) (operands words) in
    let by : (n : Text) (s : Shape) (rows : List Text → Option (List Row)) → name ≡ n → MeetsShape n s → (level s (at nothing 1 false) words ≡ option_and_then rows (seen words)) → SaysRows n rows → Goal name =
    λ n s rows e met found says. subst Goal (sym e) (met words ∙ through n s rows words found says same) in
    let known : (n : Text) (ids : List Text) → name ≡ n → Meets n ids → (level (operand_shape n ids) (at nothing 1 false) words ≡ option_and_then (operand_rows ids []) (seen words)) → Says n ids → Goal name =
    λ n ids. by n (operand_shape n ids) (operand_rows ids []) in
    elim (test name (codes "replay")) [
      | inl e ↦ known (codes "replay") alone_ids e replay_met (alone_found (codes "replay") words u) replay_says
      | inr r ↦
          elim (test name (codes "check")) [
            | inl e ↦ known (codes "check") alone_ids e check_met (alone_found (codes "check") words u) check_says
            | inr c ↦
                elim (test name (codes "node")) [
                  | inl e ↦ known (codes "node") node_ids e node_met (node_found (codes "node") words u) node_says
                  | inr n ↦
                      elim (test name (codes "client")) [
                        | inl e ↦ known (codes "client") client_ids e client_met (client_found (codes "client") words u) client_says
                        | inr l ↦
                            elim (test name (codes "tick")) [
                              | inl e ↦ known (codes "tick") signal_ids e tick_met (signal_found (codes "tick") words u) tick_says
                              | inr t ↦
                                  elim (test name (codes "probe")) [
                                    | inl e ↦ known (codes "probe") signal_ids e probe_met (signal_found (codes "probe") words u) probe_says
                                    | inr p ↦
                                        elim (test name (codes "stop")) [
                                          | inl e ↦ known (codes "stop") signal_ids e stop_met (signal_found (codes "stop") words u) stop_says
                                          | inr k ↦
                                              elim (test name (codes "generate")) [
                                                | inl e ↦ known (codes "generate") draws_ids e generate_met (draws_found (codes "generate") words u) generate_says
                                                | inr g ↦
                                                    elim (test name (codes "soak")) [
                                                      | inl e ↦ known (codes "soak") draws_ids e soak_met (draws_found (codes "soak") words u) soak_says
                                                      | inr s ↦
                                                          elim (test name (codes "logs")) [
                                                            | inl e ↦ known (codes "logs") alone_ids e logs_met (alone_found (codes "logs") words u) logs_says
                                                            | inr o ↦
                                                                elim (test name (codes "audit")) [
                                                                  | inl e ↦ by (codes "audit") audit_shape audit_rows e audit_met (audit_found words u) audit_says
                                                                  | inr a ↦
                                                                      elim (test name (codes "gateway")) [
                                                                        | inl e ↦ known (codes "gateway") gateway_ids e gateway_met (gateway_found (codes "gateway") words u) gateway_says
                                                                        | inr y ↦
                                                                            elim (test name (codes "merge")) [
                                                                              | inl e ↦ known (codes "merge") alone_ids e merge_met (alone_found (codes "merge") words u) merge_says
                                                                              | inr m ↦
                                                                                  elim (test name (codes "proc")) [
                                                                                    | inl e ↦ known (codes "proc") gateway_ids e proc_met (gateway_found (codes "proc") words u) proc_says
                                                                                    | inr q ↦
                                                                                        other_parsed name words v (record { named = λ rest. rw (r.0, c.0, n.0, l.0, t.0, p.0, k.0, g.0, s.0, o.0, a.0, y.0, m.0, q.0) refl; met = rw (r.1, c.1, n.1, l.1, t.1, p.1, k.1, g.1, s.1, o.1, a.1, y.1, m.1, q.1) refl })
                                                                                  ]
                                                                            ]
                                                                      ]
                                                                ]
                                                          ]
                                                    ]
                                              ]
                                        ]
                                  ]
                            ]
                      ]
                ]
          ]
    ]

-- `clap` doesn't parse a list that begins with `--`, and no command has that name
headed : (name : Text) (words : List Text) → list_all is_utf8 (name ∷ words) ≡ true → has_hyphen (name ∷ words) ≡ false → parse (name ∷ words) ≡ option_and_then (command_named name) (operands words)
headed name words u h = go (bytes_eq name (45 ∷ 45 ∷ [])) refl
  where
    parts : (is_utf8 name ≡ true) × (list_all is_utf8 words ≡ true)
    parts = and_parts (is_utf8 name) (list_all is_utf8 words) u

    go : (b : Bool) → bytes_eq name (45 ∷ 45 ∷ []) ≡ b → parse (name ∷ words) ≡ option_and_then (command_named name) (operands words)
    go true e = subst (λ (n : Text). parse (n ∷ words) ≡ option_and_then (command_named n) (operands words)) (sym ((bytes_eq-Decides name (45 ∷ 45 ∷ [])).0 e)) (dashes_parsed words ∙ sym (none_after (operands words)))
    go false e =
        let rest = neither (bytes_eq name (45 ∷ [])) (has_hyphen words) (sym (hyphen_on name words e) ∙ h) in
        named_parsed name words parts.0 parts.1 (seen_operands words parts.1 rest)

pub parsed : (words : List Text) → list_all is_utf8 words ≡ true → has_hyphen words ≡ false → answer (fault_of program_app words) (subcommand_of program_app words) ≡ command_of_words words
unfolding clap_on_literals
parsed [] u h = refl
parsed (name ∷ words) u h = headed name words u h

-- ---- the command of the words

abbrev pub as_text : List Text → Option (List Text)
as_text words = if list_all is_utf8 words then Some words else None

pub of_no_text : (words : List Text) → None ≡ as_text words → None ≡ command_of words
unfolding command_of
of_no_text words e = go (list_all is_utf8 words) e
  where
    go : (b : Bool) → None ≡ (if b then Some words else None) → None ≡ (if b then command_of_words words else None)
    go true e = absurd cc
    go false e = refl

of_text : (words texts : List Text) → Some texts ≡ as_text words → (list_all is_utf8 words ≡ true) × (texts ≡ words) × (command_of words ≡ command_of_words words)
unfolding command_of
of_text words texts e = go (list_all is_utf8 words) refl e
  where
    go : (b : Bool) → list_all is_utf8 words ≡ b → Some texts ≡ (if b then Some words else None) → (b ≡ true) × (texts ≡ words) × ((if b then command_of_words words else None) ≡ command_of_words words)
    go true u e = (refl, cc, refl)
    go false u e = absurd cc

pub of_hyphen : (words texts : List Text) → Some texts ≡ as_text words → has_hyphen texts ≡ true → None ≡ command_of words
of_hyphen words texts e h =
    let t = of_text words texts e in
    sym (t.2 ∙ hyphen_spelled words (ap has_hyphen (sym t.1) ∙ h))

command_is : (words texts : List Text) (app : App) → Some texts ≡ as_text words → has_hyphen texts ≡ false → app ≡ program_app → command_of words ≡ answer (fault_of app texts) (subcommand_of app texts)
command_is words texts app e h is =
    let t = of_text words texts e in
    t.2 ∙ sym (parsed words t.0 (ap has_hyphen (sym t.1) ∙ h)) ∙ ap₂ (λ (a : App) (w : List Text). answer (fault_of a w) (subcommand_of a w)) (sym is) (sym t.1)

pub of_matches : (words texts : List Text) (app : App) (met : Option (Text × List Row)) → Some texts ≡ as_text words → has_hyphen texts ≡ false → app ≡ program_app
    → fault_of app texts ≡ [] → met ≡ subcommand_of app texts → option_and_then (λ m. command_meant m.0 m.1) met ≡ command_of words
of_matches words texts app met e h is fine found =
    sym (command_is words texts app e h is ∙ ap₂ answer fine (sym found))

pub of_failure : (words texts : List Text) (app : App) (k : ErrorKind) → Some texts ≡ as_text words → has_hyphen texts ≡ false → app ≡ program_app
    → ((k ≡ kind.OutOfMemory) ⊎ IsAmong k (fault_of app texts)) → (k ≡ kind.OutOfMemory → ⊥) → None ≡ command_of words
of_failure words texts app k e h is failed other = elim failed [
  | inl memory ↦ absurd (other memory)
  | inr among ↦ sym (command_is words texts app e h is ∙ go (fault_of app texts) (subcommand_of app texts) among)
]
  where
    go : (faults : Kinds) (met : Option (Text × List Row)) → IsAmong k faults → answer faults met ≡ None
    go [] met h = absurd h
    go (x ∷ xs) met h = refl
