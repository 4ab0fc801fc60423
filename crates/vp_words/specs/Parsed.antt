-- The program's commands as `clap` has them, and what its matches mean.
use Rattle.std.specs.Prelude.{ℕ, List, [], ◌∷◌, codes, true, Bool, not, fold, Option, Some, None, option_map, option_and_then, if◌then◌else◌}
use Rattle.std.specs.List.{list_any, take_while}
use Rattle.std.specs.Str.{bytes_eq}
use Rattle.clap.specs.Words.{App, Row, Rule, Text, all_of, first_of, new_app, new_rule, with_rule, with_subcommand}
use Rattle.vp_words.specs.Commands.{call, client, draws, node, pairs, site}
use Rattle.vp_words.specs.declared.words.Command.{Command}
use Rattle.vp_words.specs.declared.words.Command.TheVariants as commands
use Rattle.vp_words.specs.declared.words.Signal.{Signal}
use Rattle.vp_words.specs.declared.words.Signal.TheVariants as signals

-- There is a word `-` before the first `--`. `clap` takes it for an operand.
unfoldable pub has_hyphen : List Text → Bool
has_hyphen words = list_any (λ word. bytes_eq word (codes "-")) (take_while (λ word. not (bytes_eq word (codes "--"))) words)

abbrev pub required_rule : Text → Rule
required_rule id = record (new_rule id) { required = true }

abbrev pub with_operand : App → Text → App
with_operand app id = with_rule app (required_rule id)

-- a command whose operands are all required
abbrev pub operand_app : Text → List Text → App
operand_app name ids = fold with_operand (new_app name) ids

abbrev pub node_app : App
node_app = operand_app (codes "node") (codes "SITE" ∷ codes "LOG" ∷ codes "TURNS" ∷ [])

abbrev pub client_app : App
client_app = operand_app (codes "client") (codes "PORT" ∷ codes "TURNS" ∷ codes "SITE" ∷ codes "CALL" ∷ [])

abbrev pub signal_app : Text → App
signal_app name = operand_app name (codes "SITE" ∷ [])

abbrev pub drawing_app : Text → App
drawing_app name = operand_app name (codes "SEED" ∷ codes "COUNT" ∷ [])

-- the command of an audit, whose one operand takes all its words
abbrev pub pairs_rule : Rule
pairs_rule = record (required_rule (codes "PAIRS")) { range = Some (record { start_inclusive = 2; end_inclusive = 32 }) }

abbrev pub audit_app : App
audit_app = with_rule (new_app (codes "audit")) pairs_rule

abbrev pub gateway_app : App
gateway_app = operand_app (codes "gateway") (codes "PORT" ∷ codes "TURNS" ∷ codes "SITE" ∷ [])

abbrev pub proc_app : App
proc_app = operand_app (codes "proc") (codes "PORT" ∷ codes "TURNS" ∷ codes "SITE" ∷ [])

-- no options, and no command for help
abbrev pub bare_app : App
bare_app = let app = new_app (codes "vpdb") in record app {
  top = record app.top { no_binary_name = true; disable_help_flag = true; disable_help_subcommand = true };
}

abbrev pub with_command : App → App → App
with_command app command = with_subcommand app command.top

abbrev pub program_app : App
program_app = fold with_command bare_app (
    new_app (codes "replay") ∷ new_app (codes "check") ∷ node_app ∷ client_app ∷ signal_app (codes "tick")
    ∷ signal_app (codes "probe") ∷ signal_app (codes "stop") ∷ drawing_app (codes "generate") ∷ drawing_app (codes "soak") ∷ new_app (codes "logs") ∷ audit_app
    ∷ gateway_app ∷ new_app (codes "merge") ∷ proc_app ∷ [])

-- ---- what the rows of the operands mean

abbrev pub with_first : {A : Type 0} → Text → List Row → (Text → Option A) → Option A
with_first id rows goes = option_and_then goes (first_of id rows)

abbrev pub seed_and_count : List Row → Option (ℕ × ℕ)
seed_and_count rows = with_first (codes "SEED") rows (λ seed. with_first (codes "COUNT") rows (λ count. draws seed count))

abbrev pub node_operands : List Row → Option (ℕ × Text × ℕ)
node_operands rows = with_first (codes "SITE") rows (λ site. with_first (codes "LOG") rows (λ log. with_first (codes "TURNS") rows (λ turns. node site log turns)))

abbrev pub node_command : List Row → Option Command
node_command rows = option_map (λ n. commands.Node n.0 n.1 n.2) (node_operands rows)

-- with the word of the call
abbrev pub client_operands : List Row → Option (ℕ × ℕ × ℕ × Text)
client_operands rows =
    with_first (codes "PORT") rows (λ port. with_first (codes "TURNS") rows (λ turns. with_first (codes "SITE") rows (λ site.
    with_first (codes "CALL") rows (λ call. option_map (λ o. (o.0, o.1, o.2, call)) (client port turns site)))))

abbrev pub client_command : List Row → Option Command
client_command rows = option_and_then (λ o. option_map (λ call. commands.Client o.0 o.1 o.2 call) (call o.3)) (client_operands rows)

abbrev pub signal_command : Signal → List Row → Option Command
signal_command given rows = with_first (codes "SITE") rows (λ s. option_map (λ site. commands.Signal site given) (site s))

abbrev pub audit_command : List Row → Option Command
audit_command rows = option_and_then (λ words. option_map commands.Audit (pairs 0 words)) (all_of (codes "PAIRS") rows)

abbrev pub gateway_operands : List Row → Option (ℕ × ℕ × ℕ)
gateway_operands rows =
    with_first (codes "PORT") rows (λ port. with_first (codes "TURNS") rows (λ turns. with_first (codes "SITE") rows (λ site. client port turns site)))

abbrev pub gateway_command : List Row → Option Command
gateway_command rows = option_map (λ o. commands.Gateway o.0 o.1 o.2) (gateway_operands rows)

abbrev pub proc_command : List Row → Option Command
proc_command rows = option_map (λ o. commands.Proc o.0 o.1 o.2) (gateway_operands rows)

-- the command that a subcommand with its rows means
abbrev pub command_meant : Text → List Row → Option Command
command_meant name rows =
    if bytes_eq name (codes "replay") then Some commands.Replay
    else (if bytes_eq name (codes "check") then Some commands.Check
    else (if bytes_eq name (codes "node") then node_command rows
    else (if bytes_eq name (codes "client") then client_command rows
    else (if bytes_eq name (codes "tick") then signal_command signals.Tick rows
    else (if bytes_eq name (codes "probe") then signal_command signals.Probe rows
    else (if bytes_eq name (codes "stop") then signal_command signals.Stop rows
    else (if bytes_eq name (codes "generate") then option_map (λ d. commands.Generate d.0 d.1) (seed_and_count rows)
    else (if bytes_eq name (codes "soak") then option_map (λ d. commands.Soak d.0 d.1) (seed_and_count rows)
    else (if bytes_eq name (codes "logs") then Some commands.Logs
    else (if bytes_eq name (codes "audit") then audit_command rows
    else (if bytes_eq name (codes "gateway") then gateway_command rows
    else (if bytes_eq name (codes "merge") then Some commands.Merge
    else (if bytes_eq name (codes "proc") then proc_command rows
    else None)))))))))))))
