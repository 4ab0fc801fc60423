-- The words of the program's commands.
use Rattle.std.specs.Prelude.{ℕ, ◌≤◌, ◌&&◌, ◌^◌, ◌-◌, nat_le, nat_lt, nat_eq, if◌then◌else◌, List, [], ◌∷◌, codes, Option, Some, None, option_map, option_and_then, Ok, Err}
use Rattle.std.specs.Fmt.{decimal}
use Rattle.std.specs.List.{list_all, starts_with}
use Rattle.std.specs.Str.{bytes_eq, is_utf8}
use Rattle.std.specs.Str.Parse.{digits_value}
use Rattle.vp_base.specs.Calls.{IsCall}
use Rattle.vp_model.specs.Types.{Call}
use Rattle.vp_model.specs.Texts.Calls.{call_text}
use Rattle.vp_schedule.specs.Reading.{call_at}
use Rattle.vp_words.specs.declared.words.Command.{Command}
use Rattle.vp_words.specs.declared.words.Command.TheVariants as commands
use Rattle.vp_words.specs.declared.words.Signal.{Signal}
use Rattle.vp_words.specs.declared.words.Signal.TheVariants as signals

-- ---- single operands

-- the number of `least` to `most` whose decimal text the word is
abbrev pub number : ℕ → ℕ → List ℕ → Option ℕ
number least most word =
    let value = digits_value 10 word in
    if bytes_eq word (decimal value) && (nat_le least value && nat_le value most) then Some value else None

abbrev pub site : List ℕ → Option ℕ
site = number 1 16

abbrev pub port : List ℕ → Option ℕ
port = number 1 65535

abbrev pub turns : List ℕ → Option ℕ
turns = number 0 (2 ^ 64 - 1)

-- the call whose text the word is, as it follows its site in a schedule
unfoldable pub call : List ℕ → Option Call
call word = elim (call_at word) [ Ok read ↦ if bytes_eq word (call_text read.0) then Some read.0 else None | Err left ↦ None ]

-- ---- the operands of each command

-- a seed and a count
abbrev pub draws : List ℕ → List ℕ → Option (ℕ × ℕ)
draws seed count = option_and_then (λ s. option_map (λ c. (s, c)) (number 0 2400 count)) (number 0 2147483647 seed)

-- a node's site, its log, which any word names, and its turns
abbrev pub node : List ℕ → List ℕ → List ℕ → Option (ℕ × List ℕ × ℕ)
node s log t = option_and_then (λ site. option_map (λ turns. (site, log, turns)) (turns t)) (site s)

-- the own port of a client, a gateway or a procedure, its turns, and a site
abbrev pub client : List ℕ → List ℕ → List ℕ → Option (ℕ × ℕ × ℕ)
client p t s = option_and_then (λ port. option_and_then (λ turns. option_map (λ site. (port, turns, site)) (site s)) (turns t)) (port p)

-- The operands among the words after a command's name: all but the first `--`. Where a word before `--` begins with `-`, there are
-- none.
abbrev pub operands : List (List ℕ) → Option (List (List ℕ))
operands [] = Some []
operands (word ∷ words) =
    if bytes_eq word (codes "--") then Some words
    else (if starts_with nat_eq word (codes "-") then None
    else option_map (λ rest. word ∷ rest) (operands words))

-- sites with their logs, in turn, where each site is above the one before
abbrev pub pairs : ℕ → List (List ℕ) → Option (List (ℕ × List ℕ))
pairs last [] = Some []
pairs last (s ∷ []) = None
pairs last (s ∷ log ∷ words) =
    option_and_then (λ site. if nat_lt last site then option_map (λ more. (site, log) ∷ more) (pairs site words) else None) (site s)

-- ---- a command by its operands

abbrev pub alone : Command → List (List ℕ) → Option Command
alone command [] = Some command
alone command _ = None

abbrev pub drawing : (ℕ × ℕ → Command) → List (List ℕ) → Option Command
drawing command (seed ∷ count ∷ []) = option_map command (draws seed count)
drawing command _ = None

abbrev pub serving : List (List ℕ) → Option Command
serving (s ∷ log ∷ t ∷ []) = option_map (λ n. commands.Node n.0 n.1 n.2) (node s log t)
serving _ = None

abbrev pub calling : List (List ℕ) → Option Command
calling (p ∷ t ∷ s ∷ c ∷ []) = option_and_then (λ o. option_map (λ call. commands.Client o.0 o.1 o.2 call) (call c)) (client p t s)
calling _ = None

abbrev pub signalling : Signal → List (List ℕ) → Option Command
signalling given (s ∷ []) = option_map (λ site. commands.Signal site given) (site s)
signalling given _ = None

-- at least one pair
abbrev pub auditing : List (List ℕ) → Option Command
auditing [] = None
auditing words = option_map commands.Audit (pairs 0 words)

abbrev pub asking : (ℕ × ℕ × ℕ → Command) → List (List ℕ) → Option Command
asking command (p ∷ t ∷ s ∷ []) = option_map command (client p t s)
asking command _ = None

-- ---- a command by its name

abbrev pub command_named : List ℕ → List (List ℕ) → Option Command
command_named name words =
    if bytes_eq name (codes "replay") then alone commands.Replay words
    else (if bytes_eq name (codes "check") then alone commands.Check words
    else (if bytes_eq name (codes "node") then serving words
    else (if bytes_eq name (codes "client") then calling words
    else (if bytes_eq name (codes "tick") then signalling signals.Tick words
    else (if bytes_eq name (codes "probe") then signalling signals.Probe words
    else (if bytes_eq name (codes "stop") then signalling signals.Stop words
    else (if bytes_eq name (codes "generate") then drawing (λ d. commands.Generate d.0 d.1) words
    else (if bytes_eq name (codes "soak") then drawing (λ d. commands.Soak d.0 d.1) words
    else (if bytes_eq name (codes "logs") then alone commands.Logs words
    else (if bytes_eq name (codes "audit") then auditing words
    else (if bytes_eq name (codes "gateway") then asking (λ o. commands.Gateway o.0 o.1 o.2) words
    else (if bytes_eq name (codes "merge") then alone commands.Merge words
    else (if bytes_eq name (codes "proc") then asking (λ o. commands.Proc o.0 o.1 o.2) words
    else None)))))))))))))

-- a command's name, and then its operands
abbrev pub command_of_words : List (List ℕ) → Option Command
command_of_words [] = None
command_of_words (name ∷ words) = option_and_then (command_named name) (operands words)

-- The command of the words. Where a word isn't UTF-8 there is none.
unfoldable pub command_of : List (List ℕ) → Option Command
command_of words = if list_all is_utf8 words then command_of_words words else None

-- the seed and the count are in their ranges, and a client's call has a text
abbrev pub IsAllowed : Command → Type 0
IsAllowed (commands.Generate seed count) = (seed ≤ 2147483647) × (count ≤ 2400)
IsAllowed (commands.Soak seed count) = (seed ≤ 2147483647) × (count ≤ 2400)
IsAllowed (commands.Client port turns site call) = IsCall call
IsAllowed _ = Unit {0}
