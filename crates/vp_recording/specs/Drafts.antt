-- The lines of recordings, each allowed after the lines before it.
use Rattle.std.specs.Prelude.{◌≡◌, ⊤, ℕ, ◌+◌, ◌-◌, ◌≤◌, ◌<◌, ◌^◌, Bool, true, false, List, [], ◌∷◌, ◌++◌, codes, get_or, set, replicate, Option, Some, None, is_some, option_map, Result, Ok, Err}
use Rattle.vp_model.specs.Words.{has}
use Rattle.vp_model.specs.Catalogue.{sites_of}
use Rattle.vp_heads.specs.Heads as heads
use Rattle.vp_recording.specs.declared.recording.Recording.{Recording}
use Rattle.vp_recording.specs.declared.recording.Turn.{Turn}
use Rattle.vp_recording.specs.declared.draft.RecordingDraft.{RecordingDraft}
use Rattle.vp_recording.specs.declared.fault.RecordingFault.{RecordingFault}
use Rattle.vp_recording.specs.declared.fault.RecordingFault.TheVariants as faults
use Rattle.vp_recording.specs.declared.line.RecordingLine.{RecordingLine}
use Rattle.vp_recording.specs.declared.line.RecordingLine.TheVariants as kind
use Rattle.vp_recording.specs.Hex.{IsDatagram}
use Rattle.vp_recording.specs.Lines.{key, hex_line, number_line, BadText, StrayText}

-- ---- what the lines before say

abbrev pub sites_said : RecordingDraft → List ℕ
sites_said d = sites_of d.head.catalog

-- the last life of a site; 0 before its first one
abbrev pub last_life : ℕ → List ℕ → ℕ
last_life site lives = get_or lives (site - 1) 0

abbrev pub life_named : Option ℕ → List ℕ → ℕ
life_named None lives = 0
life_named (Some site) lives = last_life site lives

abbrev pub life_before : RecordingDraft → ℕ
life_before d = life_named d.named d.lives

-- ---- the lines

-- after the line `recordings`, where no `start` has to come
pub record IsFree (d : RecordingDraft) : Type 0 where
  pub opened : d.head.opened ≡ true
  pub unnamed : d.named ≡ None

-- and a block goes on
pub record IsWithin (d : RecordingDraft) : Type 0 where
  pub free : IsFree d
  pub goes_on : is_some d.block ≡ true

-- `start` is after `node` alone, and `out` after `in` or `out`; `node` may come after each line but `node`, and the others in a block that isn't ended.
abbrev pub LineText : RecordingDraft → RecordingLine → List ℕ → Type 0
LineText d (kind.Head line) text = heads.LineText key d.head line text
LineText d (kind.Node site) text = IsFree d × (has (sites_said d) site ≡ true) × (text ≡ number_line (codes "node ") site)
LineText d (kind.Start life) text = (d.head.opened ≡ true) × (is_some d.named ≡ true) × (life_before d < life) × (life ≤ 2 ^ 32 - 1) × (text ≡ number_line (codes "start ") life)
LineText d (kind.In frame) text = IsWithin d × IsDatagram frame × (text ≡ hex_line (codes "in ") frame)
LineText d (kind.Out frame) text = IsWithin d × (is_some d.turn ≡ true) × IsDatagram frame × (text ≡ hex_line (codes "out ") frame)
LineText d kind.Bad text = IsWithin d × BadText text
LineText d kind.Stray text = IsWithin d × StrayText text
LineText d kind.End text = IsWithin d × (text ≡ codes "end\n")
LineText d kind.LinkFault text = IsWithin d × (text ≡ codes "link fault\n")
LineText d kind.DiskFault text = IsWithin d × (text ≡ codes "disk fault\n")

-- The line may be added where the lines before it say so much.
abbrev pub Allows : RecordingDraft → RecordingLine → Type 0
Allows d (kind.Head line) = heads.Allows d.head line
Allows d line = ⊤

-- ---- from line to line

abbrev pub with_turn : Option Turn → Recording → Recording
with_turn None r = r
with_turn (Some turn) r = record r { turns = r.turns ++ turn ∷ [] }

abbrev pub with_out : List ℕ → Turn → Turn
with_out frame turn = record turn { outs = turn.outs ++ (record { port = 0; bytes = frame }) ∷ [] }

abbrev pub with_block : Bool → Option Recording → List Recording → List Recording
with_block ended None recordings = recordings
with_block ended (Some r) recordings = recordings ++ (record r { ended = ended }) ∷ []

-- the turn at hand has its last line
abbrev pub turn_closed : RecordingDraft → RecordingDraft
turn_closed d = record d { block = option_map (with_turn d.turn) d.block; turn = None }

-- and so has the block
abbrev pub block_closed : Bool → RecordingDraft → RecordingDraft
block_closed ended d = record d { recordings = with_block ended (option_map (with_turn d.turn) d.block) d.recordings; block = None; turn = None }

abbrev pub first_turn : List ℕ → Turn
first_turn frame = record { frame = frame; outs = [] }

abbrev pub start_recording : Option ℕ → ℕ → RecordingDraft → RecordingDraft
start_recording None life d = d
start_recording (Some site) life d =
    record d { named = None; block = Some (record { site = site; life = life; turns = []; ended = false }); lives = set d.lives (site - 1) life }

abbrev pub after : RecordingDraft → RecordingLine → RecordingDraft
after d (kind.Head line) = record d { head = heads.after d.head line }
after d (kind.Node site) = record (block_closed false d) { named = Some site }
after d (kind.Start life) = start_recording d.named life d
after d (kind.In frame) = record (turn_closed d) { turn = Some (first_turn frame) }
after d (kind.Out frame) = record d { turn = option_map (with_out frame) d.turn }
after d kind.Bad = turn_closed d
after d kind.Stray = turn_closed d
after d kind.End = block_closed true d
after d kind.LinkFault = block_closed true d
after d kind.DiskFault = block_closed true d

abbrev pub blank : RecordingDraft
blank = record { head = heads.blank; recordings = []; named = None; block = None; turn = None; lives = replicate 16 0 }

-- A line may follow this one.
abbrev pub Onward : RecordingDraft → RecordingLine → Type 0
Onward d (kind.Head line) = heads.Onward d.head line
Onward d (kind.Node site) = last_life site d.lives < 2 ^ 32 - 1
Onward d line = ⊤

-- It names a site whose last life was its last possible one: no `start` can follow.
abbrev pub Spends : RecordingDraft → RecordingLine → Type 0
Spends d (kind.Node site) = 2 ^ 32 - 1 ≤ last_life site d.lives
Spends d line = ⊥

-- It repeats a port or a name.
abbrev pub Repeats : RecordingDraft → RecordingLine → Type 0
Repeats d (kind.Head line) = heads.Repeats d.head line
Repeats d line = ⊥

-- It is a record line after 256 of them.
abbrev pub Overfills : RecordingDraft → RecordingLine → Type 0
Overfills d (kind.Head line) = heads.Overfills d.head line
Overfills d line = ⊥

-- The line of this number was added.
abbrev pub Adds : RecordingDraft → RecordingLine → ℕ → RecordingDraft → Result ⊤ RecordingFault → Type 0
Adds old line number new (Ok u) = (new ≡ after old line) × Onward old line
Adds old line number new (Err (faults.BadLine l at)) = (l ≡ number + 1) × (at ≡ 1) × Spends old line
Adds old line number new (Err (faults.Twice l)) = (l ≡ number) × Repeats old line
Adds old line number new (Err (faults.TooMany l limit)) = (l ≡ number) × (limit ≡ 256) × Overfills old line
Adds old line number new (Err faults.NoMemory) = ⊤
