-- The first words of event lines.
use Rattle.std.specs.Prelude.{ℕ, List, [], ◌∷◌, length, codes, nat_lt, if◌then◌else◌, Result}
use Rattle.vp_text.specs.Reading.{word_among}
use Rattle.vp_schedule.specs.declared.kind.EventKind.{EventKind}
use Rattle.vp_schedule.specs.declared.kind.EventKind.TheVariants.{Call, Deliver, Flow, Tick, Probe, Crash, Restart, Cut, Heal}

abbrev pub word : EventKind → List ℕ
word Call = codes "call "
word Deliver = codes "deliver "
word Flow = codes "flow "
word Tick = codes "tick "
word Probe = codes "probe "
word Crash = codes "crash "
word Restart = codes "restart "
word Cut = codes "cut "
word Heal = codes "heal "

-- the kinds that name no pair of sites
abbrev pub single_kinds : List EventKind
single_kinds = Call ∷ Deliver ∷ Flow ∷ Tick ∷ Probe ∷ Crash ∷ Restart ∷ []

abbrev pub all_kinds : List EventKind
all_kinds = Call ∷ Deliver ∷ Flow ∷ Tick ∷ Probe ∷ Crash ∷ Restart ∷ Cut ∷ Heal ∷ []

-- A pair of different sites needs at least two sites.
abbrev pub kinds_over : List ℕ → List EventKind
kinds_over sites = if nat_lt (length sites) 2 then single_kinds else all_kinds

-- ---- reading

-- the word of one of the kinds
abbrev pub kind_at : List EventKind → List ℕ → Result (EventKind × List ℕ) ℕ
kind_at = word_among word
