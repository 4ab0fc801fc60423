-- The lines of a schedule, each allowed by the lines before it.
use Rattle.std.specs.Prelude.{◌≡◌, ⊤, ℕ, ◌≤◌, ◌<◌, List, [], ◌∷◌, ◌++◌, length, true, false, codes, Result, Ok, Err}
use Rattle.vp_model.specs.Catalogue.{sites_of}
use Rattle.vp_model.specs.Texts.Schedule.{event_line}
use Rattle.vp_catalog.specs.declared.fault.CatalogFault.{CatalogFault}
use Rattle.vp_catalog.specs.declared.fault.CatalogFault.TheVariants as catalog_faults
use Rattle.vp_catalog.specs.Entries as entries
use Rattle.vp_schedule.specs.declared.line.ScheduleLine.{ScheduleLine}
use Rattle.vp_schedule.specs.declared.line.ScheduleLine.TheVariants as kind
use Rattle.vp_schedule.specs.declared.draft.ScheduleDraft.{ScheduleDraft}
use Rattle.vp_schedule.specs.declared.fault.ScheduleFault.{ScheduleFault}
use Rattle.vp_schedule.specs.declared.fault.ScheduleFault.TheVariants as faults
use Rattle.vp_schedule.specs.Events.{IsEvent}

-- ---- the lines

abbrev pub sites_said : ScheduleDraft → List ℕ
sites_said d = sites_of d.schedule.catalogue

-- The line `events` comes after at least one site and after all lines of the catalogue; the events come after it.
abbrev pub LineText : ScheduleDraft → ScheduleLine → List ℕ → Type 0
LineText d (kind.Entry entry) text = (d.opened ≡ false) × entries.EntryText d.schedule.catalogue entry text
LineText d kind.Events text = (d.opened ≡ false) × (0 < length d.schedule.catalogue.sites) × (text ≡ codes "events\n")
LineText d (kind.Event event) text = (d.opened ≡ true) × IsEvent (sites_said d) event × (text ≡ event_line event)

-- The lines before it allow the line.
abbrev pub IsAllowed : ScheduleDraft → ScheduleLine → Type 0
IsAllowed d line = (text : List ℕ) × LineText d line text

-- ---- from one line to the next

abbrev pub blank : ScheduleDraft
blank = record { schedule = record { catalogue = entries.nothing; events = [] }; opened = false }

abbrev pub after : ScheduleDraft → ScheduleLine → ScheduleDraft
after d (kind.Entry entry) = record { schedule = record { catalogue = entries.after d.schedule.catalogue entry; events = d.schedule.events }; opened = d.opened }
after d kind.Events = record { schedule = d.schedule; opened = true }
after d (kind.Event event) = record { schedule = record { catalogue = d.schedule.catalogue; events = d.schedule.events ++ event ∷ [] }; opened = d.opened }

-- A line may follow this one.
abbrev pub Onward : ScheduleDraft → ScheduleLine → Type 0
Onward d (kind.Entry entry) = entries.Onward d.schedule.catalogue entry
Onward d kind.Events = ⊤
Onward d (kind.Event event) = length d.schedule.events < 100000

-- It repeats a port or a name.
abbrev pub Repeats : ScheduleDraft → ScheduleLine → Type 0
Repeats d (kind.Entry entry) = entries.Repeats d.schedule.catalogue entry
Repeats d kind.Events = ⊥
Repeats d (kind.Event event) = ⊥

-- It is a record line after 256 records, or an event line after 100,000 events.
abbrev pub Exceeds : ℕ → ScheduleDraft → ScheduleLine → Type 0
Exceeds limit d (kind.Entry entry) = (limit ≡ 256) × entries.Overfills d.schedule.catalogue entry
Exceeds limit d kind.Events = ⊥
Exceeds limit d (kind.Event event) = (limit ≡ 100000) × (100000 ≤ length d.schedule.events)

abbrev pub fault_of : CatalogFault → ScheduleFault
fault_of (catalog_faults.BadLine line at) = faults.BadLine line at
fault_of (catalog_faults.Twice line) = faults.Twice line
fault_of (catalog_faults.TooMany line limit) = faults.TooMany line limit
fault_of catalog_faults.NoMemory = faults.NoMemory

-- The line of this number was added, or the draft is as it was.
abbrev pub Adds : ScheduleDraft → ScheduleLine → ℕ → ScheduleDraft → Result (Unit {0}) ScheduleFault → Type 0
Adds old line number new (Ok u) = (new ≡ after old line) × Onward old line
Adds old line number new (Err (faults.BadLine l at)) = ⊥
Adds old line number new (Err (faults.Twice l)) = (new ≡ old) × (l ≡ number) × Repeats old line
Adds old line number new (Err (faults.TooMany l limit)) = (new ≡ old) × (l ≡ number) × Exceeds limit old line
Adds old line number new (Err faults.NoMemory) = new ≡ old
