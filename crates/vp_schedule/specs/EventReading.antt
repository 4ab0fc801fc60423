-- Reading events from left to right.
use Rattle.std.specs.Prelude.{ℕ, List, [], ◌∷◌, not, filter, ◌==◌, Result, Ok}
use Rattle.vp_text.specs.Reading.{◌>>=◌, literal_at, number_at}
use Rattle.vp_catalog.specs.Sites.{site_at}
use Rattle.vp_model.specs.Types.{Event}
use Rattle.vp_model.specs.Types.event
use Rattle.vp_schedule.specs.Reading.{call_at}
use Rattle.vp_schedule.specs.declared.kind.EventKind.{EventKind}
use Rattle.vp_schedule.specs.declared.kind.EventKind.TheVariants.{Call, Deliver, Flow, Tick, Probe, Crash, Restart, Cut, Heal}
use Rattle.vp_schedule.specs.Kinds.{kinds_over, kind_at}

-- the sites of the list except this one
abbrev pub other_sites : List ℕ → ℕ → List ℕ
other_sites sites site = filter (λ s. not (s == site)) sites

unfoldable pub pair_at : List ℕ → List ℕ → Result ((ℕ × ℕ) × List ℕ) ℕ
pair_at sites bytes = do
  a ← site_at sites 0 bytes
  space ← literal_at (32 ∷ []) a.1
  b ← site_at (other_sites sites a.0) 0 space.1
  Ok ((a.0, b.0), b.1)

unfoldable pub called_at : List ℕ → List ℕ → Result (Event × List ℕ) ℕ
called_at sites bytes = do
  site ← site_at sites 0 bytes
  space ← literal_at (32 ∷ []) site.1
  words ← call_at space.1
  Ok (event.Call site.0 words.0, words.1)

-- what follows the word
unfoldable pub fields_at : List ℕ → EventKind → List ℕ → Result (Event × List ℕ) ℕ
fields_at sites Call bytes = called_at sites bytes
fields_at sites Deliver bytes = do
  k ← number_at 1 2000000 bytes
  Ok (event.Deliver k.0, k.1)
fields_at sites Flow bytes = do
  count ← number_at 1 100000 bytes
  Ok (event.Flow count.0, count.1)
fields_at sites Tick bytes = do
  site ← site_at sites 0 bytes
  Ok (event.Tick site.0, site.1)
fields_at sites Probe bytes = do
  site ← site_at sites 0 bytes
  Ok (event.Probe site.0, site.1)
fields_at sites Crash bytes = do
  site ← site_at sites 0 bytes
  Ok (event.Crash site.0, site.1)
fields_at sites Restart bytes = do
  site ← site_at sites 0 bytes
  Ok (event.Restart site.0, site.1)
fields_at sites Cut bytes = do
  pair ← pair_at sites bytes
  Ok (event.Cut pair.0.0 pair.0.1, pair.1)
fields_at sites Heal bytes = do
  pair ← pair_at sites bytes
  Ok (event.Heal pair.0.0 pair.0.1, pair.1)

unfoldable pub event_at : List ℕ → List ℕ → Result (Event × List ℕ) ℕ
event_at sites bytes = do
  kind ← kind_at (kinds_over sites) bytes
  fields_at sites kind.0 kind.1
