-- The logs that a disk in memory keeps by name.
use Rattle.std.specs.Prelude.{◌≡◌, ℕ, List, [], ◌∷◌, Option, Some, None, Bool, true, is_some, find}
use Rattle.std.specs.List.{position}
use Rattle.std.specs.Option.{option_map_or}
use Rattle.std.specs.Str.{bytes_eq}
use Rattle.vp_outside.specs.Disk.{Halves}
use Rattle.vp_disks.specs.Changes.{asked_of, changes_of, content_of}
use Rattle.vp_disks.specs.declared.changes.Change.{Change}
use Rattle.vp_disks.specs.declared.changes.Change.TheVariants.{Attached, Laid}
use Rattle.vp_disks.specs.declared.log_bytes.NamedLog.{NamedLog}

abbrev pub is_named : List ℕ → NamedLog → Bool
is_named name log = bytes_eq log.name name

-- the halves of the log of that name; a log that doesn't exist is empty
abbrev pub halves_of : Option (List ℕ) → Halves → List NamedLog → Halves
halves_of None unnamed named = unnamed
halves_of (Some name) unnamed named = option_map_or (λ (log : NamedLog). log.log) (find (is_named name) named) ([], [])

-- the log of that name is at this place
abbrev pub StandsAt : Option (List ℕ) → List NamedLog → Option ℕ → Type 0
StandsAt None named place = place ≡ None
StandsAt (Some name) named place = (position (is_named name) named ≡ place) × (is_some place ≡ true)

-- what is kept is what the record of changes says
pub record Keeps (unnamed : Halves) (named : List NamedLog) (place : Option ℕ) (changes : List Change) : Type 0 where
  pub contents : (log : Option (List ℕ)) → halves_of log unnamed named ≡ content_of (changes_of log changes)
  pub attached : StandsAt (asked_of changes) named place

-- the record of changes after each of these logs was laid too, the last one first
abbrev pub laid_over : List NamedLog → List Change → List Change
laid_over [] changes = changes
laid_over (kept ∷ later) changes = Laid kept.log.0 kept.log.1 ∷ Attached kept.name ∷ laid_over later changes
