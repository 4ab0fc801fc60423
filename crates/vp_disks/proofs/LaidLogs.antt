-- Logs that are laid on another disk.
use Rattle.std.proofs.Common.{◌≡◌, ◌∙◌, ⊎_elim, List, [], ◌∷◌, ℕ, true, false, cond, get_or, refl, sym, ap, Option, Some, None}
use Rattle.std.proofs.lemmas.List.Quantifiers.{position-Some}
use Rattle.std.proofs.lemmas.Slice.Eq.{bytes_eq-Decides}
use Rattle.std.specs.Prelude.{find}
use Rattle.std.specs.Option.{option_map_or}
use Rattle.vp_outside.specs.Disk.{Halves}
use Rattle.vp_disks.specs.Changes.{asked_of, is_same_log, changes_of, content_of}
use Rattle.vp_disks.specs.Images.{OnlyLays, LeavesImages}
use Rattle.vp_disks.specs.NamedLogs.{is_named, halves_of, StandsAt, Keeps, laid_over}
use Rattle.vp_disks.specs.declared.changes.Change.{Change}
use Rattle.vp_disks.specs.declared.changes.Change.TheVariants.{Attached, Wrote, Cut, Synced, Laid}
use Rattle.vp_disks.specs.declared.log_bytes.NamedLog.{NamedLog}
use Rattle.vp_disks.proofs.LogRecords.{by_log, changes_of-same, changes_of-not_same, same_or_other}
use Rattle.vp_disks.proofs.NamedPlaces.{bytes_differ}

-- the record of a disk on which a log without a name was laid
abbrev pub laid_first : Halves → List Change
laid_first unnamed = Laid unnamed.0 unnamed.1 ∷ []

lays_over : (named : List NamedLog) (changes : List Change) → OnlyLays changes → OnlyLays (laid_over named changes)
lays_over [] changes lays = lays
lays_over (kept ∷ later) changes lays = lays_over later changes lays

-- another log is attached, and none changes
content_attached : (log : Option (List ℕ)) (name : List ℕ) (changes : List Change) → content_of (changes_of log (Attached name ∷ changes)) ≡ content_of (changes_of log changes)
content_attached log name changes = by_log log (Attached name) changes (λ c. content_of c ≡ content_of (changes_of log changes)) (λ _. refl) refl

-- what was laid is what the record says
content_laid : (log : Option (List ℕ)) (unnamed : Halves) (named : List NamedLog) → content_of (changes_of log (laid_over named (laid_first unnamed))) ≡ halves_of log unnamed named
content_laid None unnamed [] = refl
content_laid (Some name) unnamed [] = refl
content_laid None unnamed (kept ∷ later) = content_attached None kept.name (laid_over later (laid_first unnamed)) ∙ content_laid None unnamed later
content_laid (Some name) unnamed (kept ∷ later) = ⊎_elim same (other (content_laid (Some name) unnamed later)) (same_or_other (Some name) (Some kept.name))
  where
    before : List Change
    before = Attached kept.name ∷ laid_over later (laid_first unnamed)

    found : Option NamedLog → Halves
    found log = option_map_or (λ (log : NamedLog). log.log) log ([], [])

    same : Some name ≡ Some kept.name → content_of (changes_of (Some name) (Laid kept.log.0 kept.log.1 ∷ before)) ≡ halves_of (Some name) unnamed (kept ∷ later)
    same is =
        let there : is_named name kept ≡ true = (bytes_eq-Decides kept.name name).1 cc in
        ap content_of (changes_of-same (Some name) (Laid kept.log.0 kept.log.1) before is)
        ∙ sym (ap (λ b. found (cond b (Some kept) (find (is_named name) later))) there)

    other : content_of (changes_of (Some name) (laid_over later (laid_first unnamed))) ≡ halves_of (Some name) unnamed later → is_same_log (Some name) (Some kept.name) ≡ false
        → content_of (changes_of (Some name) (Laid kept.log.0 kept.log.1 ∷ before)) ≡ halves_of (Some name) unnamed (kept ∷ later)
    other rest differs =
        let elsewhere : is_named name kept ≡ false = bytes_differ kept.name name (λ (e : kept.name ≡ name). let yes = (bytes_eq-Decides name kept.name).1 (sym e) in absurd cc) in
        ap content_of (changes_of-not_same (Some name) (Laid kept.log.0 kept.log.1) before differs)
        ∙ content_attached (Some name) kept.name (laid_over later (laid_first unnamed))
        ∙ rest
        ∙ sym (ap (λ b. found (cond b (Some kept) (find (is_named name) later))) elsewhere)

-- where no log was ever attached, each call concerned the log without a name
elsewhere : (name : List ℕ) (change : Change) (earlier : List Change) → asked_of earlier ≡ None → changes_of (Some name) (change ∷ earlier) ≡ changes_of (Some name) earlier
elsewhere name change earlier none = changes_of-not_same (Some name) change earlier (ap (is_same_log (Some name)) none)

none_asked : (name : List ℕ) (changes : List Change) → asked_of changes ≡ None → changes_of (Some name) changes ≡ []
none_asked name [] none = refl
none_asked name (Attached other ∷ earlier) none = absurd cc
none_asked name (Wrote half at piece ∷ earlier) none = elsewhere name (Wrote half at piece) earlier none ∙ none_asked name earlier none
none_asked name (Cut half n ∷ earlier) none = elsewhere name (Cut half n) earlier none ∙ none_asked name earlier none
none_asked name (Synced ∷ earlier) none = elsewhere name Synced earlier none ∙ none_asked name earlier none
none_asked name (Laid first second ∷ earlier) none = elsewhere name (Laid first second) earlier none ∙ none_asked name earlier none

-- ---- the logs that are kept, laid on another disk

asks_none : (changes : List Change) (named : List NamedLog) → StandsAt (asked_of changes) named None → asked_of changes ≡ None
asks_none changes named stands = by (asked_of changes) stands
  where
    by : (asked : Option (List ℕ)) → StandsAt asked named None → asked ≡ None
    by None stands = refl
    by (Some name) stands = absurd (let no : false ≡ true = stands.1 in cc)

asks_its_name : (asked : Option (List ℕ)) (named : List NamedLog) (i : ℕ) (at : NamedLog) → StandsAt asked named (Some i) → at ≡ get_or named i at → Some at.name ≡ asked
asks_its_name None named i at stands read = absurd cc
asks_its_name (Some name) named i at stands read =
    let there = position-Some (is_named name) named i at stands.0 in
    ap (λ n. Some n) ((bytes_eq-Decides at.name name).0 (ap (is_named name) read ∙ there.1))

pub left_unnamed : (unnamed : Halves) (named : List NamedLog) (changes : List Change) → Keeps unnamed named None changes → LeavesImages true changes (laid_first unnamed)
left_unnamed unnamed named changes keeps =
    let none = asks_none changes named keeps.attached in
    record { asked = sym none; images = of_log none; only_laid = tt }
  where
    of_log : asked_of changes ≡ None → (log : Option (List ℕ)) → content_of (changes_of log (laid_first unnamed)) ≡ content_of (changes_of log changes)
    of_log none None = keeps.contents None
    of_log none (Some name) = sym (ap content_of (none_asked name changes none))

pub left_named : (unnamed : Halves) (named : List NamedLog) (changes : List Change) (i : ℕ) (at : NamedLog) → Keeps unnamed named (Some i) changes → at ≡ get_or named i at
    → LeavesImages true changes (Attached at.name ∷ laid_over named (laid_first unnamed))
left_named unnamed named changes i at keeps read = record {
  asked = asks_its_name (asked_of changes) named i at keeps.attached read;
  images = λ log. content_attached log at.name (laid_over named (laid_first unnamed)) ∙ content_laid log unnamed named ∙ keeps.contents log;
  only_laid = lays_over named (laid_first unnamed) tt;
}
