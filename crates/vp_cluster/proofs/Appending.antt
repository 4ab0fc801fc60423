-- The append of a batch on a disk that stops.
use Rattle.std.proofs.Common.{◌≡◌, ◌∙◌, ℕ, ◌+◌, Bool, true, false, ap, subst, arith, List, [], ◌∷◌, length}
use Rattle.std.proofs.lemmas.Bool.Decides.{nat_tests}
use Rattle.std.proofs.lemmas.List.{length-append}
use Rattle.std.specs.Prelude.{nat_lt, if◌then◌else◌, Some}
use Rattle.vp_model.specs.Types.{LogRecord}
use Rattle.vp_disks.specs.Changes.{content_of, synced_of}
use Rattle.vp_outside.specs.Disk.{Halves, Becomes, DiskState, half_of, log_of}
use Rattle.vp_disks.specs.Images.{image_of}
use Rattle.vp_disks.specs.declared.changes.Change.{Change}
use Rattle.vp_stable.specs.Halves.{Standing, StandsAt, HaveBatches, HalvesAreOneLog}
use Rattle.vp_stable.specs.Stops.{AppendsToStop, GainsWhere, with_batch}
use Rattle.vp_node.proofs.Kept.{has as have}
use Rattle.vp_cluster.specs.Hosts.{AreLog, log_on}
use Rattle.vp_cluster.specs.Stops.{HasSoMany}

-- both halves make the log
pub halves_same : (first second : List ℕ) (log : Halves) → first ≡ half_of 0 log → second ≡ half_of 1 log → (first, second) ≡ log
halves_same first second log one other = ap (λ (half : List ℕ). (half, second)) one ∙ ap (λ (half : List ℕ). (log.0, half)) other

-- what the stop leaves is what is read, or what was last synced
pub left_by_stop : (batch : List LogRecord) (at : Standing) (calls : ℕ) (late : Bool) (log : Halves) (old : DiskState) (changes : List Change) (new : DiskState) → log_of old ≡ Some log
    → old.synced old.asked ≡ log_of old → AppendsToStop (GainsWhere batch at) calls old new → new.logs old.asked ≡ Some (content_of changes) → new.synced old.asked ≡ Some (synced_of changes)
    → GainsWhere batch at (if late then nat_lt 2 calls else nat_lt 3 calls) log (image_of late changes)
left_by_stop batch at calls true log old changes new is synced h read_is synced_is =
    subst (λ o. Becomes (GainsWhere batch at (nat_lt 2 calls)) o (Some (content_of changes))) is (subst (Becomes (GainsWhere batch at (nat_lt 2 calls)) (log_of old)) read_is h.read)
left_by_stop batch at calls false log old changes new is synced h read_is synced_is =
    subst (λ o. Becomes (GainsWhere batch at (nat_lt 3 calls)) o (Some (synced_of changes))) is (subst (Becomes (GainsWhere batch at (nat_lt 3 calls)) (log_of old)) synced_is (h.synced synced))

-- ---- what a recovery finds before and after the stop

-- a log with a place for its next batch is a log
pub stands_as_log : (at : Standing) (log : Halves) → (batches : List (List LogRecord)) × StandsAt at batches log → AreLog log
stands_as_log at log stands = (stands.0, have stands.1)

-- what it finds in a copy is what the log has
pub counted_so : HalvesAreOneLog → (disk copy : List Change) (batches : List (List LogRecord)) (count : ℕ) → log_on copy ≡ log_on disk → HaveBatches batches (log_on copy) → count ≡ length batches → HasSoMany count (log_on disk)
counted_so one disk copy batches count same found is others has = is ∙ ap length (one batches others (log_on disk) (subst (HaveBatches batches) same found) has)

-- the batch is there if there are more batches than before
pub kept_by_counts : (batch : List LogRecord) (at : Standing) (kept : Bool) (old new : Halves) → (batches : List (List LogRecord)) × StandsAt at batches old → GainsWhere batch at kept old new
    → (before now : ℕ) → HasSoMany before old → HasSoMany now new → nat_lt before now ≡ kept
kept_by_counts batch at kept old new stands gains before now was is = go kept (was stands.0 (have stands.1)) (is (with_batch kept batch stands.0) (gains stands.0 stands.1))
  where
    go : (kept : Bool) → before ≡ length stands.0 → now ≡ length (with_batch kept batch stands.0) → nat_lt before now ≡ kept
    go true b a = let one : now ≡ length stands.0 + 1 = a ∙ length-append stands.0 (batch ∷ []) in grind (arith, nat_tests, b, one)
    go false b a = grind (arith, nat_tests, b, a)
