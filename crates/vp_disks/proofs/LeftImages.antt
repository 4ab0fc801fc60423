-- What a stop leaves of a disk in memory is one of the images that a crash may leave, and how a change alters the images.
use Rattle.std.proofs.Common.{◌≡◌, ◌∙◌, inl, ⊎_elim, ℕ, List, [], ◌∷◌, Bool, true, false, refl, sym, ap, subst, Option}
use Rattle.std.specs.Prelude.{length}
use Rattle.vp_outside.specs.Disk.{Torn, MaybeCut, Only}
use Rattle.vp_disks.specs.Changes.{asked_of, is_same_log, changes_of, content_of, synced_of, MayLeave, state_before}
use Rattle.vp_disks.specs.DiskLaws.{MayLeave-content}
use Rattle.vp_disks.specs.Images.{image_of, OnlyLays, LeavesImages, IsLeftByCrash}
use Rattle.vp_disks.specs.declared.changes.Change.{Change}
use Rattle.vp_disks.specs.declared.changes.Change.TheVariants.{Attached, Wrote, Cut, Synced, Laid}
use Rattle.vp_outside.proofs.Halves.{InHalf-refl}
use Rattle.vp_disks.proofs.LogRecords.{by_log, changes_of-same, changes_of-not_same, same_or_other}
use Rattle.vp_disks.proofs.Torn.{Torn-refl}

-- ---- one log

MayLeave-synced : (changes : List Change) → MayLeave changes (synced_of changes)
MayLeave-synced [] = refl
MayLeave-synced (Attached name ∷ earlier) = MayLeave-synced earlier
MayLeave-synced (Wrote half at piece ∷ earlier) =
    (synced_of earlier, MayLeave-synced earlier, InHalf-refl half (Torn at (length piece)) (synced_of earlier) (Torn-refl at (length piece)))
MayLeave-synced (Cut half n ∷ earlier) = (synced_of earlier, MayLeave-synced earlier, InHalf-refl half (MaybeCut n) (synced_of earlier) (λ old. inl refl))
MayLeave-synced (Synced ∷ earlier) = refl
MayLeave-synced (Laid first second ∷ earlier) = refl

-- each image is one that a crash may leave
MayLeave-image : (late : Bool) (changes : List Change) → MayLeave changes (image_of late changes)
MayLeave-image true changes = MayLeave-content changes
MayLeave-image false changes = MayLeave-synced changes

-- where logs were only laid, what a read gives is the only image
only_content : (changes : List Change) → OnlyLays changes → Only (content_of changes) (MayLeave changes)
only_content [] lays image is = is
only_content (Attached name ∷ earlier) lays image left = only_content earlier lays image left
only_content (Wrote half at piece ∷ earlier) lays image left = absurd lays
only_content (Cut half n ∷ earlier) lays image left = absurd lays
only_content (Synced ∷ earlier) lays image left = absurd lays
only_content (Laid first second ∷ earlier) lays image is = is

-- and so for each log of a disk
lays_of : (log : Option (List ℕ)) (changes : List Change) → OnlyLays changes → OnlyLays (changes_of log changes)
lays_of log [] lays = tt
lays_of log (Attached name ∷ earlier) lays = let rest = lays_of log earlier lays in by_log log (Attached name) earlier OnlyLays (λ _. rest) rest
lays_of log (Wrote half at piece ∷ earlier) lays = absurd lays
lays_of log (Cut half n ∷ earlier) lays = absurd lays
lays_of log (Synced ∷ earlier) lays = absurd lays
lays_of log (Laid first second ∷ earlier) lays = let rest = lays_of log earlier lays in by_log log (Laid first second) earlier OnlyLays (λ _. rest) rest

-- what a stop leaves is what a crash may leave, and from then on it is all that a crash may leave
pub is_left : (late : Bool) (old new : List Change) (stop stop' : Option ℕ) (attached attached' : Bool) (faults faults' : ℕ) → LeavesImages late old new
    → IsLeftByCrash (state_before stop old attached faults) (state_before stop' new attached' faults')
is_left late old new stop stop' attached attached' faults faults' leaves = record {
  possible = λ log content told. let same : content_of (changes_of log new) ≡ content = cc in
      subst (MayLeave (changes_of log old)) (sym (leaves.images log) ∙ same) (MayLeave-image late (changes_of log old));
  certain = λ log content told image left. let same : content_of (changes_of log new) ≡ content = cc in
      only_content (changes_of log new) (lays_of log new leaves.only_laid) image left ∙ same;
}

-- ---- images of images

image_laid : (late : Bool) (changes : List Change) → OnlyLays changes → content_of changes ≡ image_of late changes
image_laid true changes lays = refl
image_laid false changes lays = by changes lays
  where
    by : (changes : List Change) → OnlyLays changes → content_of changes ≡ synced_of changes
    by [] lays = refl
    by (Attached name ∷ earlier) lays = by earlier lays
    by (Wrote half at piece ∷ earlier) lays = absurd lays
    by (Cut half n ∷ earlier) lays = absurd lays
    by (Synced ∷ earlier) lays = absurd lays
    by (Laid first second ∷ earlier) lays = refl

-- a disk on which logs were only laid is its own image
pub left_itself : (late : Bool) (changes : List Change) → OnlyLays changes → LeavesImages late changes changes
left_itself late changes lays = record { asked = refl; images = λ log. image_laid late (changes_of log changes) (lays_of log changes lays); only_laid = lays }

pub left_again : (late : Bool) (a b c : List Change) → LeavesImages late a b → LeavesImages true b c → LeavesImages late a c
left_again late a b c first next = record { asked = next.asked ∙ first.asked; images = λ log. next.images log ∙ first.images log; only_laid = next.only_laid }

-- ---- one more change

-- a change that alters no image of its own log alters none of any log
image_same : (late : Bool) (change : Change) → ((earlier : List Change) → image_of late (change ∷ earlier) ≡ image_of late earlier)
    → (log : Option (List ℕ)) (earlier : List Change) → image_of late (changes_of log (change ∷ earlier)) ≡ image_of late (changes_of log earlier)
image_same late change same log earlier =
    by_log log change earlier (λ changes. image_of late changes ≡ image_of late (changes_of log earlier)) (λ _. same (changes_of log earlier)) refl

pub left_unchanged : (late : Bool) (change : Change) → ((earlier : List Change) → image_of late (change ∷ earlier) ≡ image_of late earlier)
    → (a b : List Change) → asked_of (change ∷ a) ≡ asked_of a → LeavesImages late a b → LeavesImages late (change ∷ a) b
left_unchanged late change same a b asks leaves = record {
  asked = leaves.asked ∙ sym asks;
  images = λ log. leaves.images log ∙ sym (image_same late change same log a);
  only_laid = leaves.only_laid;
}

-- another log is attached
attached_same : (late : Bool) (name : List ℕ) (earlier : List Change) → image_of late (Attached name ∷ earlier) ≡ image_of late earlier
attached_same true name earlier = refl
attached_same false name earlier = refl

pub left_attached : (late : Bool) (name : List ℕ) (a b : List Change) → LeavesImages late a b → LeavesImages late (Attached name ∷ a) (Attached name ∷ b)
left_attached late name a b leaves = record {
  asked = refl;
  images = λ log. image_same true (Attached name) (attached_same true name) log b ∙ leaves.images log ∙ sym (image_same late (Attached name) (attached_same late name) log a);
  only_laid = leaves.only_laid;
}

-- The attached log gets another image by this change of the one disk, and by that change of the other.
module _ (late : Bool) (change other : Change) (a b : List Change) (leaves : LeavesImages late a b) where
  pub left_changed : asked_of (change ∷ a) ≡ asked_of a → asked_of (other ∷ b) ≡ asked_of b
      → content_of (other ∷ changes_of (asked_of a) b) ≡ image_of late (change ∷ changes_of (asked_of a) a)
      → (c : List Change) → LeavesImages true (other ∷ b) c → LeavesImages late (change ∷ a) c
  left_changed asks asks' here c next = record {
    asked = next.asked ∙ asks' ∙ leaves.asked ∙ sym asks;
    images = λ log. next.images log ∙ ⊎_elim (same log) (elsewhere log) (same_or_other log (asked_of a));
    only_laid = next.only_laid;
  }
    where
      same : (log : Option (List ℕ)) → log ≡ asked_of a → content_of (changes_of log (other ∷ b)) ≡ image_of late (changes_of log (change ∷ a))
      same log is =
          ap content_of (changes_of-same log other b (is ∙ sym leaves.asked))
          ∙ subst (λ l. content_of (other ∷ changes_of l b) ≡ image_of late (change ∷ changes_of l a)) (sym is) here
          ∙ ap (image_of late) (sym (changes_of-same log change a is))

      elsewhere : (log : Option (List ℕ)) → is_same_log log (asked_of a) ≡ false → content_of (changes_of log (other ∷ b)) ≡ image_of late (changes_of log (change ∷ a))
      elsewhere log differs =
          ap content_of (changes_of-not_same log other b (ap (is_same_log log) leaves.asked ∙ differs))
          ∙ leaves.images log
          ∙ ap (image_of late) (sym (changes_of-not_same log change a differs))

-- the attached log is laid anew
pub left_laid : (late : Bool) (first second : List ℕ) (a b : List Change) → LeavesImages late a b → (c : List Change) → LeavesImages true (Laid first second ∷ b) c → LeavesImages late (Laid first second ∷ a) c
left_laid true first second a b leaves = left_changed true (Laid first second) (Laid first second) a b leaves refl refl refl
left_laid false first second a b leaves = left_changed false (Laid first second) (Laid first second) a b leaves refl refl refl
