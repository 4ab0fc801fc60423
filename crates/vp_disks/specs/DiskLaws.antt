-- A disk in memory obeys the laws of disks: what a read gives is one of the images, and its moments are the lengths of its record.
use Rattle.std.proofs.Common.{◌≡◌, ◌∙◌, inl, inr, Bool, ℕ, None, zero, suc, ◌+◌, ◌-◌, ◌≤◌, min, max, List, [], ◌∷◌, ◌++◌, length, take, drop, replicate, refl, subst, ap, arith, Option, Some, length-append, append_assoc}
use Rattle.std.proofs.lemmas.List.{drop_at, take-append-le, length-take-le, length-drop, length-replicate, take-take, take_min}
use Rattle.vp_outside.specs.Disk.{Halves, InHalf, in_half, write_bytes_at, Torn, MaybeCut, IsDisk}
use Rattle.vp_disks.specs.Changes.{changes_of, content_of, MayLeave, MightHaveLeft, state_before, state_after}
use Rattle.vp_disks.specs.declared.changes.Change.{Change}
use Rattle.vp_disks.specs.declared.changes.Change.TheVariants.{Attached, Wrote, Cut, Synced, Laid}

-- the bytes before `at`, with 0 after the old end, are `at` many
pub length-front : (at : ℕ) (old : List ℕ) → length (take at (old ++ replicate (at - length old) 0)) ≡ at
length-front at old = length-take-le at (old ++ replicate (at - length old) 0) (omega (arith, length-append old (replicate (at - length old) 0), length-replicate {A = ℕ} (at - length old) 0))

pub length-written : (at : ℕ) (bytes old : List ℕ) → length (write_bytes_at at bytes old) ≡ max (length old) (at + length bytes)
length-written at bytes old =
    let front = take at (old ++ replicate (at - length old) 0) in
    omega (arith, length-append (front ++ bytes) (drop (at + length bytes) old), length-append front bytes, length-front at old, length-drop (at + length bytes) old)

-- a write that is done is one of those that a crash may leave
pub Torn-written : (at : ℕ) (bytes old : List ℕ) → Torn at (length bytes) old (write_bytes_at at bytes old)
Torn-written at bytes old =
    let front = take at (old ++ replicate (at - length old) 0) in
    let rest = drop (at + length bytes) old in
    record {
      before =
          ap (take (min at (length old))) (append_assoc front bytes rest)
          ∙ take-append-le (min at (length old)) front (bytes ++ rest) (omega (arith, length-front at old))
          ∙ take-take (min at (length old)) at (old ++ replicate (at - length old) 0) (omega arith)
          ∙ take-append-le (min at (length old)) old (replicate (at - length old) 0) (omega arith)
          ∙ take_min at old;
      after = drop_at (front ++ bytes) rest (at + length bytes) (omega (arith, length-append front bytes, length-front at old));
      no_shorter = omega (arith, length-written at bytes old);
      no_longer = omega (arith, length-written at bytes old);
    }

pub InHalf-in_half : (half : ℕ) (step : List ℕ → List ℕ → Type 0) (f : List ℕ → List ℕ) (log : Halves) → ((old : List ℕ) → step old (f old)) → InHalf half step log (in_half half f log)
InHalf-in_half zero step f log h = (h log.0, refl)
InHalf-in_half (suc n) step f log h = (h log.1, refl)

pub MayLeave-content : (changes : List Change) → MayLeave changes (content_of changes)
MayLeave-content [] = refl
MayLeave-content (Attached name ∷ earlier) = MayLeave-content earlier
MayLeave-content (Wrote half at piece ∷ earlier) =
    (content_of earlier, MayLeave-content earlier, InHalf-in_half half (Torn at (length piece)) (write_bytes_at at piece) (content_of earlier) (Torn-written at piece))
MayLeave-content (Cut half n ∷ earlier) =
    (content_of earlier, MayLeave-content earlier, InHalf-in_half half (MaybeCut n) (take n) (content_of earlier) (λ old. inr refl))
MayLeave-content (Synced ∷ earlier) = refl
MayLeave-content (Laid first second ∷ earlier) = refl

MayLeave-told : (changes : List Change) (content : Halves) → Some (content_of changes) ≡ Some content → MayLeave changes content
MayLeave-told changes content told = let same : content_of changes ≡ content = cc in subst (MayLeave changes) same (MayLeave-content changes)

-- ---- moments

MightHaveLeft-since : (log : Option (List ℕ)) (since : ℕ) (changes : List Change) (image : Halves) → MightHaveLeft log since changes image → since ≤ length changes
MightHaveLeft-since log since [] image left = left.0
MightHaveLeft-since log since (change ∷ earlier) image (inl now) = now.0
MightHaveLeft-since log since (change ∷ earlier) image (inr past) = let le = MightHaveLeft-since log since earlier image past in omega arith

MightHaveLeft-now : (log : Option (List ℕ)) (since : ℕ) (changes : List Change) (image : Halves) → since ≤ length changes → MayLeave (changes_of log changes) image → MightHaveLeft log since changes image
MightHaveLeft-now log since [] image le now = (le, now)
MightHaveLeft-now log since (change ∷ earlier) image le now = inl (le, now)

MightHaveLeft-only_now : (log : Option (List ℕ)) (changes : List Change) (image : Halves) → MightHaveLeft log (length changes) changes image → MayLeave (changes_of log changes) image
MightHaveLeft-only_now log [] image left = left.1
MightHaveLeft-only_now log (change ∷ earlier) image (inl now) = now.1
MightHaveLeft-only_now log (change ∷ earlier) image (inr past) = absurd (let le = MightHaveLeft-since log (length (change ∷ earlier)) earlier image past in omega arith)

pub IsDisk-before : (until_stop : Option ℕ) (changes : List Change) (attached : Bool) (faults : ℕ) → IsDisk (state_before until_stop changes attached faults)
IsDisk-before until_stop changes attached faults = record {
  as_read = λ log content told. MayLeave-told (changes_of log changes) content told;
  counts_now = λ log since image. MightHaveLeft-now log since changes image;
  only_now = λ log image. MightHaveLeft-only_now log changes image;
}

pub IsDisk-after : (changes : List Change) (attached : Bool) (faults : ℕ) → IsDisk (state_after changes attached faults)
IsDisk-after = IsDisk-before None
