-- A buffer to which the bytes of a half are copied, piece by piece.
use Rattle.std.proofs.Common.{◌≡◌, ℕ, ◌+◌, ◌-◌, ◌<◌, ◌≤◌, min, List, ◌++◌, length, take, drop, sym, ◌∙◌, ap, arith, append_assoc, length-append}
use Rattle.std.proofs.Math.Seq.{take-add}
use Rattle.std.proofs.lemmas.List.{take_at, length-take-le, length-drop}
use Rattle.std.specs.Prelude.{IfSome, Ok}
use Rattle.std.specs.declared.option.Option.{Option}
use Rattle.std.specs.declared.option.Option.TheVariants.{Some, None}
use borrow.Rule.Slice.PartMut.{put_mid, post_of}
use Rattle.vp_outside.specs.Disk.{Halves, half_of, Gives}
use Rattle.vp_outside.specs.declared.source.Failed.{Failed}

more : (half buf old part : List ℕ) (at k n : ℕ) → at ≤ length buf → at ≤ length half → take at buf ≡ take at half → n ≤ length half - at → n ≤ length part
    → part ≡ take n (drop at half) ++ drop n old → take (at + n) (put_mid at k buf part) ≡ take (at + n) half
more half buf old part at k n within there before left room gives =
    let front = take at buf in
    let next = take n (drop at half) in
    let size : length front ≡ at = length-take-le at buf within in
    let got : length next ≡ n = length-take-le n (drop at half) (omega (arith, left, length-drop at half)) in
    let rest = post_of at k buf in
    let whole : put_mid at k buf part ≡ front ++ next ++ (drop n old ++ rest) =
    ap (λ (l : List ℕ). front ++ (l ++ rest)) gives ∙ ap (λ (l : List ℕ). front ++ l) (append_assoc next (drop n old) rest) ∙ sym (append_assoc front next (drop n old ++ rest)) in
    ap (λ (l : List ℕ). take (at + n) l) whole
    ∙ take_at (front ++ next) (drop n old ++ rest) (at + n) (omega (arith, size, got, length-append front next))
    ∙ ap (λ (l : List ℕ). l ++ next) before ∙ sym (take-add at n half)

pub filled_more : (half : ℕ) (o : Option Halves) (buf old part : List ℕ) (at k n : ℕ) → at ≤ length buf → n ≤ length part
    → IfSome o (λ log. (at ≤ length (half_of half log)) × (take at buf ≡ take at (half_of half log))) → IfSome o (λ log. Gives {E = Failed} (half_of half log) at old part (Ok n))
    → IfSome o (λ log. (at + n ≤ length (half_of half log)) × (take (at + n) (put_mid at k buf part) ≡ take (at + n) (half_of half log)))
filled_more half None buf old part at k n within room so_far gives = tt
filled_more half (Some log) buf old part at k n within room so_far gives =
    (omega (arith, so_far.0, gives.0), more (half_of half log) buf old part at k n within so_far.0 so_far.1 (omega (arith, gives.0)) room gives.1)

module _ (half : ℕ) (buf : List ℕ) (at room : ℕ) (size : length buf ≡ room) (within : at ≤ length buf) where
  -- the half ends there
  pub filled_end : (o : Option Halves) (part : List ℕ) → at < room → IfSome o (λ log. (at ≤ length (half_of half log)) × (take at buf ≡ take at (half_of half log)))
      → IfSome o (λ log. Gives {E = Failed} (half_of half log) at (take (length buf - at) (drop at buf)) part (Ok 0))
      → IfSome o (λ log. (at ≡ min room (length (half_of half log))) × (take at (put_mid at (length buf - at) buf part) ≡ take at (half_of half log)))
  filled_end None part left so_far gives = tt
  filled_end (Some log) part left so_far gives =
      let back = length-drop at buf in
      let old : length (take (length buf - at) (drop at buf)) ≡ length buf - at = length-take-le (length buf - at) (drop at buf) (omega (arith, back)) in (
        omega (arith, gives.0, old, so_far.0, size, left),
        take_at (take at buf) (part ++ post_of at (length buf - at) buf) at (length-take-le at buf within) ∙ so_far.1,
      )

  -- the buffer is full
  pub filled_whole : (o : Option Halves) → room ≤ at → IfSome o (λ log. (at ≤ length (half_of half log)) × (take at buf ≡ take at (half_of half log)))
      → IfSome o (λ log. (at ≡ min room (length (half_of half log))) × (take at buf ≡ take at (half_of half log)))
  filled_whole None full so_far = tt
  filled_whole (Some log) full so_far = (omega (arith, so_far.0, size, within, full), so_far.1)
