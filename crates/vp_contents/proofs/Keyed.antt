-- Items that are a number and a field are read exactly, after their count; the numbers ascend.
use Rattle.std.proofs.Common.{◌≡◌, ℕ, zero, suc, ◌+◌, ◌-◌, ◌≤◌, true, List, [], ◌∷◌, length, flat_map, Result, Ok, refl, sym, ap, subst, ◌∙◌, arith}
use Rattle.vp_text.specs.Reading.{◌>>=◌}
use Rattle.vp_text.proofs.Exact.{Exact, Then, Made, made_exact, exact_as, IsOne, one_value}
use Rattle.vp_bytes.specs.Fields.{Spelled}
use Rattle.vp_bytes.specs.Reading.{within, ascending_at, counted_at}
use Rattle.vp_bytes.proofs.Free.{IsFree, IsByteOf, byte_free, byte_one, free_then, then_free, made_free, free_as}
use Rattle.vp_bytes.proofs.Identifiers.{within_from, within_to}
use Rattle.vp_bytes.proofs.Items.{fits, fits_from, fits_on, room_exact}
use Rattle.vp_bytes.proofs.Runs.{HasRun, Runs, Counted, counted_exact, counted_free}

module _ {V : Type 0} (top : ℕ) (bytes : V → List ℕ) (Allowed : V → Type 0) (read : List ℕ → Result (V × List ℕ) ℕ) where
  abbrev Field : V → List ℕ → Type 0
  Field = Spelled bytes Allowed

  abbrev pub item_bytes : ℕ × V → List ℕ
  item_bytes x = x.0 ∷ bytes x.1

  abbrev pub item_at : ℕ → ℕ → List ℕ → Result ((ℕ × V) × List ℕ) ℕ
  item_at n least text = ascending_at top n least text >>= λ key. read key.1 >>= λ v. Ok ((key.0, v.0), v.1)

  -- each number is above the one before it, up to the greatest, and the first one is least or more
  abbrev pub Rises : ℕ → List (ℕ × V) → Type 0
  Rises least [] = Unit {0}
  Rises least (x ∷ xs) = (least ≤ x.0) × (x.0 ≤ top) × Allowed x.1 × Rises (suc x.0) xs

  -- What must hold of the fields.
  pub record Fields : Type 0 where
    pub exact : Exact Field read
    pub free : IsFree Field

  abbrev Item : ℕ → ℕ → ℕ × V → List ℕ → Type 0
  Item n least = Then (IsByteOf (within least (top - n))) (λ key. Made Field (λ v. (key, v)))

  abbrev Run : ℕ → ℕ → List (ℕ × V) → List ℕ → Type 0
  Run = HasRun (λ x. x.0) Item item_at (fits top)

  item_exact : Fields → (n least : ℕ) → fits top (suc n) least ≡ true → Exact (Item n least) (item_at n least)
  item_exact w n least m = free_then byte_free (room_exact top n least m) (λ key. made_exact (λ v. (key, v)) w.exact)

  item_free : Fields → (n least : ℕ) → IsFree (Item n least)
  item_free w n least = then_free {M = λ key. Made Field (λ v. (key, v))} byte_one byte_free (λ key. made_free w.free)

  -- its number and its bytes
  item_spelled : (n least : ℕ) (x : ℕ × V) (t : List ℕ) → Item n least x t → (within least (top - n) x.0 ≡ true) × (t ≡ item_bytes x) × Allowed x.1
  item_spelled n least x t h =
      let f : (v : ℕ × V) → v ≡ (h.first, h.after.from) → (within least (top - n) v.0 ≡ true) × (t ≡ item_bytes v) × Allowed v.1 = λ v e. rw e (h.before.admitted, rw (h.parts, h.before.is, h.after.spelled.is) refl, h.after.spelled.allowed) in
      f x h.after.is

  item_one : Fields → (n least : ℕ) → IsOne (Item n least)
  item_one w n least a b t h k =
      let x = item_spelled n least a t h in
      let y = item_spelled n least b t k in
      let same : a.0 ∷ bytes a.1 ≡ b.0 ∷ bytes b.1 = sym x.1 ∙ y.1 in
      let first : a.0 ≡ b.0 = cc in
      let rest : bytes a.1 ≡ bytes b.1 = cc in
      let last : a.1 ≡ b.1 = one_value w.exact a.1 b.1 (bytes a.1) (record { is = refl; allowed = x.2 }) (record { is = rest; allowed = y.2 }) in
      rw (first, last) refl

  item_runs : Fields → Runs (λ x. x.0) Item item_at (fits top)
  item_runs w = record { exact = item_exact w; free = item_free w; one = item_one w; on = λ n least x t m l. fits_on top n least x.0 m (item_spelled n least x t l).0 }

  run_to : (n least : ℕ) (xs : List (ℕ × V)) (t : List ℕ) → fits top n least ≡ true → Run n least xs t → (t ≡ flat_map item_bytes xs) × (length xs ≡ n) × Rises least xs
  run_to zero least xs t m h = (h.0 ∙ ap (flat_map item_bytes) (sym h.1), ap length h.1, subst (Rises least) (sym h.1) tt)
  run_to (suc n) least xs t m h =
      let w = item_spelled n least h.first h.front h.before in
      let range = within_to least (top - n) h.first.0 w.0 in
      let k = run_to n (suc h.first.0) h.after.from h.back (fits_on top n least h.first.0 m w.0) h.after.spelled in
      let whole : t ≡ flat_map item_bytes (h.first ∷ h.after.from) = rw (h.parts, w.1, k.0) refl in
      (whole ∙ ap (flat_map item_bytes) (sym h.after.is), ap length h.after.is ∙ ap (λ (n : ℕ). suc n) k.1, subst (Rises least) (sym h.after.is) (range.0, omega (arith, range.1), w.2, k.2))

  rises_room : (least : ℕ) (xs : List (ℕ × V)) → least ≤ suc top → Rises least xs → least + length xs ≤ suc top
  rises_room least [] le h = omega (arith, le)
  rises_room least (x ∷ xs) le h = omega (arith, h.0, rises_room (suc x.0) xs (omega (arith, h.1)) h.3)

  run_from : (n least : ℕ) (xs : List (ℕ × V)) → length xs ≡ n → Rises least xs → Run n least xs (flat_map item_bytes xs)
  run_from zero least [] e h = (refl, refl)
  run_from zero least (x ∷ xs) e h = absurd (omega (arith, e))
  run_from (suc n) least [] e h = absurd (omega (arith, e))
  run_from (suc n) least (x ∷ xs) e h = record {
    first = x;
    front = item_bytes x;
    back = flat_map item_bytes xs;
    before = record {
      first = x.0;
      front = x.0 ∷ [];
      back = bytes x.1;
      before = record { is = refl; admitted = within_from least (top - n) x.0 h.0 (omega (arith, e, rises_room (suc x.0) xs (omega (arith, h.1)) h.3)) };
      after = record { from = x.1; spelled = record { is = refl; allowed = h.2 }; is = refl };
      parts = refl;
    };
    after = record { from = xs; spelled = run_from n (suc x.0) xs (omega (arith, e)) h.3; is = refl };
    parts = refl;
  }

  -- ---- after their count

  abbrev pub items_bytes : List (ℕ × V) → List ℕ
  items_bytes xs = length xs ∷ flat_map item_bytes xs

  -- few to many items, the first number being least or more
  pub record AreItems (few many least : ℕ) (xs : List (ℕ × V)) : Type 0 where
    pub some : few ≤ length xs
    pub short : length xs ≤ many
    pub rises : Rises least xs

  abbrev pub Items : ℕ → ℕ → ℕ → List (ℕ × V) → List ℕ → Type 0
  Items few many least = Spelled items_bytes (AreItems few many least)

  abbrev CountedItems : ℕ → ℕ → ℕ → List (ℕ × V) → List ℕ → Type 0
  CountedItems few many least = Counted (λ x. x.0) Item item_at (fits top) few many least

  counted_to : (few many least : ℕ) → least + many ≤ suc top → (xs : List (ℕ × V)) (t : List ℕ) → CountedItems few many least xs t → Items few many least xs t
  counted_to few many least le xs t h =
      let range = within_to few many h.first h.before.admitted in
      let k = run_to h.first least xs h.back (fits_from top h.first least (omega (arith, range.1, le))) h.after in
      record { is = rw (h.parts, h.before.is, k.0, ← k.1) refl; allowed = record { some = omega (arith, range.0, k.1); short = omega (arith, range.1, k.1); rises = k.2 } }

  counted_from : (few many least : ℕ) (xs : List (ℕ × V)) (t : List ℕ) → Items few many least xs t → CountedItems few many least xs t
  counted_from few many least xs t h = record {
    first = length xs;
    front = length xs ∷ [];
    back = flat_map item_bytes xs;
    before = record { is = refl; admitted = within_from few many (length xs) h.allowed.some h.allowed.short };
    after = run_from (length xs) least xs refl h.allowed.rises;
    parts = h.is;
  }

  pub items_exact : Fields → (few many least : ℕ) → few ≤ many → least + many ≤ suc top → Exact (Items few many least) (counted_at (λ x. x.0) item_at few many least)
  items_exact w few many least some le =
      exact_as (counted_to few many least le) (counted_from few many least) (counted_exact (λ x. x.0) Item item_at (fits top) (item_runs w) few many least some (λ n h. fits_from top n least (omega (arith, le, (within_to few many n h).1))))

  pub items_free : Fields → (few many least : ℕ) → IsFree (Items few many least)
  items_free w few many least = free_as (counted_from few many least) (counted_free (λ x. x.0) Item item_at (fits top) (item_runs w) few many least)
