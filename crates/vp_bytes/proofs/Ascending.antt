-- Lists of items that ascend by a key are read exactly, after their count.
use Rattle.std.proofs.Common.{◌≡◌, ℕ, zero, suc, ◌+◌, ◌≤◌, ◌<◌, List, [], ◌∷◌, ◌++◌, length, flat_map, Result, refl, sym, ap, subst, ◌∙◌, arith}
use Rattle.std.specs.List.{All, AllPairs}
use Rattle.std.proofs.lemmas.List.Kept.{AllPairs-cons}
use Rattle.vp_text.specs.Reading.{◌>>=◌}
use Rattle.vp_text.proofs.Exact.{Exact, Then, exact_as, one_value}
use Rattle.vp_bytes.specs.Fields.{Spelled}
use Rattle.vp_bytes.specs.Reading.{run_at}
use Rattle.vp_bytes.proofs.Free.{IsFree, then_free, free_as}
use Rattle.vp_bytes.proofs.Items.{fits, fits_from, fits_to}
use Rattle.vp_bytes.proofs.Runs.{HasRun, Runs, run_exact, run_free, then_where}

module _ {X : Type 0} (key : X → ℕ) (top : ℕ) (bytes : X → List ℕ) (Allowed : X → Type 0) (Before : X → X → Type 0) (item : ℕ → ℕ → List ℕ → Result (X × List ℕ) ℕ) where
  -- an item whose key is least or more, and leaves room for n others above it
  abbrev pub Item : ℕ → ℕ → X → List ℕ → Type 0
  Item n least = Spelled bytes (λ x. (least ≤ key x) × (key x + n ≤ top) × Allowed x)

  -- What must hold of the items: `Before` is the order of their keys, the greatest of which is `top`.
  pub record Ascends : Type 0 where
    pub exact : (n least : ℕ) → least + suc n ≤ suc top → Exact (Item n least) (item n least)
    pub free : IsFree (Spelled bytes Allowed)
    pub short : (x : X) → Allowed x → key x ≤ top
    pub before : (x y : X) → Allowed x → Allowed y → key x < key y → Before x y
    pub above : (x y : X) → Allowed x → Allowed y → Before x y → key x < key y

  abbrev Run : ℕ → ℕ → List X → List ℕ → Type 0
  Run = HasRun key Item item (fits top)

  widest : (n least : ℕ) (x : X) (t : List ℕ) → Item n least x t → Item 0 0 x t
  widest n least x t h = record { is = h.is; allowed = (omega arith, omega (arith, h.allowed.1), h.allowed.2) }

  runs : Ascends → Runs key Item item (fits top)
  runs a = record {
    exact = λ n least m. a.exact n least (fits_to top (suc n) least m);
    free = λ n least. free_as {L = Spelled bytes Allowed} (λ x t h. record { is = h.is; allowed = h.allowed.2 }) a.free;
    one = λ n least x y t h k. one_value (a.exact 0 0 (omega arith)) x y t (widest n least x t h) (widest n least y t k);
    on = λ n least x t m h. fits_from top n (suc (key x)) (omega (arith, h.allowed.1));
  }

  -- each key is above the one before it, and the first one is least or more
  abbrev Rises : ℕ → List X → Type 0
  Rises least [] = Unit {0}
  Rises least (x ∷ xs) = (least ≤ key x) × (key x ≤ top) × Allowed x × Rises (suc (key x)) xs

  run_to : (n least : ℕ) (xs : List X) (t : List ℕ) → Run n least xs t → (t ≡ flat_map bytes xs) × (length xs ≡ n) × Rises least xs
  run_to zero least xs t h = (h.0 ∙ ap (flat_map bytes) (sym h.1), ap length h.1, subst (Rises least) (sym h.1) tt)
  run_to (suc n) least xs t h =
      let x = h.before in
      let k = run_to n (suc (key h.first)) h.after.from h.back h.after.spelled in
      let whole : t ≡ flat_map bytes (h.first ∷ h.after.from) = rw (h.parts, x.is, k.0) refl in
      (whole ∙ ap (flat_map bytes) (sym h.after.is), ap length h.after.is ∙ ap (λ (n : ℕ). suc n) k.1, subst (Rises least) (sym h.after.is) (x.allowed.0, omega (arith, x.allowed.1), x.allowed.2, k.2))

  rises_room : (least : ℕ) (xs : List X) → least ≤ suc top → Rises least xs → least + length xs ≤ suc top
  rises_room least [] le h = omega (arith, le)
  rises_room least (x ∷ xs) le h = omega (arith, h.0, rises_room (suc (key x)) xs (omega (arith, h.1)) h.3)

  run_from : (n least : ℕ) (xs : List X) → length xs ≡ n → Rises least xs → Run n least xs (flat_map bytes xs)
  run_from zero least [] e h = (refl, refl)
  run_from zero least (x ∷ xs) e h = absurd (omega (arith, e))
  run_from (suc n) least [] e h = absurd (omega (arith, e))
  run_from (suc n) least (x ∷ xs) e h = record {
    first = x;
    front = bytes x;
    back = flat_map bytes xs;
    before = record { is = refl; allowed = (h.0, omega (arith, e, rises_room (suc (key x)) xs (omega (arith, h.1)) h.3), h.2) };
    after = record { from = xs; spelled = run_from n (suc (key x)) xs (omega (arith, e)) h.3; is = refl };
    parts = refl;
  }

  -- ---- in the words of laws on all items and on all pairs

  all_cons : (P : X → Type 0) (x : X) (xs : List X) → P x → All P xs → All P (x ∷ xs)
  all_cons P x xs head tail zero d lt = head
  all_cons P x xs head tail (suc i) d lt = tail i d (omega arith)

  rises_all : Ascends → (least : ℕ) (xs : List X) → Rises least xs → All (λ x. least ≤ key x) xs × All Allowed xs × AllPairs Before xs
  rises_all a least [] h = ((λ i d lt. absurd (omega arith)), (λ i d lt. absurd (omega arith)), λ i j d lt inside. absurd (omega arith))
  rises_all a least (x ∷ xs) h =
      let k = rises_all a (suc (key x)) xs h.3 in (
        all_cons (λ x. least ≤ key x) x xs h.0 (λ i d lt. omega (arith, h.0, k.0 i d lt)),
        all_cons Allowed x xs h.2 k.1,
        AllPairs-cons Before x xs (λ i d lt. a.before x _ h.2 (k.1 i d lt) (omega (arith, k.0 i d lt))) k.2,
      )

  all_rises : Ascends → (least : ℕ) (xs : List X) → All (λ x. least ≤ key x) xs → All Allowed xs → AllPairs Before xs → Rises least xs
  all_rises a least [] from each pairs = tt
  all_rises a least (x ∷ xs) from each pairs =
      let one = each 0 x (omega arith) in
      (from 0 x (omega arith), a.short x one, one, all_rises a (suc (key x)) xs (λ i d lt. a.above x _ one (each (suc i) d (omega arith)) (pairs 0 (suc i) d (omega arith) (omega arith))) (λ i d lt. each (suc i) d (omega arith)) (λ i j d lt inside. pairs (suc i) (suc j) d (omega arith) (omega arith)))

  -- ---- after their count

  module _ (count_bytes : ℕ → List ℕ) (IsCount : ℕ → Type 0) (count : List ℕ → Result (ℕ × List ℕ) ℕ) where
    abbrev pub list_bytes : List X → List ℕ
    list_bytes xs = count_bytes (length xs) ++ flat_map bytes xs

    abbrev pub IsList : List X → Type 0
    IsList xs = IsCount (length xs) × All Allowed xs × AllPairs Before xs

    abbrev Counted : List X → List ℕ → Type 0
    Counted = Then (Spelled count_bytes IsCount) (λ n. Run n 0)

    counted_to : Ascends → (xs : List X) (t : List ℕ) → Counted xs t → Spelled list_bytes IsList xs t
    counted_to a xs t h =
        let k = run_to h.first 0 xs h.back h.after in
        let w = rises_all a 0 xs k.2 in
        record { is = rw (h.parts, h.before.is, k.0, ← k.1) refl; allowed = (subst IsCount (sym k.1) h.before.allowed, w.1, w.2) }

    counted_from : Ascends → (xs : List X) (t : List ℕ) → Spelled list_bytes IsList xs t → Counted xs t
    counted_from a xs t h = record {
      first = length xs;
      front = count_bytes (length xs);
      back = flat_map bytes xs;
      before = record { is = refl; allowed = h.allowed.0 };
      after = run_from (length xs) 0 xs refl (all_rises a 0 xs (λ i d lt. omega arith) h.allowed.1 h.allowed.2);
      parts = h.is;
    }

    pub list_exact : Ascends → ((n : ℕ) → IsCount n → n ≤ suc top) → IsFree (Spelled count_bytes IsCount) → Exact (Spelled count_bytes IsCount) count
        → Exact (Spelled list_bytes IsList) (λ bytes. count bytes >>= λ n. run_at key item n.0 0 n.1)
    list_exact a room free exact =
        exact_as (counted_to a) (counted_from a) (then_where (λ n. fits top n 0) (λ n. Run n 0) (λ n t h. fits_from top n 0 (omega (arith, room n h.allowed))) [] free exact (λ n m. run_exact key Item item (fits top) (runs a) n 0 m))

    pub list_free : Ascends → IsFree (Spelled count_bytes IsCount) → Exact (Spelled count_bytes IsCount) count → IsFree (Spelled list_bytes IsList)
    list_free a free exact = free_as (counted_from a) (then_free {M = λ n. Run n 0} (one_value exact) free (λ n. run_free key Item item (fits top) (runs a) n 0))
