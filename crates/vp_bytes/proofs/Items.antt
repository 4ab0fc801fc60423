-- Names, sites and records are read exactly, and so is a run of bytes of a class.
use Rattle.std.proofs.Common.{◌≡◌, ℕ, zero, suc, ◌+◌, ◌-◌, ◌≤◌, Bool, true, List, [], ◌∷◌, length, nat_le, Ok, refl, sym, ap, subst, ◌∙◌, arith}
use Rattle.std.proofs.lemmas.Bool.{le-leb, leb-true}
use Rattle.std.specs.List.{AllByRecursion}
use Rattle.vp_text.specs.Tokens.{IsWord}
use Rattle.vp_text.specs.Classes.{has, most}
use Rattle.vp_text.specs.declared.class.Class.{Class}
use Rattle.vp_text.specs.declared.class.Class.TheVariants as classes
use Rattle.vp_text.proofs.Exact.{Exact, exact_as}
use Rattle.vp_bytes.specs.Fields.{Spelled, counted_bytes, IsAscending, IsNameBytes, IsSitesBytes, IsRecsBytes}
use Rattle.vp_bytes.specs.Reading.{byte_at, within, counted_at, ascending_at, word_at, word_run_at, name_at, sites_at, recs_at}
use Rattle.vp_bytes.proofs.Free.{IsFree, IsByteOf, byte_free, byte_one, byte_exact, free_as}
use Rattle.vp_bytes.proofs.Identifiers.{within_exact, within_from, within_to}
use Rattle.vp_bytes.proofs.Runs.{HasRun, Runs, run_exact, run_free, Counted, counted_exact, counted_free}

-- ---- words

abbrev pub Byte : Class → ℕ → ℕ → ℕ → List ℕ → Type 0
Byte class n least = IsByteOf (has class)

pub always : ℕ → ℕ → Bool
always n least = true

abbrev pub WordRun : Class → ℕ → ℕ → List ℕ → List ℕ → Type 0
WordRun class = HasRun (λ _. 0) (Byte class) (λ n least bytes. byte_at (has class) bytes) always

class_byte : (class : Class) → Exact (IsByteOf (has class)) (byte_at (has class))
class_byte classes.Name = byte_exact (has classes.Name) 97 refl
class_byte classes.Value = byte_exact (has classes.Value) 97 refl

word_runs : (class : Class) → Runs (λ _. 0) (Byte class) (λ n least bytes. byte_at (has class) bytes) always
unfolding always
word_runs class = record { exact = λ n least m. class_byte class; free = λ n least. byte_free; one = λ n least. byte_one; on = λ n least x t m l. refl }

pub word_to : (class : Class) (n least : ℕ) (w t : List ℕ) → WordRun class n least w t → (t ≡ w) × (length w ≡ n) × AllByRecursion (λ c. has class c ≡ true) w
word_to class zero least w t h = (h.0 ∙ sym h.1, ap length h.1, subst (AllByRecursion (λ c. has class c ≡ true)) (sym h.1) tt)
word_to class (suc n) least w t h =
    let k = word_to class n 1 h.after.from h.back h.after.spelled in
    let whole : t ≡ h.first ∷ h.after.from = rw (h.parts, h.before.is, k.0) refl in
    (whole ∙ sym h.after.is, ap length h.after.is ∙ ap (λ (n : ℕ). suc n) k.1, subst (AllByRecursion (λ c. has class c ≡ true)) (sym h.after.is) (h.before.admitted, k.2))

pub word_from : (class : Class) (n least : ℕ) (w : List ℕ) → length w ≡ n → AllByRecursion (λ c. has class c ≡ true) w → WordRun class n least w w
word_from class zero least [] e h = (refl, refl)
word_from class zero least (c ∷ w) e h = absurd (omega (arith, e))
word_from class (suc n) least [] e h = absurd (omega (arith, e))
word_from class (suc n) least (c ∷ w) e h = record {
  first = c;
  front = c ∷ [];
  back = w;
  before = record { is = refl; admitted = h.0 };
  after = record { from = w; spelled = word_from class n 1 w (omega (arith, e)) h.1; is = refl };
  parts = refl;
}

abbrev CountedWord : Class → List ℕ → List ℕ → Type 0
CountedWord class = Counted (λ _. 0) (Byte class) (λ n least bytes. byte_at (has class) bytes) always 1 (most class) 1

abbrev IsClassBytes : Class → List ℕ → List ℕ → Type 0
IsClassBytes class = Spelled counted_bytes (λ w. IsWord (has class) (most class) w w)

counted_to : (class : Class) (w t : List ℕ) → CountedWord class w t → IsClassBytes class w t
counted_to class w t h =
    let k = word_to class h.first 1 w h.back h.after in
    let range = within_to 1 (most class) h.first h.before.admitted in
    record {
      is = rw (h.parts, h.before.is, k.0, ← k.1) refl;
      allowed = record { is = refl; some = omega (arith, range.0, k.1); short = omega (arith, range.1, k.1); each = k.2 };
    }

counted_from : (class : Class) (w t : List ℕ) → IsClassBytes class w t → CountedWord class w t
counted_from class w t h = record {
  first = length w;
  front = length w ∷ [];
  back = w;
  before = record { is = refl; admitted = within_from 1 (most class) (length w) h.allowed.some h.allowed.short };
  after = word_from class (length w) 1 w refl h.allowed.each;
  parts = h.is;
}

class_exact : (class : Class) → 1 ≤ most class → Exact (IsClassBytes class) (word_at class)
unfolding always
class_exact class some = exact_as (counted_to class) (counted_from class) (counted_exact (λ _. 0) (Byte class) (λ n least bytes. byte_at (has class) bytes) always (word_runs class) 1 (most class) 1 some (λ n h. refl))

class_free : (class : Class) → IsFree (IsClassBytes class)
class_free class = free_as (counted_from class) (counted_free (λ _. 0) (Byte class) (λ n least bytes. byte_at (has class) bytes) always (word_runs class) 1 (most class) 1)

pub name_exact : Exact IsNameBytes name_at
unfolding name_at
name_exact = class_exact classes.Name (omega arith)

pub name_free : IsFree IsNameBytes
name_free = class_free classes.Name

-- a given count of bytes of the class
pub word_run_exact : (class : Class) (count : ℕ) → Exact (WordRun class count 1) (word_run_at class count)
unfolding always
word_run_exact class count = run_exact (λ _. 0) (Byte class) (λ n least bytes. byte_at (has class) bytes) always (word_runs class) count 1 refl

pub word_run_free : (class : Class) (count : ℕ) → IsFree (WordRun class count 1)
word_run_free class count = run_free (λ _. 0) (Byte class) (λ n least bytes. byte_at (has class) bytes) always (word_runs class) count 1

-- the bytes that are read of a word
pub word_allowed : (class : Class) (count : ℕ) (bytes w rest : List ℕ) → 1 ≤ count → count ≤ most class → word_run_at class count bytes ≡ Ok (w, rest) → IsWord (has class) (most class) w w
unfolding always
word_allowed class count bytes w rest some short read =
    let p = (word_run_exact class count).ok bytes w rest read in
    let k = word_to class count 1 w p.text p.spelled in
    record { is = refl; some = omega (arith, some, k.1); short = omega (arith, short, k.1); each = k.2 }

-- ---- numbers, ascending

-- n numbers from least on, up to most
pub fits : ℕ → ℕ → ℕ → Bool
fits most n least = nat_le (least + n) (suc most)

abbrev Ascending : ℕ → ℕ → ℕ → ℕ → List ℕ → Type 0
Ascending most n least = IsByteOf (within least (most - n))

abbrev AscendingRun : ℕ → ℕ → ℕ → List ℕ → List ℕ → Type 0
AscendingRun most = HasRun (λ c. c) (Ascending most) (ascending_at most) (fits most)

pub fits_from : (most n least : ℕ) → least + n ≤ suc most → fits most n least ≡ true
unfolding fits
fits_from most n least le = le-leb (least + n) (suc most) le

pub fits_to : (most n least : ℕ) → fits most n least ≡ true → least + n ≤ suc most
unfolding fits
fits_to most n least h = leb-true (least + n) (suc most) h

pub room_exact : (most n least : ℕ) → fits most (suc n) least ≡ true → Exact (Ascending most n least) (ascending_at most n least)
room_exact most n least m = let le = fits_to most (suc n) least m in within_exact least (most - n) (omega (arith, le))

pub fits_on : (most n least x : ℕ) → fits most (suc n) least ≡ true → within least (most - n) x ≡ true → fits most n (suc x) ≡ true
fits_on most n least x m a =
    let le = fits_to most (suc n) least m in
    let range = within_to least (most - n) x a in
    fits_from most n (suc x) (omega (arith, le, range.0, range.1))

ascending_runs : (most : ℕ) → Runs (λ c. c) (Ascending most) (ascending_at most) (fits most)
ascending_runs most = record { exact = room_exact most; free = λ n least. byte_free; one = λ n least. byte_one; on = λ n least x t m l. fits_on most n least x m l.admitted }

ascending_to : (most n least : ℕ) (xs t : List ℕ) → fits most n least ≡ true → AscendingRun most n least xs t → (t ≡ xs) × (length xs ≡ n) × IsAscending least most xs
ascending_to most zero least xs t m h = (h.0 ∙ sym h.1, ap length h.1, subst (IsAscending least most) (sym h.1) tt)
ascending_to most (suc n) least xs t m h =
    let range = within_to least (most - n) h.first h.before.admitted in
    let k = ascending_to most n (suc h.first) h.after.from h.back (fits_on most n least h.first m h.before.admitted) h.after.spelled in
    let whole : t ≡ h.first ∷ h.after.from = rw (h.parts, h.before.is, k.0) refl in
    (whole ∙ sym h.after.is, ap length h.after.is ∙ ap (λ (n : ℕ). suc n) k.1, subst (IsAscending least most) (sym h.after.is) (range.0, omega (arith, range.1, fits_to most (suc n) least m), k.2))

room : (most least : ℕ) (xs : List ℕ) → least ≤ suc most → IsAscending least most xs → least + length xs ≤ suc most
room most least [] le h = omega (arith, le)
room most least (x ∷ xs) le h = omega (arith, h.0, room most (suc x) xs (omega (arith, h.1)) h.2)

ascending_from : (most n least : ℕ) (xs : List ℕ) → length xs ≡ n → IsAscending least most xs → AscendingRun most n least xs xs
ascending_from most zero least [] e h = (refl, refl)
ascending_from most zero least (x ∷ xs) e h = absurd (omega (arith, e))
ascending_from most (suc n) least [] e h = absurd (omega (arith, e))
ascending_from most (suc n) least (x ∷ xs) e h = record {
  first = x;
  front = x ∷ [];
  back = xs;
  before = record { is = refl; admitted = within_from least (most - n) x h.0 (omega (arith, e, room most (suc x) xs (omega (arith, h.1)) h.2)) };
  after = record { from = xs; spelled = ascending_from most n (suc x) xs (omega (arith, e)) h.2; is = refl };
  parts = refl;
}

abbrev CountedAscending : ℕ → ℕ → ℕ → ℕ → List ℕ → List ℕ → Type 0
CountedAscending top few many least = Counted (λ c. c) (Ascending top) (ascending_at top) (fits top) few many least

-- few to many numbers from least to top, ascending
record IsList (top few many least : ℕ) (xs : List ℕ) : Type 0 where
  some : few ≤ length xs
  short : length xs ≤ many
  ascending : IsAscending least top xs

list_to : (top few many least : ℕ) → least + many ≤ suc top → (xs t : List ℕ) → CountedAscending top few many least xs t → Spelled counted_bytes (IsList top few many least) xs t
list_to top few many least le xs t h =
    let range = within_to few many h.first h.before.admitted in
    let k = ascending_to top h.first least xs h.back (fits_from top h.first least (omega (arith, le, range.1))) h.after in
    record { is = rw (h.parts, h.before.is, k.0, ← k.1) refl; allowed = record { some = omega (arith, range.0, k.1); short = omega (arith, range.1, k.1); ascending = k.2 } }

list_from : (top few many least : ℕ) (xs t : List ℕ) → Spelled counted_bytes (IsList top few many least) xs t → CountedAscending top few many least xs t
list_from top few many least xs t h = record {
  first = length xs;
  front = length xs ∷ [];
  back = xs;
  before = record { is = refl; admitted = within_from few many (length xs) h.allowed.some h.allowed.short };
  after = ascending_from top (length xs) least xs refl h.allowed.ascending;
  parts = h.is;
}

list_exact : (top few many least : ℕ) → few ≤ many → least + many ≤ suc top → Exact (Spelled counted_bytes (IsList top few many least)) (counted_at (λ c. c) (ascending_at top) few many least)
list_exact top few many least some le =
    exact_as (list_to top few many least le) (list_from top few many least) (counted_exact (λ c. c) (Ascending top) (ascending_at top) (fits top) (ascending_runs top) few many least some (λ n h. fits_from top n least (omega (arith, le, (within_to few many n h).1))))

list_free : (top few many least : ℕ) → IsFree (Spelled counted_bytes (IsList top few many least))
list_free top few many least = free_as (list_from top few many least) (counted_free (λ c. c) (Ascending top) (ascending_at top) (fits top) (ascending_runs top) few many least)

sites_from : (few : ℕ) (xs t : List ℕ) → IsSitesBytes few xs t → Spelled counted_bytes (IsList 16 few 16 1) xs t
sites_from few xs t h = record { is = h.is; allowed = record { some = h.allowed.0; short = h.allowed.1; ascending = h.allowed.2 } }

pub sites_exact : (few : ℕ) → few ≤ 16 → Exact (IsSitesBytes few) (sites_at few)
unfolding sites_at
sites_exact few le = exact_as (λ xs t h. record { is = h.is; allowed = (h.allowed.some, h.allowed.short, h.allowed.ascending) }) (sites_from few) (list_exact 16 few 16 1 le (omega arith))

pub sites_free : (few : ℕ) → IsFree (IsSitesBytes few)
sites_free few = free_as (sites_from few) (list_free 16 few 16 1)

recs_from : (xs t : List ℕ) → IsRecsBytes xs t → Spelled counted_bytes (IsList 255 0 64 0) xs t
recs_from xs t h = record { is = h.is; allowed = record { some = omega arith; short = h.allowed.0; ascending = h.allowed.1 } }

pub recs_exact : Exact IsRecsBytes recs_at
unfolding recs_at
recs_exact = exact_as (λ xs t h. record { is = h.is; allowed = (h.allowed.short, h.allowed.ascending) }) recs_from (list_exact 255 0 64 0 (omega arith) (omega arith))

pub recs_free : IsFree IsRecsBytes
recs_free = free_as recs_from (list_free 255 0 64 0)
