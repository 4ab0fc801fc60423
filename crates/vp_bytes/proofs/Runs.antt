-- A given number of items, of which each may depend on the one before it, is read exactly.
use Rattle.std.proofs.Common.{◌≡◌, ℕ, zero, suc, ◌≤◌, Bool, true, false, List, [], ◌∷◌, length, Result, Ok, Err, refl, sym, ap, ◌∙◌}
use Rattle.std.proofs.lemmas.Bool.{false≢true}
use Rattle.vp_text.specs.Meaning.{Begins}
use Rattle.vp_text.specs.Reading.{◌>>=◌}
use Rattle.vp_text.proofs.Exact.{Exact, IsOne, exact_from, one_value, inhabited, right, then_right, Then, Made, made_exact, exact_as, done, ok_value}
use Rattle.vp_text.proofs.Repeats.{right_as}
use Rattle.vp_bytes.specs.Reading.{within, run_at, counted_at}
use Rattle.vp_bytes.proofs.Digits.{nothing_more}
use Rattle.vp_bytes.proofs.Free.{IsFree, IsByteOf, byte_free, byte_one, then_free, made_free, even_free}
use Rattle.vp_bytes.proofs.Identifiers.{within_exact}

-- ---- one after the other, where what follows each value that has a text is read exactly

module _ {A B : Type 0} (valid : A → Bool) (M : A → B → List ℕ → Type 0) where
  If : A → B → List ℕ → Type 0
  If a b text = valid a ≡ true → M a b text

  if_has : B → ((a : A) → valid a ≡ true → Begins (M a) []) → (a : A) → Begins (If a) []
  unfolding If
  if_has none has a =
      let f : (v : Bool) → valid a ≡ v → Begins (If a) [] = λ v. elim v as (λ v. valid a ≡ v → Begins (If a) []) [
        | true ↦ λ e. let w = has a e in record { value = w.value; more = w.more; spelled = λ _. w.spelled }
        | false ↦ λ e. record { value = none; more = []; spelled = λ yes. absurd (false≢true (sym e ∙ yes)) }
      ] in
      f (valid a) refl

  pub then_where : {L : A → List ℕ → Type 0} {P : List ℕ → Result (A × List ℕ) ℕ} {Q : A → List ℕ → Result (B × List ℕ) ℕ} → ((a : A) (t : List ℕ) → L a t → valid a ≡ true) → B
      → IsFree L → Exact L P → ((a : A) → valid a ≡ true → Exact (M a) (Q a)) → Exact (Then L M) (λ bytes. P bytes >>= λ x. Q x.0 x.1)
  unfolding If
  then_where {L = L} {P = P} {Q = Q} ok none free e f =
      exact_as
      (λ b t h. record { first = h.first; front = h.front; back = h.back; before = h.before; after = h.after (ok h.first h.front h.before); parts = h.parts })
      (λ b t h. record { first = h.first; front = h.front; back = h.back; before = h.before; after = λ _. h.after; parts = h.parts })
      (exact_from {L = Then L If} (λ bytes.
      then_right {M = If} {Q = Q} (one_value e) (λ a a2 text x r b t before longer after. absurd (free a a2 text x r before longer)) (if_has none (λ a v. inhabited (f a v))) (right e bytes) (λ a mid h.
      let p = e.ok bytes a mid h in
      let v = ok a p.text p.spelled in
      right_as {L = M a} (λ b t m _. m) (λ b t m. m v) (right (f a v) mid))))

-- ---- items

module _ {X : Type 0} (key : X → ℕ) (L : ℕ → ℕ → X → List ℕ → Type 0) (item : ℕ → ℕ → List ℕ → Result (X × List ℕ) ℕ) (may : ℕ → ℕ → Bool) where
  -- the text of n items, where the first one's key is least or more
  abbrev pub HasRun : ℕ → ℕ → List X → List ℕ → Type 0
  HasRun zero least xs text = (text ≡ []) × (xs ≡ [])
  HasRun (suc n) least xs text = Then (L n least) (λ x. Made (HasRun n (suc (key x))) (λ xs. x ∷ xs)) xs text

  -- What must hold of the items. `may n least` means that n items have room, the first one's key being least or more.
  pub record Runs : Type 0 where
    pub exact : (n least : ℕ) → may (suc n) least ≡ true → Exact (L n least) (item n least)
    pub free : (n least : ℕ) → IsFree (L n least)
    pub one : (n least : ℕ) → IsOne (L n least)
    pub on : (n least : ℕ) (x : X) (t : List ℕ) → may (suc n) least ≡ true → L n least x t → may n (suc (key x)) ≡ true

  nothing_exact : Exact {A = List X} (λ xs text. (text ≡ []) × (xs ≡ [])) (λ bytes. Ok ([], bytes))
  nothing_exact = record {
    ok = λ bytes a rest h.
        let same : ([], bytes) ≡ (a, rest) = ok_value ([], bytes) (a, rest) h in
        record { text = []; spelled = (refl, sym (ap (λ (x : List X × List ℕ). x.0) same)); parts = ap (λ (x : List X × List ℕ). x.1) same; ends = λ b r l. nothing_more r rest l.0 };
    err = λ bytes left h. absurd (let never : done ([], bytes) ≡ Err left = h in cc);
    again = λ a text rest l ends. rw (l.0, l.1) refl;
  }

  pub run_exact : Runs → (n least : ℕ) → may n least ≡ true → Exact (HasRun n least) (run_at key item n least)
  unfolding run_at
  run_exact w zero least m = nothing_exact
  run_exact w (suc n) least m =
      then_where (λ x. may n (suc (key x))) (λ x. Made (HasRun n (suc (key x))) (λ xs. x ∷ xs)) (λ x t l. w.on n least x t m l) [] (w.free n least) (w.exact n least m) (λ x on. made_exact (λ xs. x ∷ xs) (run_exact w n (suc (key x)) on))

  pub run_free : Runs → (n least : ℕ) → IsFree (HasRun n least)
  run_free w zero least = even_free {L = HasRun 0 least} 0 (λ xs t h. ap length h.0)
  run_free w (suc n) least = then_free {M = λ x. Made (HasRun n (suc (key x))) (λ xs. x ∷ xs)} (w.one n least) (w.free n least) (λ x. made_free (run_free w n (suc (key x))))

  -- the items after their count
  abbrev pub Counted : ℕ → ℕ → ℕ → List X → List ℕ → Type 0
  Counted few many least = Then (IsByteOf (within few many)) (λ n. HasRun n least)

  pub counted_exact : Runs → (few many least : ℕ) → few ≤ many → ((n : ℕ) → within few many n ≡ true → may n least ≡ true) → Exact (Counted few many least) (counted_at key item few many least)
  unfolding counted_at
  counted_exact w few many least some fits =
      then_where (within few many) (λ n. HasRun n least) (λ n t h. h.admitted) [] byte_free (within_exact few many some) (λ n h. run_exact w n least (fits n h))

  pub counted_free : Runs → (few many least : ℕ) → IsFree (Counted few many least)
  counted_free w few many least = then_free {M = λ n. HasRun n least} byte_one byte_free (λ n. run_free w n least)
