-- Languages in which no text goes on to a longer one, and readers of several such, one after the other.
use Rattle.std.proofs.Common.{◌≡◌, ℕ, List, [], ◌∷◌, ◌++◌, length, Bool, true, false, Result, Ok, Err, refl, sym, ap, subst, ◌∙◌, append_assoc, arith, inl, inr}
use Rattle.std.proofs.lemmas.List.{append-nil, length-append}
use Rattle.std.proofs.lemmas.Bool.{false≢true}
use Rattle.vp_text.specs.Reading.{◌>>=◌}
use Rattle.vp_text.proofs.Exact.{Parts, Apart, IsRight, Exact, exact_from, IsOne, Then, Made, then_exact, cut, done, ok_value}
use Rattle.vp_bytes.specs.Reading.{byte_at}

abbrev pub IsFree : {A : Type 0} → (A → List ℕ → Type 0) → Type 0
IsFree {A = A} L = (a b : A) (text : List ℕ) (x : ℕ) (r : List ℕ) → L a text → L b (text ++ x ∷ r) → ⊥

-- where all texts have the same length
pub even_free : {A : Type 0} {L : A → List ℕ → Type 0} (n : ℕ) → ((a : A) (t : List ℕ) → L a t → length t ≡ n) → IsFree L
even_free n even = λ a b text x r la lb. omega (arith, even a text la, even b (text ++ x ∷ r) lb, length-append text (x ∷ r))

pub made_free : {A B : Type 0} {L : A → List ℕ → Type 0} {make : A → B} → IsFree L → IsFree (Made L make)
made_free free = λ a b text x r h k. free h.from k.from text x r h.spelled k.spelled

pub free_as : {A : Type 0} {L K : A → List ℕ → Type 0} → ((a : A) (t : List ℕ) → K a t → L a t) → IsFree L → IsFree K
free_as from free = λ a b text x r h k. free a b text x r (from a text h) (from b (text ++ x ∷ r) k)

pub then_free : {A B : Type 0} {L : A → List ℕ → Type 0} {M : A → B → List ℕ → Type 0} → IsOne L → IsFree L → ((a : A) → IsFree (M a)) → IsFree (Then L M)
then_free {L = L} {M = M} one free free_after = λ a b text x r h k.
    let at : h.front ++ (h.back ++ x ∷ r) ≡ k.front ++ k.back = sym (append_assoc h.front h.back (x ∷ r)) ∙ ap (λ (t : List ℕ). t ++ x ∷ r) (sym h.parts) ∙ k.parts in
    elim (cut h.front (h.back ++ x ∷ r) k.front k.back at) [
      | inl w ↦
          let f : (s : List ℕ) → k.front ≡ h.front ++ s → h.back ++ x ∷ r ≡ s ++ k.back → ⊥ = λ s. elim s as (λ s. k.front ≡ h.front ++ s → h.back ++ x ∷ r ≡ s ++ k.back → ⊥) [
            | [] ↦ λ front_is back_is.
                let same = one k.first h.first h.front (subst (λ (t : List ℕ). L k.first t) (front_is ∙ append-nil h.front) k.before) h.before in
                free_after h.first a b h.back x r h.after (subst (λ (v : _). M v b (h.back ++ x ∷ r)) same (subst (λ (t : List ℕ). M k.first b t) (sym back_is) k.after))
            | y ∷ s ↦ λ front_is back_is. free h.first k.first h.front y s h.before (subst (λ (t : List ℕ). L k.first t) front_is k.before)
          ] in
          f w.0 w.1 w.2
      | inr w ↦ free k.first h.first k.front w.0 w.1 k.before (subst (λ (t : List ℕ). L h.first t) w.2 h.before)
    ]

pub free_then : {A B : Type 0} {L : A → List ℕ → Type 0} {M : A → B → List ℕ → Type 0} {P : List ℕ → Result (A × List ℕ) ℕ} {Q : A → List ℕ → Result (B × List ℕ) ℕ} → IsFree L → Exact L P → ((a : A) → Exact (M a) (Q a)) → Exact (Then L M) (λ bytes. P bytes >>= λ x. Q x.0 x.1)
free_then {M = M} {Q = Q} free e f = then_exact {M = M} {Q = Q} (λ a a2 text x r b t before longer after. absurd (free a a2 text x r before longer)) e f

-- ---- a byte

-- The text is this byte, which the test allows.
pub record IsByteOf (has : ℕ → Bool) (c : ℕ) (text : List ℕ) : Type 0 where
  pub is : text ≡ c ∷ []
  pub admitted : has c ≡ true

pub byte_free : {has : ℕ → Bool} → IsFree (IsByteOf has)
byte_free {has = has} = even_free {L = IsByteOf has} 1 (λ a t h. ap length h.is)

pub byte_one : {has : ℕ → Bool} → IsOne (IsByteOf has)
byte_one a b t h k = let same : a ∷ [] ≡ b ∷ [] = sym h.is ∙ k.is in cc

byte_ends : {has : ℕ → Bool} (c : ℕ) (rest : List ℕ) (b : ℕ) (r : List ℕ) → IsByteOf has b (c ∷ r) → Apart r rest
byte_ends c rest b [] h = tt
byte_ends c rest b (x ∷ r) h = absurd (omega (arith, ap length h.is))

byte_diverges : {has : ℕ → Bool} (c : ℕ) (cs : List ℕ) → has c ≡ false → (b : ℕ) (r : List ℕ) → IsByteOf has b r → Parts r (c ∷ cs)
byte_diverges c cs fails b [] h = absurd (omega (arith, ap length h.is))
byte_diverges {has = has} c cs fails b (x ∷ r) h = λ same.
    let first : x ≡ b = let is : x ∷ r ≡ b ∷ [] = h.is in cc in
    false≢true (sym fails ∙ ap has (sym same ∙ first) ∙ h.admitted)

byte_nothing : {has : ℕ → Bool} (b : ℕ) (r : List ℕ) → IsByteOf has b r → Parts r []
byte_nothing b [] h = absurd (omega (arith, ap length h.is))
byte_nothing b (x ∷ r) h = tt

byte_taken : (has : ℕ → Bool) (c : ℕ) (cs : List ℕ) → has c ≡ true → IsRight (IsByteOf has) (c ∷ cs) (Ok (c, cs))
byte_taken has c cs holds = record {
  ok = λ a rest h.
      let same : (c, cs) ≡ (a, rest) = ok_value (c, cs) (a, rest) h in
      let first : c ≡ a = ap (λ (x : ℕ × List ℕ). x.0) same in
      let last : cs ≡ rest = ap (λ (x : ℕ × List ℕ). x.1) same in
      record { text = c ∷ []; spelled = record { is = ap (λ (x : ℕ). x ∷ []) first; admitted = ap has (sym first) ∙ holds }; parts = ap (λ (t : List ℕ). c ∷ t) last; ends = λ b r l. byte_ends c rest b r l };
  err = λ left h. absurd (let never : done (c, cs) ≡ Err left = h in cc);
  again = λ a text rest at l ends.
      let whole : c ∷ cs ≡ a ∷ rest = at ∙ ap (λ (t : List ℕ). t ++ rest) l.is in
      let first : c ≡ a = cc in
      let last : cs ≡ rest = cc in
      rw (first, last) refl;
}

byte_left : (has : ℕ → Bool) (c0 : ℕ) → has c0 ≡ true → (c : ℕ) (cs : List ℕ) → has c ≡ false → IsRight (IsByteOf has) (c ∷ cs) (Err (length (c ∷ cs)))
byte_left has c0 some c cs fails = record {
  ok = λ a rest h. absurd (let never : Err (length (c ∷ cs)) ≡ done (a, rest) = h in cc);
  err = λ left h. record {
    front = [];
    rest = c ∷ cs;
    parts = refl;
    left_is = cc;
    begins = record { value = c0; more = c0 ∷ []; spelled = record { is = refl; admitted = some } };
    diverges = λ b r l. byte_diverges c cs fails b r l;
  };
  again = λ a text rest at l ends.
      let whole : c ∷ cs ≡ a ∷ rest = at ∙ ap (λ (t : List ℕ). t ++ rest) l.is in
      let first : c ≡ a = cc in
      absurd (false≢true (sym fails ∙ ap has first ∙ l.admitted));
}

byte_none : (has : ℕ → Bool) (c0 : ℕ) → has c0 ≡ true → IsRight (IsByteOf has) [] (Err 0)
byte_none has c0 some = record {
  ok = λ a rest h. absurd (let never : Err 0 ≡ done (a, rest) = h in cc);
  err = λ left h. record {
    front = [];
    rest = [];
    parts = refl;
    left_is = cc;
    begins = record { value = c0; more = c0 ∷ []; spelled = record { is = refl; admitted = some } };
    diverges = λ b r l. byte_nothing b r l;
  };
  again = λ a text rest at l ends. absurd (omega (arith, ap length at, length-append text rest, ap length l.is));
}

byte_right : (has : ℕ → Bool) (c0 : ℕ) → has c0 ≡ true → (bytes : List ℕ) → IsRight (IsByteOf has) bytes (byte_at has bytes)
byte_right has c0 some [] = byte_none has c0 some
byte_right has c0 some (c ∷ cs) =
    let f : (b : Bool) → has c ≡ b → IsRight (IsByteOf has) (c ∷ cs) (byte_at has (c ∷ cs)) = λ b. elim b as (λ b. has c ≡ b → IsRight (IsByteOf has) (c ∷ cs) (byte_at has (c ∷ cs))) [
      | true ↦ λ e. rw e (byte_taken has c cs e)
      | false ↦ λ e. rw e (byte_left has c0 some c cs e)
    ] in
    f (has c) refl

-- a byte that the test allows, where it allows at least one
pub byte_exact : (has : ℕ → Bool) (c0 : ℕ) → has c0 ≡ true → Exact (IsByteOf has) (byte_at has)
byte_exact has c0 some = exact_from (λ bytes. byte_right has c0 some bytes)
