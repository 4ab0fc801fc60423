-- A text of one language, whose texts begin with this byte, or of another, whose texts begin otherwise.
use Rattle.std.proofs.Common.{◌≡◌, ℕ, Bool, true, false, cond, List, [], ◌∷◌, ◌++◌, Result, refl, sym, ap, subst, ◌∙◌, inl, inr, append-nil}
use Rattle.std.proofs.lemmas.Bool.{eqb-true, eq-eqb, false≢true}
use Rattle.vp_text.specs.Tokens.{Either}
use Rattle.vp_text.proofs.Exact.{Parts, IsRead, IsFault, IsRight, right, Exact, exact_from}
use Rattle.vp_recording.specs.LineReading.{begins_with}

-- each text begins with the byte, or with another one
abbrev pub BeginsSo : {A : Type 0} → ℕ → (A → List ℕ → Type 0) → Type 0
BeginsSo {A = A} c L = (a : A) (t : List ℕ) → L a t → (r : List ℕ) × (t ≡ c ∷ r)

abbrev pub BeginsElse : {A : Type 0} → ℕ → (A → List ℕ → Type 0) → Type 0
BeginsElse {A = A} c L = (a : A) (t : List ℕ) → L a t → (x : ℕ) × (r : List ℕ) × (t ≡ x ∷ r) × (x ≡ c → ⊥)

head_same : (x y : ℕ) (r s : List ℕ) → x ∷ r ≡ y ∷ s → x ≡ y
head_same x y r s e = cc

no_head : (x : ℕ) (r : List ℕ) → [] ≡ x ∷ r → ⊥
no_head x r e = cc

module _ {A : Type 0} {L M : A → List ℕ → Type 0} (c : ℕ) (so : BeginsSo c L) (other : BeginsElse c M) where
  -- no bytes begin a text of both
  never : (y : ℕ) (front : List ℕ) (a b : A) (r s : List ℕ) → L a ((y ∷ front) ++ r) → M b ((y ∷ front) ++ s) → ⊥
  never y front a b r s l m =
      let x = so a ((y ∷ front) ++ r) l in
      let z = other b ((y ∷ front) ++ s) m in
      z.3 (sym (head_same y z.0 (front ++ s) z.1 z.2) ∙ head_same y c (front ++ r) x.0 x.1)

  -- where the bytes begin with this byte
  module _ (cs : List ℕ) (r : Result (A × List ℕ) ℕ) (e : IsRight L (c ∷ cs) r) where
    read_same : (a : A) (rest : List ℕ) → IsRead L (c ∷ cs) a rest → IsRead (Either L M) (c ∷ cs) a rest
    read_same a rest x = record { text = x.text; spelled = inl x.spelled; parts = x.parts; ends = λ b s t. elim t [ inl l ↦ x.ends b s l | inr m ↦ absurd (apart x.text x.spelled b s m) ] }
      where
        apart : (text : List ℕ) → L a text → (b : A) (s : List ℕ) → M b (text ++ s) → ⊥
        apart [] l b s m = no_head c (so a [] l).0 (so a [] l).1
        apart (y ∷ text) l b s m = never y text a b [] s (subst (L a) (sym (append-nil (y ∷ text))) l) m

    fault_same : (left : ℕ) → IsFault L (c ∷ cs) left → IsFault (Either L M) (c ∷ cs) left
    fault_same left x =
        record {
          front = x.front;
          rest = x.rest;
          parts = x.parts;
          left_is = x.left_is;
          begins = record { value = x.begins.value; more = x.begins.more; spelled = inl x.begins.spelled };
          diverges = λ b s t. elim t [ inl l ↦ x.diverges b s l | inr m ↦ parts x.front x.rest x.parts x.begins.value x.begins.more x.begins.spelled b s m ];
        }
      where
        parts : (front rest : List ℕ) → c ∷ cs ≡ front ++ rest → (a : A) (more : List ℕ) → L a (front ++ more) → (b : A) (s : List ℕ) → M b (front ++ s) → Parts s rest
        parts [] rest at a more l b s m =
            let z = other b s m in
            subst (λ (rest : List ℕ). Parts s rest) at (subst (λ (s : List ℕ). Parts s (c ∷ cs)) (sym z.2) z.3)
        parts (y ∷ front) rest at a more l b s m = absurd (never y front a b more s l m)

    right_same : IsRight (Either L M) (c ∷ cs) r
    right_same =
        record {
          ok = λ a rest h. read_same a rest (e.ok a rest h);
          err = λ left h. fault_same left (e.err left h);
          again = λ a text rest at t ends. elim t [
            | inl l ↦ e.again a text rest at l (λ b s k. ends b s (inl k))
            | inr m ↦ absurd (let z = other a text m in z.3 (sym (head_same c z.0 cs (z.1 ++ rest) (at ∙ ap (λ (t : List ℕ). t ++ rest) z.2))))
          ];
        }

  -- where they don't
  module _ (bytes : List ℕ) (off : begins_with c bytes ≡ false) (r : Result (A × List ℕ) ℕ) (e : IsRight M bytes r) where
    no_first : (s : List ℕ) → bytes ≡ c ∷ s → ⊥
    no_first s at = false≢true (sym off ∙ ap (begins_with c) at ∙ eq-eqb c c refl)

    read_other : (a : A) (rest : List ℕ) → IsRead M bytes a rest → IsRead (Either L M) bytes a rest
    read_other a rest x = record { text = x.text; spelled = inr x.spelled; parts = x.parts; ends = λ b s t. elim t [ inl l ↦ absurd (apart x.text x.spelled b s l) | inr m ↦ x.ends b s m ] }
      where
        apart : (text : List ℕ) → M a text → (b : A) (s : List ℕ) → L b (text ++ s) → ⊥
        apart [] m b s l = let z = other a [] m in no_head z.0 z.1 z.2
        apart (y ∷ text) m b s l = never y text b a s [] l (subst (M a) (sym (append-nil (y ∷ text))) m)

    fault_other : (left : ℕ) → IsFault M bytes left → IsFault (Either L M) bytes left
    fault_other left x =
        record {
          front = x.front;
          rest = x.rest;
          parts = x.parts;
          left_is = x.left_is;
          begins = record { value = x.begins.value; more = x.begins.more; spelled = inr x.begins.spelled };
          diverges = λ b s t. elim t [ inl l ↦ parts x.front x.rest x.parts x.begins.value x.begins.more x.begins.spelled b s l | inr m ↦ x.diverges b s m ];
        }
      where
        starts : (rest : List ℕ) → bytes ≡ rest → (s q : List ℕ) → s ≡ c ∷ q → Parts s rest
        starts [] at s q is = subst (λ (s : List ℕ). Parts s []) (sym is) tt
        starts (y ∷ rest) at s q is = subst (λ (s : List ℕ). Parts s (y ∷ rest)) (sym is) (λ same. no_first rest (at ∙ ap (λ (z : ℕ). z ∷ rest) (sym same)))

        parts : (front rest : List ℕ) → bytes ≡ front ++ rest → (a : A) (more : List ℕ) → M a (front ++ more) → (b : A) (s : List ℕ) → L b (front ++ s) → Parts s rest
        parts [] rest at a more m b s l = let z = so b s l in starts rest at s z.0 z.1
        parts (y ∷ front) rest at a more m b s l = absurd (never y front b a s more l m)

    right_other : IsRight (Either L M) bytes r
    right_other =
        record {
          ok = λ a rest h. read_other a rest (e.ok a rest h);
          err = λ left h. fault_other left (e.err left h);
          again = λ a text rest at t ends. elim t [
            | inl l ↦ absurd (let z = so a text l in no_first (z.0 ++ rest) (at ∙ ap (λ (t : List ℕ). t ++ rest) z.1))
            | inr m ↦ e.again a text rest at m (λ b s k. ends b s (inr k))
          ];
        }

abbrev pub by_first : {A : Type 0} → ℕ → (List ℕ → Result (A × List ℕ) ℕ) → (List ℕ → Result (A × List ℕ) ℕ) → List ℕ → Result (A × List ℕ) ℕ
by_first c P Q bytes = cond (begins_with c bytes) (P bytes) (Q bytes)

pub by_first_exact : {A : Type 0} {L M : A → List ℕ → Type 0} {P Q : List ℕ → Result (A × List ℕ) ℕ} (c : ℕ) → BeginsSo c L → BeginsElse c M → Exact L P → Exact M Q → Exact (Either L M) (by_first c P Q)
by_first_exact {L = L} {M = M} {P = P} {Q = Q} c so other e f = exact_from at
  where
    here : (bytes : List ℕ) (b : Bool) → begins_with c bytes ≡ b → IsRight (Either L M) bytes (cond b (P bytes) (Q bytes))
    here [] true h = absurd (false≢true h)
    here (x ∷ cs) true h =
        let same : x ≡ c = eqb-true x c h in
        subst (λ (x : ℕ). IsRight (Either L M) (x ∷ cs) (P (x ∷ cs))) (sym same) (right_same c so other cs (P (c ∷ cs)) (right e (c ∷ cs)))
    here bytes false h = right_other c so other bytes h (Q bytes) (right f bytes)

    at : (bytes : List ℕ) → IsRight (Either L M) bytes (by_first c P Q bytes)
    at bytes = here bytes (begins_with c bytes) refl

-- the other languages begin otherwise too
pub either_else : {A : Type 0} {L M : A → List ℕ → Type 0} (c d : ℕ) → (d ≡ c → ⊥) → BeginsSo d L → BeginsElse c M → BeginsElse c (Either L M)
either_else c d n so other = λ a t h. elim h [ inl l ↦ (d, (so a t l).0, (so a t l).1, n) | inr m ↦ other a t m ]
