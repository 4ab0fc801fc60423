-- Values of several fields are read exactly where each field is, one after the other.
use Rattle.std.proofs.Common.{ℕ, List, ◌++◌, Result, Ok, refl, sym, subst}
use Rattle.vp_text.specs.Reading.{◌>>=◌}
use Rattle.vp_text.proofs.Exact.{Exact, IsOne, Made, made_exact, exact_as}
use Rattle.vp_bytes.specs.Fields.{Spelled}
use Rattle.vp_bytes.proofs.Free.{IsFree, free_then, then_free, made_free, free_as}

abbrev pub pair_bytes : {A B : Type 0} → (A → List ℕ) → (B → List ℕ) → A × B → List ℕ
pair_bytes f g pair = f pair.0 ++ g pair.1

abbrev pub PairAllowed : {A B : Type 0} → (A → Type 0) → (B → Type 0) → A × B → Type 0
PairAllowed F G pair = F pair.0 × G pair.1

-- one field, and what is made of the fields after it
pub then_field : {A B C : Type 0} {f : A → List ℕ} {F : A → Type 0} {g : B → List ℕ} {G : B → Type 0} {P : List ℕ → Result (A × List ℕ) ℕ} {Q : A → List ℕ → Result (C × List ℕ) ℕ} (make : A → B → C)
    → IsFree (Spelled f F) → Exact (Spelled f F) P → ((a : A) → Exact (Made (Spelled g G) (make a)) (Q a))
    → Exact (Made (Spelled (pair_bytes f g) (PairAllowed F G)) (λ pair. make pair.0 pair.1)) (λ bytes. P bytes >>= λ x. Q x.0 x.1)
then_field {f = f} {F = F} {g = g} {G = G} make free e after =
    exact_as
    (λ c t h. record { from = (h.first, h.after.from); spelled = record { is = rw (h.parts, h.before.is, h.after.spelled.is) refl; allowed = (h.before.allowed, h.after.spelled.allowed) }; is = h.after.is })
    (λ c t h. record {
      first = h.from.0;
      front = f h.from.0;
      back = g h.from.1;
      before = record { is = refl; allowed = h.spelled.allowed.0 };
      after = record { from = h.from.1; spelled = record { is = refl; allowed = h.spelled.allowed.1 }; is = h.is };
      parts = h.spelled.is;
    })
    (free_then free e after)

-- two fields as one
pub pair_exact : {A B : Type 0} {f : A → List ℕ} {F : A → Type 0} {g : B → List ℕ} {G : B → Type 0} {P : List ℕ → Result (A × List ℕ) ℕ} {Q : List ℕ → Result (B × List ℕ) ℕ}
    → IsFree (Spelled f F) → Exact (Spelled f F) P → Exact (Spelled g G) Q
    → Exact (Spelled (pair_bytes f g) (PairAllowed F G)) (λ bytes. P bytes >>= λ x. Q x.1 >>= λ y. Ok ((x.0, y.0), y.1))
pair_exact {f = f} {F = F} {g = g} {G = G} free e e2 =
    exact_as
    (λ c t h. subst (λ (c : _ × _). Spelled (pair_bytes f g) (PairAllowed F G) c t) (sym h.is) h.spelled)
    (λ c t h. record { from = c; spelled = h; is = refl })
    (then_field (λ a b. (a, b)) free e (λ a. made_exact (λ b. (a, b)) e2))

pub pair_free : {A B : Type 0} {f : A → List ℕ} {F : A → Type 0} {g : B → List ℕ} {G : B → Type 0} → IsOne (Spelled f F) → IsFree (Spelled f F) → IsFree (Spelled g G) → IsFree (Spelled (pair_bytes f g) (PairAllowed F G))
pair_free {f = f} {F = F} {g = g} {G = G} one free free_after =
    free_as
    (λ c t h. record { first = c.0; front = f c.0; back = g c.1; before = record { is = refl; allowed = h.allowed.0 }; after = record { from = c.1; spelled = record { is = refl; allowed = h.allowed.1 }; is = refl }; parts = h.is })
    (then_free {M = λ a. Made (Spelled g G) (λ b. (a, b))} one free (λ a. made_free free_after))
