-- A field that may be left out is read exactly: 1 and the field, or 0.
use Rattle.std.proofs.Common.{◌≡◌, ℕ, zero, suc, ◌≤◌, ◌==◌, cond, List, [], ◌∷◌, ◌++◌, Option, Some, None, Result, Ok, refl, sym, ap, subst, ◌∙◌, arith}
use Rattle.vp_text.specs.Reading.{◌>>=◌}
use Rattle.vp_text.proofs.Exact.{Exact, exact_as}
use Rattle.vp_bytes.specs.Fields.{Spelled}
use Rattle.vp_bytes.specs.Reading.{byte_at, within}
use Rattle.vp_bytes.proofs.Free.{IsFree, byte_free, byte_one, then_free, free_as}
use Rattle.vp_bytes.proofs.Identifiers.{within_to}
use Rattle.vp_bytes.proofs.Marked.{Following, Marked, marked_exact, after_free}

module _ {A : Type 0} (bytes : A → List ℕ) (Allowed : A → Type 0) (read : List ℕ → Result (A × List ℕ) ℕ) where
  abbrev pub maybe_bytes : Option A → List ℕ
  maybe_bytes None = 0 ∷ []
  maybe_bytes (Some a) = 1 ∷ bytes a

  abbrev pub IsMaybe : Option A → Type 0
  IsMaybe None = Unit {0}
  IsMaybe (Some a) = Allowed a

  abbrev Field : A → List ℕ → Type 0
  Field = Spelled bytes Allowed

  abbrev Maybe : Option A → List ℕ → Type 0
  Maybe = Spelled maybe_bytes IsMaybe

  after : (mark : ℕ) → mark ≤ 1 → (o : Option A) (t back : List ℕ) → t ≡ mark ∷ back → Following Field (λ a. Some a) None (mark == 0) o back → Maybe o t
  after zero le o t back e h = subst (λ (o : Option A). Maybe o t) (sym h.1) (record { is = e ∙ ap (λ (b : List ℕ). 0 ∷ b) h.0; allowed = tt })
  after (suc zero) le o t back e h = subst (λ (o : Option A). Maybe o t) (sym h.is) (record { is = e ∙ ap (λ (b : List ℕ). 1 ∷ b) h.spelled.is; allowed = h.spelled.allowed })
  after (suc (suc k)) le o t back e h = absurd (omega (arith, le))

  to : (o : Option A) (t : List ℕ) → Marked Field (λ a. Some a) None o t → Maybe o t
  to o t h = after h.first (within_to 0 1 h.first h.before.admitted).1 o t h.back (h.parts ∙ ap (λ (f : List ℕ). f ++ h.back) h.before.is) h.after

  from : (o : Option A) (t : List ℕ) → Maybe o t → Marked Field (λ a. Some a) None o t
  from None t h = record { first = 0; front = 0 ∷ []; back = []; before = record { is = refl; admitted = refl }; after = (refl, refl); parts = h.is }
  from (Some a) t h = record { first = 1; front = 1 ∷ []; back = bytes a; before = record { is = refl; admitted = refl }; after = record { from = a; spelled = record { is = refl; allowed = h.allowed }; is = refl }; parts = h.is }

  pub maybe_exact : Exact Field read → Exact Maybe (λ bytes. byte_at (within 0 1) bytes >>= λ mark. cond (mark.0 == 0) (Ok (None, mark.1)) (read mark.1 >>= λ x. Ok (Some x.0, x.1)))
  maybe_exact exact = exact_as to from (marked_exact (λ a. Some a) None exact)

  pub maybe_free : IsFree Field → IsFree Maybe
  maybe_free free = free_as from (then_free {M = λ mark. Following Field (λ a. Some a) None (mark == 0)} byte_one byte_free (λ mark. after_free (λ a. Some a) None free (mark == 0)))
