-- Fields that begin with a mark are read exactly: 0 for a value of its own, or 1 and a field.
use Rattle.std.proofs.Common.{◌≡◌, ℕ, zero, suc, ◌≤◌, ◌==◌, Bool, true, false, cond, List, [], ◌∷◌, ◌++◌, length, Option, Some, None, Result, Ok, Err, refl, sym, subst, ◌∙◌, ap, arith}
use Rattle.vp_text.specs.Reading.{◌>>=◌}
use Rattle.vp_text.proofs.Exact.{Exact, Then, Made, made_exact, exact_as, done, ok_value}
use Rattle.vp_base.specs.declared.ids.ViewId.{ViewId}
use Rattle.vp_base.specs.declared.entry.Owner.{Owner}
use Rattle.vp_base.specs.declared.entry.Owner.TheVariants as owner
use Rattle.vp_bytes.specs.Fields.{view_bytes, txn_bytes, IsViewBytes, IsTxnBytes, IsMaybeViewBytes, IsOwnerBytes}
use Rattle.vp_bytes.specs.Reading.{byte_at, within, maybe_view_at, owner_at}
use Rattle.vp_bytes.proofs.Digits.{nothing_more}
use Rattle.vp_bytes.proofs.Free.{IsFree, IsByteOf, byte_free, byte_one, free_then, then_free, made_free, free_as, even_free}
use Rattle.vp_bytes.proofs.Identifiers.{within_exact, within_to, view_exact, txn_exact, txn_free}

-- after the mark 0 nothing follows, and after 1 a field
abbrev pub Following : {A B : Type 0} → (A → List ℕ → Type 0) → (A → B) → B → Bool → B → List ℕ → Type 0
Following L make none true b text = (text ≡ []) × (b ≡ none)
Following L make none false b text = Made L make b text

after_exact : {A B : Type 0} {L : A → List ℕ → Type 0} {P : List ℕ → Result (A × List ℕ) ℕ} (make : A → B) (none : B) → Exact L P → (b : Bool) → Exact (Following L make none b) (λ bytes. cond b (Ok (none, bytes)) (P bytes >>= λ x. Ok (make x.0, x.1)))
after_exact make none e true = record {
  ok = λ bytes a rest h.
      let same : (none, bytes) ≡ (a, rest) = ok_value (none, bytes) (a, rest) h in
      record { text = []; spelled = (refl, sym (ap (λ (x : _ × List ℕ). x.0) same)); parts = ap (λ (x : _ × List ℕ). x.1) same; ends = λ b r l. nothing_more r rest l.0 };
  err = λ bytes left h. absurd (let never : done (none, bytes) ≡ Err left = h in cc);
  again = λ a text rest l ends. rw (l.0, l.1) refl;
}
after_exact make none e false = made_exact make e

abbrev pub Marked : {A B : Type 0} → (A → List ℕ → Type 0) → (A → B) → B → B → List ℕ → Type 0
Marked L make none = Then (IsByteOf (within 0 1)) (λ flag. Following L make none (flag == 0))

pub marked_exact : {A B : Type 0} {L : A → List ℕ → Type 0} {P : List ℕ → Result (A × List ℕ) ℕ} (make : A → B) (none : B) → Exact L P
    → Exact (Marked L make none) (λ bytes. byte_at (within 0 1) bytes >>= λ flag. cond (flag.0 == 0) (Ok (none, flag.1)) (P flag.1 >>= λ x. Ok (make x.0, x.1)))
marked_exact make none e = free_then byte_free (within_exact 0 1 (omega arith)) (λ flag. after_exact make none e (flag == 0))

-- ---- a view or none

view_after : (flag : ℕ) → flag ≤ 1 → (o : Option ViewId) (t back : List ℕ) → t ≡ flag ∷ back → Following IsViewBytes (λ v. Some v) None (flag == 0) o back → IsMaybeViewBytes o t
view_after zero le o t back e h = subst (λ (o : Option ViewId). IsMaybeViewBytes o t) (sym h.1) (record { is = e ∙ ap (λ (b : List ℕ). 0 ∷ b) h.0; allowed = tt })
view_after (suc zero) le o t back e h = subst (λ (o : Option ViewId). IsMaybeViewBytes o t) (sym h.is) (record { is = e ∙ ap (λ (b : List ℕ). 1 ∷ b) h.spelled.is; allowed = h.spelled.allowed })
view_after (suc (suc k)) le o t back e h = absurd (omega (arith, le))

maybe_view_to : (o : Option ViewId) (t : List ℕ) → Marked IsViewBytes (λ v. Some v) None o t → IsMaybeViewBytes o t
maybe_view_to o t h = view_after h.first (within_to 0 1 h.first h.before.admitted).1 o t h.back (h.parts ∙ ap (λ (f : List ℕ). f ++ h.back) h.before.is) h.after

maybe_view_from : (o : Option ViewId) (t : List ℕ) → IsMaybeViewBytes o t → Marked IsViewBytes (λ v. Some v) None o t
maybe_view_from None t h = record { first = 0; front = 0 ∷ []; back = []; before = record { is = refl; admitted = refl }; after = (refl, refl); parts = h.is }
maybe_view_from (Some v) t h = record { first = 1; front = 1 ∷ []; back = view_bytes v; before = record { is = refl; admitted = refl }; after = record { from = v; spelled = record { is = refl; allowed = h.allowed }; is = refl }; parts = h.is }

pub maybe_view_exact : Exact IsMaybeViewBytes maybe_view_at
unfolding maybe_view_at
maybe_view_exact = exact_as maybe_view_to maybe_view_from (marked_exact (λ v. Some v) None view_exact)

-- ---- an owner

txn_after : (flag : ℕ) → flag ≤ 1 → (o : Owner) (t back : List ℕ) → t ≡ flag ∷ back → Following IsTxnBytes (λ x. owner.Txn x) owner.Refresh (flag == 0) o back → IsOwnerBytes o t
txn_after zero le o t back e h = subst (λ (o : Owner). IsOwnerBytes o t) (sym h.1) (record { is = e ∙ ap (λ (b : List ℕ). 0 ∷ b) h.0; allowed = tt })
txn_after (suc zero) le o t back e h = subst (λ (o : Owner). IsOwnerBytes o t) (sym h.is) (record { is = e ∙ ap (λ (b : List ℕ). 1 ∷ b) h.spelled.is; allowed = h.spelled.allowed })
txn_after (suc (suc k)) le o t back e h = absurd (omega (arith, le))

owner_to : (o : Owner) (t : List ℕ) → Marked IsTxnBytes (λ x. owner.Txn x) owner.Refresh o t → IsOwnerBytes o t
owner_to o t h = txn_after h.first (within_to 0 1 h.first h.before.admitted).1 o t h.back (h.parts ∙ ap (λ (f : List ℕ). f ++ h.back) h.before.is) h.after

owner_from : (o : Owner) (t : List ℕ) → IsOwnerBytes o t → Marked IsTxnBytes (λ x. owner.Txn x) owner.Refresh o t
owner_from owner.Refresh t h = record { first = 0; front = 0 ∷ []; back = []; before = record { is = refl; admitted = refl }; after = (refl, refl); parts = h.is }
owner_from (owner.Txn x) t h = record { first = 1; front = 1 ∷ []; back = txn_bytes x; before = record { is = refl; admitted = refl }; after = record { from = x; spelled = record { is = refl; allowed = h.allowed }; is = refl }; parts = h.is }

pub owner_exact : Exact IsOwnerBytes owner_at
unfolding owner_at
owner_exact = exact_as owner_to owner_from (marked_exact (λ x. owner.Txn x) owner.Refresh txn_exact)

-- ---- none of them goes on to a longer one

pub after_free : {A B : Type 0} {L : A → List ℕ → Type 0} (make : A → B) (none : B) → IsFree L → (b : Bool) → IsFree (Following L make none b)
after_free {L = L} make none free true = even_free {L = Following L make none true} 0 (λ b t h. ap length h.0)
after_free make none free false = made_free free

pub maybe_view_free : IsFree IsViewBytes → IsFree IsMaybeViewBytes
maybe_view_free free = free_as maybe_view_from (then_free {M = λ flag. Following IsViewBytes (λ v. Some v) None (flag == 0)} byte_one byte_free (λ flag. after_free (λ v. Some v) None free (flag == 0)))

pub owner_free : IsFree IsOwnerBytes
owner_free = free_as owner_from (then_free {M = λ flag. Following IsTxnBytes (λ x. owner.Txn x) owner.Refresh (flag == 0)} byte_one byte_free (λ flag. after_free (λ x. owner.Txn x) owner.Refresh txn_free (flag == 0)))
