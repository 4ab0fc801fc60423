-- Readers that go on while the next byte fits.
use Rattle.std.proofs.Common.{◌≡◌, ℕ, List, [], ◌∷◌, ◌++◌, length, Option, Some, None, Result, Ok, Err, refl, sym, ap, subst, ◌∙◌, append_assoc}
use Rattle.std.proofs.lemmas.List.{append-nil}
use Rattle.vp_text.specs.Meaning.{Begins}
use Rattle.vp_text.specs.Reading.{scan, whole_reading}
use Rattle.vp_text.proofs.Exact.{Apart, Parts, IsRead, IsFault, Exact, done, ok_value}

-- What one step of a scan says of the language, where `At s front` means that s is the state after the front.
pub record Scans {S A : Type 0} (L : A → List ℕ → Type 0) (step : S → ℕ → Option S) (finish : S → Option A) (At : S → List ℕ → Type 0) : Type 0 where
  pub viable : (s : S) (p : List ℕ) → At s p → Begins L p
  pub more : (s : S) (p : List ℕ) (c : ℕ) (t : S) → At s p → step s c ≡ Some t → At t (p ++ c ∷ [])
  pub stop : (s : S) (p : List ℕ) (c : ℕ) (a : A) (r : List ℕ) → At s p → step s c ≡ None → L a (p ++ c ∷ r) → ⊥
  pub value : (s : S) (p : List ℕ) (a : A) → At s p → finish s ≡ Some a → L a p
  pub none : (s : S) (p : List ℕ) (a : A) → At s p → finish s ≡ None → L a p → ⊥
  pub one : (a b : A) (t : List ℕ) → L a t → L b t → a ≡ b

ended_ok : {A : Type 0} (o : Option A) (bytes : List ℕ) (a : A) (rest : List ℕ) → whole_reading o bytes ≡ Ok (a, rest) → (o ≡ Some a) × (bytes ≡ rest)
ended_ok (Some b) bytes a rest e =
    let same : (b, bytes) ≡ (a, rest) = ok_value (b, bytes) (a, rest) e in
    (ap (λ (x : _ × List ℕ). Some x.0) same, ap (λ (x : _ × List ℕ). x.1) same)
ended_ok None bytes a rest e = absurd (let no : Err (length bytes) ≡ done (a, rest) = e in cc)

ended_err : {A : Type 0} (o : Option A) (bytes : List ℕ) (n : ℕ) → whole_reading o bytes ≡ Err n → (o ≡ None) × (length bytes ≡ n)
ended_err (Some b) bytes n e = absurd (let no : done (b, bytes) ≡ Err n = e in cc)
ended_err None bytes n e = (refl, cc)

-- the next byte's step, and where it leads
next : {S A : Type 0} (step : S → ℕ → Option S) (finish : S → Option A) (s : S) (c : ℕ) (cs : List ℕ) (C : Result (A × List ℕ) ℕ → Type 0)
    → ((t : S) → step s c ≡ Some t → C (scan step finish t cs)) → (step s c ≡ None → C (whole_reading (finish s) (c ∷ cs))) → C (scan step finish s (c ∷ cs))
next {S = S} step finish s c cs C on off =
    let f : (o : Option S) → step s c ≡ o → C (elim o [ Some t ↦ scan step finish t cs | None ↦ whole_reading (finish s) (c ∷ cs) ]) = λ o. elim o as (λ o. step s c ≡ o → C (elim o [ Some t ↦ scan step finish t cs | None ↦ whole_reading (finish s) (c ∷ cs) ])) [
      | Some t ↦ λ e. on t e
      | None ↦ λ e. off e
    ] in
    f (step s c) refl

apart_nil : (r : List ℕ) → Apart r []
apart_nil [] = tt
apart_nil (x ∷ r) = tt

onto : (p : List ℕ) (c : ℕ) (cs : List ℕ) → (p ++ c ∷ []) ++ cs ≡ p ++ c ∷ cs
onto p c cs = append_assoc p (c ∷ []) cs

scan_ok : {S A : Type 0} {L : A → List ℕ → Type 0} {step : S → ℕ → Option S} {finish : S → Option A} {At : S → List ℕ → Type 0} → Scans L step finish At
    → (s : S) (p bytes : List ℕ) (a : A) (rest : List ℕ) → At s p → scan step finish s bytes ≡ Ok (a, rest) → IsRead L (p ++ bytes) a rest
scan_ok {L = L} {step = step} {finish = finish} w s p [] a rest at h =
    let e = ended_ok (finish s) [] a rest h in
    record { text = p; spelled = w.value s p a at e.0; parts = ap (λ (t : List ℕ). p ++ t) e.1; ends = λ b r l. subst (λ (t : List ℕ). Apart r t) e.1 (apart_nil r) }
scan_ok {L = L} {step = step} {finish = finish} w s p (c ∷ cs) a rest at h0 =
    next step finish s c cs (λ x. x ≡ Ok (a, rest) → IsRead L (p ++ c ∷ cs) a rest)
    (λ t e h. subst (λ (x : List ℕ). IsRead L x a rest) (onto p c cs) (scan_ok w t (p ++ c ∷ []) cs a rest (w.more s p c t at e) h))
    (λ e h.
    let v = ended_ok (finish s) (c ∷ cs) a rest h in
    let ends : (b : _) (r : List ℕ) → L b (p ++ r) → Apart r (c ∷ cs) = λ b r. elim r as (λ r. L b (p ++ r) → Apart r (c ∷ cs)) [
      | [] ↦ λ l. tt
      | x ∷ r ↦ λ l same. w.stop s p c b r at e (subst (λ (y : ℕ). L b (p ++ y ∷ r)) same l)
    ] in
    record { text = p; spelled = w.value s p a at v.0; parts = ap (λ (t : List ℕ). p ++ t) v.1; ends = λ b r l. subst (λ (t : List ℕ). Apart r t) v.1 (ends b r l) }) h0

scan_err : {S A : Type 0} {L : A → List ℕ → Type 0} {step : S → ℕ → Option S} {finish : S → Option A} {At : S → List ℕ → Type 0} → Scans L step finish At
    → (s : S) (p bytes : List ℕ) (left : ℕ) → At s p → scan step finish s bytes ≡ Err left → IsFault L (p ++ bytes) left
scan_err {L = L} {step = step} {finish = finish} w s p [] left at h =
    let e = ended_err (finish s) [] left h in
    let diverges : (b : _) (r : List ℕ) → L b (p ++ r) → Parts r [] = λ b r. elim r as (λ r. L b (p ++ r) → Parts r []) [
      | [] ↦ λ l. w.none s p b at e.0 (subst (λ (x : List ℕ). L b x) (append-nil p) l)
      | x ∷ r ↦ λ l. tt
    ] in
    record { front = p; rest = []; parts = refl; left_is = e.1; begins = w.viable s p at; diverges = diverges }
scan_err {L = L} {step = step} {finish = finish} w s p (c ∷ cs) left at h0 =
    next step finish s c cs (λ x. x ≡ Err left → IsFault L (p ++ c ∷ cs) left)
    (λ t e h. subst (λ (x : List ℕ). IsFault L x left) (onto p c cs) (scan_err w t (p ++ c ∷ []) cs left (w.more s p c t at e) h))
    (λ e h.
    let v = ended_err (finish s) (c ∷ cs) left h in
    let diverges : (b : _) (r : List ℕ) → L b (p ++ r) → Parts r (c ∷ cs) = λ b r. elim r as (λ r. L b (p ++ r) → Parts r (c ∷ cs)) [
      | [] ↦ λ l. w.none s p b at v.0 (subst (λ (x : List ℕ). L b x) (append-nil p) l)
      | x ∷ r ↦ λ l same. w.stop s p c b r at e (subst (λ (y : ℕ). L b (p ++ y ∷ r)) same l)
    ] in
    record { front = p; rest = c ∷ cs; parts = refl; left_is = v.1; begins = w.viable s p at; diverges = diverges }) h0

-- a state after a whole text of a has the value a
finished : {S A : Type 0} {L : A → List ℕ → Type 0} {step : S → ℕ → Option S} {finish : S → Option A} {At : S → List ℕ → Type 0} → Scans L step finish At
    → (s : S) (p : List ℕ) (a : A) → At s p → L a p → finish s ≡ Some a
finished {finish = finish} w s p a at l =
    let f : (o : Option _) → finish s ≡ o → finish s ≡ Some a = λ o. elim o as (λ o. finish s ≡ o → finish s ≡ Some a) [
      | Some b ↦ λ e. e ∙ ap (λ (x : _). Some x) (w.one b a p (w.value s p b at e) l)
      | None ↦ λ e. absurd (w.none s p a at e l)
    ] in
    f (finish s) refl

scan_again : {S A : Type 0} {L : A → List ℕ → Type 0} {step : S → ℕ → Option S} {finish : S → Option A} {At : S → List ℕ → Type 0} → Scans L step finish At
    → (s : S) (p text : List ℕ) (a : A) (rest : List ℕ) → At s p → L a (p ++ text) → ((b : A) (r : List ℕ) → L b ((p ++ text) ++ r) → Apart r rest) → scan step finish s (text ++ rest) ≡ Ok (a, rest)
scan_again {L = L} {step = step} {finish = finish} w s p [] a [] at l ends = rw (finished w s p a at (subst (λ (x : List ℕ). L a x) (append-nil p) l)) refl
scan_again {L = L} {step = step} {finish = finish} w s p [] a (c ∷ cs) at l ends =
    next step finish s c cs (λ x. x ≡ Ok (a, c ∷ cs))
    (λ t e.
    let v = w.viable t (p ++ c ∷ []) (w.more s p c t at e) in
    let on : L v.value ((p ++ []) ++ c ∷ v.more) = subst (λ (x : List ℕ). L v.value x) (onto p c v.more ∙ ap (λ (q : List ℕ). q ++ c ∷ v.more) (sym (append-nil p))) v.spelled in
    absurd (ends v.value (c ∷ v.more) on refl))
    (λ e. rw (finished w s p a at (subst (λ (x : List ℕ). L a x) (append-nil p) l)) refl)
scan_again {L = L} {step = step} {finish = finish} w s p (c ∷ text) a rest at l ends =
    next step finish s c (text ++ rest) (λ x. x ≡ Ok (a, rest))
    (λ t e. scan_again w t (p ++ c ∷ []) text a rest (w.more s p c t at e) (subst (λ (x : List ℕ). L a x) (sym (onto p c text)) l)
    (λ b r k. ends b r (subst (λ (x : List ℕ). L b (x ++ r)) (onto p c text) k)))
    (λ e. absurd (w.stop s p c a text at e l))

pub scan_exact : {S A : Type 0} {L : A → List ℕ → Type 0} {step : S → ℕ → Option S} {finish : S → Option A} {At : S → List ℕ → Type 0} → Scans L step finish At
    → (s : S) → At s [] → Exact L (scan step finish s)
scan_exact w s at = record {
  ok = λ bytes a rest h. scan_ok w s [] bytes a rest at h;
  err = λ bytes left h. scan_err w s [] bytes left at h;
  again = λ a text rest l ends. scan_again w s [] text a rest at l ends;
}

-- ---- a turn of the loop

pub scan_on : {S A : Type 0} (step : S → ℕ → Option S) (finish : S → Option A) (s : S) (c : ℕ) (cs : List ℕ) (t : S) → step s c ≡ Some t → scan step finish s (c ∷ cs) ≡ scan step finish t cs
scan_on {S = S} step finish s c cs t e = ap (λ (o : Option S). elim o [ Some t ↦ scan step finish t cs | None ↦ whole_reading (finish s) (c ∷ cs) ]) e

pub scan_off : {S A : Type 0} (step : S → ℕ → Option S) (finish : S → Option A) (s : S) (c : ℕ) (cs : List ℕ) → step s c ≡ None → scan step finish s (c ∷ cs) ≡ whole_reading (finish s) (c ∷ cs)
scan_off {S = S} step finish s c cs e = ap (λ (o : Option S). elim o [ Some t ↦ scan step finish t cs | None ↦ whole_reading (finish s) (c ∷ cs) ]) e
