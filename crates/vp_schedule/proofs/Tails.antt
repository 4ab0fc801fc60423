-- A text, and after it one that may be empty: it goes on with a byte that the first can't go on with.
use Rattle.std.proofs.Common.{◌≡◌, ℕ, Bool, true, false, List, [], ◌∷◌, ◌++◌, Result, Ok, Err, refl, sym, ap, subst, ◌∙◌, append_assoc, inl, inr, ◌⊎◌}
use Rattle.std.proofs.lemmas.List.{append-nil}
use Rattle.std.proofs.lemmas.Bool.{false≢true}
use Rattle.vp_text.specs.Reading.{◌>>=◌}
use Rattle.vp_text.proofs.Exact.{Apart, Parts, IsRead, IsFault, IsRight, IsRightAfter, IsOne, Then, cut, bind_ok, bind_err}
use Rattle.vp_text.proofs.Choices.{GoesOn}

-- a text of the language is empty, or begins with a byte that the test doesn't allow
abbrev pub IsTail : {B : Type 0} → (ℕ → Bool) → (B → List ℕ → Type 0) → Type 0
IsTail {B = B} has M = (b : B) (c : ℕ) (t : List ℕ) → M b (c ∷ t) → has c ≡ false

apart_on : (x : ℕ) (s back rest : List ℕ) → Apart (x ∷ s) rest → Apart (x ∷ (s ++ back)) rest
apart_on x s back [] h = tt
apart_on x s back (c ∷ rest) h = h

parts_on : (s k rest : List ℕ) → Parts s rest → Parts (s ++ k) rest
parts_on [] k rest h = absurd h
parts_on (x ∷ s) k [] h = tt
parts_on (x ∷ s) k (c ∷ rest) h = h

-- the first text goes on, where nothing of the second was read
record Longer {A : Type 0} (L : A → List ℕ → Type 0) (p q r : List ℕ) : Type 0 where
  value : A
  byte : ℕ
  more : List ℕ
  back : List ℕ
  spelled : L value (p ++ byte ∷ more)
  nothing : q ≡ []
  is : r ≡ (byte ∷ more) ++ back

module _ {A B : Type 0} (L : A → List ℕ → Type 0) (M : A → B → List ℕ → Type 0) (has : ℕ → Bool) (one : IsOne L) (goes : GoesOn has L) (tail : (a : A) → IsTail has (M a)) (none : (a : A) → (b : B) × M a b []) where
  no_shorter : (a a2 : A) (f : List ℕ) (x : ℕ) (u back v : List ℕ) (b : B) → L a2 f → L a (f ++ x ∷ u) → M a2 b back → back ≡ x ∷ v → ⊥
  no_shorter a a2 f x u back v b l k m e = false≢true (sym (tail a2 b x v (subst (M a2 b) e m)) ∙ goes a2 a f x u l k)

  after : (a : A) (p : List ℕ) → L a p → (q more : List ℕ) (seen : B) → M a seen (q ++ more) → (c : B) (r : List ℕ) → Then L M c ((p ++ q) ++ r) → M a c (q ++ r) ⊎ Longer L p q r
  after a p la q more seen ms c r h =
      elim (cut p (q ++ r) h.front h.back (sym (append_assoc p q r) ∙ h.parts)) [
        | inl w ↦ by_rest w.0 w.1 w.2
        | inr w ↦ absurd (no_shorter a h.first h.front w.0 w.1 h.back (w.1 ++ (q ++ r)) c h.before (subst (L a) w.2 la) h.after w.3)
      ]
    where
      by_read : (q : List ℕ) (x : ℕ) (s : List ℕ) → M a seen (q ++ more) → has x ≡ true → L h.first (p ++ x ∷ s) → q ++ r ≡ (x ∷ s) ++ h.back → Longer L p q r
      by_read [] x s m on l e = record { value = h.first; byte = x; more = s; back = h.back; spelled = l; nothing = refl; is = e }
      by_read (d ∷ q) x s m on l e =
          let same : d ≡ x = cc in
          absurd (false≢true (sym (tail a seen d (q ++ more) m) ∙ ap has same ∙ on))

      by_rest : (s : List ℕ) → h.front ≡ p ++ s → q ++ r ≡ s ++ h.back → M a c (q ++ r) ⊎ Longer L p q r
      by_rest [] front-is back-is =
          let lf : L h.first p = subst (L h.first) (front-is ∙ append-nil p) h.before in
          inl (subst (M a c) (sym back-is) (subst (λ (v : A). M v c h.back) (one h.first a p lf la) h.after))
      by_rest (x ∷ s) front-is back-is =
          let lf : L h.first (p ++ x ∷ s) = subst (L h.first) front-is h.before in
          inr (by_read q x s ms (goes a h.first p x s la lf) lf back-is)

  module _ {Q : A → List ℕ → Result (B × List ℕ) ℕ} {bytes : List ℕ} {r : Result (A × List ℕ) ℕ} (e : IsRight L bytes r) (f : IsRightAfter r M Q) where
    tail_ok : (b : B) (rest : List ℕ) → (r >>= λ x. Q x.0 x.1) ≡ Ok (b, rest) → IsRead (Then L M) bytes b rest
    tail_ok b rest h =
        let w = bind_ok r (λ x. Q x.0 x.1) (b, rest) h in
        let a = w.0.0 in
        let mid = w.0.1 in
        let p = e.ok a mid w.1 in
        let q = (f a mid w.1).ok b rest w.2 in
        record {
          text = p.text ++ q.text;
          spelled = record { first = a; front = p.text; back = q.text; before = p.spelled; after = q.spelled; parts = refl };
          parts = p.parts ∙ ap (λ (t : List ℕ). p.text ++ t) q.parts ∙ sym (append_assoc p.text q.text rest);
          ends = λ c s t.
              elim (after a p.text p.spelled q.text [] b (subst (M a b) (sym (append-nil q.text)) q.spelled) c s t) [
                | inl m ↦ q.ends c s m
                | inr k ↦
                    let here : mid ≡ rest = q.parts ∙ ap (λ (t : List ℕ). t ++ rest) k.nothing in
                    subst (λ (s : List ℕ). Apart s rest) (sym k.is) (apart_on k.byte k.more k.back rest (subst (Apart (k.byte ∷ k.more)) here (p.ends k.value (k.byte ∷ k.more) k.spelled)))
              ];
        }

    tail_err : (left : ℕ) → (r >>= λ x. Q x.0 x.1) ≡ Err left → IsFault (Then L M) bytes left
    tail_err left h =
        elim (bind_err r (λ x. Q x.0 x.1) left h) [
          | inl w ↦
              let p = e.err left w in
              let a = p.begins.value in
              record {
                front = p.front;
                rest = p.rest;
                parts = p.parts;
                left_is = p.left_is;
                begins = record {
                  value = (none a).0;
                  more = p.begins.more;
                  spelled = record { first = a; front = p.front ++ p.begins.more; back = []; before = p.begins.spelled; after = (none a).1; parts = sym (append-nil (p.front ++ p.begins.more)) };
                };
                diverges = λ b s t.
                    elim (cut p.front s t.front t.back t.parts) [
                      | inl v ↦ subst (λ (x : List ℕ). Parts x p.rest) (sym v.2) (parts_on v.0 t.back p.rest (p.diverges t.first v.0 (subst (L t.first) v.1 t.before)))
                      | inr v ↦
                          let whole : L a (t.front ++ v.0 ∷ (v.1 ++ p.begins.more)) = subst (L a) (ap (λ (x : List ℕ). x ++ p.begins.more) v.2 ∙ append_assoc t.front (v.0 ∷ v.1) p.begins.more) p.begins.spelled in
                          absurd (no_shorter a t.first t.front v.0 (v.1 ++ p.begins.more) t.back (v.1 ++ s) b t.before whole t.after v.3)
                    ];
              }
          | inr w ↦
              let a = w.0.0 in
              let mid = w.0.1 in
              let p = e.ok a mid w.1 in
              let q = (f a mid w.1).err left w.2 in
              record {
                front = p.text ++ q.front;
                rest = q.rest;
                parts = p.parts ∙ ap (λ (t : List ℕ). p.text ++ t) q.parts ∙ sym (append_assoc p.text q.front q.rest);
                left_is = q.left_is;
                begins = record {
                  value = q.begins.value;
                  more = q.begins.more;
                  spelled = record { first = a; front = p.text; back = q.front ++ q.begins.more; before = p.spelled; after = q.begins.spelled; parts = append_assoc p.text q.front q.begins.more };
                };
                diverges = λ b s t.
                    elim (after a p.text p.spelled q.front q.begins.more q.begins.value q.begins.spelled b s t) [
                      | inl m ↦ q.diverges b s m
                      | inr k ↦ absurd (q.diverges (none a).0 [] (subst (M a (none a).0) (sym (append-nil q.front ∙ k.nothing)) (none a).1))
                    ];
              }
        ]

    tail_again : (b : B) (text rest : List ℕ) → bytes ≡ text ++ rest → Then L M b text → ((c : B) (s : List ℕ) → Then L M c (text ++ s) → Apart s rest) → (r >>= λ x. Q x.0 x.1) ≡ Ok (b, rest)
    tail_again b text rest at t ends =
        let regroup : bytes ≡ t.front ++ (t.back ++ rest) = at ∙ ap (λ (x : List ℕ). x ++ rest) t.parts ∙ append_assoc t.front t.back rest in
        let first : r ≡ Ok (t.first, t.back ++ rest) = e.again t.first t.front (t.back ++ rest) regroup t.before stops in
        let second : Q t.first (t.back ++ rest) ≡ Ok (b, rest) = (f t.first (t.back ++ rest) first).again b t.back rest refl t.after (λ c s m.
        ends c s (record { first = t.first; front = t.front; back = t.back ++ s; before = t.before; after = m; parts = ap (λ (x : List ℕ). x ++ s) t.parts ∙ append_assoc t.front t.back s })) in
        rw (first, second) refl
      where
        stops_at : (c : A) (x : ℕ) (s back : List ℕ) → t.back ≡ back → L c (t.front ++ x ∷ s) → Apart (x ∷ s) (back ++ rest)
        stops_at c x s [] is l = ends (none c).0 (x ∷ s) (record {
          first = c;
          front = t.front ++ x ∷ s;
          back = [];
          before = l;
          after = (none c).1;
          parts = ap (λ (z : List ℕ). z ++ x ∷ s) (t.parts ∙ ap (λ (z : List ℕ). t.front ++ z) is ∙ append-nil t.front) ∙ sym (append-nil (t.front ++ x ∷ s));
        })
        stops_at c x s (d ∷ back) is l = λ same. false≢true (sym (tail t.first b d back (subst (M t.first b) is t.after)) ∙ ap has (sym same) ∙ goes t.first c t.front x s t.before l)

        stops : (c : A) (s : List ℕ) → L c (t.front ++ s) → Apart s (t.back ++ rest)
        stops c [] l = tt
        stops c (x ∷ s) l = stops_at c x s t.back refl l

    pub tail_right : IsRight (Then L M) bytes (r >>= λ x. Q x.0 x.1)
    tail_right = record {
      ok = λ b rest h. tail_ok b rest h;
      err = λ left h. tail_err left h;
      again = λ b text rest at t ends. tail_again b text rest at t ends;
    }
