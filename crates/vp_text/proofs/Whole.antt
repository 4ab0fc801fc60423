-- Readers of whole texts.
use Rattle.std.proofs.Common.{◌≡◌, ℕ, zero, suc, ◌-◌, ◌≤◌, ◌<◌, List, [], ◌∷◌, ◌++◌, length, take, Result, Ok, Err, refl, sym, ap, subst, ◌∙◌, arith, inl, inr, append_assoc}
use Rattle.std.proofs.lemmas.List.{append-nil, length-append, take_at}
use Rattle.std.proofs.lemmas.Bool.{cases_lt}
use Rattle.vp_text.specs.Meaning.{Begins, IsLongest, IsRefused}
use Rattle.vp_text.specs.Reading.{◌>>=◌, end_at, whole}
use Rattle.vp_text.proofs.Exact.{Apart, Parts, IsRead, IsFault, Exact, bind_ok, bind_err, ok_value}

-- a longer prefix has a byte of the rest after the front
longer : (n : ℕ) (front rest : List ℕ) → length front < n → n ≤ length (front ++ rest) → (c : ℕ) × (cs r : List ℕ) × (rest ≡ c ∷ cs) × (take n (front ++ rest) ≡ front ++ c ∷ r)
longer zero front rest lt le = absurd (omega arith)
longer (suc n) [] [] lt le = absurd (omega arith)
longer (suc n) [] (c ∷ cs) lt le = (c, cs, take n cs, refl, refl)
longer (suc n) (x ∷ front) rest lt le =
    let w = longer n front rest (omega arith) (omega arith) in
    (w.0, w.1, w.2, w.3, ap (λ (t : List ℕ). x ∷ t) w.4)

-- the front is the longest prefix that begins a text, where no text goes on from it as the rest does
abbrev Halts : {A : Type 0} → (A → List ℕ → Type 0) → List ℕ → List ℕ → Type 0
Halts {A = A} L front rest = (a : A) (c : ℕ) (cs r : List ℕ) → rest ≡ c ∷ cs → L a (front ++ c ∷ r) → ⊥

longest_front : {A : Type 0} {L : A → List ℕ → Type 0} (bytes front rest : List ℕ) → bytes ≡ front ++ rest → Begins L front → Halts L front rest → IsLongest L bytes (length front)
longest_front {L = L} bytes front rest parts begins halts = record {
  within = omega (arith, ap length parts, length-append front rest);
  begins = subst (λ (x : List ℕ). Begins L x) (sym (ap (take (length front)) parts ∙ take_at front rest (length front) refl)) begins;
  longest = λ n le b.
      elim (cases_lt (length front) n) [
        | inl lt ↦
            let w = longer n front rest lt (omega (arith, ap length parts)) in
            let text : L b.value (front ++ w.0 ∷ (w.2 ++ b.more)) = subst (λ (x : List ℕ). L b.value x) (ap (λ (x : List ℕ). take n x ++ b.more) parts ∙ ap (λ (x : List ℕ). x ++ b.more) w.4 ∙ append_assoc front (w.0 ∷ w.2) b.more) b.spelled in
            absurd (halts b.value w.0 w.1 (w.2 ++ b.more) w.3 text)
        | inr le ↦ le
      ];
}

parts_same : (r : List ℕ) → Parts r r → ⊥
parts_same [] h = h
parts_same (c ∷ r) h = h refl

parts_apart : (c : ℕ) (r rest cs : List ℕ) → rest ≡ c ∷ cs → Parts (c ∷ r) rest → ⊥
parts_apart c r [] cs e h = cc
parts_apart c r (d ∷ rest) cs e h = h (let same : d ≡ c = cc in sym same)

apart_apart : (c : ℕ) (r rest cs : List ℕ) → rest ≡ c ∷ cs → Apart (c ∷ r) rest → ⊥
apart_apart c r [] cs e h = cc
apart_apart c r (d ∷ rest) cs e h = h (let same : d ≡ c = cc in sym same)

pub fault_longest : {A : Type 0} {L : A → List ℕ → Type 0} (bytes : List ℕ) (left : ℕ) → IsFault L bytes left → IsLongest L bytes (length bytes - left)
fault_longest {L = L} bytes left f =
    let at : length f.front ≡ length bytes - left = omega (arith, ap length f.parts, length-append f.front f.rest, f.left_is) in
    subst (IsLongest L bytes) at (longest_front bytes f.front f.rest f.parts f.begins (λ a c cs r e l. parts_apart c r f.rest cs e (f.diverges a (c ∷ r) l)))

pub fault_left : {A : Type 0} {L : A → List ℕ → Type 0} (bytes : List ℕ) (left : ℕ) → IsFault L bytes left → left ≤ length bytes
fault_left bytes left f = omega (arith, ap length f.parts, length-append f.front f.rest, f.left_is)

pub fault_none : {A : Type 0} {L : A → List ℕ → Type 0} (bytes : List ℕ) (left : ℕ) → IsFault L bytes left → (a : A) → L a bytes → ⊥
fault_none {L = L} bytes left f a l = parts_same f.rest (f.diverges a f.rest (subst (λ (x : List ℕ). L a x) f.parts l))

-- a value's text, and then more bytes
more_refused : {A : Type 0} {L : A → List ℕ → Type 0} (bytes : List ℕ) (a : A) (c : ℕ) (cs : List ℕ) → IsRead L bytes a (c ∷ cs) → IsRefused L bytes (length bytes - length (c ∷ cs))
more_refused {L = L} bytes a c cs p =
    let at : length p.text ≡ length bytes - length (c ∷ cs) = omega (arith, ap length p.parts, length-append p.text (c ∷ cs)) in
    record {
      none = λ b l. p.ends b (c ∷ cs) (subst (λ (x : List ℕ). L b x) p.parts l) refl;
      longest = subst (IsLongest L bytes) at (longest_front bytes p.text (c ∷ cs) p.parts (record { value = a; more = []; spelled = subst (λ (x : List ℕ). L a x) (sym (append-nil p.text)) p.spelled }) (λ b d ds r e l. apart_apart d r (c ∷ cs) ds e (p.ends b (d ∷ r) l)));
    }

-- ---- a whole text

end_ok : (rest : List ℕ) (e : Unit {0} × List ℕ) → end_at rest ≡ Ok e → rest ≡ []
end_ok [] e h = refl
end_ok (c ∷ cs) e h = absurd (let f : Err (length (c ∷ cs)) ≡ Ok e = h in cc)

pub whole_ok : {A : Type 0} {L : A → List ℕ → Type 0} {P : List ℕ → Result (A × List ℕ) ℕ} → Exact L P → (bytes : List ℕ) (a : A) (rest : List ℕ) → whole P bytes ≡ Ok (a, rest) → L a bytes
whole_ok {A = A} {L = L} {P = P} e bytes a rest h =
    let w = bind_ok (P bytes) (λ x. end_at x.1 >>= λ e. Ok (x.0, e.1)) (a, rest) h in
    let v = bind_ok (end_at w.0.1) (λ e. Ok (w.0.0, e.1)) (a, rest) w.2 in
    let p = e.ok bytes w.0.0 w.0.1 w.1 in
    let same : (w.0.0, v.0.1) ≡ (a, rest) = ok_value (w.0.0, v.0.1) (a, rest) v.2 in
    let nothing = end_ok w.0.1 v.0 v.1 in
    let value : w.0.0 ≡ a = ap (λ (x : A × List ℕ). x.0) same in
    let text : bytes ≡ p.text = p.parts ∙ ap (λ (x : List ℕ). p.text ++ x) nothing ∙ append-nil p.text in
    subst (λ (x : A). L x bytes) value (subst (λ (x : List ℕ). L w.0.0 x) (sym text) p.spelled)

end_err : (rest : List ℕ) (n : ℕ) → end_at rest ≡ Err n → (c : ℕ) × (cs : List ℕ) × (rest ≡ c ∷ cs) × (length rest ≡ n)
end_err [] n h = absurd cc
end_err (c ∷ cs) n h = (c, cs, refl, cc)

pub whole_err : {A : Type 0} {L : A → List ℕ → Type 0} {P : List ℕ → Result (A × List ℕ) ℕ} → Exact L P → (bytes : List ℕ) (left : ℕ) → whole P bytes ≡ Err left → (left ≤ length bytes) × IsRefused L bytes (length bytes - left)
whole_err {A = A} {L = L} {P = P} e bytes left h =
    elim (bind_err (P bytes) (λ x. end_at x.1 >>= λ e. Ok (x.0, e.1)) left h) [
      | inl w ↦ let f = e.err bytes left w in (fault_left bytes left f, record { none = fault_none bytes left f; longest = fault_longest bytes left f })
      | inr w ↦
          elim (bind_err (end_at w.0.1) (λ e. Ok (w.0.0, e.1)) left w.2) [
            | inl v ↦
                let m = end_err w.0.1 left v in
                let p = subst (IsRead L bytes w.0.0) m.2 (e.ok bytes w.0.0 w.0.1 w.1) in
                let size : left ≡ length (m.0 ∷ m.1) = sym m.3 ∙ ap length m.2 in
                (omega (arith, size, ap length p.parts, length-append p.text (m.0 ∷ m.1)), subst (λ (n : ℕ). IsRefused L bytes (length bytes - n)) (sym size) (more_refused bytes w.0.0 m.0 m.1 p))
            | inr v ↦ absurd (let f : Ok (w.0.0, v.0.1) ≡ Err left = v.2 in cc)
          ]
    ]
