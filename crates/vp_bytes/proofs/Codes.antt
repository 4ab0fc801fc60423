-- The codes of kinds are read exactly, and so are fields without bytes.
use Rattle.std.proofs.Common.{◌≡◌, ℕ, Bool, true, false, cond, eqb, List, [], ◌∷◌, ◌++◌, length, Option, Some, None, Ok, Err, refl, sym, ap, subst, ◌∙◌, arith}
use Rattle.std.proofs.lemmas.Bool.{eqb-true}
use Rattle.std.proofs.lemmas.List.{length-append}
use Rattle.std.specs.List.{AllByRecursion}
use Rattle.vp_text.proofs.Exact.{Apart, Parts, IsRight, IsOne, Exact, exact_from, done, ok_value}
use Rattle.vp_bytes.specs.Codes.{find_code, code_at}
use Rattle.vp_bytes.proofs.Digits.{nothing_more}
use Rattle.vp_bytes.proofs.Free.{IsFree, even_free}

-- ---- fields without bytes

abbrev pub Nothing : {A : Type 0} → A → A → List ℕ → Type 0
Nothing none a text = (text ≡ []) × (a ≡ none)

pub nothing_exact : {A : Type 0} (none : A) → Exact (Nothing none) (λ bytes. Ok (none, bytes))
nothing_exact {A = A} none = record {
  ok = λ bytes a rest h.
      let same : (none, bytes) ≡ (a, rest) = ok_value (none, bytes) (a, rest) h in
      record { text = []; spelled = (refl, sym (ap (λ (x : A × List ℕ). x.0) same)); parts = ap (λ (x : A × List ℕ). x.1) same; ends = λ b r l. nothing_more r rest l.0 };
  err = λ bytes left h. absurd (let never : done (none, bytes) ≡ Err left = h in cc);
  again = λ a text rest l ends. rw (l.0, l.1) refl;
}

-- ---- codes

module _ {K : Type 0} (code : K → ℕ) (of : ℕ → Option K) where
  -- The text is the code of the kind, which is found by it.
  pub record IsCode (kind : K) (text : List ℕ) : Type 0 where
    pub is : text ≡ code kind ∷ []
    pub found : of (code kind) ≡ Some kind

  -- a code means the kind that is found by it, and some kind is
  pub record Codes : Type 0 where
    pub only : (c : ℕ) (kind : K) → of c ≡ Some kind → code kind ≡ c
    pub some : K
    pub there : of (code some) ≡ Some some

  pub code_free : IsFree IsCode
  code_free = even_free {L = IsCode} 1 (λ kind t h. ap length h.is)

  pub code_one : IsOne IsCode
  code_one a b t h k =
      let same : code a ∷ [] ≡ code b ∷ [] = sym h.is ∙ k.is in
      let codes : code a ≡ code b = cc in
      let kinds : Some a ≡ Some b = sym h.found ∙ ap of codes ∙ k.found in
      cc

  ends : (c : ℕ) (rest : List ℕ) (b : K) (r : List ℕ) → IsCode b (c ∷ r) → Apart r rest
  ends c rest b [] h = tt
  ends c rest b (x ∷ r) h = absurd (omega (arith, ap length h.is))

  some_none : (kind : K) → Some kind ≡ None → ⊥
  some_none kind e = cc

  diverges : (c : ℕ) (cs : List ℕ) → of c ≡ None → (b : K) (r : List ℕ) → IsCode b r → Parts r (c ∷ cs)
  diverges c cs fails b [] h = absurd (omega (arith, ap length h.is))
  diverges c cs fails b (x ∷ r) h = λ same.
      let is : x ∷ r ≡ code b ∷ [] = h.is in
      let first : x ≡ code b = cc in
      some_none b (sym h.found ∙ ap of (sym first ∙ same) ∙ fails)

  nothing : (b : K) (r : List ℕ) → IsCode b r → Parts r []
  nothing b [] h = absurd (omega (arith, ap length h.is))
  nothing b (x ∷ r) h = tt

  taken : Codes → (c : ℕ) (cs : List ℕ) (kind : K) → of c ≡ Some kind → IsRight IsCode (c ∷ cs) (Ok (kind, cs))
  taken w c cs kind holds = record {
    ok = λ a rest h.
        let same : (kind, cs) ≡ (a, rest) = ok_value (kind, cs) (a, rest) h in
        let first : kind ≡ a = ap (λ (x : K × List ℕ). x.0) same in
        let last : cs ≡ rest = ap (λ (x : K × List ℕ). x.1) same in
        record { text = c ∷ []; spelled = record { is = ap (λ (x : ℕ). x ∷ []) (sym (w.only c kind holds) ∙ ap code first); found = subst (λ (k : K). of (code k) ≡ Some k) first (ap of (w.only c kind holds) ∙ holds) }; parts = ap (λ (t : List ℕ). c ∷ t) last; ends = λ b r l. ends c rest b r l };
    err = λ left h. absurd (let never : done (kind, cs) ≡ Err left = h in cc);
    again = λ a text rest at l stops.
        let whole : c ∷ cs ≡ code a ∷ rest = at ∙ ap (λ (t : List ℕ). t ++ rest) l.is in
        let first : c ≡ code a = cc in
        let last : cs ≡ rest = cc in
        let kinds : Some kind ≡ Some a = sym holds ∙ ap of first ∙ l.found in
        let same : kind ≡ a = cc in
        rw (same, last) refl;
  }

  left_over : Codes → (c : ℕ) (cs : List ℕ) → of c ≡ None → IsRight IsCode (c ∷ cs) (Err (length (c ∷ cs)))
  left_over w c cs fails = record {
    ok = λ a rest h. absurd (let never : Err (length (c ∷ cs)) ≡ done (a, rest) = h in cc);
    err = λ left h. record {
      front = [];
      rest = c ∷ cs;
      parts = refl;
      left_is = cc;
      begins = record { value = w.some; more = code w.some ∷ []; spelled = record { is = refl; found = w.there } };
      diverges = λ b r l. diverges c cs fails b r l;
    };
    again = λ a text rest at l stops.
        let whole : c ∷ cs ≡ code a ∷ rest = at ∙ ap (λ (t : List ℕ). t ++ rest) l.is in
        let first : c ≡ code a = cc in
        absurd (some_none a (sym l.found ∙ ap of (sym first) ∙ fails));
  }

  ended : Codes → IsRight IsCode [] (Err 0)
  ended w = record {
    ok = λ a rest h. absurd (let never : Err 0 ≡ done (a, rest) = h in cc);
    err = λ left h. record {
      front = [];
      rest = [];
      parts = refl;
      left_is = cc;
      begins = record { value = w.some; more = code w.some ∷ []; spelled = record { is = refl; found = w.there } };
      diverges = λ b r l. nothing b r l;
    };
    again = λ a text rest at l stops. absurd (omega (arith, ap length at, length-append text rest, ap length l.is));
  }

  right : Codes → (bytes : List ℕ) → IsRight IsCode bytes (code_at of bytes)
  right w [] = ended w
  right w (c ∷ cs) =
      let f : (o : Option K) → of c ≡ o → IsRight IsCode (c ∷ cs) (code_at of (c ∷ cs)) = λ o. elim o as (λ o. of c ≡ o → IsRight IsCode (c ∷ cs) (code_at of (c ∷ cs))) [
        | Some kind ↦ λ e. rw (code_at, e) (taken w c cs kind e)
        | None ↦ λ e. rw (code_at, e) (left_over w c cs e)
      ] in
      f (of c) refl

  pub code_exact : Codes → Exact IsCode (code_at of)
  code_exact w = exact_from (λ bytes. right w bytes)

-- ---- what is found by a code

module _ {K : Type 0} (code : K → ℕ) where
  found_at : (b : Bool) (c : ℕ) (pair : ℕ × K) (other : Option K) (kind : K) → (b ≡ true → c ≡ pair.0) → code pair.1 ≡ pair.0 → (other ≡ Some kind → code kind ≡ c) → cond b (Some pair.1) other ≡ Some kind → code kind ≡ c
  found_at true c pair other kind same right rest e = let first : pair.1 ≡ kind = cc in sym (ap code first) ∙ right ∙ sym (same refl)
  found_at false c pair other kind same right rest e = rest e

  pub found_only : (pairs : List (ℕ × K)) → AllByRecursion (λ pair. code pair.1 ≡ pair.0) pairs → (c : ℕ) (kind : K) → find_code pairs c ≡ Some kind → code kind ≡ c
  found_only [] h c kind e = absurd (let never : None ≡ Some kind = e in cc)
  found_only (pair ∷ pairs) h c kind e = found_at (eqb c pair.0) c pair (find_code pairs c) kind (λ s. eqb-true c pair.0 s) h.0 (λ r. found_only pairs h.1 c kind r) e
