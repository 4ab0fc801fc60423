-- Lines read one after the other.
use Rattle.std.proofs.Common.{◌≡◌, ◌≢◌, ◌⊎◌, ℕ, zero, suc, take, ◌+◌, ◌-◌, ◌≤◌, ◌<◌, List, [], ◌∷◌, ◌++◌, length, Result, Ok, Err, refl, sym, ap, subst, ◌∙◌, append_assoc, arith, inl, inr}
use Rattle.std.proofs.lemmas.List.{length-append, length-take}
use Rattle.std.proofs.lemmas.Bool.{cases_eq, eq-eqb, ne_eqb}
use Rattle.vp_text.specs.Meaning.{Begins, IsLongest}
use Rattle.vp_text.specs.Documents.{HasNoNewline, IsLine, first_line, reached, LinesText, IsBadLine, IsFaultyLine}
use Rattle.vp_text.proofs.Exact.{Exact, Parts, IsFault, cut}
use Rattle.vp_text.proofs.Items.{all_at}
use Rattle.vp_text.proofs.Whole.{fault_longest, fault_left}

in_body : (body s : List ℕ) (x : ℕ) (r : List ℕ) → HasNoNewline (body ++ s) → 10 ∷ x ∷ r ≡ s ++ 10 ∷ [] → ⊥
in_body body [] x r h e = omega (arith, ap length e)
in_body body (c ∷ s) x r h e = all_at (λ c. c ≡ 10 → ⊥) body c s h (let head : 10 ≡ c = cc in sym head)

-- a line is no beginning of a longer line
pub no_prefix : (t : List ℕ) (x : ℕ) (r : List ℕ) → IsLine t → IsLine (t ++ x ∷ r) → ⊥
no_prefix t x r h k =
    let e : h.0 ++ (10 ∷ x ∷ r) ≡ k.0 ++ 10 ∷ [] = sym (append_assoc h.0 (10 ∷ []) (x ∷ r)) ∙ ap (λ (z : List ℕ). z ++ x ∷ r) (sym h.2) ∙ k.2 in
    elim (cut h.0 (10 ∷ x ∷ r) k.0 (10 ∷ []) e) [
      | inl w ↦ in_body h.0 w.0 x r (subst HasNoNewline w.1 k.1) w.2
      | inr w ↦ omega (arith, ap length w.3, length-append (w.0 ∷ w.1) (10 ∷ x ∷ r))
    ]

parts_front : (s r : List ℕ) → Parts s (s ++ r) → ⊥
parts_front [] r h = h
parts_front (c ∷ s) r h = h refl

-- where the reading fails, there is no line
pub fault_no_line : {E : Type 0} (L : E → List ℕ → Type 0) → ((e : E) (t : List ℕ) → L e t → IsLine t) → (rest : List ℕ) (left : ℕ) → IsFault L rest left → (e : E) (t r : List ℕ) → L e t → rest ≡ t ++ r → ⊥
fault_no_line L lines rest left f e t r l at =
    elim (cut f.front f.rest t r (sym f.parts ∙ at)) [
      | inl w ↦ parts_front w.0 r (subst (Parts w.0) w.2 (f.diverges e w.0 (subst (L e) w.1 l)))
      | inr w ↦
          let longer : L f.begins.value (t ++ w.0 ∷ (w.1 ++ f.begins.more)) = subst (L f.begins.value) (ap (λ (x : List ℕ). x ++ f.begins.more) w.2 ∙ append_assoc t (w.0 ∷ w.1) f.begins.more) f.begins.spelled in
          no_prefix t w.0 (w.1 ++ f.begins.more) (lines e t l) (lines f.begins.value (t ++ w.0 ∷ (w.1 ++ f.begins.more)) longer)
    ]

-- ---- the longest prefix in the rest is the longest prefix in its first line

line_tail_at : (c : ℕ) (t body : List ℕ) → c ≢ 10 → HasNoNewline body → c ∷ t ≡ body ++ 10 ∷ [] → IsLine t
line_tail_at c t [] other h e = absurd (other (let head : c ≡ 10 = cc in head))
line_tail_at c t (x ∷ body) other h e = (body, h.1, let tail : t ≡ body ++ 10 ∷ [] = cc in tail)

line_alone_at : (t body : List ℕ) → HasNoNewline body → 10 ∷ t ≡ body ++ 10 ∷ [] → t ≡ []
line_alone_at t [] h e = let tail : t ≡ [] = cc in tail
line_alone_at t (x ∷ body) h e = absurd (h.0 (let head : 10 ≡ x = cc in sym head))

line_tail : (c : ℕ) (t : List ℕ) → c ≢ 10 → IsLine (c ∷ t) → IsLine t
line_tail c t other h = line_tail_at c t h.0 other h.1 h.2

line_alone : (t : List ℕ) → IsLine (10 ∷ t) → t ≡ []
line_alone t h = line_alone_at t h.0 h.1 h.2

first_cases : (c : ℕ) (cs : List ℕ) → ((c ≡ 10) × (first_line (c ∷ cs) ≡ c ∷ [])) ⊎ ((c ≢ 10) × (first_line (c ∷ cs) ≡ c ∷ first_line cs))
first_cases c cs = elim (cases_eq c 10) [
  | inl same ↦ inl (same, rw (eq-eqb c 10 same) refl)
  | inr other ↦ inr (other, rw (ne_eqb c 10 other) refl)
]

in_line : (n : ℕ) (rest more : List ℕ) → n ≤ length rest → IsLine (take n rest ++ more) → n ≤ length (first_line rest)
in_line zero rest more le h = omega arith
in_line (suc n) [] more le h = absurd (omega arith)
in_line (suc n) (c ∷ cs) more le h = elim (first_cases c cs) [
  | inl w ↦
      let alone : take n cs ++ more ≡ [] = line_alone (take n cs ++ more) (subst (λ (x : ℕ). IsLine (x ∷ (take n cs ++ more))) w.0 h) in
      omega (arith, ap length w.1, ap length alone, length-append (take n cs) more, length-take n cs)
  | inr w ↦ omega (arith, ap length w.1, in_line n cs more (omega arith) (line_tail c (take n cs ++ more) w.0 h))
]

first_take : (n : ℕ) (rest : List ℕ) → n ≤ length (first_line rest) → take n (first_line rest) ≡ take n rest
first_take zero rest le = refl
first_take (suc n) [] le = refl
first_take (suc n) (c ∷ cs) le = elim (first_cases c cs) [
  | inl w ↦
      let none : n ≡ 0 = omega (arith, ap length w.1) in
      ap (take (suc n)) w.1 ∙ rw none refl
  | inr w ↦ ap (take (suc n)) w.1 ∙ ap (λ (x : List ℕ). c ∷ x) (first_take n cs (omega (arith, ap length w.1)))
]

first_short : (rest : List ℕ) → length (first_line rest) ≤ length rest
first_short [] = omega arith
first_short (c ∷ cs) = elim (first_cases c cs) [ inl w ↦ omega (arith, ap length w.1) | inr w ↦ omega (arith, ap length w.1, first_short cs) ]

pub longest_in_line : {E : Type 0} {L : E → List ℕ → Type 0} → ((e : E) (t : List ℕ) → L e t → IsLine t) → (rest : List ℕ) (k : ℕ) → IsLongest L rest k → IsLongest L (first_line rest) k
longest_in_line {L = L} lines rest k l =
    let b = l.begins in
    let inside = in_line k rest b.more l.within (lines b.value (take k rest ++ b.more) b.spelled) in
    record {
      within = inside;
      begins = subst (Begins L) (sym (first_take k rest inside)) b;
      longest = λ n le d. l.longest n (omega (arith, first_short rest)) (subst (Begins L) (first_take n rest le) d);
    }

module _ {S E : Type 0} (first : S) (after : S → E → S) (Line : S → E → List ℕ → Type 0) (Onward : S → E → Type 0) (read : S → List ℕ → Result (E × List ℕ) ℕ) where
  -- what must hold of the states for texts of at most `most` bytes
  pub record Readable (most : ℕ) : Type 0 where
    pub exact : (es : List E) (t : List ℕ) → length t ≤ most → LinesText first after Line Onward es t → Exact (Line (reached first after Line Onward es)) (read (reached first after Line Onward es))
    pub lines : (es : List E) (t : List ℕ) → length t ≤ most → LinesText first after Line Onward es t → (e : E) (u : List ℕ) → Line (reached first after Line Onward es) e u → IsLine u

  -- the place that the reading has reached, in the state s, before the line of this number
  pub record SoFar (text rest : List ℕ) (s : S) (line : ℕ) : Type 0 where
    pub lines : List E
    pub front : List ℕ
    pub lines_are : LinesText first after Line Onward lines front
    pub state_is : reached first after Line Onward lines ≡ s
    pub parts : text ≡ front ++ rest
    pub number : length lines + 1 ≡ line
    pub bound : line + length rest ≤ length text + 1

  pub so_far_exact : (text rest : List ℕ) (s : S) (line : ℕ) → Readable (length text) → SoFar text rest s line → Exact (Line s) (read s)
  so_far_exact text rest s line r f =
      subst (λ (s : S). Exact (Line s) (read s)) f.state_is (r.exact f.lines f.front (omega (arith, ap length f.parts, length-append f.front rest)) f.lines_are)

  so_far_lines : (text rest : List ℕ) (s : S) (line : ℕ) → Readable (length text) → SoFar text rest s line → (e : E) (u : List ℕ) → Line s e u → IsLine u
  so_far_lines text rest s line r f =
      subst (λ (s : S). (e : E) (u : List ℕ) → Line s e u → IsLine u) f.state_is (r.lines f.lines f.front (omega (arith, ap length f.parts, length-append f.front rest)) f.lines_are)

  pub so_far_shorter : (text rest new : List ℕ) (s : S) (line : ℕ) (e : E) → Readable (length text) → SoFar text rest s line → read s rest ≡ Ok (e, new) → length new < length rest
  so_far_shorter text rest new s line e r f h =
      let p = (so_far_exact text rest s line r f).ok rest e new h in
      let u = so_far_lines text rest s line r f e p.text p.spelled in
      omega (arith, ap length p.parts, length-append p.text new, ap length u.2, length-append u.0 (10 ∷ []))

  pub so_far_more : (text rest new : List ℕ) (s : S) (line : ℕ) (e : E) → Readable (length text) → SoFar text rest s line → read s rest ≡ Ok (e, new) → Onward s e → SoFar text new (after s e) (line + 1)
  so_far_more text rest new s line e r f h onward =
      let p = (so_far_exact text rest s line r f).ok rest e new h in
      let back = sym f.state_is in
      let less = so_far_shorter text rest new s line e r f h in
      record {
        lines = e ∷ f.lines;
        front = f.front ++ p.text;
        lines_are = (f.front, p.text, f.lines_are, subst (λ (s : S). Line s e p.text) back p.spelled, subst (λ (s : S). Onward s e) back onward, refl);
        state_is = ap (λ (s : S). after s e) f.state_is;
        parts = f.parts ∙ ap (λ (x : List ℕ). f.front ++ x) p.parts ∙ sym (append_assoc f.front p.text new);
        number = omega (arith, f.number);
        bound = omega (arith, f.bound);
      }

  pub so_far_bad : (text rest : List ℕ) (s : S) (line left : ℕ) → Readable (length text) → SoFar text rest s line → read s rest ≡ Err left → (left ≤ length rest) × IsBadLine first after Line Onward text line (length rest - left + 1)
  so_far_bad text rest s line left r f h =
      let x = (so_far_exact text rest s line r f).err rest left h in
      let back = sym f.state_is in (
        fault_left rest left x,
        record {
          lines = f.lines;
          front = f.front;
          rest = rest;
          lines_are = f.lines_are;
          parts = f.parts;
          number = f.number;
          none = subst (λ (s : S). (e : E) (t u : List ℕ) → Line s e t → rest ≡ t ++ u → ⊥) back (fault_no_line (Line s) (so_far_lines text rest s line r f) rest left x);
          longest = (length rest - left, refl, subst (λ (s : S). IsLongest (Line s) (first_line rest) (length rest - left)) back (longest_in_line (so_far_lines text rest s line r f) rest (length rest - left) (fault_longest rest left x)));
        },
      )

  pub so_far_faulty : (Faulty : S → E → Type 0) (text rest new : List ℕ) (s : S) (line : ℕ) (e : E) → Readable (length text) → SoFar text rest s line → read s rest ≡ Ok (e, new) → Faulty s e → IsFaultyLine first after Line Onward Faulty text line
  so_far_faulty Faulty text rest new s line e r f h bad =
      let p = (so_far_exact text rest s line r f).ok rest e new h in
      let back = sym f.state_is in
      record {
        lines = f.lines;
        front = f.front;
        faulty = p.text;
        rest = new;
        entry = e;
        lines_are = f.lines_are;
        faulty_is = subst (λ (s : S). Line s e p.text) back p.spelled;
        fault = subst (λ (s : S). Faulty s e) back bad;
        parts = f.parts ∙ ap (λ (x : List ℕ). f.front ++ x) p.parts;
        number = f.number;
      }
