-- A text is read line by line in only one way: where two readings of it can't go on, they are at the same place.
use Rattle.std.proofs.Common.{◌≡◌, ℕ, ◌≤◌, ◌<◌, List, [], ◌∷◌, ◌++◌, length, Result, refl, sym, ap, subst, ◌∙◌, append_assoc, arith, inl, inr}
use Rattle.std.proofs.lemmas.List.{append-nil, length-append}
use Rattle.std.proofs.lemmas.Bool.{cases_lt}
use Rattle.vp_text.specs.Meaning.{IsLongest}
use Rattle.vp_text.specs.Documents.{IsLine, first_line, reached, LinesText, IsBadLine, IsFaultyLine}
use Rattle.vp_text.proofs.Exact.{IsOne, one_value, cut}
use Rattle.vp_text.proofs.Lists.{no_prefix, Readable}

no_more : (t w : List ℕ) → IsLine t → IsLine (t ++ w) → w ≡ []
no_more t [] h k = refl
no_more t (x ∷ r) h k = absurd (no_prefix t x r h k)

-- a text begins with only one line
pub same_line : (t r u s : List ℕ) → IsLine t → IsLine u → t ++ r ≡ u ++ s → (t ≡ u) × (r ≡ s)
same_line t r u s h k e =
    elim (cut t r u s e) [
      | inl w ↦
          let none : w.0 ≡ [] = no_more t w.0 h (subst IsLine w.1 k) in
          (sym (w.1 ∙ ap (λ (x : List ℕ). t ++ x) none ∙ append-nil t), w.2 ∙ ap (λ (x : List ℕ). x ++ s) none)
      | inr w ↦ absurd (no_prefix u w.0 w.1 k (subst IsLine w.2 h))
    ]

pub longest_same : {E : Type 0} {L : E → List ℕ → Type 0} (bytes : List ℕ) (k m : ℕ) → IsLongest L bytes k → IsLongest L bytes m → k ≡ m
longest_same bytes k m h l = omega (arith, h.longest m l.within l.begins, l.longest k h.within h.begins)

module _ {S E : Type 0} (first : S) (after : S → E → S) (Line : S → E → List ℕ → Type 0) (Onward : S → E → Type 0) where
  abbrev Lines : List E → List ℕ → Type 0
  Lines = LinesText first after Line Onward

  abbrev said : List E → S
  said = reached first after Line Onward

  -- What must hold of the states for texts of at most `most` bytes: each text is the text of one entry, and is one line.
  pub record Plain (most : ℕ) : Type 0 where
    pub one : (es : List E) (t : List ℕ) → length t ≤ most → Lines es t → IsOne (Line (said es))
    pub lines : (es : List E) (t : List ℕ) → length t ≤ most → Lines es t → (e : E) (u : List ℕ) → Line (said es) e u → IsLine u

  -- it holds where a reader is exact
  pub plain : (read : S → List ℕ → Result (E × List ℕ) ℕ) (most : ℕ) → Readable first after Line Onward read most → Plain most
  plain read most r = record { one = λ es t le h. one_value (r.exact es t le h); lines = λ es t le h. r.lines es t le h }

  -- The text is some lines, and then a rest.
  pub record Divided (text : List ℕ) : Type 0 where
    pub lines : List E
    pub front : List ℕ
    pub rest : List ℕ
    pub lines_are : Lines lines front
    pub parts : text ≡ front ++ rest

  -- One more line comes after these lines, and a line may follow it.
  pub record OneMore (lines : List E) (rest : List ℕ) : Type 0 where
    pub entry : E
    pub line : List ℕ
    pub following : List ℕ
    pub line_is : Line (said lines) entry line
    pub onward : Onward (said lines) entry
    pub parts : rest ≡ line ++ following

  -- no such line comes after the lines
  abbrev pub IsLast : {text : List ℕ} → Divided text → Type 0
  IsLast d = OneMore d.lines d.rest → ⊥

  -- the same lines, and the same rest
  pub record Same (es fs : List E) (f g r s : List ℕ) : Type 0 where
    pub lines : es ≡ fs
    pub front : f ≡ g
    pub rest : r ≡ s

  regrouped : (text f r front line : List ℕ) → text ≡ f ++ r → f ≡ front ++ line → text ≡ front ++ (line ++ r)
  regrouped text f r front line a e = a ∙ ap (λ (x : List ℕ). x ++ r) e ∙ append_assoc front line r

  front_fits : (text f r : List ℕ) → text ≡ f ++ r → length f ≤ length text
  front_fits text f r a = omega (arith, ap length a, length-append f r)

  -- readings with as many lines have the same lines
  same_at : (text : List ℕ) → Plain (length text) → (es fs : List E) (f g r s : List ℕ) → Lines es f → Lines fs g → text ≡ f ++ r → text ≡ g ++ s → length es ≡ length fs → Same es fs f g r s
  same_at text p [] [] f g r s h k a b n = record { lines = refl; front = h ∙ sym k; rest = sym (a ∙ ap (λ (x : List ℕ). x ++ r) h) ∙ b ∙ ap (λ (x : List ℕ). x ++ s) k }
  same_at text p [] (d ∷ fs) f g r s h k a b n = absurd (omega (arith, n))
  same_at text p (e ∷ es) [] f g r s h k a b n = absurd (omega (arith, n))
  same_at text p (e ∷ es) (d ∷ fs) f g r s h k a b n =
      let a : text ≡ h.0 ++ (h.1 ++ r) = regrouped text f r h.0 h.1 a h.5 in
      let b : text ≡ k.0 ++ (k.1 ++ s) = regrouped text g s k.0 k.1 b k.5 in
      let m = same_at text p es fs h.0 k.0 (h.1 ++ r) (k.1 ++ s) h.2 k.2 a b (omega (arith, n)) in
      let fits = front_fits text h.0 (h.1 ++ r) a in
      let here : Line (said es) d k.1 = subst (λ (x : List E). Line (said x) d k.1) (sym m.lines) k.3 in
      let line = same_line h.1 r k.1 s (p.lines es h.0 fits h.2 e h.1 h.3) (p.lines es h.0 fits h.2 d k.1 here) m.rest in
      let entry : e ≡ d = p.one es h.0 fits h.2 e d h.1 h.3 (subst (Line (said es) d) (sym line.0) here) in
      record { lines = rw (entry, m.lines) refl; front = h.5 ∙ rw (m.front, line.0) (sym k.5); rest = line.1 }

  -- where another reading has more lines, one more line can follow here
  more_at : (text : List ℕ) → Plain (length text) → (es fs : List E) (f g r s : List ℕ) → Lines es f → Lines fs g → text ≡ f ++ r → text ≡ g ++ s → length es < length fs → OneMore es r
  more_at text p es [] f g r s h k a b lt = absurd (omega (arith, lt))
  more_at text p es (d ∷ fs) f g r s h k a b lt =
      let b : text ≡ k.0 ++ (k.1 ++ s) = regrouped text g s k.0 k.1 b k.5 in
      elim (cases_lt (length es) (length fs)) [
        | inl less ↦ more_at text p es fs f k.0 r (k.1 ++ s) h k.2 a b less
        | inr least ↦
            let m = same_at text p es fs f k.0 r (k.1 ++ s) h k.2 a b (omega (arith, lt, least)) in
            record {
              entry = d;
              line = k.1;
              following = s;
              line_is = subst (λ (x : List E). Line (said x) d k.1) (sym m.lines) k.3;
              onward = subst (λ (x : List E). Onward (said x) d) (sym m.lines) k.4;
              parts = m.rest;
            }
      ]

  -- where neither reading can go on, they are the same
  pub last_same : (text : List ℕ) → Plain (length text) → (c d : Divided text) → IsLast c → IsLast d → Same c.lines d.lines c.front d.front c.rest d.rest
  last_same text p c d h k =
      elim (cases_lt (length c.lines) (length d.lines)) [
        | inl less ↦ absurd (h (more_at text p c.lines d.lines c.front d.front c.rest d.rest c.lines_are d.lines_are c.parts d.parts less))
        | inr least ↦
            elim (cases_lt (length d.lines) (length c.lines)) [
              | inl less ↦ absurd (k (more_at text p d.lines c.lines d.front c.front d.rest c.rest d.lines_are c.lines_are d.parts c.parts less))
              | inr most ↦ same_at text p c.lines d.lines c.front d.front c.rest d.rest c.lines_are d.lines_are c.parts d.parts (omega (arith, least, most))
            ]
      ]

  -- ---- readings that can't go on: nothing is left

  pub ended_last : (text : List ℕ) → Plain (length text) → (d : Divided text) → d.rest ≡ [] → IsLast d
  ended_last text p d none more =
      let line = p.lines d.lines d.front (front_fits text d.front d.rest d.parts) d.lines_are more.entry more.line more.line_is in
      omega (arith, ap length none, ap length more.parts, length-append more.line more.following, ap length line.2, length-append line.0 (10 ∷ []))

  abbrev pub whole_divided : (es : List E) (text : List ℕ) → Lines es text → Divided text
  whole_divided es text h = record { lines = es; front = text; rest = []; lines_are = h; parts = sym (append-nil text) }

  -- a text is the text of only one list of lines
  pub whole_same : (text : List ℕ) → Plain (length text) → (es fs : List E) → Lines es text → Lines fs text → es ≡ fs
  whole_same text p es fs h k =
      let c = whole_divided es text h in
      let d = whole_divided fs text k in
      (last_same text p c d (ended_last text p c refl) (ended_last text p d refl)).lines

  -- ---- no line is allowed

  abbrev pub bad_divided : (text : List ℕ) (line at : ℕ) → IsBadLine first after Line Onward text line at → Divided text
  bad_divided text line at b = record { lines = b.lines; front = b.front; rest = b.rest; lines_are = b.lines_are; parts = b.parts }

  pub bad_last : (text : List ℕ) (line at : ℕ) (b : IsBadLine first after Line Onward text line at) → IsLast (bad_divided text line at b)
  bad_last text line at b more = b.none more.entry more.line more.following more.line_is more.parts

  pub bad_same : (text : List ℕ) → Plain (length text) → (l m i k : ℕ) → IsBadLine first after Line Onward text l i → IsBadLine first after Line Onward text m k → (l ≡ m) × (i ≡ k)
  bad_same text p l m i k b c =
      let same = last_same text p (bad_divided text l i b) (bad_divided text m k c) (bad_last text l i b) (bad_last text m k c) in
      let there : IsLongest (Line (said c.lines)) (first_line c.rest) b.longest.0 =
      subst (λ (x : List E). IsLongest (Line (said x)) (first_line c.rest) b.longest.0) same.lines (subst (λ (x : List ℕ). IsLongest (Line (said b.lines)) (first_line x) b.longest.0) same.rest b.longest.2) in
      let longest = longest_same (first_line c.rest) b.longest.0 c.longest.0 there c.longest.2 in
      (omega (arith, b.number, c.number, ap length same.lines), omega (arith, b.longest.1, c.longest.1, longest))

  -- ---- a faulty line, after which no line may follow

  abbrev pub Stops : (S → E → Type 0) → Type 0
  Stops Faulty = (s : S) (e : E) → Faulty s e → Onward s e → ⊥

  abbrev pub faulty_divided : (Faulty : S → E → Type 0) (text : List ℕ) (line : ℕ) → IsFaultyLine first after Line Onward Faulty text line → Divided text
  faulty_divided Faulty text line f = record { lines = f.lines; front = f.front; rest = f.faulty ++ f.rest; lines_are = f.lines_are; parts = f.parts }

  pub faulty_last : (Faulty : S → E → Type 0) → Stops Faulty → (text : List ℕ) → Plain (length text) → (line : ℕ) (f : IsFaultyLine first after Line Onward Faulty text line) → IsLast (faulty_divided Faulty text line f)
  faulty_last Faulty stops text p line f more =
      let fits = front_fits text f.front (f.faulty ++ f.rest) f.parts in
      let one = same_line f.faulty f.rest more.line more.following (p.lines f.lines f.front fits f.lines_are f.entry f.faulty f.faulty_is) (p.lines f.lines f.front fits f.lines_are more.entry more.line more.line_is) more.parts in
      let entry : more.entry ≡ f.entry = p.one f.lines f.front fits f.lines_are more.entry f.entry more.line more.line_is (subst (Line (said f.lines) f.entry) one.0 f.faulty_is) in
      stops (said f.lines) f.entry f.fault (subst (Onward (said f.lines)) entry more.onward)

  -- the same line after the same lines, and the same rest
  pub record SameFault (es fs : List E) (e d : E) (r s : List ℕ) : Type 0 where
    pub lines : es ≡ fs
    pub entry : e ≡ d
    pub rest : r ≡ s

  pub faulty_same : (F G : S → E → Type 0) → Stops F → Stops G → (text : List ℕ) → Plain (length text) → (l m : ℕ) (f : IsFaultyLine first after Line Onward F text l) (g : IsFaultyLine first after Line Onward G text m) → SameFault f.lines g.lines f.entry g.entry f.rest g.rest
  faulty_same F G f_stops g_stops text p l m f g =
      let same = last_same text p (faulty_divided F text l f) (faulty_divided G text m g) (faulty_last F f_stops text p l f) (faulty_last G g_stops text p m g) in
      let fits = front_fits text g.front (g.faulty ++ g.rest) g.parts in
      let here : Line (said g.lines) f.entry f.faulty = subst (λ (x : List E). Line (said x) f.entry f.faulty) same.lines f.faulty_is in
      let one = same_line f.faulty f.rest g.faulty g.rest (p.lines g.lines g.front fits g.lines_are f.entry f.faulty here) (p.lines g.lines g.front fits g.lines_are g.entry g.faulty g.faulty_is) same.rest in
      record {
        lines = same.lines;
        entry = p.one g.lines g.front fits g.lines_are f.entry g.entry g.faulty (subst (Line (said g.lines) f.entry) one.0 here) g.faulty_is;
        rest = one.1;
      }

  -- ---- one kind of ending excludes the other

  pub bad_not_faulty : (Faulty : S → E → Type 0) → Stops Faulty → (text : List ℕ) → Plain (length text) → (l m i : ℕ) → IsBadLine first after Line Onward text l i → IsFaultyLine first after Line Onward Faulty text m → ⊥
  bad_not_faulty Faulty stops text p l m i b f =
      let same = last_same text p (bad_divided text l i b) (faulty_divided Faulty text m f) (bad_last text l i b) (faulty_last Faulty stops text p m f) in
      b.none f.entry f.faulty f.rest (subst (λ (x : List E). Line (said x) f.entry f.faulty) (sym same.lines) f.faulty_is) same.rest

  -- where the text is some lines, a line that isn't allowed could only come after all of them
  pub bad_after_all : (text : List ℕ) → Plain (length text) → (es : List E) → Lines es text → (l i : ℕ) (b : IsBadLine first after Line Onward text l i) → Same b.lines es b.front text b.rest []
  bad_after_all text p es h l i b =
      let d = whole_divided es text h in
      last_same text p (bad_divided text l i b) d (bad_last text l i b) (ended_last text p d refl)

  pub whole_not_faulty : (Faulty : S → E → Type 0) → Stops Faulty → (text : List ℕ) → Plain (length text) → (es : List E) → Lines es text → (m : ℕ) → IsFaultyLine first after Line Onward Faulty text m → ⊥
  whole_not_faulty Faulty stops text p es h m f =
      let d = whole_divided es text h in
      let same = last_same text p (faulty_divided Faulty text m f) d (faulty_last Faulty stops text p m f) (ended_last text p d refl) in
      let line = p.lines f.lines f.front (front_fits text f.front (f.faulty ++ f.rest) f.parts) f.lines_are f.entry f.faulty f.faulty_is in
      omega (arith, ap length same.rest, length-append f.faulty f.rest, ap length line.2, length-append line.0 (10 ∷ []))
