-- Any number of items is read exactly, where each item begins otherwise than the ending.
use Rattle.std.proofs.Common.{◌≡◌, ℕ, zero, suc, ◌<◌, Bool, true, false, List, [], ◌∷◌, ◌++◌, length, Option, Some, None, Result, Ok, Err, refl, sym, ap, subst, ◌∙◌, append_assoc, arith, inl, inr, cond}
use Rattle.std.proofs.lemmas.List.{append-nil, length-append}
use Rattle.std.proofs.lemmas.Bool.{false≢true}
use Rattle.vp_text.specs.Meaning.{Begins}
use Rattle.vp_text.specs.Tokens.{IsLiteral, Either, HasItems}
use Rattle.vp_text.specs.Reading.{◌>>=◌, literal_at, either, next_at, items_after, items_at}
use Rattle.vp_text.proofs.Exact.{Apart, IsRight, Exact, right, exact_from, exact_as, Then, Made, made_exact, Follows, then_right, one_value, ok_value, bind_ok, bind_err, done}
use Rattle.vp_text.proofs.Words.{literal_exact}
use Rattle.vp_text.proofs.Fields.{Outside, parts_outside}
use Rattle.vp_text.proofs.Choices.{IsClear, either_exact, Opens, differ, clear_keys, made_opens, GoesOn}

-- the same result for a language in other words
pub right_as : {A : Type 0} {L K : A → List ℕ → Type 0} {bytes : List ℕ} {r : Result (A × List ℕ) ℕ} → ((a : A) (t : List ℕ) → L a t → K a t) → ((a : A) (t : List ℕ) → K a t → L a t) → IsRight L bytes r → IsRight K bytes r
right_as to from e = record {
  ok = λ a rest h. let p = e.ok a rest h in record { text = p.text; spelled = to a p.text p.spelled; parts = p.parts; ends = λ b r k. p.ends b r (from b (p.text ++ r) k) };
  err = λ left h. let p = e.err left h in record {
    front = p.front;
    rest = p.rest;
    parts = p.parts;
    left_is = p.left_is;
    begins = record { value = p.begins.value; more = p.begins.more; spelled = to p.begins.value (p.front ++ p.begins.more) p.begins.spelled };
    diverges = λ b r k. p.diverges b r (from b (p.front ++ r) k);
  };
  again = λ a text rest at k ends. e.again a text rest at (from a text k) (λ b r l. ends b r (to b (text ++ r) l));
}

pub made_right : {A B : Type 0} {L : A → List ℕ → Type 0} {bytes : List ℕ} {r : Result (A × List ℕ) ℕ} (make : A → B) → IsRight L bytes r → IsRight (Made L make) bytes (r >>= λ x. Ok (make x.0, x.1))
made_right {L = L} {r = r} make e = record {
  ok = λ b rest h.
      let w = bind_ok r (λ x. Ok (make x.0, x.1)) (b, rest) h in
      let made : (make w.0.0, w.0.1) ≡ (b, rest) = ok_value (make w.0.0, w.0.1) (b, rest) w.2 in
      let p = e.ok w.0.0 w.0.1 w.1 in
      let last = ap (λ (x : _ × List ℕ). x.1) made in
      record {
        text = p.text;
        spelled = record { from = w.0.0; spelled = p.spelled; is = sym (ap (λ (x : _ × List ℕ). x.0) made) };
        parts = p.parts ∙ ap (λ (t : List ℕ). p.text ++ t) last;
        ends = λ c r m. subst (λ (t : List ℕ). Apart r t) last (p.ends m.from r m.spelled);
      };
  err = λ left h.
      elim (bind_err r (λ x. Ok (make x.0, x.1)) left h) [
        | inl w ↦ let p = e.err left w in
            record {
              front = p.front;
              rest = p.rest;
              parts = p.parts;
              left_is = p.left_is;
              begins = record { value = make p.begins.value; more = p.begins.more; spelled = record { from = p.begins.value; spelled = p.begins.spelled; is = refl } };
              diverges = λ b r m. p.diverges m.from r m.spelled;
            }
        | inr w ↦ absurd (let no : done (make w.0.0, w.0.1) ≡ Err left = w.2 in cc)
      ];
  again = λ b text rest at m ends.
      let one : r ≡ Ok (m.from, rest) = e.again m.from text rest at m.spelled (λ c r l. ends (make c) r (record { from = c; spelled = l; is = refl })) in
      rw (one, m.is) refl;
}

module _ {S X : Type 0} (may : S → Bool) (next : S → X → S) (L : S → X → List ℕ → Type 0) (item : S → List ℕ → Result (X × List ℕ) ℕ) (key ending : List ℕ) (has : ℕ → Bool) where
  -- what must hold of the items
  pub record Repeats : Type 0 where
    pub exact : (s : S) → may s ≡ true → Exact (L s) (item s)
    pub opens : (s : S) → Opens key (L s)
    pub goes : (s : S) → GoesOn has (L s)
    pub apart : differ key ending ≡ true
    pub back : differ ending key ≡ true
    pub key_some : 0 < length key
    pub key_outside : Outside has key
    pub ending_outside : Outside has ending

  abbrev Ending : Option X → List ℕ → Type 0
  Ending = Made (IsLiteral ending) (λ u. None)

  abbrev Item : S → Option X → List ℕ → Type 0
  Item s = Made (L s) (λ x. Some x)

  -- what may come next
  abbrev pub Next : S → Option X → List ℕ → Type 0
  Next s None text = text ≡ ending
  Next s (Some x) text = (may s ≡ true) × L s x text

  -- and after it
  After : S → Option X → List X → List ℕ → Type 0
  After s None xs text = (xs ≡ []) × (text ≡ [])
  After s (Some x) xs text = Made (HasItems may next L ending (next s x)) (λ xs. x ∷ xs) xs text

  ending_exact : Exact Ending (λ bytes. literal_at ending bytes >>= λ u. Ok (None, u.1))
  ending_exact = made_exact (λ u. None) (literal_exact ending)

  outside_on : (p q : List ℕ) → Outside has p → Outside has (p ++ q)
  outside_on [] q h = absurd h
  outside_on (c ∷ p) q h = h

  items_outside : Repeats → (s : S) (xs : List X) (t : List ℕ) → HasItems may next L ending s xs t → Outside has t
  items_outside w s [] t h = subst (Outside has) (sym h) w.ending_outside
  items_outside w s (x ∷ xs) t h =
      let o = w.opens s x h.0 h.3 in
      subst (Outside has) (sym (h.5 ∙ ap (λ (z : List ℕ). z ++ h.1) o.1)) (outside_on (key ++ o.0) h.1 (outside_on key o.0 w.key_outside))

  item_opens : Repeats → (s : S) → Opens key (Item s)
  item_opens w s = λ o t h. w.opens s h.from t h.spelled

  clear_end : Repeats → (s : S) → IsClear Ending (Item s)
  clear_end w s = clear_keys ending key w.back (made_opens ending) (item_opens w s)

  clear_item : Repeats → (s : S) → IsClear (Item s) Ending
  clear_item w s = clear_keys key ending w.apart (item_opens w s) (made_opens ending)

  next_to : (s : S) → may s ≡ true → (o : Option X) (t : List ℕ) → Either Ending (Item s) o t → Next s o t
  next_to s on o t h =
      elim h [
        | inl e ↦ subst (λ (o : Option X). Next s o t) (sym e.is) e.spelled
        | inr i ↦ subst (λ (o : Option X). Next s o t) (sym i.is) (on, i.spelled)
      ]

  next_from : (s : S) (o : Option X) (t : List ℕ) → Next s o t → Either Ending (Item s) o t
  next_from s None t h = inl (record { from = tt; spelled = h; is = refl })
  next_from s (Some x) t h = inr (record { from = x; spelled = h.1; is = refl })

  end_to : (s : S) (o : Option X) (t : List ℕ) → Ending o t → Next s o t
  end_to s o t e = subst (λ (o : Option X). Next s o t) (sym e.is) e.spelled

  end_from : (s : S) → may s ≡ false → (o : Option X) (t : List ℕ) → Next s o t → Ending o t
  end_from s off None t h = record { from = tt; spelled = h; is = refl }
  end_from s off (Some x) t h = absurd (false≢true (sym off ∙ h.0))

  pub next_exact : Repeats → (s : S) → Exact (Next s) (next_at (may s) (item s) ending)
  unfolding next_at
  next_exact w s =
      let f : (b : Bool) → may s ≡ b → Exact (Next s) (λ bytes. cond b (either (literal_at ending bytes >>= λ u. Ok (None, u.1)) (item s bytes >>= λ x. Ok (Some x.0, x.1))) (literal_at ending bytes >>= λ u. Ok (None, u.1))) = λ b. elim b as (λ b. may s ≡ b → Exact (Next s) (λ bytes. cond b (either (literal_at ending bytes >>= λ u. Ok (None, u.1)) (item s bytes >>= λ x. Ok (Some x.0, x.1))) (literal_at ending bytes >>= λ u. Ok (None, u.1)))) [
        | true ↦ λ on. exact_as (next_to s on) (next_from s) (either_exact (clear_end w s) (clear_item w s) ending_exact (made_exact (λ x. Some x) (w.exact s on)))
        | false ↦ λ off. exact_as (end_to s) (end_from s off) ending_exact
      ] in
      f (may s) refl

  -- the ending is final, and an item goes on only with bytes that begin neither another item nor the ending
  follows : Repeats → (s : S) → Follows (Next s) (After s)
  unfolding After
  follows w s None None text x r xs t before longer after = absurd (omega (arith, ap length before, ap length longer, length-append text (x ∷ r)))
  follows w s None (Some y) text x r xs t before longer after =
      absurd (clear_end w s None (Some y) text (x ∷ r) (record { from = tt; spelled = before; is = refl }) (record { from = y; spelled = longer.1; is = refl }))
  follows w s (Some y) None text x r xs t before longer after =
      absurd (clear_item w s (Some y) None text (x ∷ r) (record { from = y; spelled = before.1; is = refl }) (record { from = tt; spelled = longer; is = refl }))
  follows w s (Some y) (Some z) text x r xs t before longer after =
      parts_outside has t x r (items_outside w (next s y) after.from t after.spelled) (w.goes s y z text x r before.1 longer.1)

  after_has : (s : S) (o : Option X) → Begins (After s o) []
  unfolding After
  after_has s None = record { value = []; more = []; spelled = (refl, refl) }
  after_has s (Some x) = record { value = x ∷ []; more = ending; spelled = record { from = []; spelled = refl; is = refl } }

  to_items_at : (s : S) (xs : List X) (t : List ℕ) (o : Option X) (front back : List ℕ) → Next s o front → After s o xs back → t ≡ front ++ back → HasItems may next L ending s xs t
  unfolding After
  to_items_at s xs t None front back n a e = subst (λ (xs : List X). HasItems may next L ending s xs t) (sym a.0) (e ∙ ap (λ (z : List ℕ). front ++ z) a.1 ∙ append-nil front ∙ n)
  to_items_at s xs t (Some x) front back n a e = subst (λ (xs : List X). HasItems may next L ending s xs t) (sym a.is) (front, back, n.0, n.1, a.spelled, e)

  to_items : (s : S) (xs : List X) (t : List ℕ) → Then (Next s) (After s) xs t → HasItems may next L ending s xs t
  unfolding After
  to_items s xs t h = to_items_at s xs t h.first h.front h.back h.before h.after h.parts

  from_items : (s : S) (xs : List X) (t : List ℕ) → HasItems may next L ending s xs t → Then (Next s) (After s) xs t
  unfolding After
  from_items s [] t h = record { first = None; front = ending; back = []; before = refl; after = (refl, refl); parts = h ∙ sym (append-nil ending) }
  from_items s (x ∷ xs) t h = record { first = Some x; front = h.0; back = h.1; before = (h.2, h.3); after = record { from = xs; spelled = h.4; is = refl }; parts = h.5 }

  done_right : (bytes : List ℕ) → IsRight (λ (xs : List X) (t : List ℕ). (xs ≡ []) × (t ≡ [])) bytes (Ok ([], bytes))
  done_right bytes = record {
    ok = λ xs rest h.
        let same : ([], bytes) ≡ (xs, rest) = ok_value ([], bytes) (xs, rest) h in
        record { text = []; spelled = (sym (ap (λ (p : List X × List ℕ). p.0) same), refl); parts = ap (λ (p : List X × List ℕ). p.1) same; ends = λ ys r k. subst (λ (z : List ℕ). Apart z rest) (sym k.1) tt };
    err = λ left h. absurd (let no : done ([], bytes) ≡ Err left = h in cc);
    again = λ xs text rest at k ends. rw (k.0, at, k.1) refl;
  }

  reads : Repeats → (fuel : ℕ) (s : S) (bytes : List ℕ) → length bytes < fuel → IsRight (HasItems may next L ending s) bytes (items_at may next item ending fuel s bytes)
  unfolding items_at After
  reads w zero s bytes lt = absurd (omega arith)
  reads w (suc fuel) s bytes lt =
      let e = next_exact w s in
      let rest : (o : Option X) (mid : List ℕ) → next_at (may s) (item s) ending bytes ≡ Ok (o, mid) → IsRight (After s o) mid (items_after next (items_at may next item ending fuel) s o mid) = λ o. elim o as (λ o. (mid : List ℕ) → next_at (may s) (item s) ending bytes ≡ Ok (o, mid) → IsRight (After s o) mid (items_after next (items_at may next item ending fuel) s o mid)) [
        | None ↦ λ mid h. done_right mid
        | Some x ↦ λ mid h.
            let p = e.ok bytes (Some x) mid h in
            let o = w.opens s x p.text p.spelled.1 in
            made_right (λ xs. x ∷ xs) (reads w fuel (next s x) mid (omega (arith, ap length p.parts, length-append p.text mid, ap length o.1, length-append key o.0, w.key_some)))
      ] in
      right_as (to_items s) (from_items s) (then_right (one_value e) (follows w s) (after_has s) (right e bytes) rest)

  pub items_exact : Repeats → (s : S) → Exact (HasItems may next L ending s) (λ bytes. items_at may next item ending (suc (length bytes)) s bytes)
  items_exact w s = exact_from (λ bytes. reads w (suc (length bytes)) s bytes (omega arith))

-- ---- a loop over the items

-- the items that were read before, and those that are read from here on
abbrev pub with_front : {X : Type 0} → List X → Result (List X × List ℕ) ℕ → Result (List X × List ℕ) ℕ
with_front front read = read >>= λ x. Ok (front ++ x.0, x.1)

pub regroup : {X : Type 0} (front : List X) (x : X) (read : Result (List X × List ℕ) ℕ) → with_front front (read >>= λ xs. Ok (x ∷ xs.0, xs.1)) ≡ with_front (front ++ x ∷ []) read
regroup {X = X} front x (Ok y) = ap (λ (xs : List X). Ok (xs, y.1)) (sym (append_assoc front (x ∷ []) y.0))
regroup front x (Err n) = refl

start_with : {X : Type 0} (read : Result (List X × List ℕ) ℕ) → with_front [] read ≡ read
start_with (Ok y) = refl
start_with (Err n) = refl

module _ {S X : Type 0} (may : S → Bool) (next : S → X → S) (item : S → List ℕ → Result (X × List ℕ) ℕ) (ending : List ℕ) where
  pub items_start : (n : ℕ) (s : S) (bytes : List ℕ) → with_front [] (items_at may next item ending n s bytes) ≡ items_at may next item ending n s bytes
  items_start n s bytes = start_with (items_at may next item ending n s bytes)

  pub items_go : (front : List X) (n : ℕ) (s : S) (bytes : List ℕ) (x : X) (rest : List ℕ) (total : Result (List X × List ℕ) ℕ) → next_at (may s) (item s) ending bytes ≡ Ok (Some x, rest)
      → with_front front (items_at may next item ending (suc n) s bytes) ≡ total → with_front (front ++ x ∷ []) (items_at may next item ending n (next s x) rest) ≡ total
  unfolding items_at
  items_go front n s bytes x rest total h so_far =
      let one : with_front front (items_at may next item ending (suc n) s bytes) ≡ with_front (front ++ x ∷ []) (items_at may next item ending n (next s x) rest) = rw h (regroup front x (items_at may next item ending n (next s x) rest)) in
      sym one ∙ so_far

  pub items_end : (front : List X) (n : ℕ) (s : S) (bytes : List ℕ) (rest : List ℕ) (total : Result (List X × List ℕ) ℕ) → next_at (may s) (item s) ending bytes ≡ Ok (None, rest)
      → with_front front (items_at may next item ending (suc n) s bytes) ≡ total → total ≡ Ok (front, rest)
  unfolding items_at
  items_end front n s bytes rest total h so_far =
      let one : with_front front (items_at may next item ending (suc n) s bytes) ≡ Ok (front, rest) = rw h (ap (λ (xs : List X). Ok (xs, rest)) (append-nil front)) in
      sym so_far ∙ one

  pub items_fail : (front : List X) (n : ℕ) (s : S) (bytes : List ℕ) (left : ℕ) (total : Result (List X × List ℕ) ℕ) → next_at (may s) (item s) ending bytes ≡ Err left
      → with_front front (items_at may next item ending (suc n) s bytes) ≡ total → total ≡ Err left
  unfolding items_at
  items_fail front n s bytes left total h so_far =
      let one : with_front front (items_at may next item ending (suc n) s bytes) ≡ Err left = rw h refl in
      sym so_far ∙ one
