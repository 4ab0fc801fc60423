-- A stable sort by view gives the order of the journal: a list whose views never fall is determined by its entries in each view.
use Rattle.std.proofs.Common.{◌≡◌, ◌<◌, ◌+◌, ℕ, suc, ◌∙◌, ap, sym, Bool, true, false, cond, List, [], ◌∷◌, ◌++◌, length, refl, arith, get_or, Ordering}
use Rattle.std.specs.Prelude.{⊤, ◌==◌, ◌&&◌, ◌||◌, not, nat_lt, fold, filter, flat_map}
use Rattle.std.specs.Ordering.{is_lt, nat_cmp, ordering_then}
use Rattle.std.specs.declared.cmp.Ordering.TheVariants.{Less, Equal, Greater}
use Rattle.std.specs.List.Sorted.{IsSortedByKey, IsStableByKey, ties}
use Rattle.std.proofs.lemmas.Bool.Decides.{nat_tests}
use Rattle.std.proofs.lemmas.Bool.{cond-true, cond-false, or_parts}
use Rattle.std.proofs.lemmas.List.{append-nil}
use Rattle.vp_model.specs.Types.{ViewId, Commit}
use Rattle.vp_model.specs.Words.{same_view, view_before, put_view}
use Rattle.vp_model.specs.OneCopy.{views_of, in_view, order}

-- ---- the order of views

one_way : (a b : ViewId) → view_before a b ≡ true → view_before b a ≡ false
one_way a b e = grind (arith, nat_tests)

pub not_itself : (a : ViewId) → view_before a a ≡ false
not_itself a = grind (arith, nat_tests)

pub chain : (a b c : ViewId) → view_before a b ≡ false → view_before b c ≡ false → view_before a c ≡ false
chain a b c p q = grind (arith, nat_tests)

further : (a b c : ViewId) → view_before a b ≡ true → view_before b c ≡ true → view_before a c ≡ true
further a b c p q = grind (arith, nat_tests)

otherwise_before : (a b : ViewId) → same_view a b ≡ false → view_before a b ≡ false → view_before b a ≡ true
otherwise_before a b p q = grind (arith, nat_tests)

differs : (a b : ViewId) → view_before a b ≡ true → same_view b a ≡ false
differs a b e = grind (arith, nat_tests)

same_is : (a b : ViewId) → same_view a b ≡ true → a ≡ b
same_is a b e = grind (arith, nat_tests)

same_itself : (a : ViewId) → same_view a a ≡ true
same_itself a = grind (arith, nat_tests)

same_back : (a b : ViewId) → same_view a b ≡ true → same_view b a ≡ true
same_back a b e = grind (arith, nat_tests)

tie_is : (a b : ViewId) → (not (view_before a b) && not (view_before b a)) ≡ same_view b a
tie_is a b = grind (arith, nat_tests)

-- ---- transactions whose views never fall

-- no view is before this one
abbrev NoneBefore : ViewId → List Commit → Type 0
NoneBefore v [] = ⊤
NoneBefore v (c ∷ cs) = (view_before c.view v ≡ false) × NoneBefore v cs

abbrev Rises : List Commit → Type 0
Rises [] = ⊤
Rises (c ∷ cs) = NoneBefore c.view cs × Rises cs

none_here : (v w : ViewId) (cs : List Commit) → view_before v w ≡ true → NoneBefore w cs → in_view cs v ≡ []
none_here v w [] e h = refl
none_here v w (c ∷ cs) e h = cond-false (same_view c.view v) (c ∷ in_view cs v) (in_view cs v) (later c.view h.0) ∙ none_here v w cs e h.1
  where
    later : (x : ViewId) → view_before x w ≡ false → same_view x v ≡ false
    later x p = grind (arith, nat_tests)

first_is : (c : Commit) (cs : List Commit) (v : ViewId) → same_view c.view v ≡ true → in_view (c ∷ cs) v ≡ c ∷ in_view cs v
first_is c cs v e = cond-true (same_view c.view v) (c ∷ in_view cs v) (in_view cs v) e

cut : (b : Bool) (c : Commit) (xs ys : List Commit) → cond b (c ∷ xs) xs ≡ cond b (c ∷ ys) ys → xs ≡ ys
cut true c xs ys e = cc
cut false c xs ys e = e

none_first : (c : Commit) (cs : List Commit) → [] ≡ c ∷ cs → ⊥
none_first c cs e = cc

unique : (xs ys : List Commit) → Rises xs → Rises ys → ((v : ViewId) → in_view xs v ≡ in_view ys v) → xs ≡ ys
unique [] [] r s h = refl
unique [] (y ∷ ys) r s h = absurd (none_first y (in_view ys y.view) (h y.view ∙ first_is y ys y.view (same_itself y.view)))
unique (x ∷ xs) [] r s h = absurd (none_first x (in_view xs x.view) (sym (h x.view) ∙ first_is x xs x.view (same_itself x.view)))
unique (x ∷ xs) (y ∷ ys) r s h = go (same_view x.view y.view) (view_before x.view y.view) refl refl (unique xs ys r.1 s.1)
  where
    here : (same_view x.view y.view ≡ true) → x ∷ in_view xs x.view ≡ y ∷ in_view ys x.view
    here e = sym (first_is x xs x.view (same_itself x.view)) ∙ h x.view ∙ first_is y ys x.view (same_back x.view y.view e)

    tails : x ≡ y → (v : ViewId) → in_view xs v ≡ in_view ys v
    tails e v = let k : in_view (x ∷ xs) v ≡ in_view (y ∷ ys) v = h v in let l : in_view (x ∷ xs) v ≡ in_view (x ∷ ys) v = (rw (← e) at k) in cut (same_view x.view v) x (in_view xs v) (in_view ys v) l

    go : (a b : Bool) → same_view x.view y.view ≡ a → view_before x.view y.view ≡ b → (((v : ViewId) → in_view xs v ≡ in_view ys v) → xs ≡ ys) → x ∷ xs ≡ y ∷ ys
    go true b p q rest = let k = here p in let e : x ≡ y = cc in let t : xs ≡ ys = rest (tails e) in cc
    go false true p q rest =
        absurd (none_first x (in_view xs x.view) (sym (none_here x.view y.view (y ∷ ys) q (not_itself y.view, s.0)) ∙ sym (h x.view) ∙ first_is x xs x.view (same_itself x.view)))
    go false false p q rest =
        let back = otherwise_before x.view y.view p q in
        absurd (none_first y (in_view ys y.view) (sym (none_here y.view x.view (x ∷ xs) back (not_itself x.view, r.0)) ∙ h y.view ∙ first_is y ys y.view (same_itself y.view)))

-- ---- the views of a journal

abbrev Above : ViewId → List ViewId → Type 0
Above v [] = ⊤
Above v (w ∷ ws) = (view_before v w ≡ true) × Above v ws

abbrev Ascends : List ViewId → Type 0
Ascends [] = ⊤
Ascends (v ∷ vs) = Above v vs × Ascends vs

above_further : (u v : ViewId) (ws : List ViewId) → view_before u v ≡ true → Above v ws → Above u ws
above_further u v [] e h = tt
above_further u v (w ∷ ws) e h = (further u v w e h.0, above_further u v ws e h.1)

put_above : (u v : ViewId) (ws : List ViewId) → view_before u v ≡ true → Above u ws → Above u (put_view v ws)
put_above u v [] e h = (e, tt)
put_above u v (w ∷ ws) e h = go (same_view v w) (view_before v w) (put_above u v ws e h.1)
  where
    go : (a b : Bool) → Above u (put_view v ws) → Above u (cond a (v ∷ ws) (cond b (v ∷ w ∷ ws) (w ∷ put_view v ws)))
    go true b i = (e, h.1)
    go false true i = (e, h)
    go false false i = (h.0, i)

put_ascends : (v : ViewId) (ws : List ViewId) → Ascends ws → Ascends (put_view v ws)
put_ascends v [] h = (tt, tt)
put_ascends v (w ∷ ws) h = go (same_view v w) (view_before v w) refl refl (put_ascends v ws h.1)
  where
    go : (a b : Bool) → same_view v w ≡ a → view_before v w ≡ b → Ascends (put_view v ws) → Ascends (cond a (v ∷ ws) (cond b (v ∷ w ∷ ws) (w ∷ put_view v ws)))
    go true b p q i = (rw (same_is v w p) h.0, h.1)
    go false true p q i = ((q, above_further v w ws q h.0), h)
    go false false p q i = (put_above w v ws (otherwise_before v w p q) h.0, i)

-- the view is in the list
abbrev occurs : ViewId → List ViewId → Bool
occurs v [] = false
occurs v (w ∷ ws) = same_view w v || occurs v ws

twice : (a b : Bool) → (a || b) ≡ (a || (a || b))
twice true b = refl
twice false b = refl

swap_or : (a b c : Bool) → (a || (b || c)) ≡ (b || (a || c))
swap_or true true c = refl
swap_or true false c = refl
swap_or false b c = refl

put_occurs : (u v : ViewId) (ws : List ViewId) → occurs u (put_view v ws) ≡ (same_view v u || occurs u ws)
put_occurs u v [] = refl
put_occurs u v (w ∷ ws) = go (same_view v w) (view_before v w) refl (put_occurs u v ws)
  where
    go : (a b : Bool) → same_view v w ≡ a → occurs u (put_view v ws) ≡ (same_view v u || occurs u ws)
        → occurs u (cond a (v ∷ ws) (cond b (v ∷ w ∷ ws) (w ∷ put_view v ws))) ≡ (same_view v u || (same_view w u || occurs u ws))
    go true b p i = rw (same_is v w p) (twice (same_view w u) (occurs u ws))
    go false true p i = refl
    go false false p i = ap (λ x. same_view w u || x) i ∙ swap_or (same_view w u) (same_view v u) (occurs u ws)

ascends_from : (journal : List Commit) (vs : List ViewId) → Ascends vs → Ascends (fold (λ (b : List ViewId) (c : Commit). put_view c.view b) vs journal)
ascends_from [] vs h = h
ascends_from (c ∷ cs) vs h = ascends_from cs (put_view c.view vs) (put_ascends c.view vs h)

absent_from : (journal : List Commit) (vs : List ViewId) (v : ViewId) → occurs v (fold (λ (b : List ViewId) (c : Commit). put_view c.view b) vs journal) ≡ false
    → (occurs v vs ≡ false) × (in_view journal v ≡ [])
absent_from [] vs v e = (e, refl)
absent_from (c ∷ cs) vs v e =
    let rest = absent_from cs (put_view c.view vs) v e in
    let both = or_parts (same_view c.view v) (occurs v vs) (sym (put_occurs v c.view vs) ∙ rest.0) in
    (both.1, cond-false (same_view c.view v) (c ∷ in_view cs v) (in_view cs v) both.0 ∙ rest.1)

-- ---- the order of a journal

in_view-append : (xs ys : List Commit) (v : ViewId) → in_view (xs ++ ys) v ≡ in_view xs v ++ in_view ys v
in_view-append [] ys v = refl
in_view-append (x ∷ xs) ys v = go (same_view x.view v) (in_view-append xs ys v)
  where
    go : (b : Bool) → in_view (xs ++ ys) v ≡ in_view xs v ++ in_view ys v → cond b (x ∷ in_view (xs ++ ys) v) (in_view (xs ++ ys) v) ≡ cond b (x ∷ in_view xs v) (in_view xs v) ++ in_view ys v
    go true i = ap (λ l. x ∷ l) i
    go false i = i

in_same : (xs : List Commit) (v : ViewId) → in_view (in_view xs v) v ≡ in_view xs v
in_same [] v = refl
in_same (x ∷ xs) v = go (same_view x.view v) refl (in_same xs v)
  where
    go : (b : Bool) → same_view x.view v ≡ b → in_view (in_view xs v) v ≡ in_view xs v → in_view (cond b (x ∷ in_view xs v) (in_view xs v)) v ≡ cond b (x ∷ in_view xs v) (in_view xs v)
    go true e i = first_is x (in_view xs v) v e ∙ ap (λ l. x ∷ l) i
    go false e i = i

in_other : (xs : List Commit) (v w : ViewId) → same_view w v ≡ false → in_view (in_view xs w) v ≡ []
in_other [] v w n = refl
in_other (x ∷ xs) v w n = go (same_view x.view w) refl (in_other xs v w n)
  where
    go : (b : Bool) → same_view x.view w ≡ b → in_view (in_view xs w) v ≡ [] → in_view (cond b (x ∷ in_view xs w) (in_view xs w)) v ≡ []
    go true e i = cond-false (same_view x.view v) (x ∷ in_view (in_view xs w) v) (in_view (in_view xs w) v) (rw (same_is x.view w e) n) ∙ i
    go false e i = i

not_above : (w : ViewId) (ws : List ViewId) → Above w ws → occurs w ws ≡ false
not_above w [] h = refl
not_above w (x ∷ xs) h = rw (differs w x h.0) (not_above w xs h.1)

in_all : (journal : List Commit) (vs : List ViewId) (v : ViewId) → Ascends vs → in_view (flat_map (in_view journal) vs) v ≡ cond (occurs v vs) (in_view journal v) []
in_all journal [] v h = refl
in_all journal (w ∷ ws) v h = in_view-append (in_view journal w) (flat_map (in_view journal) ws) v ∙ go (same_view w v) refl (in_all journal ws v h.1)
  where
    go : (b : Bool) → same_view w v ≡ b → in_view (flat_map (in_view journal) ws) v ≡ cond (occurs v ws) (in_view journal v) []
        → in_view (in_view journal w) v ++ in_view (flat_map (in_view journal) ws) v ≡ cond (b || occurs v ws) (in_view journal v) []
    go true e i =
        let same : w ≡ v = same_is w v e in
        let above : occurs w ws ≡ false = not_above w ws h.0 in
        let none : occurs v ws ≡ false = (rw same at above) in
        let rest : in_view (flat_map (in_view journal) ws) v ≡ [] = i ∙ ap (λ b. cond b (in_view journal v) []) none in
        rw (same, rest, in_same journal v) (append-nil (in_view journal v))
    go false e i = rw (in_other journal v w e) i

none_in_front : (v w : ViewId) (xs rest : List Commit) → view_before w v ≡ false → NoneBefore v rest → NoneBefore v (in_view xs w ++ rest)
none_in_front v w [] rest e h = h
none_in_front v w (x ∷ xs) rest e h = go (same_view x.view w) refl (none_in_front v w xs rest e h)
  where
    go : (b : Bool) → same_view x.view w ≡ b → NoneBefore v (in_view xs w ++ rest) → NoneBefore v (cond b (x ∷ in_view xs w) (in_view xs w) ++ rest)
    go true p i = (rw (same_is x.view w p) e, i)
    go false p i = i

none_in_all : (journal : List Commit) (v : ViewId) (ws : List ViewId) → Above v ws → NoneBefore v (flat_map (in_view journal) ws)
none_in_all journal v [] h = tt
none_in_all journal v (w ∷ ws) h = none_in_front v w journal (flat_map (in_view journal) ws) (one_way v w h.0) (none_in_all journal v ws h.1)

rises_in_front : (w : ViewId) (xs rest : List Commit) → NoneBefore w rest → Rises rest → Rises (in_view xs w ++ rest)
rises_in_front w [] rest n r = r
rises_in_front w (x ∷ xs) rest n r = go (same_view x.view w) refl (rises_in_front w xs rest n r)
  where
    go : (b : Bool) → same_view x.view w ≡ b → Rises (in_view xs w ++ rest) → Rises (cond b (x ∷ in_view xs w) (in_view xs w) ++ rest)
    go true p i = (rw (same_is x.view w p) (none_in_front w w xs rest (not_itself w) n), i)
    go false p i = i

rises_in_all : (journal : List Commit) (vs : List ViewId) → Ascends vs → Rises (flat_map (in_view journal) vs)
rises_in_all journal [] h = tt
rises_in_all journal (v ∷ vs) h = rises_in_front v journal (flat_map (in_view journal) vs) (none_in_all journal v vs h.0) (rises_in_all journal vs h.1)

in_order : (journal : List Commit) (v : ViewId) → in_view (order journal) v ≡ in_view journal v
in_order journal v = in_all journal (views_of journal) v (ascends_from journal [] tt) ∙ go (occurs v (views_of journal)) refl
  where
    go : (b : Bool) → occurs v (views_of journal) ≡ b → cond b (in_view journal v) [] ≡ in_view journal v
    go true e = refl
    go false e = sym (absent_from journal [] v e).1

order_is : (journal ys : List Commit) → Rises ys → ((v : ViewId) → in_view ys v ≡ in_view journal v) → ys ≡ order journal
order_is journal ys r h = unique ys (order journal) r (rises_in_all journal (views_of journal) (ascends_from journal [] tt)) (λ v. h v ∙ sym (in_order journal v))

-- ---- what a sort gives

abbrev pub key : Commit → ℕ × ℕ
key c = (c.view.number, c.view.site)

abbrev pub key_cmp : ℕ × ℕ → ℕ × ℕ → Ordering
key_cmp x y = ordering_then (nat_cmp x.0 y.0) (nat_cmp x.1 y.1)

less_is : (c d : Commit) → is_lt (key_cmp (key c) (key d)) ≡ view_before c.view d.view
less_is c d = go (nat_lt c.view.number d.view.number) (c.view.number == d.view.number) (nat_lt c.view.site d.view.site) (c.view.site == d.view.site)
  where
    go : (a b p q : Bool) → is_lt (ordering_then (cond a Less (cond b Equal Greater)) (cond p Less (cond q Equal Greater))) ≡ (a || (b && p))
    go true b p q = refl
    go false true true q = refl
    go false true false true = refl
    go false true false false = refl
    go false false p q = refl

none_chain : (u v : ViewId) (cs : List Commit) → view_before v u ≡ false → NoneBefore v cs → NoneBefore u cs
none_chain u v [] e h = tt
none_chain u v (c ∷ cs) e h = (chain c.view v u h.0 e, none_chain u v cs e h.1)

rises_of : (ys : List Commit) → ((k : ℕ) (d : Commit) → suc k < length ys → view_before (get_or ys (suc k) d).view (get_or ys k d).view ≡ false) → Rises ys
rises_of [] h = tt
rises_of (c ∷ []) h = (tt, tt)
rises_of (c ∷ d ∷ cs) h =
    let rest = rises_of (d ∷ cs) (λ k e p. h (suc k) e (omega arith)) in
    let first : view_before d.view c.view ≡ false = h 0 c (omega arith) in
    ((first, none_chain c.view d.view cs first rest.0), rest)

plus_one : (k : ℕ) → k + 1 ≡ suc k
plus_one k = omega arith

pub order_from_sort : (journal ys : List Commit) → IsSortedByKey key key_cmp ys → IsStableByKey key key_cmp journal ys → ys ≡ order journal
order_from_sort journal ys sorted stable = order_is journal ys (rises_of ys rises) stays
  where
    rises : (k : ℕ) (d : Commit) → suc k < length ys → view_before (get_or ys (suc k) d).view (get_or ys k d).view ≡ false
    rises k d p = sym (less_is (get_or ys (suc k) d) (get_or ys k d)) ∙ ap (λ n. is_lt (key_cmp (key (get_or ys n d)) (key (get_or ys k d)))) (sym (plus_one k)) ∙ sorted k d (omega arith) (omega arith)

    at : ViewId → Commit
    at v = record { txn = record { site = 0; life = 0; seq = 0 }; view = v; ops = []; tables = [] }

    test_is : (v : ViewId) → ties (λ (x y : Commit). is_lt (key_cmp (key x) (key y))) (at v) ≡ (λ (c : Commit). same_view c.view v)
    test_is v = λ i c. (ap2 c v) i
      where
        ap2 : (c : Commit) (v : ViewId) → (not (is_lt (key_cmp (key (at v)) (key c))) && not (is_lt (key_cmp (key c) (key (at v))))) ≡ same_view c.view v
        ap2 c v = rw (less_is (at v) c, less_is c (at v)) (tie_is v c.view)

    stays : (v : ViewId) → in_view ys v ≡ in_view journal v
    stays v = ap (λ p. filter p ys) (sym (test_is v)) ∙ stable (at v) ∙ ap (λ p. filter p journal) (test_is v)
