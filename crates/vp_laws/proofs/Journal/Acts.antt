-- What the entries of a journal do to anything, where each entry changes it: after the entries of a view and all lower ones, and
-- what a single entry of that view does last.
use Rattle.std.proofs.Common.{◌≡◌, ◌⊎◌, ◌∙◌, ap, sym, subst, Bool, true, false, cond, List, [], ◌∷◌, ◌++◌, refl, inl, inr, arith, ⊎_elim}
use Rattle.std.specs.Prelude.{filter, flat_map, not}
use Rattle.std.proofs.lemmas.List.{append-nil, append_assoc}
use Rattle.std.proofs.lemmas.List.Elements.{filter-append}
use Rattle.vp_model.specs.Types.{ViewId, Commit}
use Rattle.vp_model.specs.Words.{same_view, view_before}
use Rattle.vp_model.specs.OneCopy.{views_of, in_view, order}
use Rattle.vp_laws.proofs.Lists.Members.{Has, has_none, has_first, has_more, has_cons, has_right, filter_has}
use Rattle.vp_laws.proofs.Lists.Views.{AtMost, Precedes, AtMost-trans, AtMost-same, Precedes-at_most, not_both, from_before, same_is, same_from, three_ways, not_itself, not_before, above_from}
use Rattle.vp_laws.proofs.Journal.Order.{Rising, Split, order_has, order_more, Precedes-trans, unlike_below, unlike_above, views_rising, view_there}
use Rattle.vp_laws.proofs.Journal.UpTo.{upto, upto_append, upto_has, test_above, up_to_from, under, under_has, Ascends, order_ascends}

-- the entries of one view
abbrev pub level : ViewId → List Commit → List Commit
level view es = filter (λ e. same_view e.view view) es

pub nothing_under : (v : ViewId) (es : List Commit) → ((f : Commit) → Has es f → AtMost v f.view) → under v es ≡ []
nothing_under v [] k = refl
nothing_under v (f ∷ l) k = let z = not_before f.view v (k f (has_first f l)) in rw z (nothing_under v l (λ g q. k g (has_more f l g q)))

nothing_upto : (v : ViewId) (es : List Commit) → ((f : Commit) → Has es f → Precedes v f.view) → upto v es ≡ []
nothing_upto v [] k = refl
nothing_upto v (f ∷ l) k = let z = test_above v f.view (k f (has_first f l)) in rw z (nothing_upto v l (λ g q. k g (has_more f l g q)))

nothing_level : (v : ViewId) (es : List Commit) → ((f : Commit) → Has es f → Precedes v f.view) → level v es ≡ []
nothing_level v [] k = refl
nothing_level v (f ∷ l) k = let z = unlike_above v f.view (k f (has_first f l)) in rw z (nothing_level v l (λ g q. k g (has_more f l g q)))

-- in the order of views, those up to one are those below it and then its own
pub upto_parts : (v : ViewId) (es : List Commit) → Ascends es → upto v es ≡ under v es ++ level v es
upto_parts v [] h = refl
upto_parts v (e ∷ es) h = go (view_before v e.view) (view_before e.view v) (same_view e.view v) refl refl refl (upto_parts v es h.1)
  where
    higher : Precedes v e.view → (f : Commit) → Has es f → Precedes v f.view
    higher p f q = let le = h.0 f q in omega (arith, p, le)

    go : (a b c : Bool) → view_before v e.view ≡ a → view_before e.view v ≡ b → same_view e.view v ≡ c → upto v es ≡ under v es ++ level v es → cond (not a) (e ∷ upto v es) (upto v es) ≡ cond b (e ∷ under v es) (under v es) ++ cond c (e ∷ level v es) (level v es)
    go true true c q r s rest = absurd (not_both v e.view (from_before v e.view q) (Precedes-at_most e.view v (from_before e.view v r)))
    go true false true q r s rest = absurd (let z = unlike_above v e.view (from_before v e.view q) in cc)
    go true false false q r s rest =
        let p = from_before v e.view q in
        rw (nothing_upto v es (higher p), nothing_under v es (λ f k. Precedes-at_most v f.view (higher p f k)), nothing_level v es (higher p)) refl
    go false true true q r s rest = absurd (let z = unlike_below e.view v (from_before e.view v r) in cc)
    go false true false q r s rest = ap (λ (l : List Commit). e ∷ l) rest
    go false false true q r s rest =
        let low : under v es ≡ [] = nothing_under v es (λ f k. AtMost-trans v e.view f.view (up_to_from e.view v r) (h.0 f k)) in
        ap (λ (l : List Commit). e ∷ l) (rest ∙ ap (λ (l : List Commit). l ++ level v es) low) ∙ sym (ap (λ (l : List Commit). l ++ e ∷ level v es) low)
    go false false false q r s rest = absurd (let z = above_from e.view v s r in not_both v e.view z (up_to_from v e.view q))

-- lists joined from two ascending lists of views that differ only where nothing is
flat_none : (g : ViewId → List Commit) (vs : List ViewId) → ((u : ViewId) → Has vs u → g u ≡ []) → flat_map g vs ≡ []
flat_none g [] h = refl
flat_none g (v ∷ vs) h = rw (h v (has_first v vs)) (flat_none g vs (λ u q. h u (has_more v vs u q)))

abbrev Covers : (ViewId → List Commit) → List ViewId → List ViewId → Type 0
Covers g vs us = (u : ViewId) → Has vs u → Has us u ⊎ (g u ≡ [])

-- nothing below the head of an ascending list is in it
below_head : (a b : ViewId) (us : List ViewId) → ((u : ViewId) → Has us u → Precedes b u) → Precedes a b → Has (b ∷ us) a → ⊥
below_head a b us h p q = ⊎_elim (λ (one : b ≡ a). not_itself a (subst (Precedes a) one p)) (λ more. not_itself a (Precedes-trans a b a p (h a more))) (has_cons b us a q)

flat_rest : (g : ViewId → List Commit) (a : ViewId) (vs : List ViewId) → ((u : ViewId) → Has vs u → Precedes a u) → ((us : List ViewId) → Rising us → Covers g vs us → Covers g us vs → flat_map g vs ≡ flat_map g us) → (us : List ViewId) → Rising us → Covers g (a ∷ vs) us → Covers g us (a ∷ vs) → flat_map g (a ∷ vs) ≡ flat_map g us
flat_rest g a vs low more [] r c d = flat_none g (a ∷ vs) (λ u q. ⊎_elim (λ none. absurd (has_none u none)) (λ e. e) (c u q))
flat_rest g a vs low more (b ∷ us) r c d = ⊎_elim first (λ q. ⊎_elim same (second (λ c d. flat_rest g a vs low more us r.1 c d)) q) (three_ways a b)
  where
    first : Precedes a b → flat_map g (a ∷ vs) ≡ flat_map g (b ∷ us)
    first p =
        let empty : g a ≡ [] = ⊎_elim (λ there. absurd (below_head a b us r.0 p there)) (λ e. e) (c a (has_first a vs)) in
        ap (λ (l : List Commit). l ++ flat_map g vs) empty
        ∙ more (b ∷ us) r (λ u q. c u (has_more a vs u q)) (λ u q. ⊎_elim
        (λ there. ⊎_elim (λ (one : a ≡ u). absurd (below_head a b us r.0 p (subst (Has (b ∷ us)) (sym one) q))) (λ later. inl later) (has_cons a vs u there))
        (λ e. inr e) (d u q))

    same : a ≡ b → flat_map g (a ∷ vs) ≡ flat_map g (b ∷ us)
    same e =
        let rest : flat_map g vs ≡ flat_map g us = more us r.1
        (λ u q. ⊎_elim (λ there. ⊎_elim (λ (one : b ≡ u). absurd (not_itself a (subst (Precedes a) (sym (e ∙ one)) (low u q)))) (λ later. inl later) (has_cons b us u there)) (λ n. inr n) (c u (has_more a vs u q)))
        (λ u q. ⊎_elim (λ there. ⊎_elim (λ (one : a ≡ u). absurd (not_itself b (subst (Precedes b) (sym (sym e ∙ one)) (r.0 u q)))) (λ later. inl later) (has_cons a vs u there)) (λ n. inr n) (d u (has_more b us u q))) in
        ap (λ (i : ViewId). g i ++ flat_map g vs) e ∙ ap (λ (l : List Commit). g b ++ l) rest

    second : (Covers g (a ∷ vs) us → Covers g us (a ∷ vs) → flat_map g (a ∷ vs) ≡ flat_map g us) → Precedes b a → flat_map g (a ∷ vs) ≡ flat_map g (b ∷ us)
    second on p =
        let empty : g b ≡ [] = ⊎_elim (λ there. absurd (below_head b a vs low p there)) (λ e. e) (d b (has_first b us)) in
        on
        (λ u q. ⊎_elim (λ there. ⊎_elim (λ (one : b ≡ u). absurd (below_head b a vs low p (subst (Has (a ∷ vs)) (sym one) q))) (λ later. inl later) (has_cons b us u there)) (λ n. inr n) (c u q))
        (λ u q. d u (has_more b us u q))
        ∙ sym (ap (λ (l : List Commit). l ++ flat_map g us) empty)

flat_same : (g : ViewId → List Commit) (vs us : List ViewId) → Rising vs → Rising us → Covers g vs us → Covers g us vs → flat_map g vs ≡ flat_map g us
flat_same g [] us h r c d = sym (flat_none g us (λ u q. ⊎_elim (λ none. absurd (has_none u none)) (λ e. e) (d u q)))
flat_same g (a ∷ vs) us h r c d = flat_rest g a vs h.0 (λ us r c d. flat_same g vs us h.1 r c d) us r c d

flat_filter : (test : Commit → Bool) (g : ViewId → List Commit) (vs : List ViewId) → filter test (flat_map g vs) ≡ flat_map (λ u. filter test (g u)) vs
flat_filter test g [] = refl
flat_filter test g (v ∷ vs) = filter-append test (g v) (flat_map g vs) ∙ ap (λ (l : List Commit). filter test (g v) ++ l) (flat_filter test g vs)

-- where one view alone has something
flat_single : (g : ViewId → List Commit) (v : ViewId) (vs : List ViewId) → Rising vs → ((u : ViewId) → same_view u v ≡ false → g u ≡ []) → Has vs v ⊎ (g v ≡ []) → flat_map g vs ≡ g v
flat_single g v [] h all there = ⊎_elim (λ q. absurd (has_none v q)) (λ e. sym e) there
flat_single g v (a ∷ vs) h all there = go (same_view a v) refl (λ k. flat_single g v vs h.1 all k)
  where
    rest : a ≡ v → flat_map g vs ≡ []
    rest is = flat_none g vs (λ u q. all u (unlike_above v u (subst (λ (i : ViewId). Precedes i u) is (h.0 u q))))

    go : (b : Bool) → same_view a v ≡ b → (Has vs v ⊎ (g v ≡ []) → flat_map g vs ≡ g v) → g a ++ flat_map g vs ≡ g v
    go true e k = let is = same_is a v e in ap (λ (l : List Commit). g a ++ l) (rest is) ∙ append-nil (g a) ∙ ap g is
    go false e k = ap (λ (l : List Commit). l ++ flat_map g vs) (all a e) ∙ k (⊎_elim (λ q. ⊎_elim (λ (one : a ≡ v). absurd (let z = same_from a v one in cc)) (λ more. inl more) (has_cons a vs v q)) (λ n. inr n) there)

flat_like : (f g : ViewId → List Commit) (vs : List ViewId) → ((u : ViewId) → f u ≡ g u) → flat_map f vs ≡ flat_map g vs
flat_like f g [] h = refl
flat_like f g (v ∷ vs) h = ap (λ (l : List Commit). l ++ flat_map f vs) (h v) ∙ ap (λ (l : List Commit). g v ++ l) (flat_like f g vs h)

module _ (front back : List Commit) (e : Commit) where
  abbrev all : List Commit
  all = front ++ e ∷ back

  abbrev rest : List Commit
  rest = front ++ back

  elsewhere : (u : ViewId) → same_view e.view u ≡ false → in_view all u ≡ in_view rest u
  elsewhere u n = filter-append (λ (c : Commit). same_view c.view u) front (e ∷ back) ∙ rw n refl ∙ sym (filter-append (λ (c : Commit). same_view c.view u) front back)

  abbrev low : List Commit → ViewId → List Commit
  low j u = under e.view (in_view j u)

  own_low : (j : List Commit) → low j e.view ≡ []
  own_low j = nothing_under e.view (in_view j e.view) (λ f q. AtMost-same e.view f.view (sym (same_is f.view e.view (filter_has (λ (c : Commit). same_view c.view e.view) j f q).1)))

  low_same : (u : ViewId) → low all u ≡ low rest u
  low_same u = go (same_view e.view u) refl
    where
      go : (b : Bool) → same_view e.view u ≡ b → low all u ≡ low rest u
      go true q = let is : e.view ≡ u = same_is e.view u q in ap (low all) (sym is) ∙ own_low all ∙ sym (own_low rest) ∙ ap (low rest) is
      go false q = ap (under e.view) (elsewhere u q)

  -- what is there is in both
  both_have : (j : List Commit) (u : ViewId) → (Has (views_of j) u) ⊎ (low j u ≡ [])
  both_have j u = go (low j u) refl
    where
      go : (l : List Commit) → low j u ≡ l → (Has (views_of j) u) ⊎ (low j u ≡ [])
      go [] q = inr q
      go (f ∷ l) q =
          let there : Has (low j u) f = rw q (has_first f l) in
          let k = filter_has (λ (c : Commit). same_view c.view u) j f (under_has e.view (in_view j u) f there).0 in
          inl (subst (Has (views_of j)) (same_is f.view u k.1) (view_there j f k.0))

  -- the entries below its view are the same without it
  pub under_same : under e.view (order all) ≡ under e.view (order rest)
  under_same =
      flat_filter (λ (f : Commit). view_before f.view e.view) (in_view all) (views_of all)
      ∙ flat_like (low all) (low rest) (views_of all) low_same
      ∙ flat_same (low rest) (views_of all) (views_of rest) (views_rising all) (views_rising rest) (λ u q. both_have rest u) (λ u q. ⊎_elim (λ there. inl there) (λ n. inr (sym (low_same u) ∙ n)) (both_have all u))
      ∙ sym (flat_filter (λ (f : Commit). view_before f.view e.view) (in_view rest) (views_of rest))

-- the entries of one view in the order are those of the journal
pub level_order : (journal : List Commit) (v : ViewId) → level v (order journal) ≡ in_view journal v
level_order journal v =
    flat_filter (λ (f : Commit). same_view f.view v) (in_view journal) (views_of journal)
    ∙ flat_single (λ u. level v (in_view journal u)) v (views_of journal) (views_rising journal) other there
    ∙ own
  where
    of : (u : ViewId) (f : Commit) → Has (in_view journal u) f → f.view ≡ u
    of u f h = same_is f.view u (filter_has (λ (c : Commit). same_view c.view u) journal f h).1

    none_level : (l : List Commit) (u : ViewId) → same_view u v ≡ false → ((f : Commit) → Has l f → f.view ≡ u) → level v l ≡ []
    none_level [] u e h = refl
    none_level (f ∷ l) u e h = let z : same_view f.view v ≡ false = rw (h f (has_first f l)) e in rw z (none_level l u e (λ g q. h g (has_more f l g q)))

    all_level : (l : List Commit) → ((f : Commit) → Has l f → f.view ≡ v) → level v l ≡ l
    all_level [] h = refl
    all_level (f ∷ l) h = let z = same_from f.view v (h f (has_first f l)) in rw z (ap (λ (k : List Commit). f ∷ k) (all_level l (λ g q. h g (has_more f l g q))))

    other : (u : ViewId) → same_view u v ≡ false → level v (in_view journal u) ≡ []
    other u e = none_level (in_view journal u) u e (of u)

    own : level v (in_view journal v) ≡ in_view journal v
    own = all_level (in_view journal v) (of v)

    there : Has (views_of journal) v ⊎ (level v (in_view journal v) ≡ [])
    there = go (in_view journal v) refl
      where
        go : (l : List Commit) → in_view journal v ≡ l → Has (views_of journal) v ⊎ (level v (in_view journal v) ≡ [])
        go [] q = inr (own ∙ q)
        go (f ∷ l) q =
            let here : Has (in_view journal v) f = rw q (has_first f l) in
            inl (subst (Has (views_of journal)) (of v f here) (view_there journal f (filter_has (λ (c : Commit). same_view c.view v) journal f here).0))

-- `act` is what an entry does
module _ {C : Type 0} (act : Commit → C → C) where
  abbrev pub after : C → List Commit → C
  after c [] = c
  after c (e ∷ es) = after (act e c) es

  abbrev pub IsQuiet : Commit → Type 0
  IsQuiet e = (c : C) → act e c ≡ c

  pub after_append : (c : C) (es fs : List Commit) → after c (es ++ fs) ≡ after (after c es) fs
  after_append c [] fs = refl
  after_append c (e ∷ es) fs = after_append (act e c) es fs

  pub after_quiet : (c : C) (es : List Commit) → ((f : Commit) → Has es f → IsQuiet f) → after c es ≡ c
  after_quiet c [] h = refl
  after_quiet c (e ∷ es) h = ap (λ (c : C). after c es) (h e (has_first e es) c) ∙ after_quiet c es (λ f q. h f (has_more e es f q))

  -- after quiet ones an entry acts last
  pub after_last : (c : C) (front back : List Commit) (e : Commit) → ((f : Commit) → Has back f → IsQuiet f) → after c (front ++ e ∷ back) ≡ act e (after c (front ++ back))
  after_last c front back e h =
      after_append c front (e ∷ back) ∙ after_quiet (act e (after c front)) back h
      ∙ ap (act e) (sym (after_append c front back ∙ after_quiet (after c front) back h))

  -- in the order of views: an entry after which none of its view acts on it does so last of those up to its view
  pub after_own : (c : C) (front back : List Commit) (e : Commit) → ((f : Commit) → Has back f → f.view ≡ e.view → IsQuiet f) → after c (upto e.view (order (front ++ e ∷ back))) ≡ act e (after c (upto e.view (order (front ++ back))))
  after_own c front back e h =
      ap (after c) (now ∙ sym (append_assoc low in_front (e ∷ in_back)))
      ∙ after_last c (low ++ in_front) in_back e (λ f q. let k = filter_has (λ (g : Commit). same_view g.view e.view) back f q in h f k.0 (same_is f.view e.view k.1))
      ∙ ap (act e) (ap (after c) (append_assoc low in_front in_back ∙ sym was))
    where
      low : List Commit
      low = under e.view (order (front ++ back))

      in_front : List Commit
      in_front = in_view front e.view

      in_back : List Commit
      in_back = in_view back e.view

      was : upto e.view (order (front ++ back)) ≡ low ++ (in_front ++ in_back)
      was = upto_parts e.view (order (front ++ back)) (order_ascends (front ++ back)) ∙ ap (λ (l : List Commit). low ++ l) (level_order (front ++ back) e.view ∙ filter-append (λ (g : Commit). same_view g.view e.view) front back)

      own : in_view (e ∷ back) e.view ≡ e ∷ in_back
      own = let z = same_from e.view e.view refl in rw z refl

      now : upto e.view (order (front ++ e ∷ back)) ≡ low ++ (in_front ++ e ∷ in_back)
      now =
          upto_parts e.view (order (front ++ e ∷ back)) (order_ascends (front ++ e ∷ back))
          ∙ ap (λ (l : List Commit). l ++ level e.view (order (front ++ e ∷ back))) (under_same front back e)
          ∙ ap (λ (l : List Commit). low ++ l) (level_order (front ++ e ∷ back) e.view ∙ filter-append (λ (g : Commit). same_view g.view e.view) front (e ∷ back) ∙ ap (λ (l : List Commit). in_front ++ l) own)

  -- what the entries of views up to one make of it, in the order
  abbrev pub after_upto : C → List Commit → ViewId → C
  after_upto c journal view = after c (upto view (order journal))

  -- where each entry between two views is quiet, it is the same after both
  after_among : (c : C) (i j : ViewId) (es : List Commit) → AtMost i j → ((f : Commit) → Has es f → Precedes i f.view → AtMost f.view j → IsQuiet f) → after c (upto j es) ≡ after c (upto i es)
  after_among c i j [] h quiet = refl
  after_among c i j (e ∷ es) h quiet = go (view_before i e.view) (view_before j e.view) refl refl (λ b. after_among b i j es h (λ f q. quiet f (has_more e es f q)))
    where
      go : (a b : Bool) → view_before i e.view ≡ a → view_before j e.view ≡ b → ((b : C) → after b (upto j es) ≡ after b (upto i es)) → after c (cond (not b) (e ∷ upto j es) (upto j es)) ≡ after c (cond (not a) (e ∷ upto i es) (upto i es))
      go true true p q rest = rest c
      go true false p q rest = ap (λ (b : C). after b (upto j es)) (quiet e (has_first e es) (from_before i e.view p) (up_to_from j e.view q) c) ∙ rest c
      go false true p q rest = absurd (not_both j e.view (from_before j e.view q) (AtMost-trans e.view i j (up_to_from i e.view p) h))
      go false false p q rest = rest (act e c)

  -- where each entry above a view is quiet, all entries make of it what those up to that view do
  pub after_all : (c : C) (i : ViewId) (es : List Commit) → ((f : Commit) → Has es f → Precedes i f.view → IsQuiet f) → after c es ≡ after c (upto i es)
  after_all c i [] quiet = refl
  after_all c i (e ∷ es) quiet = go (view_before i e.view) refl (λ b. after_all b i es (λ f q. quiet f (has_more e es f q)))
    where
      go : (a : Bool) → view_before i e.view ≡ a → ((b : C) → after b es ≡ after b (upto i es)) → after (act e c) es ≡ after c (cond (not a) (e ∷ upto i es) (upto i es))
      go true p rest = ap (λ (b : C). after b es) (quiet e (has_first e es) (from_before i e.view p) c) ∙ rest c
      go false p rest = rest (act e c)

  pub after_between : (c : C) (journal : List Commit) (i j : ViewId) → AtMost i j → ((f : Commit) → Has journal f → Precedes i f.view → AtMost f.view j → IsQuiet f) → after_upto c journal j ≡ after_upto c journal i
  after_between c journal i j h quiet = after_among c i j (order journal) h (λ f q. quiet f (order_has journal f q))

  -- an entry is added
  module _ (c : C) (journal : List Commit) (e : Commit) where
    abbrev s : Split e (order journal) (order (journal ++ e ∷ []))
    s = order_more journal e

    now_at : (d : ViewId) → upto d (order (journal ++ e ∷ [])) ≡ upto d s.before ++ upto d (e ∷ s.behind)
    now_at d = ap (upto d) s.now ∙ upto_append d s.before (e ∷ s.behind)

    was_at : (d : ViewId) → upto d (order journal) ≡ upto d s.before ++ upto d s.behind
    was_at d = ap (upto d) s.was ∙ upto_append d s.before s.behind

    -- of a view above, or quiet: it changes nothing up to the view
    pub after_more : (d : ViewId) → (AtMost e.view d → IsQuiet e) → after_upto c (journal ++ e ∷ []) d ≡ after_upto c journal d
    after_more d quiet = go (view_before d e.view) refl
      where
        go : (b : Bool) → view_before d e.view ≡ b → after_upto c (journal ++ e ∷ []) d ≡ after_upto c journal d
        go true q =
            let rest : upto d (e ∷ s.behind) ≡ upto d s.behind = rw q refl in
            ap (after c) (now_at d ∙ ap (λ (l : List Commit). upto d s.before ++ l) rest ∙ sym (was_at d))
        go false q =
            let first : upto d (e ∷ s.behind) ≡ e ∷ upto d s.behind = rw q refl in
            ap (after c) (now_at d ∙ ap (λ (l : List Commit). upto d s.before ++ l) first)
            ∙ after_append c (upto d s.before) (e ∷ upto d s.behind)
            ∙ ap (λ (b : C). after b (upto d s.behind)) (quiet (up_to_from d e.view q) (after c (upto d s.before)))
            ∙ sym (ap (after c) (was_at d) ∙ after_append c (upto d s.before) (upto d s.behind))

    -- and where all of higher views up to the view are quiet, it acts last
    pub after_added : (d : ViewId) → AtMost e.view d → ((f : Commit) → Has journal f → Precedes e.view f.view → AtMost f.view d → IsQuiet f) → after_upto c (journal ++ e ∷ []) d ≡ act e (after_upto c journal d)
    after_added d h quiet =
        let t = not_before d e.view h in
        let first : upto d (e ∷ s.behind) ≡ e ∷ upto d s.behind = rw t refl in
        ap (after c) (now_at d ∙ ap (λ (l : List Commit). upto d s.before ++ l) first)
        ∙ after_last c (upto d s.before) (upto d s.behind) e
        (λ f q. let k = upto_has d s.behind f q in quiet f (order_has journal f (subst (λ (l : List Commit). Has l f) (sym s.was) (has_right s.before s.behind f k.0))) (s.high f k.0) k.1)
        ∙ ap (λ (l : List Commit). act e (after c l)) (sym (was_at d))
