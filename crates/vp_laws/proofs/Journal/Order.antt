-- The order of the journal by views: the place of an entry that is added at the end of the journal.
use Rattle.std.proofs.Common.{◌≡◌, ◌∙◌, ap, sym, subst, Bool, true, false, cond, List, [], ◌∷◌, ◌++◌, refl, arith, ⊎_elim}
use Rattle.std.specs.Prelude.{flat_map}
use Rattle.std.proofs.lemmas.Bool.Decides.{nat_tests}
use Rattle.std.proofs.lemmas.List.{append-nil, append_assoc}
use Rattle.std.proofs.lemmas.List.Elements.{filter-append}
use Rattle.vp_model.specs.Types.{ViewId, Commit}
use Rattle.vp_model.specs.Words.{same_view, view_before, put_view, for_each}
use Rattle.vp_model.specs.OneCopy.{views_of, in_view, order}
use Rattle.vp_laws.proofs.Lists.Members.{Has, has_none, has_first, has_more, has_cons, has_cases, has_left, has_right, filter_has}
use Rattle.vp_laws.proofs.Lists.Changes.{put_has, put_new, put_old}
use Rattle.vp_laws.proofs.Lists.Views.{AtMost, Precedes, AtMost-same, from_before, same_is, same_from, not_itself, above_from}

-- identifiers in ascending order
abbrev pub Rising : List ViewId → Type 0
Rising [] = Unit {0}
Rising (v ∷ vs) = ((u : ViewId) → Has vs u → Precedes v u) × Rising vs

pub Precedes-trans : (a b c : ViewId) → Precedes a b → Precedes b c → Precedes a c
Precedes-trans a b c p q = omega arith

pub unlike_below : (a b : ViewId) → Precedes a b → same_view a b ≡ false
unlike_below a b p = grind (arith, nat_tests, p)

pub unlike_above : (a b : ViewId) → Precedes a b → same_view b a ≡ false
unlike_above a b p = grind (arith, nat_tests, p)

put_rising : (i : ViewId) (vs : List ViewId) → Rising vs → Rising (put_view i vs)
put_rising i [] h = ((λ u k. absurd (has_none u k)), tt)
put_rising i (v ∷ vs) h = go (same_view i v) (view_before i v) refl refl (put_rising i vs h.1)
  where
    go : (a b : Bool) → same_view i v ≡ a → view_before i v ≡ b → Rising (put_view i vs) → Rising (cond a (i ∷ vs) (cond b (i ∷ v ∷ vs) (v ∷ put_view i vs)))
    go true b e f k = ((λ u q. rw (same_is i v e) (h.0 u q)), h.1)
    go false true e f k = (
      (λ u q. ⊎_elim (λ (one : v ≡ u). rw (← one) (from_before i v f)) (λ more. Precedes-trans i v u (from_before i v f) (h.0 u more)) (has_cons v vs u q)),
      h,
    )
    go false false e f k = (
      (λ u q. ⊎_elim (λ (new : u ≡ i). rw new (above_from i v e f)) (λ old. h.0 u old) (put_has same_view view_before i vs u q)),
      k,
    )

rising_from : (es : List Commit) (vs : List ViewId) → Rising vs → Rising (for_each es (λ (e : Commit). put_view e.view) vs)
rising_from [] vs h = h
rising_from (e ∷ es) vs h = rising_from es (put_view e.view vs) (put_rising e.view vs h)

pub views_rising : (journal : List Commit) → Rising (views_of journal)
views_rising journal = rising_from journal [] tt

-- each entry's view is one of the views
put_stays : (i : ViewId) (vs : List ViewId) (u : ViewId) → Has vs u → Has (put_view i vs) u
put_stays i vs u h = go (same_view i u) refl
  where
    go : (b : Bool) → same_view i u ≡ b → Has (put_view i vs) u
    go true e = subst (Has (put_view i vs)) (same_is i u e) (put_new same_view view_before i vs)
    go false e = put_old same_view view_before i vs u h e

views_stay : (es : List Commit) (vs : List ViewId) (u : ViewId) → Has vs u → Has (for_each es (λ (e : Commit). put_view e.view) vs) u
views_stay [] vs u h = h
views_stay (e ∷ es) vs u h = views_stay es (put_view e.view vs) u (put_stays e.view vs u h)

view_from : (es : List Commit) (vs : List ViewId) (f : Commit) → Has es f → Has (for_each es (λ (e : Commit). put_view e.view) vs) f.view
view_from [] vs f h = absurd (has_none f h)
view_from (e ∷ es) vs f h = ⊎_elim
    (λ (one : e ≡ f). views_stay es (put_view e.view vs) f.view (subst (λ (g : Commit). Has (put_view e.view vs) g.view) one (put_new same_view view_before e.view vs)))
    (λ more. view_from es (put_view e.view vs) f more)
    (has_cons e es f h)

pub view_there : (journal : List Commit) (f : Commit) → Has journal f → Has (views_of journal) f.view
view_there journal f h = view_from journal [] f h

pub flat_has : {X Y : Type 0} (f : X → List Y) (xs : List X) (y : Y) → Has (flat_map f xs) y → (x : X) × Has xs x × Has (f x) y
flat_has f [] y h = absurd (has_none y h)
flat_has f (x ∷ xs) y h = ⊎_elim (λ here. (x, has_first x xs, here)) (λ more. let r = flat_has f xs y more in (r.0, has_more x xs r.0 r.1, r.2)) (has_cases (f x) (flat_map f xs) y h)

pub has_flat : {X Y : Type 0} (f : X → List Y) (xs : List X) (x : X) (y : Y) → Has xs x → Has (f x) y → Has (flat_map f xs) y
has_flat f [] x y h k = absurd (has_none x h)
has_flat f (a ∷ xs) x y h k = ⊎_elim (λ (one : a ≡ x). has_left (f a) (flat_map f xs) y (rw one k)) (λ more. has_right (f a) (flat_map f xs) y (has_flat f xs x y more k)) (has_cons a xs x h)

-- the order has the entries of the journal
pub order_has : (journal : List Commit) (f : Commit) → Has (order journal) f → Has journal f
order_has journal f h = let r = flat_has (in_view journal) (views_of journal) f h in (filter_has (λ (e : Commit). same_view e.view r.0) journal f r.2).0

-- a list with an entry put in, after those of views up to its own
pub record Split (e : Commit) (old new : List Commit) : Type 0 where
  pub before : List Commit
  pub behind : List Commit
  pub was : old ≡ before ++ behind
  pub now : new ≡ before ++ e ∷ behind
  pub low : (f : Commit) → Has before f → AtMost f.view e.view
  pub high : (f : Commit) → Has behind f → Precedes e.view f.view

module _ (journal : List Commit) (e : Commit) where
  abbrev more : List Commit
  more = journal ++ e ∷ []

  here : in_view more e.view ≡ in_view journal e.view ++ e ∷ []
  here = filter-append (λ (c : Commit). same_view c.view e.view) journal (e ∷ []) ∙ (let t = same_from e.view e.view refl in rw t refl)

  elsewhere : (v : ViewId) → same_view e.view v ≡ false → in_view more v ≡ in_view journal v
  elsewhere v n = filter-append (λ (c : Commit). same_view c.view v) journal (e ∷ []) ∙ rw n (append-nil (in_view journal v))

  all_above : (vs : List ViewId) → ((u : ViewId) → Has vs u → Precedes e.view u) → flat_map (in_view more) vs ≡ flat_map (in_view journal) vs
  all_above [] h = refl
  all_above (v ∷ vs) h = rw (elsewhere v (unlike_below e.view v (h v (has_first v vs))), all_above vs (λ u q. h u (has_more v vs u q))) refl

  in_is : (v : ViewId) (f : Commit) → Has (in_view journal v) f → f.view ≡ v
  in_is v f h = same_is f.view v (filter_has (λ (c : Commit). same_view c.view v) journal f h).1

  high_in : (vs : List ViewId) → ((u : ViewId) → Has vs u → Precedes e.view u) → (f : Commit) → Has (flat_map (in_view journal) vs) f → Precedes e.view f.view
  high_in vs h f k = let r = flat_has (in_view journal) vs f k in rw (in_is r.0 f r.2) (h r.0 r.1)

  none_in : ((f : Commit) → Has journal f → f.view ≡ e.view → ⊥) → in_view journal e.view ≡ []
  none_in h = go (in_view journal e.view) refl
    where
      go : (l : List Commit) → in_view journal e.view ≡ l → l ≡ []
      go [] q = refl
      go (f ∷ l) q = let there : Has (in_view journal e.view) f = rw q (has_first f l) in absurd (h f (filter_has (λ (c : Commit). same_view c.view e.view) journal f there).0 (in_is e.view f there))

  splits_at : (vs : List ViewId) → Rising vs → ((f : Commit) → Has journal f → f.view ≡ e.view → Has vs e.view) → Split e (flat_map (in_view journal) vs) (flat_map (in_view more) (put_view e.view vs))
  splits_at [] h all = record {
    before = [];
    behind = [];
    was = refl;
    now = append-nil (in_view more e.view) ∙ here ∙ ap (λ (l : List Commit). l ++ e ∷ []) (none_in (λ f k q. has_none e.view (all f k q)));
    low = λ f k. absurd (has_none f k);
    high = λ f k. absurd (has_none f k);
  }
  splits_at (v ∷ vs) h all = go (same_view e.view v) (view_before e.view v) refl refl (λ g. splits_at vs h.1 g)
    where
      above : Precedes e.view v → (u : ViewId) → Has (v ∷ vs) u → Precedes e.view u
      above p u q = ⊎_elim (λ (one : v ≡ u). rw (← one) p) (λ rest. Precedes-trans e.view v u p (h.0 u rest)) (has_cons v vs u q)

      go : (a b : Bool) → same_view e.view v ≡ a → view_before e.view v ≡ b → (((f : Commit) → Has journal f → f.view ≡ e.view → Has vs e.view) → Split e (flat_map (in_view journal) vs) (flat_map (in_view more) (put_view e.view vs))) → Split e (flat_map (in_view journal) (v ∷ vs)) (flat_map (in_view more) (cond a (e.view ∷ vs) (cond b (e.view ∷ v ∷ vs) (v ∷ put_view e.view vs))))
      go true b same f rest =
          let is : e.view ≡ v = same_is e.view v same in
          let higher : (u : ViewId) → Has vs u → Precedes e.view u = (λ u q. rw is (h.0 u q)) in
          record {
            before = in_view journal v;
            behind = flat_map (in_view journal) vs;
            was = refl;
            now = ap (λ (l : List Commit). l ++ flat_map (in_view more) vs) (here ∙ ap (λ (u : ViewId). in_view journal u ++ e ∷ []) is) ∙ append_assoc (in_view journal v) (e ∷ []) (flat_map (in_view more) vs) ∙ ap (λ (l : List Commit). in_view journal v ++ e ∷ l) (all_above vs higher);
            low = λ f k. AtMost-same f.view e.view (in_is v f k ∙ sym is);
            high = λ f k. high_in vs higher f k;
          }
      go false true same f rest =
          let p = from_before e.view v f in
          record {
            before = [];
            behind = flat_map (in_view journal) (v ∷ vs);
            was = refl;
            now = ap (λ (l : List Commit). l ++ flat_map (in_view more) (v ∷ vs)) (here ∙ ap (λ (l : List Commit). l ++ e ∷ []) (none_in (λ f k q. not_itself e.view (above p e.view (all f k q))))) ∙ ap (λ (l : List Commit). e ∷ l) (all_above (v ∷ vs) (above p));
            low = λ f k. absurd (has_none f k);
            high = λ f k. high_in (v ∷ vs) (above p) f k;
          }
      go false false same f rest =
          let p = above_from e.view v same f in
          let r = rest (λ g k q. ⊎_elim (λ (one : v ≡ e.view). absurd (not_itself e.view (subst (λ (u : ViewId). Precedes u e.view) one p))) (λ deeper. deeper) (has_cons v vs e.view (all g k q))) in
          record {
            before = in_view journal v ++ r.before;
            behind = r.behind;
            was = ap (λ (l : List Commit). in_view journal v ++ l) r.was ∙ sym (append_assoc (in_view journal v) r.before r.behind);
            now = ap (λ (l : List Commit). l ++ flat_map (in_view more) (put_view e.view vs)) (elsewhere v same) ∙ ap (λ (l : List Commit). in_view journal v ++ l) r.now ∙ sym (append_assoc (in_view journal v) r.before (e ∷ r.behind));
            low = λ g k. ⊎_elim (λ first. below g (in_is v g first) p) (λ later. r.low g later) (has_cases (in_view journal v) r.before g k);
            high = r.high;
          }
        where
          below : (g : Commit) → g.view ≡ v → Precedes v e.view → AtMost g.view e.view
          below g q p = rw q (omega arith)

views_more : (es : List Commit) (e : Commit) (vs : List ViewId) → for_each (es ++ e ∷ []) (λ (e : Commit). put_view e.view) vs ≡ put_view e.view (for_each es (λ (e : Commit). put_view e.view) vs)
views_more [] e vs = refl
views_more (f ∷ es) e vs = views_more es e (put_view f.view vs)

-- an entry at the end of the journal goes in after those of views up to its own
pub order_more : (journal : List Commit) (e : Commit) → Split e (order journal) (order (journal ++ e ∷ []))
order_more journal e = subst
    (λ (vs : List ViewId). Split e (order journal) (flat_map (in_view (journal ++ e ∷ [])) vs))
    (sym (views_more journal e []))
    (splits_at journal e (views_of journal) (views_rising journal) (λ f h q. subst (Has (views_of journal)) q (view_there journal f h)))
