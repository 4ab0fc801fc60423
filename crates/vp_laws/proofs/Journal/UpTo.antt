-- The entries of a view and all lower ones, and of the lower ones only; the order of a journal is by view.
use Rattle.std.proofs.Common.{◌≡◌, ◌∙◌, ap, sym, Bool, true, false, List, [], ◌∷◌, ◌++◌, refl, arith, ⊎_elim}
use Rattle.std.specs.Prelude.{filter, flat_map, not}
use Rattle.std.proofs.lemmas.Bool.Decides.{nat_tests}
use Rattle.std.proofs.lemmas.List.Elements.{filter-append}
use Rattle.vp_model.specs.Types.{ViewId, Commit}
use Rattle.vp_model.specs.Words.{same_view, view_before}
use Rattle.vp_model.specs.OneCopy.{views_of, in_view, order}
use Rattle.vp_laws.proofs.Lists.Members.{Has, has_first, has_more, has_cases, filter_has}
use Rattle.vp_laws.proofs.Lists.Views.{AtMost, Precedes, AtMost-same, AtMost-along, Precedes-at_most, from_before, same_is, not_before}
use Rattle.vp_laws.proofs.Journal.Order.{Rising, views_rising, flat_has}

-- the entries of views up to this one
abbrev pub upto : ViewId → List Commit → List Commit
upto view es = filter (λ e. not (view_before view e.view)) es

pub test_above : (a b : ViewId) → Precedes a b → view_before a b ≡ true
test_above a b p = grind (arith, nat_tests, p)

pub up_to_from : (a b : ViewId) → view_before a b ≡ false → AtMost b a
up_to_from a b e = grind (arith, nat_tests, e)

pub filter_all : {X : Type 0} (test : X → Bool) (xs : List X) → ((x : X) → Has xs x → test x ≡ true) → filter test xs ≡ xs
filter_all test [] h = refl
filter_all test (x ∷ xs) h = rw (h x (has_first x xs)) (ap (λ l. x ∷ l) (filter_all test xs (λ y q. h y (has_more x xs y q))))

filter_nothing : {X : Type 0} (test : X → Bool) (xs : List X) → ((x : X) → Has xs x → test x ≡ false) → filter test xs ≡ []
filter_nothing test [] h = refl
filter_nothing test (x ∷ xs) h = rw (h x (has_first x xs)) (filter_nothing test xs (λ y q. h y (has_more x xs y q)))

pub upto_all : (d : ViewId) (es : List Commit) → ((f : Commit) → Has es f → AtMost f.view d) → upto d es ≡ es
upto_all d es h = filter_all (λ (e : Commit). not (view_before d e.view)) es (λ f q. let t = not_before d f.view (h f q) in rw t refl)

pub upto_none : (d : ViewId) (es : List Commit) → ((f : Commit) → Has es f → Precedes d f.view) → upto d es ≡ []
upto_none d es h = filter_nothing (λ (e : Commit). not (view_before d e.view)) es (λ f q. let t = test_above d f.view (h f q) in rw t refl)

pub upto_append : (d : ViewId) (es fs : List Commit) → upto d (es ++ fs) ≡ upto d es ++ upto d fs
upto_append d es fs = filter-append (λ (e : Commit). not (view_before d e.view)) es fs

pub upto_has : (d : ViewId) (es : List Commit) (f : Commit) → Has (upto d es) f → Has es f × AtMost f.view d
upto_has d es f h = let q = filter_has (λ (e : Commit). not (view_before d e.view)) es f h in (q.0, go (view_before d f.view) refl q.1)
  where
    go : (b : Bool) → view_before d f.view ≡ b → not b ≡ true → AtMost f.view d
    go true e t = cc
    go false e t = up_to_from d f.view e

-- what is in a view is of it
pub in_at : (journal : List Commit) (u : ViewId) (f : Commit) → Has (in_view journal u) f → f.view ≡ u
in_at journal u f h = same_is f.view u (filter_has (λ (c : Commit). same_view c.view u) journal f h).1

-- the entries of views below this one
abbrev pub under : ViewId → List Commit → List Commit
under view es = filter (λ e. view_before e.view view) es

pub under_has : (d : ViewId) (es : List Commit) (f : Commit) → Has (under d es) f → Has es f × Precedes f.view d
under_has d es f h = let q = filter_has (λ (e : Commit). view_before e.view d) es f h in (q.0, from_before f.view d q.1)

-- entries in the order of their views
abbrev pub Ascends : List Commit → Type 0
Ascends [] = Unit {0}
Ascends (e ∷ es) = ((f : Commit) → Has es f → AtMost e.view f.view) × Ascends es

ascends-append : (xs ys : List Commit) → Ascends xs → Ascends ys → ((f g : Commit) → Has xs f → Has ys g → AtMost f.view g.view) → Ascends (xs ++ ys)
ascends-append [] ys a b h = b
ascends-append (x ∷ xs) ys a b h = (
  (λ f q. ⊎_elim (λ mine. a.0 f mine) (λ other. h x f (has_first x xs) other) (has_cases xs ys f q)),
  ascends-append xs ys a.1 b (λ f g p q. h f g (has_more x xs f p) q),
)

ascends-level : (v : ViewId) (es : List Commit) → ((f : Commit) → Has es f → f.view ≡ v) → Ascends es
ascends-level v [] h = tt
ascends-level v (e ∷ es) h = ((λ f q. AtMost-same e.view f.view (h e (has_first e es) ∙ sym (h f (has_more e es f q)))), ascends-level v es (λ f q. h f (has_more e es f q)))

ascends-flat : (journal : List Commit) (vs : List ViewId) → Rising vs → Ascends (flat_map (in_view journal) vs)
ascends-flat journal [] h = tt
ascends-flat journal (v ∷ vs) h = ascends-append (in_view journal v) (flat_map (in_view journal) vs) (ascends-level v (in_view journal v) (in_at journal v)) (ascends-flat journal vs h.1)
    (λ f g p q. let r = flat_has (in_view journal) vs g q in AtMost-along (Precedes-at_most v r.0 (h.0 r.0 r.1)) (in_at journal v f p) (in_at journal r.0 g r.2))

pub order_ascends : (journal : List Commit) → Ascends (order journal)
order_ascends journal = ascends-flat journal (views_of journal) (views_rising journal)
