-- The place of an entry in the journal, and the values that it wrote.
use Rattle.std.proofs.Common.{Option, ◌≡◌, ◌⊎◌, ◌∙◌, ap, sym, ℕ, ◌<◌, ◌++◌, arith, inl, inr, ⊎_elim, ◌≢◌, List, [], ◌∷◌}
use Rattle.std.specs.Prelude.{Some}
use Rattle.std.specs.List.{AllByRecursion}
use Rattle.vp_model.specs.Types.{Op, Commit}
use Rattle.vp_model.specs.Words.{keys, value_at}
use Rattle.vp_model.specs.Transactions.{last_writes}
use Rattle.vp_laws.proofs.Journal.Play.{Ascending, last_ascending}
use Rattle.vp_laws.proofs.Lists.Members.{has_none, has_first, has_more, has_right, has_cons, Has}
use Rattle.vp_laws.proofs.Lists.Pairs.{Differ, pair_value}

-- no two entries are of one transaction
abbrev pub Once : List Commit → Type 0
Once [] = Unit {0}
Once (c ∷ cs) = ((d : Commit) → Has cs d → d.txn ≢ c.txn) × Once cs

-- the entries before it and those after it
pub has_split : {X : Type 0} (xs : List X) (x : X) → Has xs x → (front : List X) × (back : List X) × (xs ≡ front ++ x ∷ back)
has_split [] x h = absurd (has_none x h)
has_split (y ∷ ys) x h = ⊎_elim
    (λ (one : y ≡ x). ([], ys, ap (λ (z : _). z ∷ ys) one))
    (λ more. let r = has_split ys x more in (y ∷ r.0, r.1, ap (λ (l : _). y ∷ l) r.2))
    (has_cons y ys x h)

cons_parts : {X : Type 0} (a b : X) (xs ys : List X) → a ∷ xs ≡ b ∷ ys → (a ≡ b) × (xs ≡ ys)
cons_parts a b xs ys e = (cc, cc)

nil_not : {X C : Type 0} (xs : List X) (x : X) (ys : List X) → [] ≡ xs ++ x ∷ ys → C
nil_not [] x ys e = cc
nil_not (z ∷ xs) x ys e = cc

-- an item of a list with one more at the end: it is that one, or has it after it
pub last_split : {X : Type 0} (xs : List X) (g : X) (front : List X) (e : X) (back : List X) → xs ++ g ∷ [] ≡ front ++ e ∷ back → ((e ≡ g) × (back ≡ [])) ⊎ ((b : List X) × (back ≡ b ++ g ∷ []) × (xs ≡ front ++ e ∷ b))
last_split [] g [] e back is = let q = cons_parts g e [] back is in inl (sym q.0, sym q.1)
last_split [] g (f ∷ front) e back is = let q = cons_parts g f [] (front ++ e ∷ back) is in nil_not front e back q.1
last_split (x ∷ xs) g [] e back is = let q = cons_parts x e (xs ++ g ∷ []) back is in inr (xs, sym q.1, ap (λ (z : _). z ∷ xs) q.0)
last_split (x ∷ xs) g (f ∷ front) e back is =
    let q = cons_parts x f (xs ++ g ∷ []) (front ++ e ∷ back) is in
    ⊎_elim (λ end. inl end)
    (λ (r : (b : List _) × (back ≡ b ++ g ∷ []) × (xs ≡ front ++ e ∷ b)). inr (r.0, r.1, ap (λ (l : List _). x ∷ l) r.2 ∙ ap (λ (z : _). z ∷ (front ++ e ∷ r.0)) q.0))
    (last_split xs g front e back q.1)

pub stands : {X : Type 0} (front : List X) (e : X) (back : List X) → Has (front ++ e ∷ back) e
stands front e back = has_right front (e ∷ back) e (has_first e back)

pub stands_behind : {X : Type 0} (front : List X) (e : X) (back : List X) (f : X) → Has back f → Has (front ++ e ∷ back) f
stands_behind front e back f h = has_right front (e ∷ back) f (has_more e back f h)

-- no later entry is of the same transaction
pub once_later : (front back : List Commit) (e f : Commit) → Once (front ++ e ∷ back) → Has back f → f.txn ≢ e.txn
once_later [] back e f h k = h.0 f k
once_later (c ∷ front) back e f h k = once_later front back e f h.1 k

-- what is among the last values is the last value
above_differ : {V : Type 0} (n : ℕ) (ws : List (ℕ × V)) → AllByRecursion (λ (x : ℕ × V). n < x.0) ws → Has (keys ws) n → ⊥
above_differ {V} n [] h k = has_none n k
above_differ {V} n (w ∷ ws) h k = ⊎_elim (λ (one : w.0 ≡ n). not_above n w.0 h.0 one) (λ more. above_differ n ws h.1 more) (has_cons w.0 (keys ws) n k)
  where
    not_above : (a b : ℕ) → a < b → b ≡ a → ⊥
    not_above a b l e = omega arith

pub ascending_differ : {V : Type 0} (ws : List (ℕ × V)) → Ascending ws → Differ (keys ws)
ascending_differ {V} [] h = tt
ascending_differ {V} (w ∷ ws) h = (above_differ w.0 ws h.0, ascending_differ ws h.1)

pub last_value : (ops : List Op) (w : ℕ × Option (List ℕ)) → Has (last_writes ops) w → value_at w.0 (last_writes ops) ≡ Some w.1
last_value ops w h = pair_value (last_writes ops) w.0 w.1 (ascending_differ (last_writes ops) (last_ascending ops)) h
