-- The table of a record that entries leave: those of lower views, or those of views up to one.
use Rattle.std.proofs.Common.{◌≡◌, ◌⊎◌, ◌∙◌, ap, sym, ℕ, ◌*◌, Bool, true, false, cond, List, [], ◌∷◌, refl, inl, inr, arith, ⊎_elim}
use Rattle.std.specs.Prelude.{Option, Some, None, is_some, sum_by, nat_lt, not}
use Rattle.std.specs.Option.{option_map_or}
use Rattle.std.proofs.lemmas.Bool.Decides.{nat_tests}
use Rattle.vp_model.specs.Types.{ViewId, Commit}
use Rattle.vp_model.specs.Words.{keys, view_before, value_at}
use Rattle.vp_model.specs.Catalogue.{weight_inside}
use Rattle.vp_model.specs.OneCopy.{order}
use Rattle.vp_laws.proofs.Lists.Members.{Has, has_first, has_more}
use Rattle.vp_laws.proofs.Lists.Views.{AtMost, Precedes, AtMost-trans, Precedes-at_most, not_both, from_before, same_is, not_before}
use Rattle.vp_laws.proofs.Journal.Order.{order_has}
use Rattle.vp_laws.proofs.Journal.UpTo.{upto, test_above, up_to_from, under, Ascends}
use Rattle.vp_laws.proofs.Journal.Acts.{after as after_all}

-- a table: a weight for each holder
abbrev pub Table : Type 0
Table = List (ℕ × ℕ)

abbrev pub total_of : Table → ℕ
total_of t = sum_by (λ (w : ℕ × ℕ). w.1) t

-- more than half of the weight by this table is at the members
abbrev pub accessible_by : Table → List ℕ → Bool
accessible_by t members = nat_lt (total_of t) (2 * weight_inside members t)

-- the tables that an entry gives
abbrev pub given_by : Commit → List (ℕ × Table)
given_by e = e.tables

-- `tables` are the tables that an entry gives records
module _ (tables : Commit → List (ℕ × Table)) (rec : ℕ) where
  -- the entry changes the table of the record
  abbrev pub weighs : Commit → Bool
  weighs e = is_some (value_at rec (tables e))

  abbrev pub table_one : Commit → Table → Table
  table_one e t = option_map_or (λ new. new) (value_at rec (tables e)) t

  abbrev pub table_in : Table → List Commit → Table
  table_in t es = after_all table_one t es

  -- the table that the entries of views up to this one leave, and the one that those of lower views leave
  abbrev pub table_upto : Table → List Commit → ViewId → Table
  table_upto start journal view = table_in start (upto view (order journal))

  abbrev pub table_below : Table → List Commit → ViewId → Table
  table_below start journal view = table_in start (under view (order journal))

  pub leaves_table : (e : Commit) (t : Table) → weighs e ≡ false → table_one e t ≡ t
  leaves_table e t n = go (value_at rec (tables e)) refl n
    where
      go : (o : Option Table) → value_at rec (tables e) ≡ o → is_some o ≡ false → option_map_or (λ new. new) o t ≡ t
      go None q m = refl
      go (Some new) q m = cc

  -- where no entry between two views changes the table, it is the same
  pub same_among : (v u : ViewId) (t : Table) (es : List Commit) → Precedes v u → ((f : Commit) → Has es f → Precedes v f.view → Precedes f.view u → weighs f ≡ false) → table_in t (under u es) ≡ table_in t (upto v es)
  same_among v u t [] p none = refl
  same_among v u t (e ∷ es) p none = go (view_before v e.view) (view_before e.view u) refl refl (λ s. same_among v u s es p (λ f q. none f (has_more e es f q)))
    where
      go : (a b : Bool) → view_before v e.view ≡ a → view_before e.view u ≡ b → ((s : Table) → table_in s (under u es) ≡ table_in s (upto v es)) → table_in t (cond b (e ∷ under u es) (under u es)) ≡ table_in t (cond (not a) (e ∷ upto v es) (upto v es))
      go true true q r rest = ap (λ (s : Table). table_in s (under u es)) (leaves_table e t (none e (has_first e es) (from_before v e.view q) (from_before e.view u r))) ∙ rest t
      go true false q r rest = rest t
      go false true q r rest = rest (table_one e t)
      go false false q r rest = absurd (apart (up_to_from v e.view q) r)
        where
          apart : AtMost e.view v → view_before e.view u ≡ false → ⊥
          apart a b = let c = up_to_from e.view u b in grind (arith, p, a, c)

  pub same_between : (v u : ViewId) (start : Table) (journal : List Commit) → Precedes v u → ((f : Commit) → Has journal f → Precedes v f.view → Precedes f.view u → weighs f ≡ false) → table_below start journal u ≡ table_upto start journal v
  same_between v u start journal p none = same_among v u start (order journal) p (λ f h a b. none f (order_has journal f h) a b)

  -- the table after the entries up to a view is the one below it, or the one that an entry of the view gave
  pub last_among : (v : ViewId) (t : Table) (es : List Commit) → Ascends es → (table_in t (upto v es) ≡ table_in t (under v es)) ⊎ ((e : Commit) × Has es e × (e.view ≡ v) × (value_at rec (tables e) ≡ Some (table_in t (upto v es))))
  last_among v t [] h = inl refl
  last_among v t (e ∷ es) h = go (view_before v e.view) (view_before e.view v) refl refl (λ s. last_among v s es h.1)
    where
      Goal : Table → Table → List Commit → Type 0
      Goal a b l = (a ≡ b) ⊎ ((e : Commit) × Has l e × (e.view ≡ v) × (value_at rec (tables e) ≡ Some a))

      none_low : AtMost v e.view → under v es ≡ []
      none_low le = nothing es (λ f q. AtMost-trans v e.view f.view le (h.0 f q))
        where
          nothing : (l : List Commit) → ((f : Commit) → Has l f → AtMost v f.view) → under v l ≡ []
          nothing [] k = refl
          nothing (f ∷ l) k = let z = not_before f.view v (k f (has_first f l)) in rw z (nothing l (λ g q. k g (has_more f l g q)))

      none_high : Precedes v e.view → upto v es ≡ []
      none_high le = nothing es (λ f q. above f.view (h.0 f q))
        where
          above : (i : ViewId) → AtMost e.view i → Precedes v i
          above i k = omega (arith, le, k)

          nothing : (l : List Commit) → ((f : Commit) → Has l f → Precedes v f.view) → upto v l ≡ []
          nothing [] k = refl
          nothing (f ∷ l) k = let z = test_above v f.view (k f (has_first f l)) in rw z (nothing l (λ g q. k g (has_more f l g q)))

      later : (a b : Table) → Goal a b es → Goal a b (e ∷ es)
      later a b g = ⊎_elim (λ same. inl same) (λ (q : (e : Commit) × Has es e × (e.view ≡ v) × (value_at rec (tables e) ≡ Some a)). inr (q.0, has_more e es q.0 q.1, q.2, q.3)) g

      -- an entry of the view itself
      level : e.view ≡ v → under v es ≡ [] → ((s : Table) → Goal (table_in s (upto v es)) (table_in s (under v es)) es) → Goal (table_in (table_one e t) (upto v es)) (table_in t (under v es)) (e ∷ es)
      level is low rest = ⊎_elim
          (λ (same : table_in (table_one e t) (upto v es) ≡ table_in (table_one e t) (under v es)). first (value_at rec (tables e)) refl (same ∙ ap (table_in (table_one e t)) low))
          (λ (q : (f : Commit) × Has es f × (f.view ≡ v) × (value_at rec (tables f) ≡ Some (table_in (table_one e t) (upto v es)))). inr (q.0, has_more e es q.0 q.1, q.2, q.3))
          (rest (table_one e t))
        where
          first : (o : Option Table) → value_at rec (tables e) ≡ o → table_in (table_one e t) (upto v es) ≡ table_one e t → Goal (table_in (table_one e t) (upto v es)) (table_in t (under v es)) (e ∷ es)
          first None n same = inl (same ∙ leaves_table e t (rw n refl) ∙ sym (ap (table_in t) low))
          first (Some new) n same = inr (e, has_first e es, is, n ∙ ap (λ (t : Table). Some t) (sym (same ∙ rw n refl)))

      go : (a b : Bool) → view_before v e.view ≡ a → view_before e.view v ≡ b → ((s : Table) → Goal (table_in s (upto v es)) (table_in s (under v es)) es) → Goal (table_in t (cond (not a) (e ∷ upto v es) (upto v es))) (table_in t (cond b (e ∷ under v es) (under v es))) (e ∷ es)
      go true true q r rest = absurd (not_both v e.view (from_before v e.view q) (Precedes-at_most e.view v (from_before e.view v r)))
      go true false q r rest = inl (ap (table_in t) (none_high (from_before v e.view q) ∙ sym (none_low (Precedes-at_most v e.view (from_before v e.view q)))))
      go false true q r rest = later _ _ (rest (table_one e t))
      go false false q r rest = level (equal (up_to_from v e.view q) (up_to_from e.view v r)) (none_low (up_to_from e.view v r)) rest
        where
          equal : AtMost e.view v → AtMost v e.view → e.view ≡ v
          equal a b = same_is e.view v (grind (arith, nat_tests, a, b))

  -- a table that is reached has the sites of the first one, where each change has
  pub sites_among : (sites : List ℕ) (t : Table) (es : List Commit) → keys t ≡ sites → ((f : Commit) (new : Table) → Has es f → value_at rec (tables f) ≡ Some new → keys new ≡ sites) → keys (table_in t es) ≡ sites
  sites_among sites t [] h all = h
  sites_among sites t (e ∷ es) h all = sites_among sites (table_one e t) es (go (value_at rec (tables e)) refl) (λ f new q is. all f new (has_more e es f q) is)
    where
      go : (o : Option Table) → value_at rec (tables e) ≡ o → keys (option_map_or (λ new. new) o t) ≡ sites
      go None q = h
      go (Some new) q = all e new (has_first e es) q
