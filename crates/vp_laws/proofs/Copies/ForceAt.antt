-- The table in force as the journal grows, and at an entry's place in the order.
use Rattle.std.proofs.Common.{◌≡◌, ◌⊎◌, ◌∙◌, ap, sym, subst, ℕ, Bool, true, false, List, [], ◌∷◌, ◌++◌, refl, inl, inr, ⊎_elim}
use Rattle.std.specs.Prelude.{Option, Some, None}
use Rattle.std.proofs.lemmas.List.{append-nil}
use Rattle.std.proofs.lemmas.List.Elements.{filter-append}
use Rattle.vp_model.specs.Types.{ViewId, View, Commit}
use Rattle.vp_model.specs.Words.{view_before, same_view, value_at}
use Rattle.vp_model.specs.Catalogue.{Catalogue, weights_of}
use Rattle.vp_model.specs.OneCopy.{order}
use Rattle.vp_laws.proofs.Lists.Members.{Has, has_none, has_first, has_more, has_cons, has_left, has_right, filter_has}
use Rattle.vp_laws.proofs.Lists.Views.{AtMost, Precedes, AtMost-refl, from_before, same_is}
use Rattle.vp_laws.proofs.Journal.Order.{Split, order_has, order_more}
use Rattle.vp_laws.proofs.Worlds.Scenes.{Scene}
use Rattle.vp_laws.proofs.Invariant.Entered.{AgreedAs}
use Rattle.vp_laws.proofs.Journal.TablesAfter.{Table, accessible_by, weighs, table_one, table_in, table_below, leaves_table}
use Rattle.vp_laws.proofs.Copies.Force.{below, Weighed}
use Rattle.vp_laws.proofs.Journal.Acts.{level, upto_parts, nothing_under, after_append}
use Rattle.vp_laws.proofs.Journal.UpTo.{upto_all, under, Ascends, order_ascends}

-- in an ascending list nothing is above what comes later, and below what came before
before_low : (before behind : List Commit) (e : Commit) → Ascends (before ++ e ∷ behind) → (f : Commit) → Has before f → AtMost f.view e.view
before_low [] behind e h f q = absurd (has_none f q)
before_low (b ∷ before) behind e h f q = ⊎_elim
    (λ (one : b ≡ f). subst (λ (g : Commit). AtMost g.view e.view) one (h.0 e (has_right before (e ∷ behind) e (has_first e behind))))
    (λ more. before_low before behind e h.1 f more)
    (has_cons b before f q)

before_ascends : (before behind : List Commit) → Ascends (before ++ behind) → Ascends before
before_ascends [] behind h = tt
before_ascends (b ∷ before) behind h = ((λ f q. h.0 f (has_left before behind f q)), before_ascends before behind h.1)

behind_high : (before behind : List Commit) (e : Commit) → Ascends (before ++ e ∷ behind) → (f : Commit) → Has (e ∷ behind) f → AtMost e.view f.view
behind_high [] behind e h f q = ⊎_elim (λ (one : e ≡ f). rw one (AtMost-refl f.view)) (λ more. h.0 f more) (has_cons e behind f q)
behind_high (b ∷ before) behind e h f q = behind_high before behind e h.1 f q

module _ (tables : Commit → List (ℕ × Table)) (rec : ℕ) where
  -- an entry of no lower view, or one that does not change the table, leaves the one in force
  pub below_more : (start : Table) (journal : List Commit) (e : Commit) (view : ViewId) → (Precedes e.view view → weighs tables rec e ≡ true → ⊥) → table_below tables rec start (journal ++ e ∷ []) view ≡ table_below tables rec start journal view
  below_more start journal e view none = go (view_before e.view view) (weighs tables rec e) refl refl
    where
      s : Split e (order journal) (order (journal ++ e ∷ []))
      s = order_more journal e

      now : under view (order (journal ++ e ∷ [])) ≡ under view s.before ++ under view (e ∷ s.behind)
      now = ap (under view) s.now ∙ filter-append (λ (f : Commit). view_before f.view view) s.before (e ∷ s.behind)

      was : under view (order journal) ≡ under view s.before ++ under view s.behind
      was = ap (under view) s.was ∙ filter-append (λ (f : Commit). view_before f.view view) s.before s.behind

      go : (a b : Bool) → view_before e.view view ≡ a → weighs tables rec e ≡ b → table_below tables rec start (journal ++ e ∷ []) view ≡ table_below tables rec start journal view
      go false b p q =
          let same : under view (e ∷ s.behind) ≡ under view s.behind = rw p refl in
          ap (table_in tables rec start) (now ∙ ap (λ (l : List Commit). under view s.before ++ l) same ∙ sym was)
      go true true p q = absurd (none (from_before e.view view p) q)
      go true false p q =
          let first : under view (e ∷ s.behind) ≡ e ∷ under view s.behind = rw p refl in
          ap (table_in tables rec start) (now ∙ ap (λ (l : List Commit). under view s.before ++ l) first)
          ∙ after_append (table_one tables rec) start (under view s.before) (e ∷ under view s.behind)
          ∙ ap (λ (t : Table). table_in tables rec t (under view s.behind)) (leaves_table tables rec e (table_in tables rec start (under view s.before)) q)
          ∙ sym (ap (table_in tables rec start) was ∙ after_append (table_one tables rec) start (under view s.before) (under view s.behind))

  -- a table after entries is the one before them, or the one that one of them gave
  given_last : (t : Table) (es : List Commit) → (table_in tables rec t es ≡ t) ⊎ ((f : Commit) × Has es f × (value_at rec (tables f) ≡ Some (table_in tables rec t es)))
  given_last t [] = inl refl
  given_last t (e ∷ es) = go (value_at rec (tables e)) refl (given_last (table_one tables rec e t) es)
    where
      go : (o : Option Table) → value_at rec (tables e) ≡ o → (table_in tables rec (table_one tables rec e t) es ≡ table_one tables rec e t) ⊎ ((f : Commit) × Has es f × (value_at rec (tables f) ≡ Some (table_in tables rec (table_one tables rec e t) es))) → (table_in tables rec (table_one tables rec e t) es ≡ t) ⊎ ((f : Commit) × Has (e ∷ es) f × (value_at rec (tables f) ≡ Some (table_in tables rec (table_one tables rec e t) es)))
      go None n rest = ⊎_elim
          (λ same. inl (same ∙ leaves_table tables rec e t (rw n refl)))
          (λ (q : (f : Commit) × Has es f × (value_at rec (tables f) ≡ Some (table_in tables rec (table_one tables rec e t) es))). inr (q.0, has_more e es q.0 q.1, q.2))
          rest
      go (Some new) n rest = ⊎_elim
          (λ same. inr (e, has_first e es, n ∙ ap (λ (t : Table). Some t) (sym (same ∙ rw n refl))))
          (λ (q : (f : Commit) × Has es f × (value_at rec (tables f) ≡ Some (table_in tables rec (table_one tables rec e t) es))). inr (q.0, has_more e es q.0 q.1, q.2))
          rest

  -- at its place in the order an entry's view has more than half by the table then in force, where it has by the one of lower views
  pub in_force_at : (catalogue : Catalogue) (w : Scene) → Weighed tables rec catalogue w → (before behind : List Commit) (e : Commit) (v : View) → order w.journal ≡ before ++ e ∷ behind → AgreedAs w e.view v → accessible_by (below tables rec catalogue w e.view) v.members ≡ true → accessible_by (table_in tables rec (weights_of catalogue rec) before) v.members ≡ true
  in_force_at catalogue w inv before behind e v is agreed usable = ⊎_elim
      (λ (same : table_in tables rec low (level e.view before) ≡ low). subst (λ (t : Table). accessible_by t v.members ≡ true) (sym (parts ∙ same ∙ sym under_is)) usable)
      (λ (q : (f : Commit) × Has (level e.view before) f × (value_at rec (tables f) ≡ Some (table_in tables rec low (level e.view before)))).
      let k = filter_has (λ (g : Commit). same_view g.view e.view) before q.0 q.1 in
      let there : Has w.journal q.0 = order_has w.journal q.0 (subst (λ (l : List Commit). Has l q.0) (sym is) (has_left before (e ∷ behind) q.0 k.0)) in
      subst (λ (t : Table). accessible_by t v.members ≡ true) (sym parts) (inv.majority q.0 v (table_in tables rec low (level e.view before)) there q.2 (agreed.0, agreed.1 ∙ sym (same_is q.0.view e.view k.1))))
      (given_last low (level e.view before))
    where
      start : Table
      start = weights_of catalogue rec

      all : Ascends (before ++ e ∷ behind)
      all = subst Ascends is (order_ascends w.journal)

      low : Table
      low = table_in tables rec start (under e.view before)

      parts : table_in tables rec start before ≡ table_in tables rec low (level e.view before)
      parts =
          ap (table_in tables rec start) (sym (upto_all e.view before (before_low before behind e all)) ∙ upto_parts e.view before (before_ascends before (e ∷ behind) all))
          ∙ after_append (table_one tables rec) start (under e.view before) (level e.view before)

      under_is : below tables rec catalogue w e.view ≡ low
      under_is = ap (table_in tables rec start) (ap (under e.view) is ∙ filter-append (λ (f : Commit). view_before f.view e.view) before (e ∷ behind) ∙ ap (λ (l : List Commit). under e.view before ++ l) (nothing_under e.view (e ∷ behind) (behind_high before behind e all)) ∙ append-nil (under e.view before))
