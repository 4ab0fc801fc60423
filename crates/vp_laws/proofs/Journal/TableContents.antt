-- The table of a record's content after entries is the one that they leave: the catalogue's, or the last one that was given.
use Rattle.std.proofs.Common.{◌≡◌, ◌⊎◌, ◌∙◌, ap, sym, subst, ℕ, Bool, true, false, List, [], ◌∷◌, ◌++◌, refl, arith, inl, inr, ⊎_elim}
use Rattle.std.specs.Prelude.{Option, Some, None, filter, filter_map, not, option_map, slice_get}
use Rattle.std.specs.Option.{option_map_or}
use Rattle.vp_model.specs.Types.{ViewId, Commit}
use Rattle.vp_model.specs.Headline.{table_after}
use Rattle.vp_model.specs.Words.{first_some, for_each, value_at, view_before}
use Rattle.vp_model.specs.Catalogue.{Catalogue, Table, start_values, table_or, weights_of}
use Rattle.vp_model.specs.Justified.{tables_below}
use Rattle.vp_model.specs.OneCopy.{order}
use Rattle.vp_laws.proofs.Lists.Members.{Has, has_none, has_first, has_more, has_cons, has_left, filter_has, filter_keeps}
use Rattle.vp_laws.proofs.Lists.Views.{AtMost, Precedes}
use Rattle.vp_laws.proofs.Journal.LastChanges.{act_table}
use Rattle.vp_laws.proofs.Journal.Order.{order_has}
use Rattle.vp_laws.proofs.Journal.TablesAfter.{given_by, table_one, table_in, table_upto}
use Rattle.vp_laws.proofs.Journal.UpTo.{test_above, up_to_from, upto}
use Rattle.vp_laws.proofs.Journal.ValuesAfter.{Content, started, writes_over, value_in, value_after, value_up_to}

-- the table after entries, in the words of the statements
pub table_same : (catalogue : Catalogue) (rec : ℕ) (es : List Commit) → table_after catalogue rec es ≡ table_in given_by rec (weights_of catalogue rec) es
table_same catalogue rec es = go es (weights_of catalogue rec)
  where
    go : (es : List Commit) (t : Table) → for_each es (λ (e : Commit) t. option_map_or (λ new. new) (value_at rec e.tables) t) t ≡ table_in given_by rec t es
    go [] t = refl
    go (e ∷ es) t = go es (table_one given_by rec e t)

-- one entry
module _ (catalogue : Catalogue) (rec : ℕ) where
  one_more : (e : Commit) (c : Content) → table_or catalogue rec (writes_over rec e c).table ≡ table_one given_by rec e (table_or catalogue rec c.table)
  one_more e c = ap (table_or catalogue rec) (act_table e rec c) ∙ go (value_at rec e.tables) c.table
    where
      go : (o own : Option Table) → table_or catalogue rec (first_some o own) ≡ option_map_or (λ new. new) o (table_or catalogue rec own)
      go None own = refl
      go (Some table) own = refl

  among : (c : Content) (es : List Commit) → table_or catalogue rec (value_in rec c es).table ≡ table_in given_by rec (table_or catalogue rec c.table) es
  among c [] = refl
  among c (e ∷ es) = among (writes_over rec e c) es ∙ ap (λ (t : Table). table_in given_by rec t es) (one_more e c)

  -- the content after the entries of views up to one has the table that they leave
  pub content_table : (journal : List Commit) (date : ViewId) (c : Content) → value_after catalogue journal date rec ≡ Some c → table_or catalogue rec c.table ≡ table_upto given_by rec (weights_of catalogue rec) journal date
  content_table journal date c e = go (slice_get (start_values catalogue) rec) e
    where
      go : (o : Option (Option (List ℕ))) → option_map (λ start. value_up_to rec (started start) journal date) o ≡ Some c → table_or catalogue rec c.table ≡ table_upto given_by rec (weights_of catalogue rec) journal date
      go None q = cc
      go (Some start) q =
          let same : value_up_to rec (started start) journal date ≡ c = cc in
          ap (λ (c : Content). table_or catalogue rec c.table) (sym same) ∙ among (started start) (upto date (order journal))

  -- where the content has a table of its own an entry gave it
  given_among : (c : Content) (es : List Commit) (t : Table) → (value_in rec c es).table ≡ Some t → (c.table ≡ Some t) ⊎ ((e : Commit) × Has es e × (value_at rec e.tables ≡ Some t))
  given_among c [] t h = inl h
  given_among c (e ∷ es) t h = ⊎_elim
      (λ (now : (writes_over rec e c).table ≡ Some t). go (value_at rec e.tables) refl (sym (act_table e rec c) ∙ now))
      (λ (q : (f : Commit) × Has es f × (value_at rec f.tables ≡ Some t)). inr (q.0, has_more e es q.0 q.1, q.2))
      (given_among (writes_over rec e c) es t h)
    where
      go : (o : Option Table) → value_at rec e.tables ≡ o → first_some o c.table ≡ Some t → (c.table ≡ Some t) ⊎ ((f : Commit) × Has (e ∷ es) f × (value_at rec f.tables ≡ Some t))
      go None n q = inl q
      go (Some table) n q = inr (e, has_first e es, n ∙ q)

  pub content_given : (journal : List Commit) (date : ViewId) (c : Content) (t : Table) → value_after catalogue journal date rec ≡ Some c → c.table ≡ Some t → (e : Commit) × Has journal e × AtMost e.view date × (value_at rec e.tables ≡ Some t)
  content_given journal date c t e own = go (slice_get (start_values catalogue) rec) e
    where
      Goal : Type 0
      Goal = (e : Commit) × Has journal e × AtMost e.view date × (value_at rec e.tables ≡ Some t)

      found : (f : Commit) × Has (upto date (order journal)) f × (value_at rec f.tables ≡ Some t) → Goal
      found q =
          let a = filter_has (λ (f : Commit). not (view_before date f.view)) (order journal) q.0 q.1 in
          (q.0, order_has journal q.0 a.0, up_to_from date q.0.view (no (view_before date q.0.view) a.1), q.2)
        where
          no : (b : Bool) → not b ≡ true → b ≡ false
          no false z = refl
          no true z = cc

      go : (o : Option (Option (List ℕ))) → option_map (λ start. value_up_to rec (started start) journal date) o ≡ Some c → Goal
      go None q = cc
      go (Some start) q =
          let same : value_up_to rec (started start) journal date ≡ c = cc in
          ⊎_elim
          (λ none. absurd (let z = none in cc))
          (λ (f : (f : Commit) × Has (upto date (order journal)) f × (value_at rec f.tables ≡ Some t)). found f)
          (given_among (started start) (upto date (order journal)) t (ap (λ (c : Content). c.table) same ∙ own))

-- what a list is mapped to
mapped_keeps : {X Y : Type 0} (f : X → Option Y) (xs : List X) (x : X) (y : Y) → Has xs x → f x ≡ Some y → Has (filter_map f xs) y
mapped_keeps {X} {Y} f [] x y h e = absurd (has_none x h)
mapped_keeps {X} {Y} f (a ∷ xs) x y h e = go (f a) refl (λ more. mapped_keeps f xs x y more e)
  where
    go : (o : Option Y) → f a ≡ o → (Has xs x → Has (filter_map f xs) y) → Has (filter_map f (a ∷ xs)) y
    go None n rest = rw n (⊎_elim (λ (one : a ≡ x). absurd (let z = sym n ∙ ap f one ∙ e in cc)) (λ more. rest more) (has_cons a xs x h))
    go (Some b) n rest = rw n (⊎_elim
        (λ (one : a ≡ x). let z : Some b ≡ Some y = sym n ∙ ap f one ∙ e in let is : b ≡ y = cc in subst (Has (b ∷ filter_map f xs)) is (has_first b (filter_map f xs)))
        (λ more. has_more b (filter_map f xs) y (rest more))
        (has_cons a xs x h))

mapped_from : {X Y : Type 0} (f : X → Option Y) (xs : List X) (y : Y) → Has (filter_map f xs) y → (x : X) × Has xs x × (f x ≡ Some y)
mapped_from {X} {Y} f [] y h = absurd (has_none y h)
mapped_from {X} {Y} f (a ∷ xs) y h = go (f a) refl (λ more. let q = mapped_from f xs y more in (q.0, has_more a xs q.0 q.1, q.2))
  where
    go : (o : Option Y) → f a ≡ o → (Has (filter_map f xs) y → (x : X) × Has (a ∷ xs) x × (f x ≡ Some y)) → (x : X) × Has (a ∷ xs) x × (f x ≡ Some y)
    go None n later = later (rw n at h)
    go (Some b) n later = ⊎_elim (λ (one : b ≡ y). (a, has_first a xs, n ∙ ap (λ (y : Y). Some y) one)) (λ more. later more) (has_cons b (filter_map f xs) y (rw n at h))

module _ (catalogue : Catalogue) (rec : ℕ) where
  pub tables_start : (journal : List Commit) (view : ViewId) → Has (tables_below catalogue journal rec view) (weights_of catalogue rec)
  tables_start journal view = has_first _ _

  pub tables_given : (journal : List Commit) (view : ViewId) (e : Commit) (t : Table) → Has journal e → value_at rec e.tables ≡ Some t → Precedes e.view view → Has (tables_below catalogue journal rec view) t
  tables_given journal view e t h gave low =
      has_more _ _ t (mapped_keeps (λ (e : Commit). value_at rec e.tables) (filter (λ (e : Commit). view_before e.view view) journal) e t
      (filter_keeps (λ (e : Commit). view_before e.view view) journal e h (test_above e.view view low)) gave)

  -- each is the catalogue's or was given by an entry
  pub tables_from : (journal : List Commit) (view : ViewId) (t : Table) → Has (tables_below catalogue journal rec view) t → (weights_of catalogue rec ≡ t) ⊎ ((e : Commit) × Has journal e × (value_at rec e.tables ≡ Some t))
  tables_from journal view t h = ⊎_elim
      (λ first. inl first)
      (λ later.
      let q = mapped_from (λ (e : Commit). value_at rec e.tables) (filter (λ (e : Commit). view_before e.view view) journal) t later in
      inr (q.0, (filter_has (λ (e : Commit). view_before e.view view) journal q.0 q.1).0, q.2))
      (has_cons (weights_of catalogue rec) _ t h)

  -- they stay among them as the journal grows
  pub tables_grow : (journal more : List Commit) (view : ViewId) (t : Table) → Has (tables_below catalogue journal rec view) t → Has (tables_below catalogue (journal ++ more) rec view) t
  tables_grow journal more view t h = ⊎_elim
      (λ (first : weights_of catalogue rec ≡ t). subst (Has (tables_below catalogue (journal ++ more) rec view)) first (tables_start (journal ++ more) view))
      (λ later.
      let q = mapped_from (λ (e : Commit). value_at rec e.tables) (filter (λ (e : Commit). view_before e.view view) journal) t later in
      let f = filter_has (λ (e : Commit). view_before e.view view) journal q.0 q.1 in
      has_more _ _ t (mapped_keeps (λ (e : Commit). value_at rec e.tables) (filter (λ (e : Commit). view_before e.view view) (journal ++ more)) q.0 t
      (filter_keeps (λ (e : Commit). view_before e.view view) (journal ++ more) q.0 (has_left journal more q.0 f.0) f.1) q.2))
      (has_cons (weights_of catalogue rec) _ t h)

  -- the table of a content of a lower view is among them
  pub content_among : (journal : List Commit) (date view : ViewId) (c : Content) → value_after catalogue journal date rec ≡ Some c → Precedes date view → Has (tables_below catalogue journal rec view) (table_or catalogue rec c.table)
  content_among journal date view c e low = go c.table refl
    where
      lower : (i : ViewId) → AtMost i date → Precedes i view
      lower i le = omega (arith, le, low)

      go : (own : Option Table) → c.table ≡ own → Has (tables_below catalogue journal rec view) (table_or catalogue rec own)
      go None n = tables_start journal view
      go (Some t) n = let q = content_given catalogue rec journal date c t e n in tables_given journal view q.0 t q.1 q.3 (lower q.0.view q.2)
