-- The table of a record that the entries of lower views leave, and the walk from a view up to a higher one through the views that
-- changed the table: some holder in the lower view is in a view above it for which the record is closed.
use Rattle.std.proofs.Common.{◌≡◌, ◌⊎◌, ◌∙◌, ap, sym, subst, ℕ, ◌*◌, Bool, true, false, List, [], ◌∷◌, refl, inl, inr, arith, ⊎_elim}
use Rattle.std.specs.Prelude.{Some, not, ◌&&◌}
use Rattle.std.proofs.lemmas.Bool.{ltb-true}
use Rattle.std.proofs.lemmas.Bool.Decides.{nat_tests}
use Rattle.vp_model.specs.Types.{ViewId, View, Commit}
use Rattle.vp_model.specs.Words.{keys, view_before, value_at}
use Rattle.vp_model.specs.Catalogue.{Catalogue, holders, weights_of, weight_inside}
use Rattle.vp_model.specs.OneCopy.{order}
use Rattle.vp_catalog.proofs.Majorities.{majorities_share}
use Rattle.vp_laws.proofs.Lists.Members.{Has, has_none, has_first, has_more, has_cons, has_from_test, both_true, filter_has, has_of}
use Rattle.vp_laws.proofs.Lists.Changes.{mapped_has}
use Rattle.vp_laws.proofs.Lists.Views.{AtMost, Precedes, AtMost-refl, AtMost-trans, Precedes-at_most, not_both, from_before}
use Rattle.vp_laws.proofs.Journal.Order.{Precedes-trans, order_has}
use Rattle.vp_laws.proofs.Worlds.Scenes.{Scene}
use Rattle.vp_laws.proofs.Invariant.Entered.{AgreedAs}
use Rattle.vp_laws.proofs.Journal.UpTo.{upto, test_above, up_to_from, order_ascends}
use Rattle.vp_laws.proofs.Journal.TablesAfter.{Table, total_of, accessible_by, weighs, table_upto, table_below, same_between, last_among, sites_among}
use Rattle.vp_laws.proofs.Invariant.Closed.{ClosedAt, Closed}

-- two majorities by one table share one of its holders
pub shared_by : (t : Table) (sites others : List ℕ) → accessible_by t sites ≡ true → accessible_by t others ≡ true → (q : ℕ) × Has (keys t) q × Has sites q × Has others q
shared_by t sites others a b =
    let q = majorities_share t sites others (ltb-true (total_of t) (2 * weight_inside sites t) a) (ltb-true (total_of t) (2 * weight_inside others t) b) in
    (q.holder.0, mapped_has (λ (w : ℕ × ℕ). w.0) t q.holder (has_of t q.holder q.listed), has_from_test sites q.holder.0 q.inside, has_from_test others q.holder.0 q.among_others)

-- the least view of the entries that pass a test, or none passes
pub record Least (test : Commit → Bool) (es : List Commit) : Type 0 where
  pub entry : Commit
  pub there : Has es entry
  pub passes : test entry ≡ true
  pub least : (f : Commit) → Has es f → test f ≡ true → AtMost entry.view f.view

view_cases : (a b : ViewId) → AtMost a b ⊎ AtMost b a
view_cases a b = go (view_before a b) refl
  where
    go : (c : Bool) → view_before a b ≡ c → AtMost a b ⊎ AtMost b a
    go true e = inl (Precedes-at_most a b (from_before a b e))
    go false e = inr (up_to_from a b e)

pub find_least : (test : Commit → Bool) (es : List Commit) → Least test es ⊎ ((f : Commit) → Has es f → test f ≡ false)
find_least test [] = inr (λ f h. absurd (has_none f h))
find_least test (e ∷ es) = go (test e) refl (find_least test es)
  where
    alone : test e ≡ true → ((f : Commit) → Has es f → test f ≡ false) → Least test (e ∷ es)
    alone p none = record {
      entry = e;
      there = has_first e es;
      passes = p;
      least = λ f h q. ⊎_elim (λ (one : e ≡ f). rw one (AtMost-refl f.view)) (λ more. absurd (let z = none f more in cc)) (has_cons e es f h);
    }

    both : test e ≡ true → Least test es → Least test (e ∷ es)
    both p r = ⊎_elim
        (λ (le : AtMost e.view r.entry.view). record {
          entry = e;
          there = has_first e es;
          passes = p;
          least = λ f h q. ⊎_elim (λ (one : e ≡ f). rw one (AtMost-refl f.view)) (λ more. AtMost-trans e.view r.entry.view f.view le (r.least f more q)) (has_cons e es f h);
        })
        (λ (ge : AtMost r.entry.view e.view). record {
          entry = r.entry;
          there = has_more e es r.entry r.there;
          passes = r.passes;
          least = λ f h q. ⊎_elim (λ (one : e ≡ f). subst (λ (g : Commit). AtMost r.entry.view g.view) one ge) (λ more. r.least f more q) (has_cons e es f h);
        })
        (view_cases e.view r.entry.view)

    skip : test e ≡ false → Least test es → Least test (e ∷ es)
    skip p r = record {
      entry = r.entry;
      there = has_more e es r.entry r.there;
      passes = r.passes;
      least = λ f h q. ⊎_elim (λ (one : e ≡ f). absurd (let z : test f ≡ false = rw (← one) p in cc)) (λ more. r.least f more q) (has_cons e es f h);
    }

    go : (b : Bool) → test e ≡ b → Least test es ⊎ ((f : Commit) → Has es f → test f ≡ false) → Least test (e ∷ es) ⊎ ((f : Commit) → Has (e ∷ es) f → test f ≡ false)
    go true p rest = ⊎_elim (λ r. inl (both p r)) (λ none. inl (alone p none)) rest
    go false p rest = ⊎_elim (λ r. inl (skip p r)) (λ none. inr (λ f h. ⊎_elim (λ (one : e ≡ f). rw (← one) p) (λ more. none f more) (has_cons e es f h))) rest

module _ (tables : Commit → List (ℕ × Table)) (rec : ℕ) where
  module _ (catalogue : Catalogue) (w : Scene) where
    abbrev pub below : ViewId → Table
    below view = table_below tables rec (weights_of catalogue rec) w.journal view

    abbrev pub after : ViewId → Table
    after view = table_upto tables rec (weights_of catalogue rec) w.journal view

    -- what the invariant says of the entries that change the table of the record
    pub record Weighed : Type 0 where
      -- the record is accessible in the view by the table that lower views leave
      pub usable : (e : Commit) (v : View) → Has w.journal e → weighs tables rec e ≡ true → AgreedAs w e.view v → accessible_by (below e.view) v.members ≡ true
      -- and by the new table, which has the record's holders
      pub majority : (e : Commit) (v : View) (t : Table) → Has w.journal e → value_at rec (tables e) ≡ Some t → AgreedAs w e.view v → accessible_by t v.members ≡ true
      pub sites : (e : Commit) (t : Table) → Has w.journal e → value_at rec (tables e) ≡ Some t → keys t ≡ holders catalogue rec
      -- it is closed for the view
      pub closed : (e : Commit) (v : View) → Has w.journal e → weighs tables rec e ≡ true → AgreedAs w e.view v → Closed catalogue w rec v
      -- which is agreed
      pub agreed : (e : Commit) → Has w.journal e → (v : View) × AgreedAs w e.view v

    -- a holder in the view that is in a higher one for which the record is closed
    pub record Met (v : View) : Type 0 where
      pub site : ℕ
      pub holder : Has (holders catalogue rec) site
      pub member : Has v.members site
      pub up : ViewId
      pub above : Precedes v.id up
      pub closed : ClosedAt w site rec up

    module _ (inv : Weighed) where
      sites_after : (view : ViewId) → keys (after view) ≡ holders catalogue rec
      sites_after view = sites_among tables rec (holders catalogue rec) (weights_of catalogue rec) (upto view (order w.journal)) refl (λ f new h is. inv.sites f new (order_has w.journal f (filter_has (λ (e : Commit). not (view_before view e.view)) (order w.journal) f h).0) is)

      -- by the table that its own entries leave too, where the view has more than half by the one that lower views leave
      pub usable_after : (v : View) → Has w.agreed v → accessible_by (below v.id) v.members ≡ true → accessible_by (after v.id) v.members ≡ true
      usable_after v agreed usable = ⊎_elim
          (λ (same : after v.id ≡ below v.id). rw same usable)
          (λ (q : (e : Commit) × Has (order w.journal) e × (e.view ≡ v.id) × (value_at rec (tables e) ≡ Some (after v.id))). inv.majority q.0 v (after v.id) (order_has w.journal q.0 q.1) q.3 (agreed, sym q.2))
          (last_among tables rec v.id (weights_of catalogue rec) (order w.journal) (order_ascends w.journal))

      -- from a view in which the record is accessible by the table that views up to it leave, to a closed one above it
      pub walk_up : (v u : View) → Precedes v.id u.id → accessible_by (after v.id) v.members ≡ true → accessible_by (below u.id) u.members ≡ true → Closed catalogue w rec u → Met v
      walk_up v u p here there closed = ⊎_elim through straight (find_least between w.journal)
        where
          between : Commit → Bool
          between e = weighs tables rec e && (view_before v.id e.view && view_before e.view u.id)

          parts : (e : Commit) → between e ≡ true → (weighs tables rec e ≡ true) × Precedes v.id e.view × Precedes e.view u.id
          parts e t =
              let a = both_true (weighs tables rec e) (view_before v.id e.view && view_before e.view u.id) t in
              let b = both_true (view_before v.id e.view) (view_before e.view u.id) a.1 in
              (a.0, from_before v.id e.view b.0, from_before e.view u.id b.1)

          met : (z : View) → Precedes v.id z.id → below z.id ≡ after v.id → accessible_by (below z.id) z.members ≡ true → Closed catalogue w rec z → Met v
          met z above same usable shut =
              let q = shared_by (after v.id) v.members z.members here (rw (← same) usable) in
              let holder = subst (λ (sites : List ℕ). Has sites q.0) (sites_after v.id) q.1 in
              record { site = q.0; holder = holder; member = q.2; up = z.id; above = above; closed = shut q.0 holder q.3 }

          straight : ((f : Commit) → Has w.journal f → between f ≡ false) → Met v
          straight none = met u p (same_between tables rec v.id u.id (weights_of catalogue rec) w.journal p (λ f h a b. unweighed (weighs tables rec f) f refl h a b)) there closed
            where
              unweighed : (b : Bool) (f : Commit) → weighs tables rec f ≡ b → Has w.journal f → Precedes v.id f.view → Precedes f.view u.id → weighs tables rec f ≡ false
              unweighed false f e h a b = e
              unweighed true f e h a b = absurd (let x = test_above v.id f.view a in let y = test_above f.view u.id b in let z = none f h in grind (arith, nat_tests, e, x, y, z))

          through : Least between w.journal → Met v
          through r =
              let t = parts r.entry r.passes in
              let z = inv.agreed r.entry r.there in
              let same : below r.entry.view ≡ after v.id = same_between tables rec v.id r.entry.view (weights_of catalogue rec) w.journal t.1 (λ f h a b. unweighed f h a b) in
              met z.0 (subst (Precedes v.id) (sym z.1.1) t.1) (ap below z.1.1 ∙ same) (subst (λ (i : ViewId). accessible_by (below i) z.0.members ≡ true) (sym z.1.1) (inv.usable r.entry z.0 r.there t.0 z.1)) (inv.closed r.entry z.0 r.there t.0 z.1)
            where
              unweighed : (f : Commit) → Has w.journal f → Precedes v.id f.view → Precedes f.view r.entry.view → weighs tables rec f ≡ false
              unweighed f h a b = go (weighs tables rec f) refl
                where
                  go : (c : Bool) → weighs tables rec f ≡ c → weighs tables rec f ≡ false
                  go false e = e
                  go true e =
                      let t = parts r.entry r.passes in
                      let x = test_above v.id f.view a in
                      let y = test_above f.view u.id (Precedes-trans f.view r.entry.view u.id b t.2) in
                      let m : between f ≡ true = rw (e, x, y) refl in
                      absurd (not_both f.view r.entry.view b (r.least f h m))

      -- where a view has more than half by the table that the entries up to a date leave, and each holder in it would have told of an
      -- entry between that changed the record, there is none, and that table is the one that lower views leave
      module _ (changed : Commit → Bool) (too : (e : Commit) → weighs tables rec e ≡ true → changed e ≡ true) (usable : (e : Commit) (v : View) → Has w.journal e → changed e ≡ true → AgreedAs w e.view v → accessible_by (below e.view) v.members ≡ true) (date : ViewId) (u : View) (here : accessible_by (after date) u.members ≡ true) (missed : (e : Commit) (v : View) (q : ℕ) → Has w.journal e → changed e ≡ true → AgreedAs w e.view v → Precedes date e.view → Precedes e.view u.id → Has (holders catalogue rec) q → Has v.members q → Has u.members q → ⊥) where
        abbrev between : Commit → Bool
        between e = changed e && (view_before date e.view && view_before e.view u.id)

        parts : (e : Commit) → between e ≡ true → (changed e ≡ true) × Precedes date e.view × Precedes e.view u.id
        parts e t =
            let a = both_true (changed e) (view_before date e.view && view_before e.view u.id) t in
            let b = both_true (view_before date e.view) (view_before e.view u.id) a.1 in
            (a.0, from_before date e.view b.0, from_before e.view u.id b.1)

        no_least : Least between w.journal → ⊥
        no_least r =
            let t = parts r.entry r.passes in
            let z = inv.agreed r.entry r.there in
            let same : below r.entry.view ≡ after date = same_between tables rec date r.entry.view (weights_of catalogue rec) w.journal t.1 unweighed in
            let q = shared_by (after date) z.0.members u.members (rw (← same) (usable r.entry z.0 r.there t.0 z.1)) here in
            missed r.entry z.0 q.0 r.there t.0 z.1 t.1 t.2 (subst (λ (sites : List ℕ). Has sites q.0) (sites_after date) q.1) q.2 q.3
          where
            unweighed : (f : Commit) → Has w.journal f → Precedes date f.view → Precedes f.view r.entry.view → weighs tables rec f ≡ false
            unweighed f h a b = go (weighs tables rec f) refl
              where
                go : (c : Bool) → weighs tables rec f ≡ c → weighs tables rec f ≡ false
                go false e = e
                go true e =
                    let t = parts r.entry r.passes in
                    let x = test_above date f.view a in
                    let y = test_above f.view u.id (Precedes-trans f.view r.entry.view u.id b t.2) in
                    let m : between f ≡ true = rw (too f e, x, y) refl in
                    absurd (not_both f.view r.entry.view b (r.least f h m))

        pub none_between : (f : Commit) → Has w.journal f → changed f ≡ true → Precedes date f.view → Precedes f.view u.id → ⊥
        none_between f h c a b = ⊎_elim no_least
            (λ (none : (f : Commit) → Has w.journal f → between f ≡ false).
            let x = test_above date f.view a in
            let y = test_above f.view u.id b in
            let m : between f ≡ true = rw (c, x, y) refl in
            let z = none f h in cc)
            (find_least between w.journal)

        pub in_force : Precedes date u.id → below u.id ≡ after date
        in_force p = same_between tables rec date u.id (weights_of catalogue rec) w.journal p (λ f h a b. still f h a b (weighs tables rec f) refl)
          where
            still : (f : Commit) → Has w.journal f → Precedes date f.view → Precedes f.view u.id → (c : Bool) → weighs tables rec f ≡ c → weighs tables rec f ≡ false
            still f h a b false e = e
            still f h a b true e = absurd (none_between f h (too f e) a b)
