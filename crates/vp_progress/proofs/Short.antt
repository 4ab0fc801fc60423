-- A majority by the table that all entries leave: no bar stands in its view.
use Rattle.std.proofs.Common.{◌≡◌, ◌∙◌, sym, subst, ℕ, Bool, true, false, List, [], ◌∷◌, refl, ⊎_elim, inr}
use Rattle.vp_model.specs.Types.{ViewId, View, Commit}
use Rattle.vp_model.specs.Words.{keys, view_before}
use Rattle.vp_model.specs.Catalogue.{Catalogue, holders, weights_of}
use Rattle.vp_model.specs.OneCopy.{order}
use Rattle.vp_laws.proofs.Lists.Members.{Has, has_first, has_more, filter_has}
use Rattle.vp_laws.proofs.Lists.Views.{AtMost, Precedes, not_both, from_before, three_ways}
use Rattle.vp_laws.proofs.Worlds.Scenes.{Scene, promise_at}
use Rattle.vp_laws.proofs.Journal.Order.{order_has}
use Rattle.vp_laws.proofs.Journal.UpTo.{upto, under}
use Rattle.vp_laws.proofs.Journal.TablesAfter.{Table, given_by, accessible_by, weighs, table_one, table_in, table_upto, leaves_table, same_between, sites_among}
use Rattle.vp_laws.proofs.Invariant.Invariant.{Invariant}
use Rattle.vp_laws.proofs.Copies.Force.{usable_after, shared_by}
use Rattle.vp_laws.proofs.Copies.Weights.{weighed_wrote, known_weighed}
use Rattle.vp_laws.proofs.Order.Short.{Greatest, find_greatest, IsShort}

module _ (catalogue : Catalogue) (w : Scene) (n : Invariant catalogue w) (rec : ℕ) where
  abbrev pub table_of_all : Table
  table_of_all = table_in given_by rec (weights_of catalogue rec) (order w.journal)

  pub all_sites : keys table_of_all ≡ holders catalogue rec
  all_sites = sites_among given_by rec (holders catalogue rec) (weights_of catalogue rec) (order w.journal) refl (λ f new h is. (known_weighed catalogue w n.known n.refresh rec).sites f new (order_has w.journal f h) is)

  unweighed_all : (t : Table) (es : List Commit) → ((f : Commit) → Has es f → weighs given_by rec f ≡ false) → table_in given_by rec t es ≡ t
  unweighed_all t [] none = refl
  unweighed_all t (e ∷ es) none = unweighed_all (table_one given_by rec e t) es (λ f h. none f (has_more e es f h)) ∙ leaves_table given_by rec e t (none e (has_first e es))

  pub all_upto : (v : ViewId) (t : Table) (es : List Commit) → ((f : Commit) → Has es f → Precedes v f.view → weighs given_by rec f ≡ false) → table_in given_by rec t es ≡ table_in given_by rec t (upto v es)
  all_upto v t [] none = refl
  all_upto v t (e ∷ es) none = go (view_before v e.view) refl (λ s. all_upto v s es (λ f h. none f (has_more e es f h)))
    where
      go : (b : Bool) → view_before v e.view ≡ b → ((s : Table) → table_in given_by rec s es ≡ table_in given_by rec s (upto v es)) → table_in given_by rec (table_one given_by rec e t) es ≡ table_in given_by rec t (upto v (e ∷ es))
      go true q rest = let z = leaves_table given_by rec e t (none e (has_first e es) (from_before v e.view q)) in rw (q, z) (rest t)
      go false q rest = rw q (rest (table_one given_by rec e t))

  -- where each member of the view has promised no more, and they have more than half by that table, no bar of the view stands
  pub majority_stands : (v : View) → Has w.agreed v → ((a : ℕ) → Has v.members a → promise_at w a ≡ v.id) → accessible_by table_of_all v.members ≡ true → IsShort catalogue w rec v → ⊥
  majority_stands v agreed promised most b = ⊎_elim last none (find_greatest (weighs given_by rec) w.journal)
    where
      none : ((f : Commit) → Has w.journal f → weighs given_by rec f ≡ false) → ⊥
      none h =
          let all = unweighed_all (weights_of catalogue rec) (order w.journal) (λ f there. h f (order_has w.journal f there)) in
          let low = unweighed_all (weights_of catalogue rec) (under v.id (order w.journal)) (λ f there. h f (order_has w.journal f (filter_has (λ (e : Commit). view_before e.view v.id) (order w.journal) f there).0)) in
          b.short (subst (λ (t : Table). accessible_by t v.members ≡ true) (all ∙ sym low) most)

      last : Greatest (weighs given_by rec) w.journal → ⊥
      last r =
          let k = known_weighed catalogue w n.known n.refresh rec in
          let z = k.agreed r.entry r.there in
          let later : (f : Commit) → Has w.journal f → Precedes z.0.id f.view → weighs given_by rec f ≡ false = (λ f h a. go f h (subst (λ (i : ViewId). Precedes i f.view) z.1.1 a) (weighs given_by rec f) refl) in
          let all : table_of_all ≡ table_upto given_by rec (weights_of catalogue rec) w.journal z.0.id = all_upto z.0.id (weights_of catalogue rec) (order w.journal) (λ f h a. later f (order_has w.journal f h) a) in
          ⊎_elim
          (λ (low : Precedes z.0.id v.id). b.short (subst (λ (t : Table). accessible_by t v.members ≡ true) (all ∙ sym (same_between given_by rec z.0.id v.id (weights_of catalogue rec) w.journal low (λ f h a c. later f h a))) most))
          (λ more. ⊎_elim
          (λ (same : z.0.id ≡ v.id). b.short (n.refresh.entry r.entry v rec r.there (agreed, sym same ∙ z.1.1) (inr (weighed_wrote rec r.entry r.passes))).usable)
          (λ (high : Precedes v.id z.0.id).
          let usable = usable_after given_by rec catalogue w k z.0 z.1.0 (n.refresh.entry r.entry z.0 rec r.there z.1 (inr (weighed_wrote rec r.entry r.passes))).usable in
          let q = shared_by table_of_all v.members z.0.members most (rw all usable) in
          not_both v.id z.0.id high (subst (AtMost z.0.id) (promised q.0 q.2) ((n.known.views.view z.0 z.1.0).members q.0 q.3)))
          more)
          (three_ways z.0.id v.id)
        where
          go : (f : Commit) → Has w.journal f → Precedes r.entry.view f.view → (c : Bool) → weighs given_by rec f ≡ c → weighs given_by rec f ≡ false
          go f h a false e = e
          go f h a true e = absurd (not_both r.entry.view f.view a (r.greatest f h e))
