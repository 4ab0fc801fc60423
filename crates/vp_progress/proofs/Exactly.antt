-- Sites that have met are a majority of each record that is free to them.
use Rattle.std.proofs.Common.{◌≡◌, ◌∙◌, ap, sym, subst, ℕ, Bool, true, false, List, [], ◌∷◌, refl}
use Rattle.std.specs.Option.{option_map_or}
use Rattle.std.specs.List.{Contains}
use Rattle.vp_catalog.specs.Document.{IsCatalogue}
use Rattle.vp_model.specs.Types.{Commit, Doubt, View, ViewId}
use Rattle.vp_model.specs.Words.{has, keys, value_at, for_each}
use Rattle.vp_model.specs.Catalogue.{Table, weights_of, accessible_by}
use Rattle.vp_model.specs.Durable.{DurableState}
use Rattle.vp_model.specs.OneCopy.{order}
use Rattle.vp_model.specs.Refresh.{is_open}
use Rattle.vp_model.specs.World.{WorldState, Schedule, place_of, journal_of}
use Rattle.vp_laws.proofs.Lists.Members.{Has, has_of, has_test, has_from_test, any_of}
use Rattle.vp_laws.proofs.Lists.Catalogues.{whole_catalogue}
use Rattle.vp_laws.proofs.Lists.Views.{Precedes}
use Rattle.vp_laws.proofs.Table.Leaves.{Uses}
use Rattle.vp_laws.proofs.Worlds.Events.{in_last}
use Rattle.vp_laws.proofs.Worlds.Scenes.{scene_of}
use Rattle.vp_laws.proofs.Journal.Order.{order_has}
use Rattle.vp_laws.proofs.Journal.UpTo.{under}
use Rattle.vp_laws.proofs.Journal.TablesAfter.{given_by, weighs, table_in, table_upto}
use Rattle.vp_laws.proofs.Invariant.Held.{has_copy}
use Rattle.vp_laws.proofs.Invariant.Invariant.{Invariant}
use Rattle.vp_laws.proofs.Order.Invariant.{invariant_last}
use Rattle.vp_laws.proofs.Copies.Force.{Weighed, walk_up, usable_after}
use Rattle.vp_laws.proofs.Copies.Weights.{known_weighed}
use Rattle.vp_progress.specs.Going.{goes_on}
use Rattle.vp_progress.specs.Progress.{world_of}
use Rattle.vp_progress.specs.Doubts.{doubts_of}
use Rattle.vp_progress.specs.Meeting.{CanMeet}
use Rattle.vp_progress.specs.Together.{IsFree}
use Rattle.vp_progress.specs.Majority.{IsMajority, table_now}
use Rattle.vp_progress.proofs.Doubts.{doubts_kept}
use Rattle.vp_progress.proofs.Short.{all_upto}
use Rattle.vp_progress.proofs.Serving.Served.{table_grows}

module _ (s : Schedule) (sites : List ℕ) (m : CanMeet s sites) (rec : ℕ) (h : IsCatalogue s.catalogue) (free : IsFree s.catalogue sites (world_of (goes_on s m.more)) rec) where
  abbrev new : WorldState
  new = world_of (goes_on s m.more)

  abbrev v : View
  v = m.together.view

  inv : Invariant s.catalogue (scene_of new)
  inv = in_last s.catalogue (Invariant s.catalogue) (invariant_last s.catalogue (whole_catalogue s.catalogue h.so_far)) (goes_on s m.more).events

  weighed : Weighed given_by rec s.catalogue (scene_of new)
  weighed = known_weighed s.catalogue (scene_of new) inv.known inv.refresh rec

  inside : (k : ℕ) → Has v.members k → Has sites k
  inside k there = has_from_test sites k (sym (m.together.members k) ∙ has_test v.members k there)

  -- the record is open in their view
  usable : accessible_by (table_upto given_by rec (weights_of s.catalogue rec) new.journal v.id) v.members ≡ true
  usable =
      let k = free.holder in
      let x = m.together.idle k.0 k.2 in
      let ok = inv.known.views.site k.0 x.0 x.1 in
      let copy = has_copy s.catalogue (scene_of new) k.0 x.0 x.1 ok.kept inv.known.held rec (has_of _ k.0 k.1) in
      let opened : is_open x.0 rec ≡ true = rw (free.unbarred k.0 x.0 k.2 x.1) refl in
      let closed = inv.copies.open_copy k.0 rec x.0 v copy.0 x.1 x.2.held opened (m.together.free k.0 rec x.0 k.2 x.1 free).refreshed copy.1 in
      usable_after given_by rec s.catalogue (scene_of new) weighed v (ok.held v x.2.held) closed.usable

  -- so no entry of a higher view gave it a table: a site of both views would have left this one
  none_higher : (f : Commit) → Has new.journal f → Precedes v.id f.view → (c : Bool) → weighs given_by rec f ≡ c → weighs given_by rec f ≡ false
  none_higher f there above false e = e
  none_higher f there above true e =
      let z = weighed.agreed f there in
      let met = walk_up given_by rec s.catalogue (scene_of new) weighed v z.0 (subst (Precedes v.id) (sym z.1.1) above) usable (subst (λ (i : ViewId). accessible_by (table_in given_by rec (weights_of s.catalogue rec) (under i (order new.journal))) z.0.members ≡ true) (sym z.1.1) (weighed.usable f z.0 there e z.1)) (weighed.closed f z.0 there e z.1) in
      let x = m.together.idle met.site (has_test sites met.site (inside met.site met.member)) in
      absurd ((met.closed.left v.id met.above).unused x.0 x.1 (Uses.held v x.2.held refl))

  table_is : (t : Table) (es : List Commit) → for_each es (λ (e : Commit) (t : Table). option_map_or (λ (new : Table). new) (value_at rec e.tables) t) t ≡ table_in given_by rec t es
  table_is t [] = refl
  table_is t (e ∷ es) = table_is (option_map_or (λ (new : Table). new) (value_at rec e.tables) t) es

  most : accessible_by (table_now s rec) sites ≡ true
  most =
      let own = table_is (weights_of s.catalogue rec) (order (journal_of s)) ∙ ap (λ (es : List Commit). table_in given_by rec (weights_of s.catalogue rec) (order es)) (sym m.leaves.journal) in
      let all = all_upto s.catalogue (scene_of new) inv rec v.id (weights_of s.catalogue rec) (order new.journal) (λ f there above. none_higher f (order_has new.journal f there) above (weighs given_by rec f) refl) in
      subst (λ (t : Table). accessible_by t sites ≡ true) (sym (own ∙ all)) (table_grows (table_upto given_by rec (weights_of s.catalogue rec) new.journal v.id) v.members sites inside usable)

  heard : (q : ℕ) (d : Doubt) → has sites q ≡ true → Contains (doubts_of (world_of s) q) d → has (keys d.writes) rec ≡ true → has sites d.txn.site ≡ true
  heard q d here there wrote = go (has sites d.txn.site) refl
    where
      go : (b : Bool) → has sites d.txn.site ≡ b → has sites d.txn.site ≡ true
      go true e = e
      go false e =
          let x = m.together.idle q here in
          let kept = subst (λ (ds : List Doubt). Has ds d) (doubts_kept (place_of q new.places)) (has_of _ d (m.leaves.doubts q d e there)) in
          let own = subst (λ (k : DurableState). Has k.doubts d) (sym (inv.known.views.site q x.0 x.1).kept) kept in
          let doubtful = any_of (λ (d : Doubt). has (keys d.writes) rec) x.0.doubts d own wrote in
          absurd (let z = sym doubtful ∙ free.certain q x.0 here x.1 in cc)

  is_majority : IsMajority s sites rec
  is_majority = record { most = most; heard = heard }

pub only_majorities : (s : Schedule) (sites : List ℕ) (m : CanMeet s sites) (rec : ℕ) → IsCatalogue s.catalogue → IsFree s.catalogue sites (world_of (goes_on s m.more)) rec → IsMajority s sites rec
only_majorities s sites m rec h free = is_majority s sites m rec h free
