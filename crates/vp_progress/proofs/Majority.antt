-- Sites that are a majority of a record go on with it: after they have met no bar is on it, and no one of them is in doubt about it.
use Rattle.std.proofs.Common.{◌≡◌, ◌∙◌, ap, sym, subst, ℕ, Bool, true, false, List, [], ◌∷◌, refl, arith}
use Rattle.std.specs.Prelude.{Option, Some, None}
use Rattle.std.specs.Option.{option_map_or}
use Rattle.std.specs.List.{AllByRecursion}
use Rattle.vp_catalog.specs.Document.{IsCatalogue}
use Rattle.vp_text.proofs.Items.{all_each}
use Rattle.vp_model.specs.Types.{Commit, Doubt}
use Rattle.vp_model.specs.Words.{has, keys, value_at, for_each}
use Rattle.vp_model.specs.Catalogue.{Table, sites_of, weights_of, accessible_by}
use Rattle.vp_model.specs.Durable.{DurableState}
use Rattle.vp_model.specs.Site.{SiteState}
use Rattle.vp_model.specs.Refresh.{is_doubtful}
use Rattle.vp_model.specs.OneCopy.{order}
use Rattle.vp_model.specs.World.{WorldState, Schedule, place_of, site_of, journal_of}
use Rattle.vp_laws.proofs.Lists.Members.{Has, contains, has_test, has_from_test, any_true}
use Rattle.vp_laws.proofs.Lists.Catalogues.{whole_catalogue}
use Rattle.vp_laws.proofs.Worlds.Sites.{With}
use Rattle.vp_laws.proofs.Worlds.Events.{in_last}
use Rattle.vp_laws.proofs.Worlds.Scenes.{scene_of, promise_at}
use Rattle.vp_laws.proofs.Copies.Force.{shared_by}
use Rattle.vp_laws.proofs.Journal.TablesAfter.{given_by, table_in}
use Rattle.vp_laws.proofs.Invariant.Invariant.{Invariant}
use Rattle.vp_laws.proofs.Invariant.Known.{Known}
use Rattle.vp_laws.proofs.Keeping.Known.{known_last}
use Rattle.vp_progress.specs.Going.{goes_on, mends}
use Rattle.vp_progress.specs.Whole.{AreUnspent, HasNameLeft}
use Rattle.vp_progress.specs.Progress.{world_of}
use Rattle.vp_progress.specs.Clients.{Wish, FitATransaction, MayGive}
use Rattle.vp_progress.specs.Meeting.{CanMeet}
use Rattle.vp_progress.specs.Together.{IsFree, IsGrantable}
use Rattle.vp_progress.specs.Majority.{IsMajority, CanGoOn, IsOfMajority, table_now}
use Rattle.vp_progress.proofs.Going.{world_goes_on, passing_flows_not}
use Rattle.vp_progress.proofs.Meetings.{meet}
use Rattle.vp_progress.proofs.Doubts.{doubts_kept}
use Rattle.vp_progress.proofs.Returned.{left_after}
use Rattle.vp_laws.proofs.Order.Short.{InvShort, short_last}
use Rattle.vp_progress.proofs.Short.{table_of_all, all_sites, majority_stands}
use Rattle.vp_progress.proofs.Serving.Served.{table_grows}
use Rattle.vp_progress.proofs.Serving.Among.{served_among}

module _ (s : Schedule) (sites : List ℕ) (h : IsCatalogue s.catalogue) (m : CanMeet s sites) (rec : ℕ) (f : IsMajority s sites rec) where
  abbrev new : WorldState
  new = world_of (goes_on s m.more)

  good : With (Invariant s.catalogue) (InvShort s.catalogue) (scene_of new)
  good = in_last s.catalogue (With (Invariant s.catalogue) (InvShort s.catalogue)) (short_last s.catalogue (whole_catalogue s.catalogue h.so_far)) (goes_on s m.more).events

  inv : Invariant s.catalogue (scene_of new)
  inv = good.base

  table_is : (t : Table) (es : List Commit) → for_each es (λ (e : Commit) (t : Table). option_map_or (λ (new : Table). new) (value_at rec e.tables) t) t ≡ table_in given_by rec t es
  table_is t [] = refl
  table_is t (e ∷ es) = table_is (option_map_or (λ (new : Table). new) (value_at rec e.tables) t) es

  now_is : table_now s rec ≡ table_of_all s.catalogue (scene_of new) inv rec
  now_is = table_is (weights_of s.catalogue rec) (order (journal_of s)) ∙ ap (λ (es : List Commit). table_in given_by rec (weights_of s.catalogue rec) (order es)) (sym m.leaves.journal)

  most_now : accessible_by (table_of_all s.catalogue (scene_of new) inv rec) sites ≡ true
  most_now = subst (λ (t : Table). accessible_by t sites ≡ true) now_is f.most

  here_in : (k : ℕ) → Has m.together.view.members k → Has sites k
  here_in k there = has_from_test sites k (sym (m.together.members k) ∙ has_test m.together.view.members k there)

  wide : (k : ℕ) → Has sites k → Has m.together.view.members k
  wide k there = has_from_test m.together.view.members k (m.together.members k ∙ has_test sites k there)

  promised : (a : ℕ) → Has m.together.view.members a → promise_at (scene_of new) a ≡ m.together.view.id
  promised a there =
      let x = m.together.idle a (has_test sites a (here_in a there)) in
      let ok = inv.known.views.site a x.0 x.1 in
      sym (ap (λ (d : DurableState). d.promise) ok.kept) ∙ sym (ok.tidy.held m.together.view x.2.held).0

  none_barred : (q : ℕ) (x : SiteState) → has sites q ≡ true → site_of new q ≡ Some x → value_at rec x.bars ≡ None
  none_barred q x here up = go (value_at rec x.bars) refl
    where
      go : (o : Option (ℕ × ℕ)) → value_at rec x.bars ≡ o → value_at rec x.bars ≡ None
      go None e = e
      go (Some bar) e =
          let own = m.together.idle q here in
          let same : own.0 ≡ x = (let z = sym own.1 ∙ up in grind (arith, z)) in
          let held = ap (λ (x : SiteState). x.held) (sym same) ∙ own.2.held in
          absurd (majority_stands s.catalogue (scene_of new) inv rec m.together.view ((inv.known.views.site q x up).held m.together.view held) promised (table_grows (table_of_all s.catalogue (scene_of new) inv rec) sites m.together.view.members wide most_now) (good.more.site q rec x m.together.view bar up held e))

  none_doubtful : (q : ℕ) (x : SiteState) → has sites q ≡ true → site_of new q ≡ Some x → is_doubtful x rec ≡ false
  none_doubtful q x here up = go (is_doubtful x rec) refl
    where
      go : (b : Bool) → is_doubtful x rec ≡ b → is_doubtful x rec ≡ false
      go false e = e
      go true e =
          let own = m.together.idle q here in
          let same : own.0 ≡ x = (let z = sym own.1 ∙ up in grind (arith, z)) in
          let d = any_true (λ (d : Doubt). has (keys d.writes) rec) x.doubts e in
          let away = own.2.doubts d.0 (contains _ d.0 (subst (λ (x : SiteState). Has x.doubts d.0) (sym same) d.1)) in
          let kept = subst (λ (k : DurableState). Has k.doubts d.0) (inv.known.views.site q x up).kept d.1 in
          let there = contains _ d.0 (subst (λ (ds : List Doubt). Has ds d.0) (sym (doubts_kept (place_of q new.places))) kept) in
          absurd (let z = sym away ∙ f.heard q d.0 here (m.leaves.known q d.0 there) d.2 in cc)

  pub goes_free : IsFree s.catalogue sites new rec
  goes_free = record {
    holder =
        let k = shared_by (table_of_all s.catalogue (scene_of new) inv rec) sites sites most_now most_now in
        (k.0, contains _ k.0 (subst (λ (ks : List ℕ). Has ks k.0) (all_sites s.catalogue (scene_of new) inv rec) k.1), has_test sites k.0 k.2);
    unbarred = none_barred;
    certain = none_doubtful;
  }

pub go_on : (s : Schedule) (first : ℕ) (rest : List ℕ) (q : ℕ) (wishes : List Wish) → IsCatalogue s.catalogue → ((k : ℕ) → has (first ∷ rest) k ≡ true → has (sites_of s.catalogue) k ≡ true) → AreUnspent (first ∷ rest) (world_of s) → has (first ∷ rest) q ≡ true → HasNameLeft q (world_of s) → FitATransaction wishes → AllByRecursion (IsOfMajority s (first ∷ rest)) wishes → AllByRecursion (MayGive s.catalogue (first ∷ rest)) wishes → CanGoOn s (first ∷ rest) q wishes
go_on s first rest q wishes catalogue sub room here left fits named gives =
    let sites = first ∷ rest in
    let m = meet s first rest sub room in
    let is = world_goes_on s m.more (passing_flows_not s.catalogue (mends sites) (λ w count. refl) m.more (world_of s) m.mending) in
    let known = in_last s.catalogue (Known s.catalogue) (known_last s.catalogue) s.events in
    let after : HasNameLeft q (world_of (goes_on s m.more)) = subst (HasNameLeft q) (sym is) (left_after s.catalogue sites q m.more (world_of s) known m.mending left) in
    let x = m.together.idle q here in
    let free : (wish : Wish) → IsOfMajority s sites wish → IsGrantable s.catalogue sites (world_of (goes_on s m.more)) wish = (λ wish g. (g.0, g.1, goes_free s sites catalogue m g.0 g.2)) in
    record {
      more = m.more;
      mending = m.mending;
      fresh = m.fresh;
      journal = m.leaves.journal;
      served = served_among (goes_on s m.more) sites q m.together here x.0 wishes x.1 (after x.0 x.1) fits (all_each _ _ free wishes named) gives;
    }
