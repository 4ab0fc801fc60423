-- What the copies of a majority say of the one copy.
use Rattle.std.proofs.Common.{◌≡◌, ◌∙◌, ap, sym, subst, ℕ, suc, Bool, true, List, refl, arith}
use Rattle.std.specs.Prelude.{Option, Some, None, option_map, slice_get}
use Rattle.std.specs.List.{Contains}
use Rattle.vp_model.specs.Types.{View, Commit, Stored, Doubt}
use Rattle.vp_model.specs.Words.{keys, value_at, has, opening}
use Rattle.vp_model.specs.Transactions.{last_changes}
use Rattle.vp_model.specs.Catalogue.{Catalogue, holders, table_or, accessible_by, start_values, start_copies}
use Rattle.vp_model.specs.Headline.{has_value}
use Rattle.vp_model.specs.OneCopy.{Values, serial, order}
use Rattle.vp_model.specs.World.{Place, WorldState, Moment, Schedule, place_of, run_of, moments_of}
use Rattle.vp_laws.specs.Catalogues.{IsWhole}
use Rattle.vp_laws.specs.Audits.{HoldersHaveCopies, MajoritiesTell}
use Rattle.vp_laws.specs.Entries.{doubts_in}
use Rattle.vp_laws.specs.Sites.{copies_in}
use Rattle.vp_laws.proofs.Lists.Members.{Has, has_of, has_test, has_from_test, contains}
use Rattle.vp_laws.proofs.Lists.Numbers.{from_first}
use Rattle.vp_laws.proofs.Lists.Pairs.{not_copied}
use Rattle.vp_laws.proofs.Lists.StartCopies.{places}
use Rattle.vp_laws.proofs.Lists.Views.{AtMost, Precedes, not_both, opening_least}
use Rattle.vp_laws.proofs.Worlds.Events.{in_last, in_each}
use Rattle.vp_laws.proofs.Worlds.Scenes.{Scene, scene_of, kept_in, kept_at}
use Rattle.vp_laws.proofs.Invariant.Invariant.{Invariant}
use Rattle.vp_laws.proofs.Invariant.Held.{InvHeld}
use Rattle.vp_laws.proofs.Invariant.Views.{InvViews}
use Rattle.vp_laws.proofs.Journal.Acts.{after_all}
use Rattle.vp_laws.proofs.Journal.Order.{order_has}
use Rattle.vp_laws.proofs.Journal.Play.{same_content-self}
use Rattle.vp_laws.proofs.Journal.Playing.{serial_value}
use Rattle.vp_laws.proofs.Journal.UpTo.{up_to_from}
use Rattle.vp_laws.proofs.Journal.ValuesAfter.{Content, content_of, started, Wrote, writes_over, value_in, value_after, value_up_to, leaves_value}
use Rattle.vp_laws.proofs.Copies.Force.{none_between}
use Rattle.vp_laws.proofs.Copies.Weights.{weighed_wrote, known_weighed, changed_usable}
use Rattle.vp_laws.proofs.Journal.TablesAfter.{Table, given_by}
use Rattle.vp_laws.proofs.Journal.TableContents.{content_table}
use Rattle.vp_laws.proofs.Invariant.Entered.{AgreedAs}
use Rattle.vp_laws.proofs.Invariant.Known.{Known}
use Rattle.vp_laws.proofs.Keeping.Known.{known_last}
use Rattle.vp_laws.proofs.Copies.Brought.{doubt_on}
use Rattle.vp_laws.proofs.Copies.Facts.{still_below}
use Rattle.vp_laws.proofs.Order.Invariant.{invariant_last}

-- a site of the world has a copy of what it holds
held_copy : (catalogue : Catalogue) (w : Scene) → InvHeld catalogue w → (q rec : ℕ) (p : Place) → place_of q w.places ≡ Some p → Has (holders catalogue rec) q → (c : Stored) × (value_at rec (kept_at w q).copies ≡ Some c)
held_copy catalogue w held q rec p e holder = copied (value_at rec (kept_at w q).copies) refl
  where
    there : Has (keys (kept_at w q).copies) rec
    there = rw (held.held q p e) (subst (Has (keys (start_copies catalogue q))) (from_first rec) (places 0 catalogue.records q rec holder))

    copied : (o : Option Stored) → value_at rec (kept_at w q).copies ≡ o → (c : Stored) × (value_at rec (kept_at w q).copies ≡ Some c)
    copied None none = absurd (not_copied rec (kept_at w q).copies none there)
    copied (Some c) is = (c, is)

-- a member of an agreed view above the opening one is a site of the world
member_place : (catalogue : Catalogue) (w : Scene) → InvViews catalogue w → (q : ℕ) (v : View) → Has w.agreed v → Has v.members q → Precedes opening v.id → (p : Place) × (place_of q w.places ≡ Some p)
member_place catalogue w views q v agreed member above = at_place (place_of q w.places) refl
  where
    at_place : (o : Option Place) → place_of q w.places ≡ o → (p : Place) × (place_of q w.places ≡ Some p)
    at_place None e = absurd (not_both opening v.id above (subst (λ (o : Option Place). AtMost v.id (kept_in o).promise) e ((views.view v agreed).members q member)))
    at_place (Some p) e = (p, e)

module _ (catalogue : Catalogue) (w : Scene) (inv : Invariant catalogue w) (sites : List ℕ) (rec s : ℕ) (copy : Stored) (majority : accessible_by (table_or catalogue rec copy.table) sites ≡ true) (certain : (q : ℕ) (u : Doubt) → Has sites q → Has (kept_at w q).doubts u → Has (keys u.writes) rec → ⊥) (here : Has sites s) (is : value_at rec (kept_at w s).copies ≡ Some copy) (newest : (q : ℕ) (c : Stored) → Has sites q → value_at rec (kept_at w q).copies ≡ Some c → AtMost c.date copy.date) where
  -- an entry of a later view would be in doubt at a site that is in its view and among these
  missed : (e : Commit) (v : View) (q : ℕ) → Has w.journal e → Wrote e rec → AgreedAs w e.view v → Precedes copy.date e.view → Has (holders catalogue rec) q → Has v.members q → Has sites q → ⊥
  missed e v q h wrote agreed above holder member among =
      let p = member_place catalogue w inv.known.views q v agreed.0 member (subst (Precedes opening) (sym agreed.1) (still_below opening copy.date e.view (opening_least copy.date) above)) in
      let c = held_copy catalogue w inv.known.held q rec p.0 p.1 holder in
      let u = inv.copies.above q rec c.0 e v c.1 h wrote (still_below c.0.date copy.date e.view (newest q c.0 among c.1) above) agreed member in
      certain q u.0 among u.1 (doubt_on catalogue w inv.known.shares e q rec u.0 h wrote holder u.1 u.2)

  value_then : value_after catalogue w.journal copy.date rec ≡ Some (content_of copy)
  value_then = inv.copies.value s rec copy is (λ d on. certain s d here on.0 on.1)

  abbrev did : Commit → Bool
  did e = has (keys (last_changes e)) rec

  -- above all entries these sites would be a view with more than half by the table that the date of the copy leaves
  none_above : (e : Commit) → Has w.journal e → Precedes copy.date e.view → Wrote e rec → ⊥
  none_above e h above wrote =
      none_between given_by rec catalogue w (known_weighed catalogue w inv.known inv.refresh rec) did
      (λ f gave. has_test (keys (last_changes f)) rec (weighed_wrote rec f gave))
      (λ f v there was agreed. changed_usable catalogue w inv.known.led inv.refresh.entry inv.refresh.weighed rec f v there (has_from_test (keys (last_changes f)) rec was) agreed)
      copy.date all (subst (λ (t : Table). accessible_by t sites ≡ true) (content_table catalogue rec w.journal copy.date (content_of copy) value_then) majority)
      (λ f v q there was agreed later low holder member among. missed f v q there (has_from_test (keys (last_changes f)) rec was) agreed later holder member among)
      e h (has_test (keys (last_changes e)) rec wrote) above higher
    where
      all : View
      all = record { id = record e.view { number = suc e.view.number }; members = sites }

      higher : Precedes e.view all.id
      higher = omega arith

  -- so the content of the copy's date is the last one
  value_last : option_map (λ start. value_in rec (started start) (order w.journal)) (slice_get (start_values catalogue) rec) ≡ Some (content_of copy)
  value_last = at_start (slice_get (start_values catalogue) rec) ∙ value_then
    where
      at_start : (o : Option (Option (List ℕ))) → option_map (λ start. value_in rec (started start) (order w.journal)) o ≡ option_map (λ start. value_up_to rec (started start) w.journal copy.date) o
      at_start None = refl
      at_start (Some start) = ap (λ (content : Content). Some content) (after_all (writes_over rec) (started start) copy.date (order w.journal) (λ f h above. leaves_value f rec (none_above f (order_has w.journal f h) above)))

  told : has_value (serial (start_values catalogue) (order w.journal)) rec copy.value ≡ true
  told = has_it (serial (start_values catalogue) (order w.journal)) inv.order.serial.0 inv.order.serial.1 (reads (slice_get (start_values catalogue) rec) refl)
    where
      has_it : (o : Option Values) (m : Values) → o ≡ Some m → slice_get m rec ≡ Some copy.value → has_value o rec copy.value ≡ true
      has_it o m e f = rw (e, f) (same_content-self copy.value)

      reads : (o : Option (Option (List ℕ))) → slice_get (start_values catalogue) rec ≡ o → slice_get inv.order.serial.0 rec ≡ Some copy.value
      reads None e =
          let z = subst (λ (q : Option (Option (List ℕ))). option_map (λ start. value_in rec (started start) (order w.journal)) q ≡ Some (content_of copy)) e value_last in
          cc
      reads (Some start) e =
          let z : Some (value_in rec (started start) (order w.journal)) ≡ Some (content_of copy) = subst (λ (q : Option (Option (List ℕ))). option_map (λ start. value_in rec (started start) (order w.journal)) q ≡ Some (content_of copy)) e value_last in
          let last : value_in rec (started start) (order w.journal) ≡ content_of copy = cc in
          serial_value rec (order w.journal) (start_values catalogue) inv.order.serial.0 (started start) inv.order.serial.1 e ∙ ap (λ (content : Content). Some content.value) last

doubts_same : (o : Option Place) → doubts_in o ≡ (kept_in o).doubts
doubts_same None = refl
doubts_same (Some p) = refl

copies_same : (o : Option Place) → copies_in o ≡ (kept_in o).copies
copies_same None = refl
copies_same (Some p) = refl

world_told : (catalogue : Catalogue) (w : WorldState) → Invariant catalogue (scene_of w) → MajoritiesTell catalogue w
world_told catalogue w inv sites rec s copy majority certain here is newest =
    told catalogue (scene_of w) inv sites rec s copy majority
    (λ q u there doubted on. certain q u (contains sites q there) (contains _ u (subst (λ (us : List Doubt). Has us u) (sym (doubts_same (place_of q w.places))) doubted)) (contains (keys u.writes) rec on))
    (has_of sites s here)
    (subst (λ (cs : List (ℕ × Stored)). value_at rec cs ≡ Some copy) (copies_same (place_of s w.places)) is)
    (λ q c there e. up_to_from copy.date c.date (newest q c (contains sites q there) (subst (λ (cs : List (ℕ × Stored)). value_at rec cs ≡ Some c) (sym (copies_same (place_of q w.places))) e)))

pub told_last : (s : Schedule) → IsWhole s.catalogue → MajoritiesTell s.catalogue (run_of s).world
told_last s whole = world_told s.catalogue (run_of s).world (in_last s.catalogue (Invariant s.catalogue) (invariant_last s.catalogue whole) s.events)

pub told_each : (s : Schedule) → IsWhole s.catalogue → (m : Moment) → Contains (moments_of s) m → MajoritiesTell s.catalogue m.before × MajoritiesTell s.catalogue m.after
told_each s whole m h =
    let both = in_each s.catalogue (Invariant s.catalogue) (invariant_last s.catalogue whole) s.events m (has_of (moments_of s) m h) in
    (world_told s.catalogue m.before both.0, world_told s.catalogue m.after both.1)

world_copied : (catalogue : Catalogue) (w : WorldState) → Known catalogue (scene_of w) → HoldersHaveCopies catalogue w
world_copied catalogue w k s rec place e h =
    let c = held_copy catalogue (scene_of w) k.held s rec place e (has_of _ s h) in
    (c.0, subst (λ (o : Option Place). value_at rec (kept_in o).copies ≡ Some c.0) e c.1)

pub copied_each : (s : Schedule) (m : Moment) → Contains (moments_of s) m → HoldersHaveCopies s.catalogue m.before × HoldersHaveCopies s.catalogue m.after
copied_each s m h =
    let both = in_each s.catalogue (Known s.catalogue) (known_last s.catalogue) s.events m (has_of (moments_of s) m h) in
    (world_copied s.catalogue m.before both.0, world_copied s.catalogue m.after both.1)
