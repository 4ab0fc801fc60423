-- The laws on one copy in the words of the contracts: the entries are a serial run, and each copy that may be read has its content.
use Rattle.std.proofs.Common.{◌≡◌, ◌∙◌, ap, sym, subst, ℕ, Bool, true, false, cond, List, [], ◌∷◌, map, refl, ⊎_elim}
use Rattle.std.specs.Prelude.{option_map, Option, Some, None, IsSome, IsTrue, find, option_and_then, slice_get, ◌==◌, not}
use Rattle.std.specs.List.{list_any, list_all}
use Rattle.std.specs.Option.{option_map_or}
use Rattle.std.proofs.lemmas.Bool.{eq-eqb, eqb-true}
use Rattle.std.proofs.lemmas.Slice.Eq.{bytes_eq-Decides}
use Rattle.vp_laws.proofs.Journal.ValuesAfter.{Content, content_of, value_after}
use Rattle.vp_model.specs.Types.{View, Stored, Lock, Doubt}
use Rattle.vp_model.specs.Words.{same_content, keys, change_first}
use Rattle.vp_model.specs.Catalogue.{Catalogue, sites_of, start_values}
use Rattle.vp_model.specs.Durable.{DurableState}
use Rattle.vp_model.specs.Refresh.{is_open}
use Rattle.vp_model.specs.OneCopy.{Values, serial, order, content}
use Rattle.vp_model.specs.Site.{SiteState}
use Rattle.vp_model.specs.Step.{durable_of}
use Rattle.vp_model.specs.World.{Place, WorldState, Moment, Schedule, place_of, start_place, start_world, moments_of, run_of}
use Rattle.vp_model.specs.Headline.{IsSerial, is_locked, is_readable, has_value, copies_true_in, copies_true_at, copies_true, CopiesAreTrue}
use Rattle.vp_laws.specs.Catalogues.{AreApart, IsWhole}
use Rattle.vp_laws.proofs.Lists.Members.{Has, contains, has_none, has_cons, any_false, both_true, not_true}
use Rattle.vp_laws.proofs.Lists.Changes.{mapped_has, all_from}
use Rattle.vp_laws.proofs.Lists.Views.{AtMost-along}
use Rattle.vp_laws.proofs.Worlds.Scenes.{Scene, scene_of, plain_at, kept_at}
use Rattle.vp_laws.proofs.Worlds.Events.{Lasts, in_last, in_each}
use Rattle.vp_laws.proofs.Table.Listed.{IsUnlisted}
use Rattle.vp_laws.proofs.Invariant.Held.{copy_value, copy_held}
use Rattle.vp_laws.proofs.Journal.Playing.{content_value}
use Rattle.vp_laws.proofs.Copies.Refreshes.{unlisted_none}
use Rattle.vp_laws.proofs.Copies.Usable.{usable_value}
use Rattle.vp_laws.proofs.Journal.Contents.{content_there}
use Rattle.vp_laws.proofs.Invariant.Known.{Known}
use Rattle.vp_laws.proofs.Invariant.Invariant.{Invariant}
use Rattle.vp_laws.proofs.Order.Invariant.{invariant_last}
use Rattle.vp_laws.proofs.Lists.Pairs.{Differ}
use Rattle.vp_laws.proofs.Lists.Numbers.{unequal}

pub serial_played : (s : Schedule) → IsWhole s.catalogue → IsSerial s
serial_played s whole = let q = (in_last s.catalogue (Invariant s.catalogue) (invariant_last s.catalogue whole) s.events).order.serial in is_there (serial (start_values s.catalogue) (order (run_of s).world.journal)) q.0 q.1
  where
    is_there : (o : Option Values) (m : Values) → o ≡ Some m → IsSome o
    is_there o m e = rw e refl

-- a copy that may be read

module _ (catalogue : Catalogue) (w : WorldState) (inv : Invariant catalogue (scene_of w)) (s : ℕ) (x : SiteState) (up : plain_at (scene_of w) s ≡ Some x) (v : View) (held : x.held ≡ Some v) where
  k : Known catalogue (scene_of w)
  k = inv.known

  one_copy : (m : Values) × (content (start_values catalogue) w.journal v.id ≡ Some m)
  one_copy = content_there (start_values catalogue) w.journal v.id inv.order.serial.0 inv.order.serial.1

  -- no exclusive lock is on a copy that may be read
  unlocked : (rec : ℕ) (a : Lock) → list_any (is_locked rec) x.locks ≡ false → Has x.locks a → a.rec ≡ rec → a.exclusive ≡ true → ⊥
  unlocked rec a none h on strong =
      let t = any_false (is_locked rec) x.locks none a h in
      let e : (a.rec == rec) ≡ true = eq-eqb a.rec rec on in
      let z : is_locked rec a ≡ true = rw (e, strong) refl in cc

  -- it has the content that the entries of the held view and all lower ones leave
  pub readable_content : (rec : ℕ) (stored : Stored) → Has x.copies (rec, stored) → is_open x rec ≡ true → list_any (is_locked rec) x.locks ≡ false → value_after catalogue w.journal v.id rec ≡ Some (content_of stored)
  readable_content rec stored h usable none =
      usable_value catalogue (scene_of w) k.shares inv.copies s rec x v stored up kept held usable (unlisted_none rec x.refresh unlisted)
      (copy_value catalogue (scene_of w) s x up kept k.held rec stored h) ((k.views.site s x up).held v held) (subst (Has v.members) (k.views.site s x up).id ((k.views.site s x up).tidy.held v held).3)
      (copy_held catalogue (scene_of w) s x up kept k.held rec (mapped_has (λ (p : ℕ × Stored). p.0) x.copies (rec, stored) h))
      (AtMost-along ((k.below.site s x up).copies (rec, stored) h) refl ((k.views.site s x up).tidy.held v held).0)
      (λ u there on e entry named. certain u there on)
    where
      kept : durable_of x ≡ kept_at (scene_of w) s
      kept = (k.views.site s x up).kept

      unlisted : IsUnlisted x.refresh rec
      unlisted r there on = let lock = (k.guards.site s x up).listed r there in unlocked rec lock.lock none lock.has (lock.on ∙ on) (lock.strong refl)

      certain : (u : Doubt) → Has (kept_at (scene_of w) s).doubts u → Has (keys u.writes) rec → ⊥
      certain u there on =
          let lock = (k.guards.site s x up).doubted u rec (subst (λ (d : DurableState). Has d.doubts u) (sym (k.views.site s x up).kept) there) on in
          unlocked rec lock.lock none lock.has lock.on (lock.strong refl)

  readable_value : (rec : ℕ) (stored : Stored) → Has x.copies (rec, stored) → is_open x rec ≡ true → list_any (is_locked rec) x.locks ≡ false → slice_get one_copy.0 rec ≡ Some stored.value
  readable_value rec stored h usable none = content_value catalogue w.journal v.id one_copy.0 rec one_copy.1 ∙ ap (option_map (λ (c : Content). c.value)) (readable_content rec stored h usable none)

  same_bytes : (value : Option (List ℕ)) → same_content value value ≡ true
  same_bytes None = refl
  same_bytes (Some value) = (bytes_eq-Decides value value).1 refl

  copy_true : (copy : ℕ × Stored) → Has x.copies copy → (if_readable : Bool) → is_readable x copy.0 ≡ if_readable → cond if_readable (has_value (content (start_values catalogue) w.journal v.id) copy.0 copy.1.value) true ≡ true
  copy_true copy h false e = refl
  copy_true copy h true e =
      let t = both_true (is_open x copy.0) (not (list_any (is_locked copy.0) x.locks)) e in
      let value = readable_value copy.0 copy.1 h t.0 (not_true (list_any (is_locked copy.0) x.locks) t.1) in
      has_it (content (start_values catalogue) w.journal v.id) one_copy.0 copy.0 copy.1.value one_copy.1 value
    where
      has_it : (o : Option Values) (m : Values) (rec : ℕ) (value : Option (List ℕ)) → o ≡ Some m → slice_get m rec ≡ Some value → has_value o rec value ≡ true
      has_it o m rec value e f = rw (e, f) (same_bytes value)

  copies_true_here : copies_true_in catalogue w.journal x v ≡ true
  copies_true_here = all_from _ x.copies (λ copy h. copy_true copy h (is_readable x copy.0) refl)

site_true : (catalogue : Catalogue) (w : WorldState) → Invariant catalogue (scene_of w) → (s : ℕ) (x : SiteState) → plain_at (scene_of w) s ≡ Some x → copies_true_at catalogue w.journal x ≡ true
site_true catalogue w inv s x up = go x.held refl
  where
    go : (held : Option View) → x.held ≡ held → option_map_or (copies_true_in catalogue w.journal x) held true ≡ true
    go None e = refl
    go (Some v) e = copies_true_here catalogue w inv s x up v e

-- the places of a world are those of the catalogue's sites
abbrev pub Places : Catalogue → Scene → Type 0
Places catalogue w = map (λ (p : Place). p.id) w.places ≡ sites_of catalogue

ids_changed : (test : Place → Bool) (f : Place → Place) (places : List Place) → ((p : Place) → (f p).id ≡ p.id) → map (λ (p : Place). p.id) (change_first test f places) ≡ map (λ (p : Place). p.id) places
ids_changed test f [] same = refl
ids_changed test f (p ∷ places) same = go (test p) (ids_changed test f places same)
  where
    go : (b : Bool) → map (λ (p : Place). p.id) (change_first test f places) ≡ map (λ (p : Place). p.id) places → map (λ (p : Place). p.id) (cond b (f p ∷ places) (p ∷ change_first test f places)) ≡ p.id ∷ map (λ (p : Place). p.id) places
    go true rest = ap (λ (n : ℕ). n ∷ map (λ (p : Place). p.id) places) (same p)
    go false rest = ap (λ (ns : List ℕ). p.id ∷ ns) rest

start_ids : (catalogue : Catalogue) (sites : List ℕ) → map (λ (p : Place). p.id) (map (start_place catalogue) sites) ≡ sites
start_ids catalogue [] = refl
start_ids catalogue (n ∷ sites) = ap (λ (ns : List ℕ). n ∷ ns) (start_ids catalogue sites)

pub places_last : (catalogue : Catalogue) → Lasts catalogue (Places catalogue)
unfolding start_world
places_last catalogue = record {
  starts = start_ids catalogue (sites_of catalogue);
  acts = λ w s x given up r inv. ids_changed _ _ w.places (λ p. refl) ∙ inv;
  crashes = λ w s inv. ids_changed _ _ w.places (λ p. refl) ∙ inv;
  restarts = λ w s place e u i inv. ids_changed _ _ w.places (λ p. refl) ∙ inv;
}

-- where they are apart, each place is the one that is found
place_found : (places : List Place) (p : Place) → Differ (map (λ (p : Place). p.id) places) → Has places p → place_of p.id places ≡ Some p
place_found [] p a h = absurd (has_none p h)
place_found (q ∷ places) p a h = go (q.id == p.id) refl (λ more. place_found places p a.1 more)
  where
    go : (b : Bool) → (q.id == p.id) ≡ b → (Has places p → place_of p.id places ≡ Some p) → cond b (Some q) (find (λ (place : Place). place.id == p.id) places) ≡ Some p
    go true e rest = ⊎_elim
        (λ (one : q ≡ p). ap (λ (q : Place). Some q) one)
        (λ more. absurd (a.0 (subst (Has (map (λ (p : Place). p.id) places)) (sym (eqb-true q.id p.id e)) (mapped_has (λ (p : Place). p.id) places p more))))
        (has_cons q places p h)
    go false e rest = ⊎_elim
        (λ (one : q ≡ p). absurd (unequal q.id p.id e (ap (λ (q : Place). q.id) one)))
        (λ more. rest more)
        (has_cons q places p h)

apart_differ : (ns : List ℕ) → AreApart ns → Differ ns
apart_differ [] a = tt
apart_differ (n ∷ ns) a = ((λ h. a.0 (contains ns n h)), apart_differ ns a.1)

-- a test that each site that is up passes
pub each_site : (catalogue : Catalogue) (w : WorldState) → AreApart (sites_of catalogue) → Places catalogue (scene_of w) → (test : SiteState → Bool) → ((s : ℕ) (x : SiteState) → plain_at (scene_of w) s ≡ Some x → test x ≡ true) → list_all (λ (p : Place). option_map_or test p.up true) w.places ≡ true
each_site catalogue w apart places test passes = all_from _ w.places each
  where
    each : (p : Place) → Has w.places p → option_map_or test p.up true ≡ true
    each p h = go p.up refl
      where
        found : place_of p.id w.places ≡ Some p
        found = place_found w.places p (subst Differ (sym places) (apart_differ (sites_of catalogue) apart)) h

        go : (up : Option SiteState) → p.up ≡ up → option_map_or test up true ≡ true
        go None e = refl
        go (Some x) e = passes p.id x (ap (option_and_then (λ (p : Place). p.up)) found ∙ e)

world_true : (catalogue : Catalogue) (w : WorldState) → AreApart (sites_of catalogue) → Invariant catalogue (scene_of w) → Places catalogue (scene_of w) → copies_true catalogue w ≡ true
world_true catalogue w apart inv places = each_site catalogue w apart places (copies_true_at catalogue w.journal) (site_true catalogue w inv)

pub copies_read : (s : Schedule) → IsWhole s.catalogue → CopiesAreTrue s
copies_read s whole = true_is _ (all_from (λ (m : Moment). copies_true s.catalogue m.after) (moments_of s) (λ m h.
    world_true s.catalogue m.after whole.apart (in_each s.catalogue (Invariant s.catalogue) (invariant_last s.catalogue whole) s.events m h).1 (in_each s.catalogue (Places s.catalogue) (places_last s.catalogue) s.events m h).1))
  where
    true_is : (b : Bool) → b ≡ true → IsTrue b
    true_is b e = e
