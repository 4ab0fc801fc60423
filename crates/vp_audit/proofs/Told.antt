-- A report on stopped sites is true of every schedule that left them like this.
use Rattle.std.proofs.Common.{◌≡◌, ◌∙◌, ap, sym, subst, ℕ, ◌*◌, Bool, true, false, cond, List, [], ◌∷◌, refl, arith, ⊎_elim}
use Rattle.std.specs.Prelude.{Option, Some, None, option_and_then, filter, map, nat_le, nat_lt, length, option_to_list, slice_get, ◌||◌}
use Rattle.std.specs.List.{Contains, list_any, range_with_len}
use Rattle.std.proofs.lemmas.Bool.Decides.{nat_tests}
use Rattle.vp_model.specs.Types.{Stored, Doubt}
use Rattle.vp_model.specs.Words.{first_some, keys, value_at, view_before}
use Rattle.vp_model.specs.Catalogue.{Catalogue, table_or, holders, accessible_by, weight_inside, weight_total, start_values}
use Rattle.vp_model.specs.Durable.{DurableState, apply}
use Rattle.vp_model.specs.Headline.{has_value}
use Rattle.vp_model.specs.OneCopy.{serial, order}
use Rattle.vp_model.specs.World.{Place, WorldState, Moment, Schedule, start_place, place_of, moments_of}
use Rattle.vp_laws.specs.Audits.{HoldersHaveCopies, MajoritiesTell}
use Rattle.vp_laws.specs.Catalogues.{IsWhole}
use Rattle.vp_laws.specs.Entries.{doubts_in, doubts_of}
use Rattle.vp_laws.specs.Sites.{copies_in}
use Rattle.vp_laws.proofs.Lists.Members.{Has, has_first, has_more, contains, has_of, has_none, has_one, has_one_is, has_test, filter_keeps, map_has}
use Rattle.vp_laws.proofs.Lists.Changes.{mapped_has}
use Rattle.vp_laws.proofs.Lists.Views.{not_before}
use Rattle.vp_laws.proofs.Journal.Order.{flat_has, has_flat}
use Rattle.vp_laws.proofs.Keeping.Stopping.{in_force_holder}
use Rattle.vp_audit.specs.Audited.{Parts, audit_of, can_of, copies_on, finding_of, newest_of, rows_on, settled_at, settled_copy, settled_on, table_on, waits, writes_to}
use Rattle.vp_audit.specs.declared.found.DoubtAt.{DoubtAt}
use Rattle.vp_audit.specs.True.{IsDown, HasNotStarted, AreLeft, IsTrueIn, IsTrueReport}
use Rattle.vp_audit.specs.declared.found.Can.TheVariants as can
use Rattle.vp_audit.specs.declared.found.Found.{Found}
use Rattle.vp_audit.proofs.Newest.{IsTop, newest_there}
use Rattle.vp_audit.proofs.Rows.{no_rows}

-- ---- what follows where the value is sure

waits_none : (rows : List DoubtAt) → waits (slice_get rows 0) ≡ can.Yes → rows ≡ []
waits_none [] e = refl
waits_none (row ∷ rows) e = cc

yes_says : (i t : ℕ) (rows : List DoubtAt) → can_of i t rows ≡ can.Yes → (nat_lt t (2 * i) ≡ true) × (rows ≡ [])
yes_says i t rows e = go (nat_le (2 * i) t) refl e
  where
    go : (b : Bool) → nat_le (2 * i) t ≡ b → cond b (can.No i t) (waits (slice_get rows 0)) ≡ can.Yes → (nat_lt t (2 * i) ≡ true) × (rows ≡ [])
    go true q bad = cc
    go false q sure = ((grind (arith, nat_tests, q)), waits_none rows sure)

-- ---- settled copies

none_any : (test : Doubt → Bool) (us : List Doubt) → filter test us ≡ [] → list_any test us ≡ false
none_any test [] e = refl
none_any test (u ∷ us) e = go (test u) e (none_any test us)
  where
    go : (b : Bool) → cond b (u ∷ filter test us) (filter test us) ≡ [] → (filter test us ≡ [] → list_any test us ≡ false) → (b || list_any test us) ≡ false
    go true q rest = cc
    go false q rest = rest q

certain_copy : (rec : ℕ) (d : DurableState) → filter (writes_to rec) d.doubts ≡ [] → settled_copy rec d ≡ value_at rec d.copies
certain_copy rec d e = ap (λ (b : Bool). cond b None (value_at rec d.copies)) (none_any (writes_to rec) d.doubts e)

copy_there : (rec : ℕ) (parts : Parts) (p : ℕ × DurableState) (c : Stored) → Has parts p → settled_copy rec p.1 ≡ Some c → Has (settled_on rec parts) (p.0, c)
copy_there rec parts p c h e = has_flat (settled_at rec) parts p (p.0, c) h (rw e (has_one (p.0, c)))

copies_settled : (rec : ℕ) (parts : Parts) → ((p : ℕ × DurableState) → Has parts p → settled_copy rec p.1 ≡ value_at rec p.1.copies) → copies_on rec parts ≡ settled_on rec parts
copies_settled rec [] all = refl
copies_settled rec (p ∷ parts) all =
    rw (all p (has_first p parts), copies_settled rec parts (λ q h. all q (has_more p parts q h))) refl

copy_from : (rec : ℕ) (parts : Parts) (a : ℕ × Stored) → Has (settled_on rec parts) a → (p : ℕ × DurableState) × Has parts p × (p.0 ≡ a.0) × (settled_copy rec p.1 ≡ Some a.1)
copy_from rec parts a h =
    let r = flat_has (settled_at rec) parts a h in
    let q = go r.0 (settled_copy rec r.0.1) refl r.2 in
    (r.0, r.1, q.0, q.1)
  where
    go : (p : ℕ × DurableState) (o : Option Stored) → settled_copy rec p.1 ≡ o → Has (map (λ copy. (p.0, copy)) (option_to_list o)) a → (p.0 ≡ a.0) × (settled_copy rec p.1 ≡ Some a.1)
    go p None e none = absurd (has_none a none)
    go p (Some c) e one = let same = has_one_is (p.0, c) a one in (ap (λ (a : ℕ × Stored). a.0) same, e ∙ ap (λ (a : ℕ × Stored). Some a.1) same)

-- ---- the report

module _ (catalogue : Catalogue) (parts : Parts) (w : WorldState) (left : AreLeft catalogue w parts) (law : MajoritiesTell catalogue w) (held : HoldersHaveCopies catalogue w) (rec : ℕ) (sure : (finding_of catalogue parts rec).can ≡ can.Yes) where
  said : (accessible_by (table_on catalogue rec parts) (keys parts) ≡ true) × (rows_on rec parts ≡ [])
  said = let t = table_on catalogue rec parts in yes_says (weight_inside (keys parts) t) (weight_total t) (rows_on rec parts) sure

  certain : (p : ℕ × DurableState) → Has parts p → filter (writes_to rec) p.1.doubts ≡ []
  certain = no_rows rec parts said.1

  all_settled : (p : ℕ × DurableState) → Has parts p → settled_copy rec p.1 ≡ value_at rec p.1.copies
  all_settled p h = certain_copy rec p.1 (certain p h)

  -- the place of a site that is left with this part has its copies and its doubts
  record HasPart (site : ℕ) (d : DurableState) : Type 0 where
    place : Place
    at : place_of site w.places ≡ Some place
    copies : place.durable.copies ≡ d.copies
    doubts : place.durable.doubts ≡ d.doubts

  placed : (p : ℕ × DurableState) → Has parts p → HasPart p.0 p.1
  unfolding apply
  placed p h =
      ⊎_elim
      (λ (down : IsDown w p). record { place = record { id = p.0; durable = p.1; up = None }; at = down; copies = refl; doubts = refl })
      (λ (new : HasNotStarted catalogue w p). record {
        place = start_place catalogue p.0;
        at = new.place;
        copies = ap (λ (d : DurableState). d.copies) (sym new.empty);
        doubts = ap (λ (d : DurableState). d.doubts) (sym new.empty);
      })
      (left p (contains parts p h))

  -- the part of a named site, and its place
  part_of : (s : ℕ) → Has (keys parts) s → (d : DurableState) × Has parts (s, d) × HasPart s d
  part_of s h =
      let p = map_has (λ (p : ℕ × DurableState). p.0) parts s h in
      subst (λ (n : ℕ). (d : DurableState) × Has parts (n, d) × HasPart n d) p.2
      (p.0.1, p.1, placed p.0 p.1)

  -- a copy of the part is one of the site
  copy_of : (s : ℕ) (d : DurableState) → HasPart s d → (c : Stored) → value_at rec (copies_in (place_of s w.places)) ≡ Some c → value_at rec d.copies ≡ Some c
  copy_of s d h c is = ap (value_at rec) (sym h.copies) ∙ subst (λ (o : Option Place). value_at rec (copies_in o) ≡ Some c) h.at is

  -- with no settled copy there is none, and the table is the catalogue's
  judging : (best : Option Stored) → newest_of (settled_on rec parts) ≡ best → newest_of (copies_on rec parts) ≡ best → accessible_by (table_or catalogue rec (option_and_then (λ (copy : Stored). copy.table) best)) (keys parts) ≡ true
  judging best settled any = go best (rw (settled, any) at said.0)
    where
      go : (best : Option Stored) → accessible_by (table_or catalogue rec (option_and_then (λ (copy : Stored). copy.table) (first_some best best))) (keys parts) ≡ true → accessible_by (table_or catalogue rec (option_and_then (λ (copy : Stored). copy.table) best)) (keys parts) ≡ true
      go None e = e
      go (Some copy) e = e

  judged : (best : Option Stored) → newest_of (settled_on rec parts) ≡ best → accessible_by (table_or catalogue rec (option_and_then (λ (copy : Stored). copy.table) best)) (keys parts) ≡ true
  judged best e = judging best e (ap newest_of (copies_settled rec parts all_settled) ∙ e)

  some_copy : settled_on rec parts ≡ [] → (a : ℕ × Stored) × Has (settled_on rec parts) a
  some_copy none =
      let q = in_force_holder catalogue rec (keys parts) (judged None (ap newest_of none)) in
      let p = part_of q.0 q.2 in
      let c = held q.0 rec p.2.place p.2.at (contains (holders catalogue rec) q.0 q.1) in
      ((q.0, c.0), copy_there rec parts (q.0, p.0) c.0 p.1 (all_settled (q.0, p.0) p.1 ∙ ap (value_at rec) (sym p.2.copies) ∙ c.1))

  newest : (n : Stored) × (newest_of (settled_on rec parts) ≡ Some n) × IsTop (settled_on rec parts) n
  newest = go (settled_on rec parts) refl
    where
      go : (copies : List (ℕ × Stored)) → settled_on rec parts ≡ copies → (n : Stored) × (newest_of copies ≡ Some n) × IsTop copies n
      go [] none = let a = some_copy none in absurd (has_none a.0 (subst (λ (copies : List (ℕ × Stored)). Has copies a.0) none a.1))
      go (c ∷ copies) is = newest_there c copies

  true_there : has_value (serial (start_values catalogue) (order w.journal)) rec newest.0.value ≡ true
  true_there =
      let top = newest.2 in
      let from = copy_from rec parts (top.site, newest.0) top.there in
      let named : Has (keys parts) top.site = subst (Has (keys parts)) from.2 (mapped_has (λ (p : ℕ × DurableState). p.0) parts from.0 from.1) in
      law (keys parts) rec top.site newest.0 (judged (Some newest.0) newest.1) no_doubt (contains (keys parts) top.site named)
      (let p = placed from.0 from.1 in rw (← from.2, p.at) (ap (value_at rec) p.copies ∙ sym (all_settled from.0 from.1) ∙ from.3))
      none_newer
    where
      no_doubt : (s : ℕ) (u : Doubt) → Contains (keys parts) s → Contains (doubts_of w s) u → Contains (keys u.writes) rec → ⊥
      no_doubt s u named there on =
          let p = part_of s (has_of (keys parts) s named) in
          let doubted : Has p.0.doubts u = subst (λ (us : List Doubt). Has us u) p.2.doubts (has_of p.2.place.durable.doubts u (subst (λ (o : Option Place). Contains (doubts_in o) u) p.2.at there)) in
          has_none u (subst (λ (us : List Doubt). Has us u) (certain (s, p.0) p.1) (filter_keeps (writes_to rec) p.0.doubts u doubted (has_test (keys u.writes) rec (has_of (keys u.writes) rec on))))

      none_newer : (s : ℕ) (c : Stored) → Contains (keys parts) s → value_at rec (copies_in (place_of s w.places)) ≡ Some c → view_before newest.0.date c.date ≡ false
      none_newer s c named is =
          let p = part_of s (has_of (keys parts) s named) in
          not_before newest.0.date c.date (newest.2.top (s, c) (copy_there rec parts (s, p.0) c p.1 (all_settled (s, p.0) p.1 ∙ copy_of s p.0 p.2 c is)))

  pub told : (copy : Stored) × ((finding_of catalogue parts rec).newest ≡ Some copy) × (has_value (serial (start_values catalogue) (order w.journal)) rec copy.value ≡ true)
  told = (newest.0, newest.1, true_there)

true_in : (catalogue : Catalogue) (parts : Parts) (w : WorldState) → MajoritiesTell catalogue w → HoldersHaveCopies catalogue w → IsTrueIn catalogue w parts (audit_of catalogue parts)
true_in catalogue parts w law held left f there sure =
    let r = map_has (finding_of catalogue parts) (range_with_len 0 (length catalogue.records)) f (has_of (audit_of catalogue parts) f there) in
    subst (λ (f : Found). (copy : Stored) × (f.newest ≡ Some copy) × (has_value (serial (start_values catalogue) (order w.journal)) f.rec copy.value ≡ true)) r.2
    (told catalogue parts w left law held r.0 (subst (λ (f : Found). f.can ≡ can.Yes) (sym r.2) sure))

pub report_told : ((s : Schedule) → IsWhole s.catalogue → (m : Moment) → Contains (moments_of s) m → MajoritiesTell s.catalogue m.before × MajoritiesTell s.catalogue m.after)
    → ((s : Schedule) (m : Moment) → Contains (moments_of s) m → HoldersHaveCopies s.catalogue m.before × HoldersHaveCopies s.catalogue m.after)
    → (catalogue : Catalogue) → IsWhole catalogue → (parts : Parts) → IsTrueReport catalogue parts (audit_of catalogue parts)
report_told law held catalogue whole parts s m same h =
    let tells = law s (subst IsWhole (sym same) whole) m h in
    let holds = held s m h in (
      true_in catalogue parts m.before (subst (λ (c : Catalogue). MajoritiesTell c m.before) same tells.0) (subst (λ (c : Catalogue). HoldersHaveCopies c m.before) same holds.0),
      true_in catalogue parts m.after (subst (λ (c : Catalogue). MajoritiesTell c m.after) same tells.1) (subst (λ (c : Catalogue). HoldersHaveCopies c m.after) same holds.1),
    )
