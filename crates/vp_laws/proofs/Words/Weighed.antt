-- Weights that transactions change, in the words of the contracts.
use Rattle.std.proofs.Common.{◌≡◌, ◌⊎◌, ◌∙◌, sym, subst, ℕ, Bool, true, false, cond, List, [], ◌∷◌, ◌++◌, refl, inl, inr, append_assoc, ⊎_elim}
use Rattle.std.specs.Prelude.{Option, Some, None, IsTrue, filter_map, flat_map, is_some, not, option_and_then}
use Rattle.std.specs.List.{list_any}
use Rattle.std.specs.Option.{option_map_or}
use Rattle.std.proofs.lemmas.Bool.{eqb-true}
use Rattle.std.proofs.lemmas.List.Elements.{All-from_recursion, recursion_from_All}
use Rattle.vp_model.specs.Types.{TxnId, ViewId, View, Stored, Op, Commit, Line}
use Rattle.vp_model.specs.Types.op
use Rattle.vp_model.specs.Words.{for_each, keys, put_at, put_number, value_at}
use Rattle.vp_model.specs.Catalogue.{Catalogue, Table, accessible_by, same_table, sites_of, table_or}
use Rattle.vp_model.specs.Headline.{AreInForce, IsInForce, IsWeighed, entry_uses, is_locked, is_readable, op_uses, table_after, tables_true, tables_true_at, tables_true_in}
use Rattle.vp_model.specs.OneCopy.{order}
use Rattle.vp_model.specs.Refresh.{is_open}
use Rattle.vp_model.specs.Site.{SiteState}
use Rattle.vp_model.specs.Told.{answers_in, table_asked, taken_call, told_tables, weighed}
use Rattle.vp_model.specs.World.{Moment, Schedule, WorldState, journal_of, lines_of, moments_of, run_of}
use Rattle.vp_laws.specs.Catalogues.{AreApart, IsWhole}
use Rattle.vp_laws.specs.Entries.{record_in}
use Rattle.vp_laws.proofs.Lists.Changes.{all_from}
use Rattle.vp_laws.proofs.Lists.Members.{Has, has_first, has_right, contains, all_of, any_true, both_true, either_true, not_true}
use Rattle.vp_laws.proofs.Lists.Items.{all_at}
use Rattle.vp_laws.proofs.Lists.Numbers.{eq_self}
use Rattle.vp_laws.proofs.Lists.Pairs.{Differ, pair_value}
use Rattle.vp_laws.proofs.Worlds.Events.{in_each, in_last}
use Rattle.vp_laws.proofs.Worlds.Scenes.{plain_at, scene_of}
use Rattle.vp_laws.proofs.Invariant.Closed.{Open}
use Rattle.vp_laws.proofs.Invariant.Entered.{AgreedAs}
use Rattle.vp_laws.proofs.Invariant.Invariant.{Invariant}
use Rattle.vp_laws.proofs.Invariant.Ops.{HasUsed}
use Rattle.vp_laws.proofs.Journal.Order.{order_has}
use Rattle.vp_laws.proofs.Journal.Places.{ascending_differ}
use Rattle.vp_laws.proofs.Journal.Play.{Ascending, put_ascending}
use Rattle.vp_laws.proofs.Journal.TableContents.{content_table, table_same}
use Rattle.vp_laws.proofs.Journal.TablesAfter.{given_by}
use Rattle.vp_laws.proofs.Journal.UpTo.{upto}
use Rattle.vp_laws.proofs.Journal.ValuesAfter.{Wrote, content_of}
use Rattle.vp_laws.proofs.Copies.Force.{below}
use Rattle.vp_laws.proofs.Copies.ForceAt.{in_force_at}
use Rattle.vp_laws.proofs.Copies.Weights.{known_weighed, weighed_wrote}
use Rattle.vp_laws.proofs.Order.Invariant.{invariant_last}
use Rattle.vp_laws.proofs.Told.Tables.{tables_told}
use Rattle.vp_laws.proofs.Words.Readable.{Places, each_site, places_last, readable_content}

-- no record is given two tables
puts_ascend : (ts : List (ℕ × Table)) (ws : List (ℕ × Table)) → Ascending ws → Ascending (for_each ts (λ (t : ℕ × Table). put_at t.0 t.1) ws)
puts_ascend [] ws h = h
puts_ascend (t ∷ ts) ws h = puts_ascend ts (put_at t.0 t.1 ws) (put_ascending t.0 t.1 ws h)

told_differ : (catalogue : Catalogue) (lines : List Line) (txn : TxnId) → Differ (keys (told_tables catalogue lines txn))
told_differ catalogue lines txn =
    let told : List (ℕ × Table) = filter_map (λ (number : ℕ). option_and_then (table_asked catalogue) (taken_call lines txn number)) (for_each (filter_map (weighed txn) (flat_map answers_in lines)) put_number []) in
    ascending_differ (told_tables catalogue lines txn) (puts_ascend told [] tt)

same_table-self : (t : Table) → same_table t t ≡ true
same_table-self [] = refl
same_table-self (w ∷ ws) = rw (eq_self w.0, eq_self w.1) (same_table-self ws)

module _ (catalogue : Catalogue) (w : WorldState) (inv : Invariant catalogue (scene_of w)) (differ : (e : Commit) → Has w.journal e → Differ (keys e.tables)) where
  -- an entry has used the record, or changed it
  used_or_changed : (rec : ℕ) (e : Commit) → entry_uses rec e ≡ true → HasUsed e.ops rec ⊎ Wrote e rec
  used_or_changed rec e t = ⊎_elim
      (λ (used : list_any (op_uses rec) e.ops ≡ true). let q = any_true (op_uses rec) e.ops used in inl (q.0, q.1, on q.0 q.2))
      (λ gave. inr (weighed_wrote rec e gave))
      (either_true (list_any (op_uses rec) e.ops) (is_some (value_at rec e.tables)) t)
    where
      on : (operation : Op) → op_uses rec operation ≡ true → record_in operation ≡ rec
      on (op.Read r value) e = eqb-true r rec e
      on (op.Write r value) e = eqb-true r rec e

  module _ (before behind : List Commit) (e : Commit) (is : order w.journal ≡ before ++ e ∷ behind) where
    there : Has w.journal e
    there = order_has w.journal e (subst (λ (es : List Commit). Has es e) (sym is) (has_right before (e ∷ behind) e (has_first e behind)))

    view : (v : View) × Has w.agreed v × (v.id ≡ e.view) × Has v.members e.txn.site
    view = inv.known.led.entry e there

    agreed : AgreedAs (scene_of w) e.view view.0
    agreed = (view.1, view.2)

    used : (rec : ℕ) → entry_uses rec e ≡ true → accessible_by (table_after catalogue rec before) view.0.members ≡ true
    used rec t =
        let opened : Open catalogue (scene_of w) rec view.0 = inv.refresh.entry e view.0 rec there agreed (used_or_changed rec e t) in
        let usable : accessible_by (below given_by rec catalogue (scene_of w) e.view) view.0.members ≡ true = subst (λ (i : ViewId). accessible_by (below given_by rec catalogue (scene_of w) i) view.0.members ≡ true) view.2 opened.usable in
        subst (λ (t : Table). accessible_by t view.0.members ≡ true) (sym (table_same catalogue rec before))
        (in_force_at given_by rec catalogue (scene_of w) (known_weighed catalogue (scene_of w) inv.known inv.refresh rec) before behind e view.0 is agreed usable)

    given : (t : ℕ × Table) → Has e.tables t → accessible_by t.1 view.0.members ≡ true
    given t h = (inv.refresh.weighed e view.0 t.0 t.1 there agreed (pair_value e.tables t.0 t.1 (differ e there) h)).enough

    one : IsInForce catalogue w.agreed before e
    one = record {
      view = view.0;
      agreed = contains w.agreed view.0 view.1;
      is = view.2;
      used = used;
      given = All-from_recursion _ e.tables (all_of (λ (t : ℕ × Table). IsTrue (accessible_by t.1 view.0.members)) e.tables given);
    }

  pub all_in_force : (before behind : List Commit) → order w.journal ≡ before ++ behind → AreInForce catalogue w.agreed before behind
  all_in_force before [] is = tt
  all_in_force before (e ∷ behind) is = (one before behind e is, all_in_force (before ++ e ∷ []) behind (is ∙ sym (append_assoc before (e ∷ []) behind)))

-- readable copies have the tables that entries leave
module _ (catalogue : Catalogue) (w : WorldState) (inv : Invariant catalogue (scene_of w)) where
  copy_table : (s : ℕ) (x : SiteState) (v : View) → plain_at (scene_of w) s ≡ Some x → x.held ≡ Some v → tables_true_in catalogue w.journal x v ≡ true
  copy_table s x v up held = all_from _ x.copies (λ copy h. go copy h (is_readable x copy.0) refl)
    where
      go : (copy : ℕ × Stored) → Has x.copies copy → (readable : Bool) → is_readable x copy.0 ≡ readable → cond readable (same_table (table_or catalogue copy.0 copy.1.table) (table_after catalogue copy.0 (upto v.id (order w.journal)))) true ≡ true
      go copy h false e = refl
      go copy h true e =
          let t = both_true (is_open x copy.0) (not (list_any (is_locked copy.0) x.locks)) e in
          let value = readable_content catalogue w inv s x up v held copy.0 copy.1 h t.0 (not_true (list_any (is_locked copy.0) x.locks) t.1) in
          let same : table_or catalogue copy.0 copy.1.table ≡ table_after catalogue copy.0 (upto v.id (order w.journal)) = content_table catalogue copy.0 w.journal v.id (content_of copy.1) value ∙ sym (table_same catalogue copy.0 (upto v.id (order w.journal))) in
          subst (λ (t : Table). same_table (table_or catalogue copy.0 copy.1.table) t ≡ true) same (same_table-self (table_or catalogue copy.0 copy.1.table))

  site_tables : (s : ℕ) (x : SiteState) → plain_at (scene_of w) s ≡ Some x → tables_true_at catalogue w.journal x ≡ true
  site_tables s x up = go x.held refl
    where
      go : (held : Option View) → x.held ≡ held → option_map_or (tables_true_in catalogue w.journal x) held true ≡ true
      go None e = refl
      go (Some v) e = copy_table s x v up e

  pub world_tables : AreApart (sites_of catalogue) → Places catalogue (scene_of w) → tables_true catalogue w ≡ true
  world_tables apart places = each_site catalogue w apart places (tables_true_at catalogue w.journal) site_tables

pub schedule_weighed : (s : Schedule) → IsWhole s.catalogue → IsWeighed s
schedule_weighed s whole = record {
  in_force = all_in_force s.catalogue (run_of s).world (in_last s.catalogue (Invariant s.catalogue) (invariant_last s.catalogue whole) s.events) differ [] (order (journal_of s)) refl;
  told = tables_told s;
  copies = all_from (λ (m : Moment). tables_true s.catalogue m.after) (moments_of s) (λ m h.
      world_tables s.catalogue m.after (in_each s.catalogue (Invariant s.catalogue) (invariant_last s.catalogue whole) s.events m h).1 whole.apart (in_each s.catalogue (Places s.catalogue) (places_last s.catalogue) s.events m h).1);
}
  where
    differ : (e : Commit) → Has (run_of s).world.journal e → Differ (keys e.tables)
    differ e h =
        let is : e.tables ≡ told_tables s.catalogue (lines_of s) e.txn = all_at (λ (e : Commit). e.tables ≡ told_tables s.catalogue (lines_of s) e.txn) (journal_of s) (recursion_from_All _ (journal_of s) (tables_told s)) e h in
        subst (λ (ts : List (ℕ × Table)). Differ (keys ts)) (sym is) (told_differ s.catalogue (lines_of s) e.txn)
