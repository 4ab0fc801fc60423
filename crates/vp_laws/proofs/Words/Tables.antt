-- A copy that may be read has the table that the journal leaves its record.
use Rattle.std.proofs.Common.{◌≡◌, ◌∙◌, ap, ℕ, List, [], ◌∷◌, refl}
use Rattle.std.specs.Prelude.{Option, Some, None, option_map, slice_get, fold, not}
use Rattle.std.specs.List.{Contains, list_any}
use Rattle.vp_model.specs.Types.{Commit}
use Rattle.vp_model.specs.Catalogue.{Catalogue, Table, start_values}
use Rattle.vp_model.specs.Refresh.{is_open}
use Rattle.vp_model.specs.OneCopy.{order}
use Rattle.vp_model.specs.Headline.{is_locked}
use Rattle.vp_model.specs.World.{WorldState, Moment, Schedule, moments_of}
use Rattle.vp_laws.specs.Catalogues.{IsWhole}
use Rattle.vp_laws.specs.Tables.{table_by, table_after, CopiesHaveTables}
use Rattle.vp_laws.proofs.Lists.Members.{has_of, both_true, not_true}
use Rattle.vp_laws.proofs.Journal.UpTo.{upto}
use Rattle.vp_laws.proofs.Journal.ValuesAfter.{Content, content_of, started, writes_over, value_in, value_up_to}
use Rattle.vp_laws.proofs.Journal.LastChanges.{act_table}
use Rattle.vp_laws.proofs.Worlds.Scenes.{scene_of}
use Rattle.vp_laws.proofs.Worlds.Events.{in_each}
use Rattle.vp_laws.proofs.Invariant.Invariant.{Invariant}
use Rattle.vp_laws.proofs.Order.Invariant.{invariant_last}
use Rattle.vp_laws.proofs.Words.Readable.{readable_content}

table_left : (rec : ℕ) (es : List Commit) (c : Content) → (value_in rec c es).table ≡ fold (table_by rec) c.table es
table_left rec [] c = refl
table_left rec (e ∷ es) c = table_left rec es (writes_over rec e c) ∙ ap (λ (own : Option Table). fold (table_by rec) own es) (act_table e rec c)

tables_here : (catalogue : Catalogue) (w : WorldState) → Invariant catalogue (scene_of w) → CopiesHaveTables catalogue w
tables_here catalogue w inv site rec x view copy up held h readable =
    let t = both_true (is_open x rec) (not (list_any (is_locked rec) x.locks)) readable in
    go (slice_get (start_values catalogue) rec)
    (readable_content catalogue w inv site x up view held rec copy (has_of x.copies (rec, copy) h) t.0 (not_true (list_any (is_locked rec) x.locks) t.1))
  where
    go : (o : Option (Option (List ℕ))) → option_map (λ start. value_up_to rec (started start) w.journal view.id) o ≡ Some (content_of copy) → copy.table ≡ table_after w.journal view.id rec
    go None q = cc
    go (Some start) q =
        let same : content_of copy ≡ value_up_to rec (started start) w.journal view.id = cc in
        ap (λ (c : Content). c.table) same ∙ table_left rec (upto view.id (order w.journal)) (started start)

pub tables_each : (s : Schedule) → IsWhole s.catalogue → (m : Moment) → Contains (moments_of s) m → CopiesHaveTables s.catalogue m.before × CopiesHaveTables s.catalogue m.after
tables_each s whole m h =
    let both = in_each s.catalogue (Invariant s.catalogue) (invariant_last s.catalogue whole) s.events m (has_of (moments_of s) m h) in
    (tables_here s.catalogue m.before both.0, tables_here s.catalogue m.after both.1)
