-- A step keeps the numbers of bars: a new bar has the sums by the table of the newest copy, which the catalogue or an entry of a lower
-- view gave.
use Rattle.std.proofs.Common.{◌≡◌, ◌∙◌, ap, sym, subst, ℕ, false, List, ⊎_elim}
use Rattle.std.specs.Prelude.{Option, Some}
use Rattle.vp_model.specs.Types.{View, Commit, Input, Stored}
use Rattle.vp_model.specs.Words.{value_at}
use Rattle.vp_model.specs.Catalogue.{Catalogue, accessible_by, start_copies, table_or}
use Rattle.vp_model.specs.Durable.{empty_durable}
use Rattle.vp_model.specs.Justified.{tables_below}
use Rattle.vp_model.specs.Refresh.{members_in, newest}
use Rattle.vp_model.specs.Site.{SiteState, Stepped}
use Rattle.vp_model.specs.World.{start_world}
use Rattle.vp_laws.proofs.Lists.Members.{Has}
use Rattle.vp_laws.proofs.Table.Copies.{newest_from}
use Rattle.vp_laws.proofs.Table.Covered.{BarFrom}
use Rattle.vp_laws.proofs.Table.Unlisted.{Ended, Verdict, sums_of}
use Rattle.vp_laws.proofs.Worlds.Scenes.{Scene, kept_at, scene_of}
use Rattle.vp_laws.proofs.Worlds.Sites.{NowIs, now_is, QuietIs, quiet_is, started, Quiet}
use Rattle.vp_laws.proofs.Invariant.Bars.{BarSays, InvBars}
use Rattle.vp_laws.proofs.Invariant.Base.{InvBase}
use Rattle.vp_laws.proofs.Invariant.Copies.{InvCopies}
use Rattle.vp_laws.proofs.Invariant.Known.{Known}
use Rattle.vp_laws.proofs.Invariant.Refresh.{InvRefresh}
use Rattle.vp_laws.proofs.Journal.TableContents.{content_among, tables_grow}
use Rattle.vp_laws.proofs.Journal.ValuesAfter.{content_of}
use Rattle.vp_laws.proofs.Keeping.Barred.{no_bar}
use Rattle.vp_laws.proofs.Keeping.Does.{Does}
use Rattle.vp_laws.proofs.Copies.CopiesKept.{low, sure_value}
use Rattle.vp_laws.proofs.Copies.Refreshes.{answer_in, answer_unwritten}
use Rattle.vp_laws.proofs.Copies.Values.{value_now}

module _ (catalogue : Catalogue) (w new : Scene) (s : ℕ) (x : SiteState) (given : Input) (o : Stepped) (k : Known catalogue w) (n : Known catalogue new) (d : Does catalogue w new s x given o) (copies : InvCopies catalogue w) (refresh : InvRefresh catalogue w) (base : InvBase w) (inv : InvBars catalogue w) where
  -- an old bar
  still_says : (rec : ℕ) (v : View) (bar : ℕ × ℕ) → BarSays catalogue w.journal rec v bar → BarSays catalogue new.journal rec v bar
  still_says rec v bar b = record {
    table = b.table;
    given = subst (λ (es : List Commit). Has (tables_below catalogue es rec v.id) b.table) (sym d.st.journal) (tables_grow catalogue rec w.journal o.effects.commits v.id b.table b.given);
    sums = b.sums;
    short = b.short;
  }

  -- a new one
  module _ (rec : ℕ) (v : View) (bar : ℕ × ℕ) (held : o.site.held ≡ Some v) (e : value_at rec o.site.bars ≡ Some bar) (q : Ended catalogue x given o rec) where
    own_among : (own : Stored) → value_at rec o.site.copies ≡ Some own → Has (tables_below catalogue new.journal rec v.id) (table_or catalogue rec own.table)
    own_among own h =
        content_among catalogue rec new.journal own.date v.id (content_of own)
        (sure_value catalogue w new s x given o k n d copies refresh base rec v own held h q) (low catalogue w new s x given o k n d copies refresh base rec v own held h q)

    answer_among : (p : ℕ × Stored) → Has q.r.answers p → Has (tables_below catalogue new.journal rec v.id) (table_or catalogue rec p.1.table)
    answer_among p h =
        let now = (q.answers p h).0 in
        let a = answer_in catalogue w new s x given o k n d rec p v now (sym (q.answers p h).1 ∙ held) in
        content_among catalogue rec new.journal p.1.date v.id (content_of p.1)
        (value_now catalogue w new s x given o k n d copies refresh p.1.date rec (λ f g wrote le. answer_unwritten catalogue w new s x given o k n d rec p now f g wrote)
        ∙ refresh.value p.0 s rec v.id p.1 a.sent a.low) a.low

    among : (own : Stored) → value_at rec o.site.copies ≡ Some own → Has (tables_below catalogue new.journal rec v.id) (table_or catalogue rec (newest own q.r.answers).table)
    among own h = ⊎_elim
        (λ (same : newest own q.r.answers ≡ own). subst (λ (c : Stored). Has (tables_below catalogue new.journal rec v.id) (table_or catalogue rec c.table)) (sym same) (own_among own h))
        (λ (p : (p : ℕ × Stored) × Has q.r.answers p × (p.1 ≡ newest own q.r.answers)). subst (λ (c : Stored). Has (tables_below catalogue new.journal rec v.id) (table_or catalogue rec c.table)) p.2 (answer_among p.0 p.1))
        (newest_from own q.r.answers)

    ended_says : Verdict catalogue o q.r rec → BarSays catalogue new.journal rec v bar
    ended_says (Verdict.taken own free copy a) = absurd (let z = sym e ∙ free in cc)
    ended_says (Verdict.barred own found copy a) =
        let t = table_or catalogue rec (newest own q.r.answers).table in
        let is : bar ≡ sums_of t (members_in o.site.held) = (let z = sym e ∙ found in cc) in
        record {
          table = t;
          given = among own copy;
          sums = subst (λ (h : Option View). bar ≡ sums_of t (members_in h)) held is;
          short = subst (λ (h : Option View). accessible_by t (members_in h) ≡ false) held a;
        }

  bar_here : (rec : ℕ) (v : View) (bar : ℕ × ℕ) → o.site.held ≡ Some v → value_at rec o.site.bars ≡ Some bar → BarSays catalogue new.journal rec v bar
  bar_here rec v bar held e = go (d.bar_from rec v bar held e (d.unlisting.base.1.1.barred rec bar e).unlisted)
    where
      go : BarFrom catalogue x given o rec bar → BarSays catalogue new.journal rec v bar
      go (BarFrom.still was same) = still_says rec v bar (inv.site s rec x v bar d.up (sym same ∙ held) was)
      go (BarFrom.ended q) = ended_says rec v bar held e q q.verdict

  pub bars_keep : InvBars catalogue new
  bars_keep = record { site = λ j rec y v bar up held e. at_site j rec y v bar held e (now_is w new s x o d.st j y up) }
    where
      at_site : (j rec : ℕ) (y : SiteState) (v : View) (bar : ℕ × ℕ) → y.held ≡ Some v → value_at rec y.bars ≡ Some bar → NowIs w s o.site j y → BarSays catalogue new.journal rec v bar
      at_site j rec y v bar held e (NowIs.other m old) = still_says rec v bar (inv.site j rec y v bar old held e)
      at_site j rec y v bar held e (NowIs.here z same) =
          bar_here rec v bar (ap (λ (y : SiteState). y.held) same ∙ held) (ap (λ (y : SiteState). value_at rec y.bars) same ∙ e)

pub bars_starts : (catalogue : Catalogue) → InvBars catalogue (scene_of (start_world catalogue))
bars_starts catalogue = record { site = λ s rec x v bar up held e. absurd (no_bar catalogue s (empty_durable (start_copies catalogue s)) rec bar (ap (λ (x : SiteState). value_at rec x.bars) (started catalogue s x up) ∙ e)) }

pub bars_quiet : (catalogue : Catalogue) (w new : Scene) (s : ℕ) → Quiet catalogue w new s → InvBars catalogue w → InvBars catalogue new
bars_quiet catalogue w new s q inv = record { site = λ j rec y v bar up held e. at_site j rec y v bar held e (quiet_is catalogue w new s q j y up) }
  where
    at_site : (j rec : ℕ) (y : SiteState) (v : View) (bar : ℕ × ℕ) → y.held ≡ Some v → value_at rec y.bars ≡ Some bar → QuietIs catalogue w s j y → BarSays catalogue new.journal rec v bar
    at_site j rec y v bar held e (QuietIs.other n old) = subst (λ (es : List Commit). BarSays catalogue es rec v bar) (sym q.journal) (inv.site j rec y v bar old held e)
    at_site j rec y v bar held e (QuietIs.here z same) = absurd (no_bar catalogue s (kept_at w s) rec bar (ap (λ (y : SiteState). value_at rec y.bars) same ∙ e))
