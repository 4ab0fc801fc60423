-- The whole invariant holds in every world of every schedule.
use Rattle.vp_laws.proofs.Worlds.Events.{Arrives, Lasts, crashed, restarted}
use Rattle.vp_model.specs.Catalogue.{Catalogue}
use Rattle.vp_model.specs.Types.{Input}
use Rattle.vp_laws.proofs.Invariant.Invariant.{Invariant}
use Rattle.vp_laws.proofs.Invariant.Known.{Known}
use Rattle.vp_laws.proofs.Worlds.Sites.{Quiet, crash_quiet, restart_quiet}
use Rattle.vp_laws.proofs.Worlds.Scenes.{Scene, acted, plain_at}
use Rattle.vp_model.specs.Site.{SiteState}
use Rattle.std.specs.Prelude.{Some, None}
use Rattle.vp_model.specs.World.{Place, place_of}
use Rattle.vp_laws.proofs.Copies.DoubtBase.{base_keeps}
use Rattle.vp_laws.specs.Catalogues.{IsWhole}
use Rattle.vp_laws.proofs.Copies.BarsKept.{bars_keep, bars_quiet, bars_starts}
use Rattle.vp_laws.proofs.Copies.BaseQuiet.{base_quiet, base_starts}
use Rattle.vp_laws.proofs.Copies.CopiesKept.{copies_keep}
use Rattle.vp_laws.proofs.Copies.Quiet.{copies_quiet, copies_starts, refresh_quiet, refresh_starts}
use Rattle.vp_laws.proofs.Keeping.Does.{does}
use Rattle.vp_laws.proofs.Keeping.Known.{known_acts, known_last, known_starts}
use Rattle.vp_laws.proofs.Order.Order.{order_keep, order_quiet, order_starts}
use Rattle.vp_laws.proofs.Order.OwnEnds.{own_ends_keep, own_ends_quiet, own_ends_starts}
use Rattle.vp_laws.proofs.Order.Reading.{reading_keep, reading_quiet, reading_starts}
use Rattle.vp_laws.proofs.Copies.RefreshKept.{refresh_keep}
use Rattle.vp_model.specs.Step.{step}
use Rattle.std.proofs.Common.{ℕ, ◌≡◌}

pub invariant_acts : (catalogue : Catalogue) (w : Scene) (s : ℕ) (x : SiteState) (given : Input) → plain_at w s ≡ Some x → Arrives w s given → Invariant catalogue w → Invariant catalogue (acted w s x (step catalogue x given))
invariant_acts catalogue w s x given up r inv =
    let o = step catalogue x given in
    let new = acted w s x o in
    let k = inv.known in
    let n = known_acts catalogue w s x given up r k in
    let d = does catalogue w s x given up r k in
    record {
      known = n;
      copies = copies_keep catalogue w new s x given o k n d inv.copies inv.refresh inv.base;
      refresh = refresh_keep catalogue w new s x given o k n d inv.copies inv.refresh;
      base = base_keeps catalogue w new s x given o k n d inv.copies inv.refresh inv.base;
      bars = bars_keep catalogue w new s x given o k n d inv.copies inv.refresh inv.base inv.bars;
      reading = reading_keep catalogue w new s x given o k n d inv.reading;
      order = order_keep catalogue w new s x given o k n d inv.copies inv.refresh inv.reading inv.order;
      own_ends = own_ends_keep catalogue w new s x given o k n d inv.own_ends;
    }

-- a site goes down or starts again; the rest is known of before
invariant_quiet : (catalogue : Catalogue) (w new : Scene) (s : ℕ) → Quiet catalogue w new s → Known catalogue new → Invariant catalogue w → Invariant catalogue new
invariant_quiet catalogue w new s q n inv = record {
  known = n;
  copies = copies_quiet catalogue w new s q inv.known.lived inv.copies inv.refresh;
  refresh = refresh_quiet catalogue w new s q inv.known.lived inv.copies inv.refresh;
  base = base_quiet catalogue w new s q inv.known.lived inv.copies inv.refresh inv.base;
  bars = bars_quiet catalogue w new s q inv.bars;
  reading = reading_quiet catalogue w new s q inv.reading;
  order = order_quiet catalogue w new s q inv.order;
  own_ends = own_ends_quiet catalogue w new s q inv.own_ends;
}

pub invariant_crashes : (catalogue : Catalogue) (w : Scene) (s : ℕ) → Invariant catalogue w → Invariant catalogue (crashed w s)
invariant_crashes catalogue w s inv = invariant_quiet catalogue w (crashed w s) s (crash_quiet catalogue w s) ((known_last catalogue).crashes w s inv.known) inv

pub invariant_restarts : (catalogue : Catalogue) (w : Scene) (s : ℕ) (place : Place) → place_of s w.places ≡ Some place → place.up ≡ None → place.id ≡ s → Invariant catalogue w → Invariant catalogue (restarted catalogue w s)
invariant_restarts catalogue w s place e u i inv = invariant_quiet catalogue w (restarted catalogue w s) s (restart_quiet catalogue w s place e i) ((known_last catalogue).restarts w s place e u i inv.known) inv

pub invariant_last : (catalogue : Catalogue) → IsWhole catalogue → Lasts catalogue (Invariant catalogue)
invariant_last catalogue whole = record {
  starts = record {
    known = known_starts catalogue;
    copies = copies_starts catalogue whole;
    refresh = refresh_starts catalogue;
    base = base_starts catalogue;
    bars = bars_starts catalogue;
    reading = reading_starts catalogue;
    order = order_starts catalogue;
    own_ends = own_ends_starts catalogue;
  };
  acts = invariant_acts catalogue;
  crashes = invariant_crashes catalogue;
  restarts = invariant_restarts catalogue;
}
