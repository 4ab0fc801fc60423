-- What is drawn of the steps so far, and how drawing goes on.
use Rattle.std.specs.Prelude.{◌≡◌, ◌≤◌, ◌<◌, ⊤, false, length, Some, None, Result, Ok, Err}
use Rattle.std.specs.List.{list_any}
use Rattle.vp_model.specs.Types.counted
use Rattle.vp_model.specs.Catalogue.{Catalogue}
use Rattle.vp_model.specs.Limits.{exceeded, is_over, limit_in, limit_reached}
use Rattle.vp_model.specs.World.{Moment, Run, Schedule}
use Rattle.vp_pictures.specs.declared.sheet.Part.{Part}
use Rattle.vp_pictures.specs.declared.sheet.Sheet.{Sheet}
use Rattle.vp_world.specs.Known.{Known}
use Rattle.vp_drawing.specs.Limits.{picture_limits}
use Rattle.vp_drawing.specs.Looks.{looks_of}
use Rattle.vp_drawing.specs.Moments.{draw_moment, draw_moments, sheet_of}
use Rattle.vp_drawing.specs.declared.drawing.Drawing.{Drawing}
use Rattle.vp_drawing.specs.declared.end.DrawingEnd.{DrawingEnd}
use Rattle.vp_drawing.specs.declared.end.DrawingEnd.TheVariants as end

-- The drawing is at this world.
pub record IsDrawing (known : Known) (d : Drawing) : Type 0 where
  pub catalogue : d.watch.catalogue ≡ known.catalogue
  pub looks : d.watch.looks ≡ looks_of known.world
  pub steps : d.steps ≡ known.world.steps
  pub few : d.steps ≤ 2000

-- ---- one step

-- The step of the moment is done and drawn, or it exceeds a limit.
abbrev pub DrawsMoment : Catalogue → Moment → Result Known DrawingEnd → Drawing → Drawing → Type 0
DrawsMoment catalogue m (Ok known) old new =
    (exceeded picture_limits m.after ≡ None)
    × (known ≡ record { catalogue = catalogue; world = m.after })
    × IsDrawing known new
    × (new.sheet ≡ draw_moment catalogue m old.sheet)
DrawsMoment catalogue m (Err (end.Limit what)) old new = exceeded picture_limits m.after ≡ Some what
DrawsMoment catalogue m (Err end.NoMemory) old new = ⊤

-- the world goes on with so few messages, or it has too many
abbrev pub WithinMessages : Known → Result Known DrawingEnd → Type 0
WithinMessages known (Ok same) = (same ≡ known) × (length known.world.sent ≤ 20000)
WithinMessages known (Err (end.Limit what)) = (what ≡ counted.Messages) × (20000 < length known.world.sent)
WithinMessages known (Err end.NoMemory) = ⊥

-- ---- the steps of a run

-- The world is that of the run, and its moments are drawn on the sheet that there was before; no limit is exceeded.
pub record IsSoFar (catalogue : Catalogue) (run : Run) (base : Sheet) (known : Known) (d : Drawing) : Type 0 where
  pub known_is : known ≡ record { catalogue = catalogue; world = run.world }
  pub within : list_any (is_over picture_limits) run.moments ≡ false
  pub is : IsDrawing known d
  pub sheet_is : d.sheet ≡ draw_moments catalogue run.moments base

-- The whole run is drawn, or it exceeds a limit.
abbrev pub Draws : Catalogue → Run → Sheet → Result Known DrawingEnd → Drawing → Type 0
Draws catalogue run base (Ok known) new = IsSoFar catalogue run base known new
Draws catalogue run base (Err (end.Limit what)) new = limit_in picture_limits run.moments ≡ Some what
Draws catalogue run base (Err end.NoMemory) new = ⊤

-- ---- a schedule

-- The part of the schedule is drawn, or the schedule exceeds a limit.
abbrev pub DrawsSchedule : Schedule → Part → Result Sheet DrawingEnd → Type 0
DrawsSchedule s part (Ok sheet) = (limit_reached picture_limits s ≡ None) × (sheet ≡ sheet_of s part)
DrawsSchedule s part (Err (end.Limit what)) = limit_reached picture_limits s ≡ Some what
DrawsSchedule s part (Err end.NoMemory) = ⊤
