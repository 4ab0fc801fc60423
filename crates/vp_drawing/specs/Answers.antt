-- What is printed for an input.
use Rattle.std.specs.Prelude.{◌≡◌, ℕ, List, Some, None}
use Rattle.vp_model.specs.Types.{Counted}
use Rattle.vp_model.specs.Limits.{limit_reached}
use Rattle.vp_model.specs.World.{Schedule}
use Rattle.vp_pictures.specs.Pictures.{picture_text}
use Rattle.vp_pictures.specs.declared.sheet.Part.{Part}
use Rattle.vp_refusals.specs.PlayAnswers.{IsPlayAnswer}
use Rattle.vp_status.specs.declared.status.Status.{Status}
use Rattle.vp_status.specs.declared.status.Status.TheVariants as status
use Rattle.vp_drawing.specs.Limits.{limit_text, picture_limits}
use Rattle.vp_drawing.specs.Moments.{sheet_of}

-- A limit ends the schedule: what is printed is that limit alone.
pub record IsLimited (s : Schedule) (text : List ℕ) : Type 0 where
  pub counted : Counted
  pub reached : limit_reached picture_limits s ≡ Some counted
  pub printed : text ≡ limit_text counted

-- what is printed for a part of a schedule at each status
abbrev pub Shows : Part → Schedule → Status → List ℕ → Type 0
Shows part s status.Done text = (limit_reached picture_limits s ≡ None) × (text ≡ picture_text s.catalogue (sheet_of s part))
Shows part s status.Limit text = IsLimited s text
Shows part s _ text = ⊥

-- the text that is defined for an input at each status: the picture of its schedule, or why there is none
abbrev pub IsDrawn : Part → List ℕ → Status → List ℕ → Type 0
IsDrawn part bytes end text = IsPlayAnswer (Shows part) bytes end text
