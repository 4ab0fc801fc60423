-- How many steps and messages a run may have to be drawn.
use Rattle.std.specs.Prelude.{ℕ, List, codes}
use Rattle.vp_model.specs.Types.{Counted}
use Rattle.vp_model.specs.Types.counted
use Rattle.vp_model.specs.Limits.{Limits}
use Rattle.vp_world.specs.declared.end.WorldEnd.{WorldEnd}
use Rattle.vp_world.specs.declared.end.WorldEnd.TheVariants as world_end
use Rattle.vp_drawing.specs.declared.end.DrawingEnd.{DrawingEnd}
use Rattle.vp_drawing.specs.declared.end.DrawingEnd.TheVariants as end

abbrev pub picture_limits : Limits
picture_limits = record { steps = 2000; messages = 20000 }

abbrev pub limit_text : Counted → List ℕ
limit_text counted.Steps = codes "limit steps 2000\n"
limit_text counted.Messages = codes "limit messages 20000\n"

-- a world ends where a picture does
abbrev pub end_of : WorldEnd → DrawingEnd
end_of (world_end.Limit what limit) = end.Limit what
end_of world_end.NoMemory = end.NoMemory
