use Rattle.std.proofs.Common.{refl}
use Rattle.std.specs.Fmt.{digits}
use Rattle.vp_model.proofs.Computed.{computes}
use Rattle.vp_pictures.specs.Heads.{head}
use Rattle.vp_pictures.specs.Pictures.{size_text}
use Rattle.vp_pictures.specs.Steps.{draw_line, draw_step, say_event, say_shown, say_view}
use Rattle.vp_drawing.proofs.claims.a_picture_is_worked.Goals as goal

pub returns : goal.returns
unfolding computes digits head size_text draw_line draw_step say_event say_shown say_view
returns c = refl
