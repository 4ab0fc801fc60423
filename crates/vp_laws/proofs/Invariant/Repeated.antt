-- Answers that may be given again, in every world.
use Rattle.std.proofs.Common.{◌≡◌, ℕ}
use Rattle.std.specs.Prelude.{Some}
use Rattle.vp_model.specs.Site.{SiteState}
use Rattle.vp_laws.proofs.Worlds.Scenes.{Scene, plain_at}
use Rattle.vp_laws.proofs.Table.Kept.{AnswersKept}

pub record InvRepeated (w : Scene) : Type 0 where
  -- a live transaction keeps answers to operations alone, and a finished one its end beside
  pub site : (s : ℕ) (x : SiteState) → plain_at w s ≡ Some x → AnswersKept x.coordinator
