-- Bars, in every world: a view is held, the barred record isn't under refresh, and each lock of a transaction on it is of one in doubt there
-- of a lower view.
use Rattle.std.proofs.Common.{◌≡◌, ℕ}
use Rattle.std.specs.Prelude.{Some}
use Rattle.vp_model.specs.Site.{SiteState}
use Rattle.vp_laws.proofs.Table.Barred.{AreBarred}
use Rattle.vp_laws.proofs.Worlds.Scenes.{Scene, plain_at}

pub record InvBarred (w : Scene) : Type 0 where
  -- each bar of a site that is up
  pub site : (s : ℕ) (x : SiteState) → plain_at w s ≡ Some x → AreBarred x
