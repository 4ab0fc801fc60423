-- A site that has left a view does not use it again.
use Rattle.std.proofs.Common.{◌≡◌, ℕ}
use Rattle.std.specs.Prelude.{Some}
use Rattle.vp_model.specs.Types.{ViewId}
use Rattle.vp_model.specs.Site.{SiteState}
use Rattle.vp_laws.proofs.Lists.Views.{AtMost}
use Rattle.vp_laws.proofs.Table.Leaves.{Uses}
use Rattle.vp_laws.proofs.Worlds.Scenes.{Scene, plain_at, promise_at}

-- the site has left the view, and will not use it again
pub record HasLeft (w : Scene) (q : ℕ) (i : ViewId) : Type 0 where
  -- its promise is at least that view
  pub promised : AtMost i (promise_at w q)
  -- while it is up it neither holds that view, nor waits for it, nor invites to it
  pub unused : (x : SiteState) → plain_at w q ≡ Some x → Uses x i → ⊥
