-- Parts, doubts and dates in every world: up sites and down ones.
use Rattle.std.proofs.Common.{◌≡◌, ℕ}
use Rattle.std.specs.Prelude.{Some}
use Rattle.vp_model.specs.Types.{Stored, Sent, Doubt}
use Rattle.vp_model.specs.Durable.{DurableState}
use Rattle.vp_model.specs.Site.{SiteState}
use Rattle.vp_laws.proofs.Lists.Members.{Has}
use Rattle.vp_laws.proofs.Lists.Views.{AtMost}
use Rattle.vp_laws.proofs.Worlds.Scenes.{Scene, plain_at, kept_at}
use Rattle.vp_laws.proofs.Table.Below.{DoubtOk, Below, IsDated}

-- what a site keeps in its log, up or down
pub record KeptOk (s : ℕ) (d : DurableState) : Type 0 where
  -- a doubt is of another site's transaction, in a view up to the promise
  pub doubts : (a : Doubt) → Has d.doubts a → DoubtOk d.promise s a
  -- the date of a copy is at most the promise
  pub copies : (c : ℕ × Stored) → Has d.copies c → AtMost c.1.date d.promise

pub record InvBelow (w : Scene) : Type 0 where
  -- a site's parts are of others' transactions in the view that it holds, and what it has is dated at most at its promise
  pub site : (s : ℕ) (x : SiteState) → plain_at w s ≡ Some x → Below x
  -- so is what a site has kept, up or down
  pub kept : (s : ℕ) → KeptOk s (kept_at w s)
  -- an answer to a refresh has no date above its view
  pub dated : (m : Sent) → Has w.sent m → IsDated m.message
