-- Locks in every world, site by site: who owns them, and that no two transactions conflict at a site, up or down.
use Rattle.std.proofs.Common.{◌≡◌, ℕ}
use Rattle.std.specs.Prelude.{Some}
use Rattle.vp_model.specs.Types.{Doubt}
use Rattle.vp_model.specs.Words.{keys}
use Rattle.vp_model.specs.Catalogue.{Catalogue}
use Rattle.vp_model.specs.Site.{SiteState}
use Rattle.vp_laws.proofs.Lists.Members.{Has}
use Rattle.vp_laws.proofs.Worlds.Scenes.{Scene, plain_at, kept_at}
use Rattle.vp_laws.proofs.Table.Locks.{LocksAt}

pub record InvGuards (catalogue : Catalogue) (w : Scene) : Type 0 where
  -- the locks of a site are in order
  pub site : (s : ℕ) (x : SiteState) → plain_at w s ≡ Some x → LocksAt catalogue x
  -- two doubts of one site, be it up or down, write different records
  pub writes : (s : ℕ) (c d : Doubt) (rec : ℕ) → Has (kept_at w s).doubts c → Has (kept_at w s).doubts d → Has (keys c.writes) rec → Has (keys d.writes) rec → c.txn ≡ d.txn
