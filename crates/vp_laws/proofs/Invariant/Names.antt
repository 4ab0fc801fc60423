-- No name of a transaction or a view is anywhere above what its site has used.
use Rattle.std.proofs.Common.{◌≡◌, ℕ, ◌≤◌}
use Rattle.std.specs.Prelude.{Some}
use Rattle.vp_model.specs.Types.{ViewId, TxnId, Stored, Sent, Commit, Doubt, Decision}
use Rattle.vp_model.specs.Durable.{DurableState}
use Rattle.vp_model.specs.Site.{SiteState}
use Rattle.vp_laws.proofs.Lists.Members.{Has}
use Rattle.vp_laws.proofs.Worlds.Scenes.{Scene, plain_at, kept_at}
use Rattle.vp_laws.proofs.Table.Names.{Named, Names}
use Rattle.vp_laws.proofs.Invariant.Views.{Used}

-- the site has used the name: in an earlier life, or in this one
pub record UsedTxn (w : Scene) (t : TxnId) : Type 0 where
  -- its life was begun
  pub life : t.life ≤ (kept_at w t.site).life
  -- in a life that goes on, its number was given
  pub seq : (x : SiteState) → plain_at w t.site ≡ Some x → x.life ≡ t.life → t.seq ≤ x.seq

-- the names in what a site has kept are such names
pub record KeptNamed (N : TxnId → Type 0) (A : ViewId → Type 0) (d : DurableState) : Type 0 where
  -- the transactions and views of doubts
  pub doubts : (a : Doubt) → Has d.doubts a → N a.txn × A a.view
  -- the transactions of decisions
  pub decisions : (a : Decision) → Has d.decisions a → N a.txn
  -- the dates of copies
  pub copies : (c : ℕ × Stored) → Has d.copies c → A c.1.date

pub record InvNames (w : Scene) : Type 0 where
  -- the names at a site that is up were used
  pub site : (s : ℕ) (x : SiteState) → plain_at w s ≡ Some x → Names (UsedTxn w) (Used w) x
  -- and those that a site has kept, up or down
  pub kept : (s : ℕ) → KeptNamed (UsedTxn w) (Used w) (kept_at w s)
  -- and those in messages
  pub sent : (m : Sent) → Has w.sent m → Named (UsedTxn w) (Used w) m.message
  -- and those of entries
  pub entry : (c : Commit) → Has w.journal c → UsedTxn w c.txn × Used w c.view
