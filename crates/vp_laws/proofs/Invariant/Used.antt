-- What other sites have answered for live transactions, in every world: the site still has the lock, or has left the view.
use Rattle.std.proofs.Common.{◌≡◌, ◌⊎◌, ℕ, Bool, true, false}
use Rattle.std.specs.Prelude.{Some}
use Rattle.vp_model.specs.Types.{ViewId, TxnId, Live}
use Rattle.vp_model.specs.Types.owner
use Rattle.vp_model.specs.Catalogue.{Catalogue}
use Rattle.vp_model.specs.Site.{SiteState}
use Rattle.vp_laws.proofs.Lists.Members.{Has}
use Rattle.vp_laws.proofs.Lists.LockTables.{HasLock}
use Rattle.vp_laws.proofs.Worlds.Scenes.{Scene, plain_at}
use Rattle.vp_laws.proofs.Invariant.Shares.{HasRequest}
use Rattle.vp_laws.proofs.Invariant.Answers.{HasRead, HasWrote}
use Rattle.vp_laws.proofs.Invariant.HasLeft.{HasLeft}

-- the site has answered a request of the transaction for the record: shared a read, exclusive a write
pub data HasAnswered (w : Scene) (q : ℕ) (txn : TxnId) (rec : ℕ) : Bool → Type 0 where
  read : HasRead w q txn rec → HasAnswered w q txn rec false
  wrote : HasWrote w q txn rec → HasAnswered w q txn rec true

-- the site is up and the transaction has a lock on the record there
abbrev pub LockedAt : Scene → ℕ → TxnId → ℕ → Bool → Type 0
LockedAt w q txn rec exclusive = (y : SiteState) × (plain_at w q ≡ Some y) × HasLock rec exclusive (owner.Txn txn) y.locks

pub record InvUsed (catalogue : Catalogue) (w : Scene) : Type 0 where
  -- two requests of a live transaction under one number ask for the same record
  pub one : (s : ℕ) (x : SiteState) (t : Live) (a b c d number rec other : ℕ) (u v : ViewId) (exclusive : Bool) → plain_at w s ≡ Some x → Has x.live t → HasRequest w a b t.txn u number rec exclusive → HasRequest w c d t.txn v number other exclusive → rec ≡ other
  -- what another site has answered for a live transaction is locked there, or the site has left its view
  pub used : (s q rec : ℕ) (exclusive : Bool) (x : SiteState) (t : Live) → plain_at w s ≡ Some x → Has x.live t → HasAnswered w q t.txn rec exclusive → HasLeft w q t.view ⊎ LockedAt w q t.txn rec exclusive
  -- no site has answered conflicting operations for two live transactions of one view
  pub conflict : (s r q rec : ℕ) (exclusive : Bool) (x y : SiteState) (t u : Live) → plain_at w s ≡ Some x → Has x.live t → plain_at w r ≡ Some y → Has y.live u → t.view ≡ u.view → HasAnswered w q t.txn rec true → HasAnswered w q u.txn rec exclusive → t.txn ≡ u.txn
