-- Entries and the sites that apply them, in every world: a holder that an entry affects is in doubt about it and the coordinator's
-- decision waits for it; or it has applied the entry and lists it as ended, or has left the entry's view.
use Rattle.std.proofs.Common.{◌≡◌, ◌≢◌, ◌⊎◌, ℕ, true, false}
use Rattle.std.specs.Prelude.{Some}
use Rattle.vp_model.specs.Types.{TxnId, Commit}
use Rattle.vp_model.specs.Types.message
use Rattle.vp_model.specs.Words.{has_txn}
use Rattle.vp_model.specs.Catalogue.{Catalogue}
use Rattle.vp_model.specs.Site.{SiteState}
use Rattle.vp_laws.proofs.Lists.Members.{Has}
use Rattle.vp_laws.proofs.Moves.LocalViews.{letter}
use Rattle.vp_laws.proofs.Worlds.Scenes.{Scene, plain_at, kept_at}
use Rattle.vp_laws.proofs.Table.Waits.{IsWaited}
use Rattle.vp_laws.proofs.Invariant.Shares.{InDoubt}
use Rattle.vp_laws.proofs.Invariant.Entered.{Affected}
use Rattle.vp_laws.proofs.Invariant.HasLeft.{HasLeft}

-- the site has the transaction in its ended list
abbrev pub HasEnded : Scene → ℕ → TxnId → Type 0
HasEnded w s txn = (x : SiteState) × (plain_at w s ≡ Some x) × (has_txn x.ended txn ≡ true)

pub record InvSettled (catalogue : Catalogue) (w : Scene) : Type 0 where
  -- where it is in doubt still, the coordinator waits for it in its decisions
  pub waited : (e : Commit) (s : ℕ) → Has w.journal e → Affected catalogue w e s → InDoubt w s e.txn → IsWaited (kept_at w e.txn.site).decisions e.txn s
  -- where it is not in doubt any more, it has the transaction in its ended list, or has left the view
  pub ended : (e : Commit) (s : ℕ) → Has w.journal e → Affected catalogue w e s → s ≢ e.txn.site → (InDoubt w s e.txn → ⊥) → HasLeft w s e.view ⊎ HasEnded w s e.txn
  -- no site that has acknowledged a commit is in doubt about it
  pub acknowledged : (s to : ℕ) (txn : TxnId) → Has w.sent (letter s to (message.Ack txn)) → InDoubt w s txn → ⊥
  -- an abort of a transaction with an entry goes only to sites that are not in doubt about it
  pub aborted : (e : Commit) (from s : ℕ) → Has w.journal e → Has w.sent (letter from s (message.Outcome e.txn false)) → InDoubt w s e.txn → ⊥
