-- How transactions end, in every world: a transaction with an outcome or an entry is not live any more and has only one entry, and
-- a commit is sent, kept or reported only for an entry.
use Rattle.std.proofs.Common.{◌≡◌, ◌≢◌, ◌⊎◌, ℕ, true, false}
use Rattle.std.specs.Prelude.{Some}
use Rattle.vp_model.specs.Types.{TxnId, Sent, Commit, Message, Finished, Decision}
use Rattle.vp_base.specs.declared.site.Ending.TheVariants.{Committed}
use Rattle.vp_model.specs.Types.message
use Rattle.vp_model.specs.Site.{SiteState}
use Rattle.vp_laws.proofs.Lists.Members.{Has}
use Rattle.vp_laws.proofs.Moves.Table.{is_abort}
use Rattle.vp_laws.proofs.Worlds.Scenes.{Scene, plain_at, kept_at}
use Rattle.vp_laws.proofs.Table.Endings.{Settled, NotLive, IsEntered}
use Rattle.vp_laws.proofs.Journal.Places.{Once}

-- the transaction has an entry in the journal
abbrev pub HasEntry : Scene → TxnId → Type 0
HasEntry w txn = IsEntered w.journal txn

-- the transaction is not live
abbrev pub Over : Scene → TxnId → Type 0
Over w txn = (x : SiteState) → plain_at w txn.site ≡ Some x → NotLive x.live txn

-- an outcome is of a transaction that is over, and a commit is of one with an entry
abbrev pub Told : Scene → Message → Type 0
Told w (message.Outcome txn true) = Over w txn × HasEntry w txn
Told w (message.Outcome txn false) = Over w txn
Told w m = Unit {0}

-- a finished transaction has an entry where its end is a commit, and has none else
abbrev pub Reported : Scene → Finished → Type 0
Reported w f = ((f.ending ≡ Committed) × HasEntry w f.txn) ⊎ ((is_abort f.ending ≡ true) × ((e : Commit) → Has w.journal e → e.txn ≢ f.txn))

pub record InvEndings (w : Scene) : Type 0 where
  -- a site's decisions and finished transactions are of no live one
  pub settled : (s : ℕ) (x : SiteState) → plain_at w s ≡ Some x → Settled x.id x.life x.coordinator
  -- each decision that a site keeps is of its own transaction, which has an entry
  pub decisions : (s : ℕ) (d : Decision) → Has (kept_at w s).decisions d → (d.txn.site ≡ s) × HasEntry w d.txn
  -- no outcome of a live transaction was sent, and a commit is told only of an entry
  pub told : (m : Sent) → Has w.sent m → Told w m.message
  -- a transaction with an entry is not live
  pub entry : (e : Commit) → Has w.journal e → Over w e.txn
  -- it has one entry
  pub once : Once w.journal
  -- a finished transaction has an entry exactly where its end is a commit
  pub finished : (s : ℕ) (x : SiteState) (f : Finished) → plain_at w s ≡ Some x → Has x.finished f → Reported w f
