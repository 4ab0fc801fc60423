-- In every world: a prepare of a live transaction belongs to its pending commit, and each vote has its prepare.
use Rattle.std.proofs.Common.{◌≡◌, ℕ, true, List}
use Rattle.std.specs.Prelude.{Some}
use Rattle.vp_model.specs.Types.{Change, ViewId, TxnId, Sent, Message, Pending, Live}
use Rattle.vp_model.specs.Types.message
use Rattle.vp_model.specs.Catalogue.{Catalogue}
use Rattle.vp_model.specs.Site.{SiteState}
use Rattle.vp_laws.proofs.Lists.Members.{Has}
use Rattle.vp_laws.specs.Votes.{is_commit}
use Rattle.vp_laws.proofs.Lists.Names.{Apart}
use Rattle.vp_laws.proofs.Worlds.Scenes.{Scene, plain_at}
use Rattle.vp_laws.proofs.Table.Votes.{IsPrepared}

-- a prepare of a live transaction is of its pending commit
abbrev pub Prepared : Catalogue → Scene → ℕ → Message → Type 0
Prepared catalogue w to (message.Prepare txn view number reads writes) = (x : SiteState) (t : Live) → plain_at w txn.site ≡ Some x → Has x.live t → t.txn ≡ txn → IsPrepared catalogue t to view number reads writes
Prepared catalogue w to m = Unit {0}

-- a prepare was sent to the site that votes
abbrev pub HasPrepare : Scene → ℕ → TxnId → Type 0
HasPrepare w site txn = (from : ℕ) × (view : ViewId) × (number : ℕ) × (reads : List ℕ) × (writes : List (ℕ × Change)) × Has w.sent (record { from = from; to = site; message = message.Prepare txn view number reads writes })

-- a vote answers a prepare
abbrev pub Voted : Scene → ℕ → Message → Type 0
Voted w from (message.Vote txn) = HasPrepare w from txn
Voted w from m = Unit {0}

pub record InvVotes (catalogue : Catalogue) (w : Scene) : Type 0 where
  -- the live transactions of a site have different names
  pub site : (s : ℕ) (x : SiteState) → plain_at w s ≡ Some x → Apart x.live
  -- each prepare
  pub prepared : (m : Sent) → Has w.sent m → Prepared catalogue w m.to m.message
  -- each vote
  pub voted : (m : Sent) → Has w.sent m → Voted w m.from m.message

-- while a transaction is live and a vote of it was sent, its pending call is its commit
pub voted_pending : (catalogue : Catalogue) (w : Scene) → InvVotes catalogue w → (from to : ℕ) (txn : TxnId) → Has w.sent (record { from = from; to = to; message = message.Vote txn }) → (x : SiteState) (t : Live) → plain_at w txn.site ≡ Some x → Has x.live t → t.txn ≡ txn → (p : Pending) × (t.pending ≡ Some p) × (is_commit p.call ≡ true)
voted_pending catalogue w inv from to txn sent x t up h e =
    let q = inv.voted _ sent in
    let r = inv.prepared _ q.5 x t up h e in
    (r.pending, r.waits, r.commit)
