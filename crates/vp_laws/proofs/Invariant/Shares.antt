-- Parts, doubts, votes and entries in every world: each doubt has its prepare, each vote on a transaction that writes has its
-- doubt while the transaction is live, and an entry is what its prepares said.
use Rattle.std.proofs.Common.{◌≡◌, ◌⊎◌, ℕ, Bool, true, false, List, []}
use Rattle.std.specs.Prelude.{Some}
use Rattle.vp_model.specs.Types.{Change, ViewId, TxnId, Sent, Commit, Message, Part, Pending, Live, Doubt}
use Rattle.vp_model.specs.Types.message
use Rattle.vp_model.specs.Words.{is_empty}
use Rattle.vp_model.specs.Catalogue.{Catalogue}
use Rattle.vp_model.specs.Site.{SiteState}
use Rattle.vp_model.specs.Transactions.{last_changes, entry_of, writes_held}
use Rattle.vp_laws.specs.Votes.{is_commit}
use Rattle.vp_laws.proofs.Lists.Members.{Has}
use Rattle.vp_laws.proofs.Moves.LocalViews.{letter}
use Rattle.vp_laws.proofs.Worlds.Scenes.{Scene, plain_at, kept_at}
use Rattle.vp_laws.proofs.Invariant.Endings.{HasEntry}

-- the site has sent a vote on the transaction
abbrev pub HasVote : Scene → ℕ → TxnId → Type 0
HasVote w from txn = (to : ℕ) × Has w.sent (letter from to (message.Vote txn))

pub vote_more : (w new : Scene) → ((m : Sent) → Has w.sent m → Has new.sent m) → (q : ℕ) (txn : TxnId) → HasVote w q txn → HasVote new q txn
vote_more w new on q txn h = (h.0, on _ h.1)

-- a prepare was sent to the site, with these writes
abbrev pub HasPrepare : Scene → ℕ → TxnId → ViewId → List (ℕ × Change) → Type 0
HasPrepare w to txn view writes = (from : ℕ) × (number : ℕ) × (reads : List ℕ) × Has w.sent (letter from to (message.Prepare txn view number reads writes))

-- a request for a lock was sent, shared or exclusive
pub data HasRequest (w : Scene) (from to : ℕ) (txn : TxnId) (view : ViewId) (number rec : ℕ) : Bool → Type 0 where
  to_read : Has w.sent (letter from to (message.ReadRequest txn view number rec)) → HasRequest w from to txn view number rec false
  to_write : Has w.sent (letter from to (message.WriteRequest txn view number rec)) → HasRequest w from to txn view number rec true

pub request_more : (w new : Scene) → ((m : Sent) → Has w.sent m → Has new.sent m) → (from to : ℕ) (txn : TxnId) (view : ViewId) (number rec : ℕ) (exclusive : Bool) → HasRequest w from to txn view number rec exclusive → HasRequest new from to txn view number rec exclusive
request_more w new on from to txn view number rec exclusive (HasRequest.to_read h) = HasRequest.to_read (on _ h)
request_more w new on from to txn view number rec exclusive (HasRequest.to_write h) = HasRequest.to_write (on _ h)

-- the live transaction of that name, and its entry, are of that view
pub record OneView (w : Scene) (txn : TxnId) (view : ViewId) : Type 0 where
  -- the live transaction
  pub live : (x : SiteState) (t : Live) → plain_at w txn.site ≡ Some x → Has x.live t → t.txn ≡ txn → t.view ≡ view
  -- the entry
  pub entry : (e : Commit) → Has w.journal e → e.txn ≡ txn → e.view ≡ view

-- each part was asked for; one that has voted got a prepare without writes
pub record PartSays (w : Scene) (s : ℕ) (p : Part) : Type 0 where
  -- it was asked for a lock
  pub asked : (from : ℕ) × (number : ℕ) × (rec : ℕ) × (exclusive : Bool) × HasRequest w from s p.txn p.view number rec exclusive
  -- its vote was on a prepare without writes
  pub voted : p.voted ≡ true → (view : ViewId) × HasPrepare w s p.txn view []

-- a doubt is of a prepare with its writes, and it has some
abbrev pub DoubtSays : Scene → ℕ → Doubt → Type 0
DoubtSays w s d = HasPrepare w s d.txn d.view d.writes × (is_empty d.writes ≡ false)

-- the site is in doubt about the transaction, be it up or down
abbrev pub InDoubt : Scene → ℕ → TxnId → Type 0
InDoubt w s txn = (d : Doubt) × Has (kept_at w s).doubts d × (d.txn ≡ txn)

-- the site that has voted on a live transaction is in doubt about it, where the transaction writes there
abbrev pub VoteSays : Catalogue → Scene → ℕ → TxnId → Type 0
VoteSays catalogue w from txn = (x : SiteState) (t : Live) → plain_at w txn.site ≡ Some x → Has x.live t → t.txn ≡ txn → is_empty (writes_held catalogue from (last_changes (entry_of t))) ≡ false → InDoubt w from txn

-- a request is of one view, an answer of a request, and an acknowledgement of an entry
abbrev pub Says : Catalogue → Scene → ℕ → ℕ → Message → Type 0
Says catalogue w from to (message.ReadRequest txn view number rec) = OneView w txn view
Says catalogue w from to (message.WriteRequest txn view number rec) = OneView w txn view
Says catalogue w from to (message.Prepare txn view number reads writes) = OneView w txn view
Says catalogue w from to (message.ReadAnswer txn number value) = (view : ViewId) × (rec : ℕ) × Has w.sent (letter to from (message.ReadRequest txn view number rec))
Says catalogue w from to (message.WriteAnswer txn number) = (view : ViewId) × (rec : ℕ) × Has w.sent (letter to from (message.WriteRequest txn view number rec))
Says catalogue w from to (message.Vote txn) = VoteSays catalogue w from txn
Says catalogue w from to (message.Ack txn) = HasEntry w txn
Says catalogue w from to m = Unit {0}

-- each prepare of an entry's transaction had its view and its last values there, and was voted on
abbrev pub EntrySays : Catalogue → Scene → Commit → Type 0
EntrySays catalogue w e = (from to : ℕ) (view : ViewId) (number : ℕ) (reads : List ℕ) (writes : List (ℕ × Change)) → Has w.sent (letter from to (message.Prepare e.txn view number reads writes)) → (e.view ≡ view) × (writes_held catalogue to (last_changes e) ≡ writes) × HasVote w to e.txn

-- a pending commit waits for a part, or the part has voted
abbrev pub Awaits : Scene → Live → Type 0
Awaits w t = (p : Pending) → t.pending ≡ Some p → is_commit p.call ≡ true → (q : ℕ) → Has t.parts q → Has p.missing q ⊎ HasVote w q t.txn

pub record InvShares (catalogue : Catalogue) (w : Scene) : Type 0 where
  -- each part of a site that is up
  pub parts : (s : ℕ) (x : SiteState) (p : Part) → plain_at w s ≡ Some x → Has x.parts p → PartSays w s p
  -- each doubt of a site, up or down
  pub doubts : (s : ℕ) (d : Doubt) → Has (kept_at w s).doubts d → DoubtSays w s d
  -- each message
  pub says : (m : Sent) → Has w.sent m → Says catalogue w m.from m.to m.message
  -- a pending commit waits for each part that has not voted
  pub awaits : (s : ℕ) (x : SiteState) (t : Live) → plain_at w s ≡ Some x → Has x.live t → Awaits w t
  -- each entry
  pub entry : (e : Commit) → Has w.journal e → EntrySays catalogue w e
