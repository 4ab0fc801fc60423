-- A site's own transactions, and what is asked for them: they run in an agreed view, among its members.
use Rattle.std.proofs.Common.{◌≡◌, ◌≢◌, ℕ}
use Rattle.std.specs.Prelude.{Some}
use Rattle.vp_model.specs.Types.{ViewId, TxnId, View, Sent, Commit, Message}
use Rattle.vp_model.specs.Types.message
use Rattle.vp_model.specs.Site.{SiteState}
use Rattle.vp_laws.proofs.Lists.Members.{Has}
use Rattle.vp_laws.proofs.Worlds.Scenes.{Scene, plain_at}
use Rattle.vp_laws.proofs.Table.Led.{Led}

-- the coordinator and another member of one agreed view
abbrev pub Between : Scene → ℕ → ℕ → TxnId → ViewId → Type 0
Between w from to txn view = (v : View) × Has w.agreed v × (v.id ≡ view) × Has v.members to × Has v.members txn.site × (to ≢ txn.site) × (from ≡ txn.site)

-- a request or a prepare
abbrev pub Asked : Scene → ℕ → ℕ → Message → Type 0
Asked w from to (message.ReadRequest txn view number rec) = Between w from to txn view
Asked w from to (message.WriteRequest txn view number rec) = Between w from to txn view
Asked w from to (message.Prepare txn view number reads writes) = Between w from to txn view
Asked w from to m = Unit {0}

-- the view of an entry is agreed, and its coordinator a member
abbrev pub EntryOk : Scene → Commit → Type 0
EntryOk w c = (v : View) × Has w.agreed v × (v.id ≡ c.view) × Has v.members c.txn.site

pub record InvLed (w : Scene) : Type 0 where
  -- a site's own transactions are of the view that it holds, and named by it
  pub site : (s : ℕ) (x : SiteState) → plain_at w s ≡ Some x → Led x
  -- what is asked goes from the coordinator to another member of an agreed view
  pub asked : (m : Sent) → Has w.sent m → Asked w m.from m.to m.message
  -- each entry is of an agreed view with its coordinator as a member
  pub entry : (c : Commit) → Has w.journal c → EntryOk w c
