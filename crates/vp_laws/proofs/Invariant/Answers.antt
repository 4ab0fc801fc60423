-- Requests and their answers, in every world: a request of a live transaction belongs to its pending call or to an answered one,
-- and each other holder of what it wrote, and each site that it read at, has answered.
use Rattle.std.proofs.Common.{◌≡◌, ◌⊎◌, ℕ, ◌≤◌, List, length}
use Rattle.std.specs.Prelude.{Option, Some}
use Rattle.vp_laws.proofs.Journal.Changed.{HasChanged}
use Rattle.vp_model.specs.Transactions.{Deed}
use Rattle.vp_model.specs.Types.{ViewId, TxnId, View, Sent, Message, Pending, Live}
use Rattle.vp_model.specs.Types.message
use Rattle.vp_model.specs.Catalogue.{Catalogue}
use Rattle.vp_model.specs.Site.{SiteState}
use Rattle.vp_model.specs.Refresh.{other_holders_in}
use Rattle.vp_laws.proofs.Lists.Members.{Has}
use Rattle.vp_laws.proofs.Moves.LocalViews.{letter}
use Rattle.vp_laws.proofs.Moves.Table.{Reads, Changes}
use Rattle.vp_laws.proofs.Worlds.Scenes.{Scene, plain_at}

-- the site has answered a read, or a write, of the record for the transaction
abbrev pub HasRead : Scene → ℕ → TxnId → ℕ → Type 0
HasRead w q txn rec = (to : ℕ) × (number : ℕ) × (view : ViewId) × (value : Option (List ℕ)) × Has w.sent (letter q to (message.ReadAnswer txn number value)) × Has w.sent (letter to q (message.ReadRequest txn view number rec))

abbrev pub HasWrote : Scene → ℕ → TxnId → ℕ → Type 0
HasWrote w q txn rec = (to : ℕ) × (number : ℕ) × (view : ViewId) × Has w.sent (letter q to (message.WriteAnswer txn number)) × Has w.sent (letter to q (message.WriteRequest txn view number rec))

-- the number was answered, or it is the pending call's, which asks for the same
abbrev pub Current : (Pending → Type 0) → ℕ → Live → Type 0
Current Asked number t = (number ≤ length t.answers) ⊎ ((p : Pending) × (t.pending ≡ Some p) × (p.number ≡ number) × Asked p)

-- the call writes to the record
abbrev pub WritesTo : Catalogue → ℕ → Pending → Type 0
WritesTo catalogue rec p = (deed : Deed) × Changes catalogue p rec deed

-- what was asked under a number for a live transaction is current there
abbrev pub AskSays : Scene → TxnId → ℕ → (Pending → Type 0) → Type 0
AskSays w txn number Asked = (x : SiteState) (t : Live) → plain_at w txn.site ≡ Some x → Has x.live t → t.txn ≡ txn → Current Asked number t

-- a request for a lock
abbrev pub Asks : Catalogue → Scene → Message → Type 0
Asks catalogue w (message.ReadRequest txn view number rec) = AskSays w txn number (λ p. Reads catalogue p rec)
Asks catalogue w (message.WriteRequest txn view number rec) = AskSays w txn number (WritesTo catalogue rec)
Asks catalogue w m = Unit {0}

-- a live transaction, by what others have answered it
pub record AnswersOk (catalogue : Catalogue) (w : Scene) (id : ℕ) (held : Option View) (t : Live) : Type 0 where
  -- each other holder in the view of a record that it changed has answered that change
  pub wrote : (rec : ℕ) → HasChanged t rec → (q : ℕ) → Has (other_holders_in catalogue id held rec) q → HasWrote w q t.txn rec
  -- a pending write waits for each other holder in the view, or that site has answered
  pub writing : (p : Pending) (rec : ℕ) (deed : Deed) → t.pending ≡ Some p → Changes catalogue p rec deed → (q : ℕ) → Has (other_holders_in catalogue id held rec) q → Has p.missing q ⊎ HasWrote w q t.txn rec
  -- a site that it read at has answered, or the pending call waits for it
  pub remote : (r : ℕ × ℕ) → Has t.remote r → HasRead w r.0 t.txn r.1 ⊎ ((p : Pending) × (t.pending ≡ Some p) × Reads catalogue p r.1 × Has p.missing r.0)

pub record InvAnswers (catalogue : Catalogue) (w : Scene) : Type 0 where
  -- each request
  pub asks : (m : Sent) → Has w.sent m → Asks catalogue w m.message
  -- each live transaction
  pub live : (s : ℕ) (x : SiteState) (t : Live) → plain_at w s ≡ Some x → Has x.live t → AnswersOk catalogue w x.id x.held t
