-- What a live transaction has done and asks, in every world: its parts are the other holders of what it wrote, its numbers go up by
-- one, and a request belongs to the pending call or to one that was answered.
use Rattle.std.proofs.Common.{◌≡◌, ℕ, ◌+◌, List, refl, length}
use Rattle.std.specs.Prelude.{Option, Some}
use Rattle.vp_laws.proofs.Journal.Changed.{HasChanged}
use Rattle.vp_model.specs.Transactions.{Deed}
use Rattle.vp_model.specs.Types.{View, Op, Pending, Live}
use Rattle.vp_model.specs.Types.op
use Rattle.vp_model.specs.Catalogue.{Catalogue}
use Rattle.vp_model.specs.Site.{SiteState}
use Rattle.vp_model.specs.Refresh.{other_holders_in}
use Rattle.vp_laws.specs.Entries.{record_in}
use Rattle.vp_laws.proofs.Lists.Members.{Has}
use Rattle.vp_laws.proofs.Moves.Table.{Changes}
use Rattle.vp_laws.proofs.Worlds.Scenes.{Scene, plain_at}

-- an operation among these is on the record
abbrev pub HasUsed : List Op → ℕ → Type 0
HasUsed ops rec = (operation : Op) × Has ops operation × (record_in operation ≡ rec)

pub op_used : (ops : List Op) (operation : Op) → Has ops operation → HasUsed ops (record_in operation)
op_used ops operation h = (operation, h, refl)

pub written_used : (ops : List Op) (rec : ℕ) → (value : Option (List ℕ)) × Has ops (op.Write rec value) → HasUsed ops rec
written_used ops rec h = (op.Write rec h.0, h.1, refl)

-- the transaction has written the record
abbrev pub HasWritten : Live → ℕ → Type 0
HasWritten t rec = (value : Option (List ℕ)) × Has t.ops (op.Write rec value)

-- a live transaction, by what it has done and asks
pub record LiveOk (catalogue : Catalogue) (id : ℕ) (held : Option View) (t : Live) : Type 0 where
  -- the pending call has the next number
  pub next : (p : Pending) → t.pending ≡ Some p → p.number ≡ length t.answers + 1
  -- the other holders in the view of each record that it changed are parts
  pub written : (rec : ℕ) → HasChanged t rec → (q : ℕ) → Has (other_holders_in catalogue id held rec) q → Has t.parts q
  -- the sites that it read at are parts
  pub remote : (r : ℕ × ℕ) → Has t.remote r → Has t.parts r.0
  -- the sites that the pending call waits for are parts
  pub missing : (p : Pending) (q : ℕ) → t.pending ≡ Some p → Has p.missing q → Has t.parts q
  -- the other holders in the view of the record of a pending write are parts
  pub writing : (p : Pending) (rec : ℕ) (deed : Deed) → t.pending ≡ Some p → Changes catalogue p rec deed → ((q : ℕ) → Has (other_holders_in catalogue id held rec) q → Has t.parts q)

pub record InvOps (catalogue : Catalogue) (w : Scene) : Type 0 where
  -- each live transaction
  pub live : (s : ℕ) (x : SiteState) (t : Live) → plain_at w s ≡ Some x → Has x.live t → LiveOk catalogue x.id x.held t
