-- Reads of live transactions, in every world: a pending read is of a record that the transaction has not written, and a read that
-- was done elsewhere was answered.
use Rattle.std.proofs.Common.{◌≡◌, ◌⊎◌, ℕ, List}
use Rattle.std.specs.Prelude.{Option, Some, None}
use Rattle.vp_model.specs.Types.{Pending, Live}
use Rattle.vp_model.specs.Types.op
use Rattle.vp_model.specs.Words.{value_at}
use Rattle.vp_model.specs.Catalogue.{Catalogue}
use Rattle.vp_model.specs.Transactions.{last_writes}
use Rattle.vp_model.specs.Site.{SiteState}
use Rattle.vp_laws.proofs.Lists.Members.{Has}
use Rattle.vp_laws.proofs.Moves.Table.{Reads}
use Rattle.vp_laws.proofs.Worlds.Scenes.{Scene, plain_at}
use Rattle.vp_laws.proofs.Journal.Changed.{HasChanged}
use Rattle.vp_laws.proofs.Invariant.Answers.{HasRead}

-- another site has answered a read of the record
abbrev pub ReadElsewhere : Scene → Live → ℕ → Type 0
ReadElsewhere w t rec = (q : ℕ) × HasRead w q t.txn rec

pub record InvReading (catalogue : Catalogue) (w : Scene) : Type 0 where
  -- a pending read is of a record that the transaction has not written
  pub pending : (s : ℕ) (x : SiteState) (t : Live) (p : Pending) (rec : ℕ) → plain_at w s ≡ Some x → Has x.live t → t.pending ≡ Some p → Reads catalogue p rec → value_at rec (last_writes t.ops) ≡ None
  -- a done read of a record with no copy here is of an own write, or another site has answered it
  pub done : (s : ℕ) (x : SiteState) (t : Live) (rec : ℕ) (value : Option (List ℕ)) → plain_at w s ≡ Some x → Has x.live t → Has t.ops (op.Read rec value) → value_at rec x.copies ≡ None → HasChanged t rec ⊎ ReadElsewhere w t rec
