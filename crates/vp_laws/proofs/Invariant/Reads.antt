-- Reads of records without a copy at the coordinator, in every world: another holder was asked, or the transaction reads its own
-- write.
use Rattle.std.proofs.Common.{◌≡◌, ◌⊎◌, ℕ, List}
use Rattle.std.specs.Prelude.{Option, Some}
use Rattle.vp_laws.proofs.Journal.Changed.{HasChanged}
use Rattle.vp_model.specs.Types.{Pending, Live}
use Rattle.vp_model.specs.Types.op
use Rattle.vp_model.specs.Words.{keys}
use Rattle.vp_model.specs.Catalogue.{Catalogue}
use Rattle.vp_model.specs.Site.{SiteState}
use Rattle.vp_laws.proofs.Lists.Members.{Has}
use Rattle.vp_laws.proofs.Moves.Table.{Reads}
use Rattle.vp_laws.proofs.Worlds.Scenes.{Scene, plain_at}

-- the transaction has asked a site for the record
abbrev pub HasAsked : Live → ℕ → Type 0
HasAsked t rec = (q : ℕ) × Has t.remote (q, rec)

pub record ReadsOk (catalogue : Catalogue) (copied : List ℕ) (t : Live) : Type 0 where
  -- a done read of a record with no copy here is of an own write, or another site was asked
  pub done : (rec : ℕ) (value : Option (List ℕ)) → Has t.ops (op.Read rec value) → (Has copied rec → ⊥) → HasChanged t rec ⊎ HasAsked t rec
  -- a pending read has asked another site
  pub asked : (p : Pending) (rec : ℕ) → t.pending ≡ Some p → Reads catalogue p rec → HasAsked t rec

pub record InvReads (catalogue : Catalogue) (w : Scene) : Type 0 where
  -- the reads of each live transaction
  pub live : (s : ℕ) (x : SiteState) (t : Live) → plain_at w s ≡ Some x → Has x.live t → ReadsOk catalogue (keys x.copies) t
