-- The order of the journal, in every world: by view and then by moment of commit the entries are a serial run on one copy, and what
-- each live transaction has done can be played after the entries of its view and all lower ones.
use Rattle.std.proofs.Common.{◌≡◌, ℕ, List}
use Rattle.std.specs.Prelude.{option_map, Option, Some}
use Rattle.vp_model.specs.Types.{ViewId, Op, Live}
use Rattle.vp_model.specs.Types.message
use Rattle.vp_model.specs.Catalogue.{Catalogue, start_values}
use Rattle.vp_model.specs.OneCopy.{Values, play, serial, order, content}
use Rattle.vp_model.specs.Site.{SiteState}
use Rattle.vp_laws.proofs.Lists.Members.{Has}
use Rattle.vp_laws.proofs.Moves.LocalViews.{letter}
use Rattle.vp_laws.proofs.Worlds.Scenes.{Scene, plain_at}
use Rattle.vp_laws.proofs.Journal.ValuesAfter.{Content, value_after}

-- the operations go through on these values
abbrev pub Plays : Option Values → List Op → Type 0
Plays start ops = (before : Values) × (after : Values) × (start ≡ Some before) × (play before ops ≡ Some after)

pub record InvOrder (catalogue : Catalogue) (w : Scene) : Type 0 where
  -- the entries in order are a serial run on one copy
  pub serial : (after : Values) × (serial (start_values catalogue) (order w.journal) ≡ Some after)
  -- what a live transaction has done goes through after the entries of views up to its own
  pub live : (s : ℕ) (x : SiteState) (t : Live) → plain_at w s ≡ Some x → Has x.live t → Plays (content (start_values catalogue) w.journal t.view) t.ops
  -- a value on its way to a live transaction is the one after the entries of views up to its own
  pub answered : (s q to number rec : ℕ) (view : ViewId) (value : Option (List ℕ)) (x : SiteState) (t : Live) → plain_at w s ≡ Some x → Has x.live t → Has w.sent (letter q to (message.ReadAnswer t.txn number value)) → Has w.sent (letter to q (message.ReadRequest t.txn view number rec)) → option_map (λ (c : Content). c.value) (value_after catalogue w.journal t.view rec) ≡ Some value
