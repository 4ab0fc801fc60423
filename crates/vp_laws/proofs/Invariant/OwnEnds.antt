-- The answers that transactions keep, in every world: a live one keeps no end, and a finished one only its own end.
use Rattle.std.proofs.Common.{◌≡◌, ◌⊎◌, ℕ, false}
use Rattle.std.specs.Prelude.{Some}
use Rattle.vp_model.specs.Types.{Answer, Live, Finished}
use Rattle.vp_model.specs.Transactions.{answer_of}
use Rattle.vp_model.specs.Site.{SiteState}
use Rattle.vp_laws.proofs.Lists.Members.{Has}
use Rattle.vp_laws.proofs.Moves.Table.{is_end}
use Rattle.vp_laws.proofs.Worlds.Scenes.{Scene, plain_at}

-- the answer is no end, or that of the finished transaction
abbrev pub IsOwnEnd : Finished → Answer → Type 0
IsOwnEnd f a = (is_end a ≡ false) ⊎ ((number : ℕ) × (answer_of f.txn number f.ending ≡ a))

pub record InvOwnEnds (w : Scene) : Type 0 where
  -- a live transaction keeps no end
  pub live : (s : ℕ) (x : SiteState) (t : Live) (a : Answer) → plain_at w s ≡ Some x → Has x.live t → Has t.answers a → is_end a ≡ false
  -- a finished one keeps no end but its own
  pub finished : (s : ℕ) (x : SiteState) (f : Finished) (a : Answer) → plain_at w s ≡ Some x → Has x.finished f → Has f.answers a → IsOwnEnd f a
