-- Sending decisions again changes only the effects.
use Rattle.std.proofs.Common.{◌≡◌, ℕ, List, [], ◌∷◌, refl}
use Rattle.vp_model.specs.Types.{Decision}
use Rattle.vp_model.specs.Site.{Lent}
use Rattle.vp_model.specs.Step.{resend, resend_one}
use Rattle.vp_transactions.specs.Waiting.{with_outcomes}

module _ (id : ℕ) where
  pub sent_again : (decisions : List Decision) (l : Lent) → record l { effects = with_outcomes id decisions l.effects } ≡ resend id decisions l
  unfolding resend_one
  sent_again [] l = refl
  sent_again (d ∷ decisions) l = sent_again decisions _
