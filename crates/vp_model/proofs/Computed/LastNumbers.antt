use Rattle.std.proofs.Common.{◌≡◌, refl}
use Rattle.vp_model.specs.Types.call
use Rattle.vp_model.specs.Types.answer
use Rattle.vp_model.specs.Types.event
use Rattle.vp_model.specs.Types.input
use Rattle.vp_model.specs.Types.shown
use Rattle.vp_model.specs.Step.{step}
use Rattle.vp_model.specs.World.{next}
use Rattle.vp_model.specs.Worked.LastNumbers.{one_site, last_transaction, last_view, last_life, only_answers}
use Rattle.vp_model.proofs.Computed.{computes}

pub no_transaction_left : step one_site last_transaction (input.Call 0 call.Begin) ≡ only_answers last_transaction (answer.Spent 4294967295)
unfolding computes
no_transaction_left = refl

pub no_view_left : step one_site last_view (input.Call 0 call.Regroup) ≡ only_answers last_view (answer.Spent 18446744073709551615)
unfolding computes
no_view_left = refl

pub no_life_left : next one_site (event.Restart 1) last_life ≡ record { world = record last_life { steps = 1 }; shown = shown.LivesSpent 4294967295 }
unfolding computes
no_life_left = refl
