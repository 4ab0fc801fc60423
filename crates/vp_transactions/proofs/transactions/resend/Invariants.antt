use Rattle.std.proofs.Common.{◌≡◌, take}
use Rattle.vp_transactions.specs.Waiting.{with_outcomes}
use Rattle.vp_transactions.proofs.transactions.resend.Given as goal

abbrev pub invariant-loop-decision : goal.invariant-loop-decision
invariant-loop-decision l = l.effects ≡ with_outcomes l.id (take l.decision-index l.decisions) l.initial.effects
