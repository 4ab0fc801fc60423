use Rattle.vp_stable.proofs.Determined.{bad_logs_have_no_batches, bad_places_are_one}
use Rattle.vp_stable.proofs.laws.bytes_are_bad_at_one_gate.Goals as goal

pub returns-clause-batches : goal.returns-clause-batches
returns-clause-batches c = bad_logs_have_no_batches

pub returns-clause-places : goal.returns-clause-places
returns-clause-places c = bad_places_are_one
