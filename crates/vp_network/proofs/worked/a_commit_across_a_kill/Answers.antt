use Rattle.std.proofs.Common.{refl, arith, [], true}
use Rattle.vp_model.proofs.Computed.{computes}
use Rattle.vp_model.specs.Types.message
use Rattle.vp_model.specs.Words.{opening}
use Rattle.vp_wire.specs.declared.frame.Body.TheVariants as body
use Rattle.vp_wire.specs.Grammar.{frame_of}
use Rattle.vp_runs.specs.Turns.{datagram_to}
use Rattle.vp_runs.specs.Worked.{txn}
use Rattle.vp_runs.proofs.WorkedRuns.{spells, turns}
use Rattle.vp_network.proofs.WorkedClusters.{happens}
use Rattle.vp_network.specs.Worked.{writes}
use Rattle.vp_network.proofs.worked.a_commit_across_a_kill.Goals as goal

pub returns-clause-may : goal.returns-clause-may
unfolding computes spells turns happens
returns-clause-may c = ((refl, tt), ((refl, tt), ((tt, λ from m e. absurd cc), ((tt, λ from m e. absurd cc), ((tt, λ from m e. (datagram_to 7002 (frame_of 1 2 (body.Message (message.WriteRequest (txn 1) opening 1 0))), (1, omega arith, refl), refl)), ((tt, λ from m e. (datagram_to 7001 (frame_of 2 1 (body.Message (message.WriteAnswer (txn 1) 1))), (2, omega arith, refl), refl)), ((tt, λ from m e. absurd cc), ((tt, λ from m e. (datagram_to 7002 (frame_of 1 2 (body.Message (message.Prepare (txn 1) opening 2 [] writes))), (4, omega arith, refl), refl)), ((refl, λ from m e. (datagram_to 7001 (frame_of 2 1 (body.Message (message.Vote (txn 1)))), (5, omega arith, refl), refl)), ((refl, tt), ((tt, λ from m e. (datagram_to 7002 (frame_of 1 2 (body.Message (message.Outcome (txn 1) true))), (6, omega arith, refl), refl)), ((tt, λ from m e. (datagram_to 7002 (frame_of 1 2 (body.Message (message.Outcome (txn 1) true))), (6, omega arith, refl), refl)), ((refl, tt), tt)))))))))))))

pub returns-clause-journal : goal.returns-clause-journal
unfolding computes spells turns happens
returns-clause-journal c = refl

pub returns-clause-log : goal.returns-clause-log
unfolding computes spells turns happens
returns-clause-log c = refl

pub returns-clause-down : goal.returns-clause-down
unfolding computes spells turns happens
returns-clause-down c = refl

pub returns-clause-handed : goal.returns-clause-handed
unfolding computes spells turns happens
returns-clause-handed c = refl
