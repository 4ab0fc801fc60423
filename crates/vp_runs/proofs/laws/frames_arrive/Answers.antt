use Rattle.vp_runs.proofs.Arriving.{messages_arrive, calls_arrive, replies_arrive}
use Rattle.vp_runs.proofs.laws.frames_arrive.Goals as goal

pub returns-clause-messages : goal.returns-clause-messages
returns-clause-messages c = messages_arrive

pub returns-clause-calls : goal.returns-clause-calls
returns-clause-calls c = calls_arrive

pub returns-clause-replies : goal.returns-clause-replies
returns-clause-replies c = replies_arrive
