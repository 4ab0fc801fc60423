use Rattle.vp_progress.proofs.Gathered.{gather, gather_shortly}
use Rattle.vp_progress.proofs.laws.anyone_can_lead.Goals as goal

pub returns-clause-room : goal.returns-clause-room
returns-clause-room c = gather

pub returns-clause-short : goal.returns-clause-short
returns-clause-short c = gather_shortly
