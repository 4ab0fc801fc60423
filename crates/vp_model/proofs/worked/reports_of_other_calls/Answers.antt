use Rattle.vp_model.proofs.FalseClaims.{told_without_a_call-apart, written_for_a_delete-apart, deleted_for_a_write-apart, weighed_for_a_write-apart, content_for_a_weigh-apart}
use Rattle.vp_model.proofs.worked.reports_of_other_calls.Goals as goal

pub returns-clause-uncalled : goal.returns-clause-uncalled
returns-clause-uncalled c = told_without_a_call-apart

pub returns-clause-deleted : goal.returns-clause-deleted
returns-clause-deleted c = written_for_a_delete-apart

pub returns-clause-written : goal.returns-clause-written
returns-clause-written c = deleted_for_a_write-apart

pub returns-clause-changed : goal.returns-clause-changed
returns-clause-changed c = weighed_for_a_write-apart

pub returns-clause-weighed : goal.returns-clause-weighed
returns-clause-weighed c = content_for_a_weigh-apart
