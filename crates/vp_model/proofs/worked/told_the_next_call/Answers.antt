use Rattle.vp_model.proofs.FalseClaims.{barred_and_skipped-apart, barred_and_told-apart, barred_and_busy-apart, barred_by_a_bad_table-apart, barred_by_its_own_table-apart}
use Rattle.vp_model.proofs.worked.told_the_next_call.Goals as goal

pub returns-clause-skipped : goal.returns-clause-skipped
returns-clause-skipped c = barred_and_skipped-apart

pub returns-clause-told : goal.returns-clause-told
returns-clause-told c = barred_and_told-apart

pub returns-clause-busy : goal.returns-clause-busy
returns-clause-busy c = barred_and_busy-apart

pub returns-clause-bad_table : goal.returns-clause-bad_table
returns-clause-bad_table c = barred_by_a_bad_table-apart

pub returns-clause-own_table : goal.returns-clause-own_table
returns-clause-own_table c = barred_by_its_own_table-apart
