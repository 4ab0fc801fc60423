use Rattle.vp_model.proofs.Computed.Limited.{five_steps, five_steps-lines, three_steps, three_steps-lines, one_message, one_message-lines, both}
use Rattle.vp_model.proofs.worked.limited.Goals as goal

pub returns-clause-none : goal.returns-clause-none
returns-clause-none c = five_steps

pub returns-clause-whole : goal.returns-clause-whole
returns-clause-whole c = five_steps-lines

pub returns-clause-steps : goal.returns-clause-steps
returns-clause-steps c = three_steps

pub returns-clause-one_delivery : goal.returns-clause-one_delivery
returns-clause-one_delivery c = three_steps-lines

pub returns-clause-messages : goal.returns-clause-messages
returns-clause-messages c = one_message

pub returns-clause-no_delivery : goal.returns-clause-no_delivery
returns-clause-no_delivery c = one_message-lines

pub returns-clause-both : goal.returns-clause-both
returns-clause-both c = both
