use Rattle.vp_model.proofs.GeneratedRuns.{made-whole, made-whole-limit, few-steps, few-steps-limit, few-messages, few-messages-limit}
use Rattle.vp_model.proofs.worked.limited_generation.Goals as goal

pub returns-clause-whole : goal.returns-clause-whole
returns-clause-whole c = made-whole

pub returns-clause-no_limit : goal.returns-clause-no_limit
returns-clause-no_limit c = made-whole-limit

pub returns-clause-few_steps : goal.returns-clause-few_steps
returns-clause-few_steps c = few-steps

pub returns-clause-steps : goal.returns-clause-steps
returns-clause-steps c = few-steps-limit

pub returns-clause-few_messages : goal.returns-clause-few_messages
returns-clause-few_messages c = few-messages

pub returns-clause-messages : goal.returns-clause-messages
returns-clause-messages c = few-messages-limit
