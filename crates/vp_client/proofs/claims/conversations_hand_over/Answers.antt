use Rattle.vp_client.proofs.Conversations as conversations
use Rattle.vp_client.proofs.claims.conversations_hand_over.Goals as goal

pub returns-clause-join : goal.returns-clause-join
returns-clause-join c = conversations.conversations_join

pub returns-clause-frames : goal.returns-clause-frames
returns-clause-frames c = conversations.conversations_hand_over
