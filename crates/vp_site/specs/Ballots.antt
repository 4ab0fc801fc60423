-- A vote that a part has given.
use Rattle.std.specs.Prelude.{ℕ}
use Rattle.vp_model.specs.Types.{TxnId}
use Rattle.vp_model.specs.Types.message
use Rattle.vp_model.specs.Words.{◌|>◌, for_some}
use Rattle.vp_model.specs.Site.{ParticipantState, Stepped, change_participant, force, send}
use Rattle.vp_participant.specs.declared.participant.Voted.{Voted}
use Rattle.vp_participant.specs.declared.participant.Voted.TheVariants as voted

-- the log record that the vote forces, and its message
abbrev pub with_ballot : TxnId → ℕ → Voted → Stepped → Stepped
with_ballot txn from voted.Silent o = o
with_ballot txn from (voted.Yes forced) o = o |> for_some forced force |> send (message.Vote txn) from

-- the same, with the participant as it is after the vote
abbrev pub cast : TxnId → ℕ → Voted × ParticipantState → Stepped → Stepped
cast txn from ballot o = with_ballot txn from ballot.0 (change_participant (λ p. ballot.1) o)
