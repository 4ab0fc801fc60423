-- How a part votes, and the state of the participant afterwards.
use Rattle.std.specs.Prelude.{ℕ, not, if◌then◌else◌, List, Some, None}
use Rattle.std.specs.Option.{option_map_or}
use Rattle.vp_model.specs.Types.{TxnId, Change, Lock, Part}
use Rattle.vp_model.specs.Types.log_record
use Rattle.vp_model.specs.Words.{is_empty}
use Rattle.vp_model.specs.Site.{ParticipantState}
use Rattle.vp_model.specs.Views.{part_of, has_doubt}
use Rattle.vp_model.specs.Messages.{has_all_locks, with_vote, with_new_doubt}
use Rattle.vp_participant.specs.declared.participant.Voted.{Voted}
use Rattle.vp_participant.specs.declared.participant.Voted.TheVariants as voted

-- the first vote of a part: yes only with all its locks, and with a log record to force only where it writes
unfoldable pub first_ballot : Part → List ℕ → List (ℕ × Change) → List Lock → ParticipantState → Voted × ParticipantState
first_ballot part reads writes locks p =
    if not (has_all_locks locks part.txn reads writes)
    then (voted.Silent, p)
    else (if is_empty writes
    then (voted.Yes None, with_vote part p)
    else (voted.Yes (Some (log_record.Yes part.txn part.view writes)), with_new_doubt part writes p))

-- a part that has voted votes yes again
abbrev pub ballot_of : Part → List ℕ → List (ℕ × Change) → List Lock → ParticipantState → Voted × ParticipantState
ballot_of part reads writes locks p = if part.voted then (voted.Yes None, p) else first_ballot part reads writes locks p

-- the vote on a transaction; where it has no part here, there is none
unfoldable pub ballot : TxnId → List ℕ → List (ℕ × Change) → List Lock → ParticipantState → Voted × ParticipantState
ballot txn reads writes locks p =
    if has_doubt txn p.doubts
    then (voted.Yes None, p)
    else option_map_or (λ part. ballot_of part reads writes locks p) (part_of txn p.parts) (voted.Silent, p)
