-- Worked recordings.
use Rattle.std.specs.Prelude.{ℕ, true, List, [], ◌∷◌, map}
use Rattle.vp_model.specs.Types.{ViewId, Call, Event}
use Rattle.vp_model.specs.Types.answer
use Rattle.vp_model.specs.Types.call
use Rattle.vp_model.specs.Types.event
use Rattle.vp_model.specs.Types.message
use Rattle.vp_model.specs.Words.{opening}
use Rattle.vp_wire.specs.declared.frame.Frame.{Frame}
use Rattle.vp_wire.specs.declared.frame.Body.TheVariants as body
use Rattle.vp_wire.specs.Grammar.{frame_bytes, frame_of}
use Rattle.vp_runs.specs.Turns.{datagram_to}
use Rattle.vp_runs.specs.Worked.{txn}
use Rattle.vp_recording.specs.declared.recording.Recording.{Recording}
use Rattle.vp_recording.specs.declared.recording.Turn.{Turn}

abbrev pub turn_of : Frame → List Frame → Turn
turn_of frame outs = record { frame = frame_bytes frame; outs = map (datagram_to 0) outs }

abbrev pub life : ℕ → ℕ → List Turn → Recording
life site number turns = record { site = site; life = number; turns = turns; ended = true }

abbrev pub frame_of_call : Call → Frame
frame_of_call words = frame_of 0 1 (body.Call words)

abbrev pub begun_frame : Frame
begun_frame = frame_of 1 0 (body.Reply (answer.Begun (txn 1) opening))

-- a lone site begins a transaction
abbrev pub begin : List Recording
begin = life 1 1 (turn_of (frame_of_call call.Begin) (begun_frame ∷ []) ∷ []) ∷ []

-- the same without its answer, in a life whose end is told
abbrev pub without_answer : List Recording
without_answer = life 1 1 (turn_of (frame_of_call call.Begin) [] ∷ []) ∷ []

-- site 2 took a vote of site 1, of which nothing is recorded
abbrev pub vote : List Recording
vote = life 2 1 (turn_of (frame_of 1 2 (body.Message (message.Vote (txn 1)))) [] ∷ []) ∷ []

-- and its tick
abbrev pub tick_and_vote : List Recording
tick_and_vote = life 2 1 (turn_of (frame_of 0 2 body.Tick) [] ∷ turn_of (frame_of 1 2 (body.Message (message.Vote (txn 1)))) [] ∷ []) ∷ []

-- site 1 regroups in its second life, and site 2, whose recording comes first, takes the invitation
abbrev pub first_view : ViewId
first_view = record { number = 1; site = 1 }

abbrev pub regroup_run : List Recording
regroup_run =
    life 2 1 (turn_of (frame_of 1 2 (body.Message (message.Invite first_view))) (frame_of 2 1 (body.Message (message.Accept first_view)) ∷ []) ∷ [])
    ∷ life 1 1 []
    ∷ life 1 2 (turn_of (frame_of_call call.Regroup) (frame_of 1 2 (body.Message (message.Invite first_view)) ∷ frame_of 1 0 (body.Reply (answer.Inviting first_view)) ∷ []) ∷ [])
    ∷ []

abbrev pub regrouping : List Event
regrouping = event.Crash 1 ∷ event.Restart 1 ∷ event.Call 1 call.Regroup ∷ event.Deliver 1 ∷ []
