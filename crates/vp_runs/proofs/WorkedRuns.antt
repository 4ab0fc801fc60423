-- What runs a node: a proof that names these definitions computes through all of them.
use Rattle.std.specs.Fmt.{digits}
use Rattle.hex.specs.Hex.{encode_with}
use Rattle.vp_bytes.specs.Fields.{number_bytes, view_bytes, txn_bytes}
use Rattle.vp_bytes.specs.Reading.{some_u32_at, txn_at, numbered_at, counted_at, run_at, name_at}
use Rattle.vp_bytes.specs.Ranges.{number_within_at}
use Rattle.vp_contents.specs.Values.{length_at, value_at}
use Rattle.vp_contents.specs.Contents.{content_at}
use Rattle.vp_stable.specs.Log.{sized_batch}
use Rattle.vp_wire.specs.Messages.{message_at}
use Rattle.vp_wire.specs.Calls.{call_at}
use Rattle.vp_wire.specs.Answers.{answer_at}
use Rattle.vp_wire.specs.Frames.{coded_call_at, coded_answer_at, body_at, frame_at}
use Rattle.vp_wire.specs.Decoded.{read_frame}
use Rattle.vp_runs.specs.Arrivals.{arrival}
use Rattle.vp_runs.specs.Turns.{datagrams_of, turn_on}
use Rattle.vp_runs.specs.Runs.{one_turn, node_run}
use Rattle.vp_runs.specs.Asking.{answer_of}

unfoldable pub spells : Unit {0}
unfolding digits number_bytes view_bytes txn_bytes some_u32_at txn_at numbered_at counted_at run_at name_at number_within_at length_at value_at content_at sized_batch message_at call_at answer_at coded_call_at coded_answer_at body_at frame_at read_frame encode_with
spells = tt

unfoldable pub turns : Unit {0}
unfolding arrival datagrams_of turn_on one_turn node_run answer_of
turns = tt
