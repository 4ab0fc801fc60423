-- Each worked schedule has exactly the lines that it is given with.
pub mod FirstRun
pub mod TwoOfThree
pub mod ExactlyHalf
pub mod HeldLock
pub mod Repeats
pub mod LostVote
pub mod ViewChangeBeforeVote
pub mod LateCommit
pub mod OldViewReadsOn
pub mod RepeatedViewCommit
pub mod CrashAfterDecision
pub mod CrashBeforeDecision
pub mod ForgottenDecision
pub mod TwoInviters
pub mod OtherRefusals
pub mod TooManyOps
pub mod TooManyLive
pub mod LongRun
pub mod Monitor
pub mod EarlyInquiry
pub mod NoEvents
pub mod LastNumbers
pub mod ManyFinished
pub mod Limited
pub mod OwnCopy
pub mod Barred
pub mod Weighed
pub mod TooLarge
pub mod OwnTable
pub mod Chain
pub mod BadTable
pub mod Absent
pub mod MovedEntry
use Rattle.vp_model.specs.Durable.{apply}
use Rattle.vp_model.specs.Transactions.{finish, close, keep_writes, decided, decide, complete}
use Rattle.vp_model.specs.Refresh.{take_newer, unlist, end_refresh, settle_one, settle, start_refresh}
use Rattle.vp_model.specs.Views.{drop_view, abandon, leave, start_inviting, invite, refresh_here, hold, join}
use Rattle.vp_model.specs.Calls.{start_txn, own_call, take_lock, read_at, write_at, prepare_parts, begin_in, on_begin, on_regroup, with_record, lock_here, read, change_elsewhere, change, new_change, commit, new_call, live_call, finished_call, on_txn_call, on_call}
use Rattle.vp_model.specs.Messages.{accept, grant, lock_copy, end_here, on_invite, on_accept, on_stale, on_view_commit, on_probe_message, on_request, on_read_request, on_write_request, first_vote, on_prepare, end_part, on_outcome, on_refresh_request, on_refresh_answer, on_message}
use Rattle.vp_model.specs.Answers.{with_missing, on_read_answer, on_write_answer, on_refuse, on_vote, on_ack, on_inquire, on_answer}
use Rattle.vp_model.specs.Step.{fix, fix_view, ask_again, mark_calls, time_out_calls, resend_one, inquire, time_out, tick_view, on_tick, probe_in, on_probe, on_input, step, start}
use Rattle.vp_model.specs.World.{start_world, site_step, at_site, deliver, crash, restart, happens, one_step, flow, one_event, run_from, run_of}

-- what runs a schedule: a proof that names this definition computes by unfolding all of these
unfoldable pub computes : Unit {0}
unfolding drop_view abandon start_txn own_call on_answer time_out_calls start_inviting refresh_here hold unlist end_refresh accept grant lock_copy end_here take_lock read_at write_at prepare_parts fix fix_view ask_again mark_calls resend_one inquire apply finish close keep_writes decided decide complete take_newer settle_one settle start_refresh leave invite join begin_in on_begin on_regroup with_record lock_here read change_elsewhere change new_change commit new_call live_call finished_call on_txn_call on_call on_invite on_accept on_stale on_view_commit on_probe_message on_request on_read_request on_write_request first_vote on_prepare end_part on_outcome on_refresh_request on_refresh_answer with_missing on_read_answer on_write_answer on_refuse on_vote on_ack on_inquire on_message time_out tick_view on_tick probe_in on_probe on_input step start start_world site_step at_site deliver crash restart happens one_step flow one_event run_from run_of
computes = tt
