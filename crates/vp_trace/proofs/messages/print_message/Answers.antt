use Rattle.vp_trace.proofs.messages.print_message.Goals as goal

pub returns-in-Invite : goal.returns-in-Invite
returns-in-Invite c = rw c.in-Invite.is c.print_view.ensures

pub returns-in-Accept : goal.returns-in-Accept
returns-in-Accept c = rw c.in-Accept.is c.print_view-in-Accept.ensures

pub returns-in-Stale : goal.returns-in-Stale
returns-in-Stale c = rw c.in-Stale.is c.print_stale.ensures

pub returns-in-ReadRequest : goal.returns-in-ReadRequest
returns-in-ReadRequest c = rw c.in-ReadRequest.is c.print_lock_request.ensures

pub returns-in-ReadAnswer : goal.returns-in-ReadAnswer
returns-in-ReadAnswer c = rw c.in-ReadAnswer.is c.print_read_answer.ensures

pub returns-in-WriteRequest : goal.returns-in-WriteRequest
returns-in-WriteRequest c = rw c.in-WriteRequest.is c.print_lock_request-in-WriteRequest.ensures

pub returns-in-WriteAnswer : goal.returns-in-WriteAnswer
returns-in-WriteAnswer c = rw c.in-WriteAnswer.is c.print_numbered.ensures

pub returns-in-Refuse : goal.returns-in-Refuse
returns-in-Refuse c = rw c.in-Refuse.is c.print_refuse.ensures

pub returns-in-Vote : goal.returns-in-Vote
returns-in-Vote c = rw c.in-Vote.is c.print_txn.ensures

pub returns-in-Outcome : goal.returns-in-Outcome
returns-in-Outcome c = rw c.in-Outcome.is c.print_outcome.ensures

pub returns-in-Ack : goal.returns-in-Ack
returns-in-Ack c = rw c.in-Ack.is c.print_txn-in-Ack.ensures

pub returns-in-Inquire : goal.returns-in-Inquire
returns-in-Inquire c = rw c.in-Inquire.is c.print_txn-in-Inquire.ensures

pub returns-in-RefreshRequest : goal.returns-in-RefreshRequest
returns-in-RefreshRequest c = rw c.in-RefreshRequest.is c.print_refresh_request.ensures

pub returns-in-RefreshAnswer : goal.returns-in-RefreshAnswer
returns-in-RefreshAnswer c = rw (c.in-RefreshAnswer.is, ← c.as_ref-in-RefreshAnswer.ensures) c.print_refresh_answer.ensures

pub returns-in-Probe : goal.returns-in-Probe
returns-in-Probe c = rw c.in-Probe.is c.print_view-in-Probe.ensures
