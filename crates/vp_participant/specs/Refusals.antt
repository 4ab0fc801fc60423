-- Why a request is refused: the tests in their order, and what a result says of them.
use Rattle.std.specs.Prelude.{ℕ, Bool, not, if◌then◌else◌, List, Option, Some, None, option_map, Result, Ok, Err}
use Rattle.vp_model.specs.Types.{ViewId, TxnId, View, Lock}
use Rattle.vp_model.specs.Words.{first_some, is_view, has_txn, value_at}
use Rattle.vp_model.specs.Locks.{conflict}
use Rattle.vp_model.specs.Site.{Bars, ParticipantState}
use Rattle.vp_locks.specs.declared.LockFault.{LockFault}
use Rattle.vp_locks.specs.declared.LockFault.TheVariants as lock_fault
use Rattle.vp_participant.specs.declared.requests.Request.{Request}
use Rattle.vp_participant.specs.declared.fault.PartFault.{PartFault}
use Rattle.vp_participant.specs.declared.fault.PartFault.TheVariants as part_fault
use Rattle.vp_participant.specs.declared.fault.PrepareFault.{PrepareFault}
use Rattle.vp_participant.specs.declared.fault.PrepareFault.TheVariants as vote_fault

-- the identifier of the held view
abbrev pub id_of : Option View → Option ViewId
id_of held = option_map (λ view. view.id) held

-- why a vote is refused
abbrev pub vote_refusal : Option View → TxnId → ViewId → ParticipantState → Option PrepareFault
vote_refusal held txn view p =
    if not (is_view (id_of held) view)
    then Some (vote_fault.OtherView (id_of held))
    else (if has_txn p.ended txn
    then Some vote_fault.Ended
    else None)

-- why a lock is refused: a bar is tested before other owners' locks
abbrev pub barred : ℕ → Bars → Option PartFault
barred rec bars = option_map (λ (bar : ℕ × ℕ). part_fault.Barred bar.0 bar.1) (value_at rec bars)

abbrev pub blocked : ℕ → Bool → TxnId → List Lock → Option PartFault
blocked rec exclusive txn locks = option_map (λ owner. part_fault.Held owner) (conflict rec exclusive txn locks)

abbrev pub obstacle : Option View → Request → ParticipantState → Bars → Option PartFault
obstacle held r p bars =
    if not (is_view (id_of held) r.view)
    then Some (part_fault.OtherView (id_of held))
    else (if has_txn p.ended r.txn
    then Some part_fault.Ended
    else barred r.rec bars)

abbrev pub lock_refusal : Option View → Request → Bool → ParticipantState → Bars → List Lock → Option PartFault
lock_refusal held r exclusive p bars locks = first_some (obstacle held r p bars) (blocked r.rec exclusive r.txn locks)

-- the refusal in a result: want of memory is not a refusal
abbrev pub vote_refused : {A : Type 0} → Result A PrepareFault → Option PrepareFault
vote_refused (Ok a) = None
vote_refused (Err vote_fault.NoMemory) = None
vote_refused (Err (vote_fault.OtherView now)) = Some (vote_fault.OtherView now)
vote_refused (Err vote_fault.Ended) = Some vote_fault.Ended

abbrev pub lock_refused : {A : Type 0} → Result A PartFault → Option PartFault
lock_refused (Ok a) = None
lock_refused (Err part_fault.NoMemory) = None
lock_refused (Err (part_fault.OtherView now)) = Some (part_fault.OtherView now)
lock_refused (Err part_fault.Ended) = Some part_fault.Ended
lock_refused (Err (part_fault.Barred inside total)) = Some (part_fault.Barred inside total)
lock_refused (Err (part_fault.Held owner)) = Some (part_fault.Held owner)

-- the same fault as a fault of a request for a lock
abbrev pub of_lock : LockFault → PartFault
of_lock (lock_fault.Held owner) = part_fault.Held owner
of_lock lock_fault.NoMemory = part_fault.NoMemory

-- and as a fault of a request for a vote
abbrev pub of_vote : PrepareFault → PartFault
of_vote (vote_fault.OtherView now) = part_fault.OtherView now
of_vote vote_fault.Ended = part_fault.Ended
of_vote vote_fault.NoMemory = part_fault.NoMemory
