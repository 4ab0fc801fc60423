-- A request for a lock on a record that has a copy here.
use Rattle.std.specs.Prelude.{ℕ, Bool, not, if◌then◌else◌}
use Rattle.std.specs.Option.{option_map_or}
use Rattle.vp_model.specs.Types.{Message}
use Rattle.vp_model.specs.Types.message
use Rattle.vp_model.specs.Types.obstacle
use Rattle.vp_model.specs.Words.{has_txn, value_at}
use Rattle.vp_model.specs.Locks.{conflict}
use Rattle.vp_model.specs.Site.{Stepped, send}
use Rattle.vp_model.specs.Messages.{holds_view, refuse_view, grant}
use Rattle.vp_participant.specs.declared.requests.Request.{Request}

-- the lock is granted with this answer, or the request is refused
abbrev pub answer_request : Request → Bool → Message → ℕ → Stepped → Stepped
answer_request r exclusive answer from o =
    if not (holds_view o.site r.view)
    then refuse_view r.txn r.number from o
    else (if has_txn o.site.ended r.txn
    then o
    else option_map_or
    (λ (bar : ℕ × ℕ). send (message.Refuse r.txn r.number (obstacle.Barred bar.0 bar.1)) from o)
    (value_at r.rec o.site.bars)
    (option_map_or
    (λ holder. send (message.Refuse r.txn r.number (obstacle.Held holder)) from o)
    (conflict r.rec exclusive r.txn o.site.locks)
    (grant r.txn r.view r.rec exclusive answer from o)))
