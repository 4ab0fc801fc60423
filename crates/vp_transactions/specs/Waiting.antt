-- A call that is not answered yet waits for at least one site.
use Rattle.std.specs.Prelude.{ℕ, Bool, true, not, if◌then◌else◌, List, Option, Some, None, option_map}
use Rattle.std.specs.List.{list_all}
use Rattle.std.specs.Option.{option_map_or}
use Rattle.vp_model.specs.Types.{TxnId, Effects, Pending, Live, Decision}
use Rattle.vp_model.specs.Types.message
use Rattle.vp_model.specs.Words.{for_each, is_empty, has}
use Rattle.vp_model.specs.Site.{with_messages}
use Rattle.vp_model.specs.Transactions.{live_of}
use Rattle.vp_transactions.specs.declared.handled.Handled.{Handled}

abbrev pub waits : Live → Bool
waits t = option_map_or (λ (p : Pending). not (is_empty p.missing)) t.pending true

abbrev pub all_wait : List Live → Bool
all_wait live = list_all waits live

-- the pending call of a transaction, where it waits for the site
abbrev pub pending_for : ℕ → Live → Option Pending
pending_for from t = option_map_or (λ p. if has p.missing from then Some p else None) t.pending None

abbrev pub with_call : Live → Pending → Handled
with_call t p = record { live = t; pending = p }

-- the transaction, with that call
abbrev pub waiting_call : TxnId → ℕ → List Live → Option Handled
waiting_call txn from live =
    option_map_or (λ t. option_map (with_call t) (pending_for from t)) (live_of txn live) None

-- what is in the place of the transaction; where there is nothing, the transaction itself
abbrev pub standing_for : Live → List Live → Live
standing_for t live = option_map_or (λ u. u) (live_of t.txn live) t

-- each decision is sent again to the sites that have not acknowledged it
abbrev pub with_outcomes : ℕ → List Decision → Effects → Effects
with_outcomes id decisions e =
    for_each decisions (λ (d : Decision). with_messages id (message.Outcome d.txn true) d.waiting) e
