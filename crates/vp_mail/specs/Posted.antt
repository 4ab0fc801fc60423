-- What a contract sees of the messages.
use Rattle.std.specs.Prelude.{ℕ, ◌+◌, ◌-◌, ◌==◌, nat_lt, Bool, if◌then◌else◌, List, ◌++◌, length, slice_get, Option, Some, None}
use Rattle.vp_model.specs.Types.{Sent}

-- the messages that were sent, and the numbers of those that were delivered
pub record Posted : Type 0 where
  pub sent : List Sent
  pub delivered : List ℕ

-- these are sent
abbrev pub post_messages : List Sent → Posted → Posted
post_messages messages m = record m { sent = m.sent ++ messages }

-- message K, from 1
abbrev pub message_in : ℕ → List Sent → Option Sent
message_in k sent = if k == 0 then None else slice_get sent (k - 1)

-- these are more messages than there may be
abbrev pub are_too_many : List Sent → Bool
are_too_many sent = nat_lt 2000000 (length sent)

-- the number of the first of these messages, which are sent after those; none where there would be too many
abbrev pub first_number : List Sent → List Sent → Option ℕ
first_number messages sent = if are_too_many (sent ++ messages) then None else Some (length sent + 1)
