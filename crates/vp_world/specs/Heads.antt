-- Which message flows next, by the lowest message of each pair.
use Rattle.std.specs.Prelude.{◌+◌, ◌/◌, ◌%◌, ◌&&◌, ℕ, zero, suc, nat_lt, Bool, not, if◌then◌else◌, is_some, Option, Some, None}
use Rattle.vp_model.specs.Words.{first}
use Rattle.vp_model.specs.World.{WorldState, site_of, is_cut}
use Rattle.vp_mail.specs.Queues.{waiting}

-- the receiver of the pair is up, and the pair is not cut
abbrev pub is_open : WorldState → ℕ → Bool
is_open w pair = is_some (site_of w (pair % 16 + 1)) && not (is_cut w (pair / 16 + 1) (pair % 16 + 1))

-- the lowest message of the pair that may be delivered now and never was
abbrev pub head_of : WorldState → ℕ → Option ℕ
head_of w pair = if is_open w pair then first (waiting pair w.delivered 1 w.sent) else None

abbrev pub lesser : Option ℕ → Option ℕ → Option ℕ
lesser None b = b
lesser (Some a) None = Some a
lesser (Some a) (Some b) = if nat_lt b a then Some b else Some a

-- the least of the first n
abbrev pub least_below : (ℕ → Option ℕ) → ℕ → Option ℕ
least_below heads zero = None
least_below heads (suc n) = lesser (least_below heads n) (heads n)
