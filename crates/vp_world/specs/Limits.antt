-- The limits of a world, and which results they give.
use Rattle.std.specs.Prelude.{◌≡◌, ℕ, nat_lt, if◌then◌else◌, List, ◌++◌, Option, Some, None, Result, Ok, Err}
use Rattle.vp_model.specs.Types.{Counted, Sent, Shown}
use Rattle.vp_model.specs.Types.counted
use Rattle.vp_model.specs.Types.shown
use Rattle.vp_model.specs.World.{WorldState, Moved, shows}
use Rattle.vp_mail.specs.Posted.{are_too_many}
use Rattle.vp_world.specs.declared.end.WorldEnd.{WorldEnd}
use Rattle.vp_world.specs.declared.end.WorldEnd.TheVariants as end

-- how many of them a world may have
abbrev pub limit_of : Counted → ℕ
limit_of counted.Steps = 100000
limit_of counted.Messages = 2000000

-- a limit is reported exactly where one is exceeded
abbrev pub Ends : {A : Type 0} → Option Counted → Result A WorldEnd → Type 0
Ends exceeded (Ok a) = exceeded ≡ None
Ends exceeded (Err (end.Limit what limit)) = (exceeded ≡ Some what) × (limit ≡ limit_of what)
Ends exceeded (Err end.NoMemory) = Unit {0}

-- one limit after the other
abbrev pub too_many_steps : ℕ → Option Counted
too_many_steps steps = if nat_lt 100000 steps then Some counted.Steps else None

abbrev pub too_many : List Sent → Option Counted
too_many sent = if are_too_many sent then Some counted.Messages else None

-- the world, once it has the messages and the commits of a step's line
abbrev pub with_line : Shown → WorldState → WorldState
with_line (shown.Step commits first messages replies) w = record w { sent = w.sent ++ messages; journal = w.journal ++ commits }
with_line _ w = w

-- the move is done, up to what its line has, or it would send too many messages
abbrev pub Does : Moved → WorldState → Result Shown WorldEnd → Type 0
Does m new (Ok line) = (shows (with_line line new) line ≡ m) × (too_many m.world.sent ≡ None)
Does m new (Err (end.Limit what limit)) = (too_many m.world.sent ≡ Some what) × (limit ≡ limit_of what)
Does m new (Err end.NoMemory) = Unit {0}
