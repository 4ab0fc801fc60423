-- Worked schedules: what they leave in the logs.
use Rattle.std.specs.List.{range_with_len, flat_map}
use Rattle.std.specs.Prelude.{◌+◌, ◌==◌, if◌then◌else◌, map, replicate, ℕ, List, [], ◌∷◌, ◌++◌, codes, Some, None, true}
use Rattle.hex.specs.Hex.{encode_lower}
use Rattle.vp_model.specs.Types.{Event, LogRecord, Stored}
use Rattle.vp_model.specs.Types.call
use Rattle.vp_model.specs.Types.event
use Rattle.vp_model.specs.Types.log_record
use Rattle.vp_model.specs.Catalogue.{Catalogue}
use Rattle.vp_model.specs.Words.{opening}
use Rattle.vp_model.specs.Worked.{value}
use Rattle.vp_model.specs.World.{Schedule}
use Rattle.vp_stable.specs.Log.{open_batches}
use Rattle.vp_runs.specs.Worked.{alone, both, txn}

abbrev pub over : Catalogue → List Event → Schedule
over catalogue events = record { catalogue = catalogue; events = events }

-- the text of a half with these batches
abbrev pub half_text : List (List LogRecord) → List ℕ
half_text batches = encode_lower (open_batches batches ++ 0 ∷ [])

abbrev pub start_batch : ℕ → List LogRecord
start_batch life = log_record.Start life ∷ []

-- ---- restarts

abbrev pub unused_schedule : Schedule
unused_schedule = over alone []

abbrev pub again : Schedule
again = over alone (event.Crash 1 ∷ event.Restart 1 ∷ [])

-- A tick and a crash of a site that is down, a restart of one that is up, and a step that forces nothing. The other site, which starts
-- again too, holds no view then, and invites to one.
abbrev pub idle : Schedule
idle = over both (event.Tick 1 ∷ event.Crash 1 ∷ event.Tick 1 ∷ event.Crash 1 ∷ event.Crash 2 ∷ event.Restart 2 ∷ event.Restart 2 ∷ event.Tick 2 ∷ event.Restart 1 ∷ [])

abbrev pub promise_batch : ℕ → List LogRecord
promise_batch number = log_record.Promise (record { number = number; site = 2 }) ∷ []

-- ---- a transaction that two sites vote on

abbrev pub decision : Schedule
decision =
    over both
    (event.Call 1 call.Begin
    ∷ event.Call 1 (call.Write (txn 1) 1 (codes "x") (codes "11"))
    ∷ event.Flow 2
    ∷ event.Call 1 (call.Commit (txn 1) 2)
    ∷ event.Flow 4
    ∷ [])

abbrev pub left_at_one : List (List LogRecord)
left_at_one = start_batch 1 ∷ (log_record.Commit (txn 1) opening ((0, value (codes "11")) ∷ []) (2 ∷ []) ∷ []) ∷ (log_record.Acked (txn 1) 2 ∷ []) ∷ []

abbrev pub left_at_two : List (List LogRecord)
left_at_two = start_batch 1 ∷ (log_record.Yes (txn 1) opening ((0, value (codes "11")) ∷ []) ∷ []) ∷ (log_record.Outcome (txn 1) true ∷ []) ∷ []

-- ---- a checkpoint

-- 4 records at one site, each named by one byte
abbrev pub numbers : List ℕ
numbers = range_with_len 0 4

abbrev pub many : Catalogue
many = record { sites = (1, 7001) ∷ []; records = map (λ n. record { name = (n + 48) ∷ []; start = codes "0"; weights = (1, 1) ∷ [] }) numbers }

abbrev pub long : ℕ → List ℕ
long n = replicate n 97

-- a transaction that writes a value of this length to each record
abbrev pub filling : (ℕ → ℕ) → ℕ → List Event
filling lengths seq =
    event.Call 1 call.Begin
    ∷ (map (λ n. event.Call 1 (call.Write (txn seq) (n + 1) ((n + 48) ∷ []) (long (lengths n)))) numbers
    ++ event.Call 1 (call.Commit (txn seq) 5) ∷ [])

abbrev pub last_lengths : ℕ → ℕ
last_lengths n = if n == 0 then 820 else 818

-- The log is 65,529 bytes long, and 65,543 with the start of the next life: a checkpoint is due then, and made by the next step.
abbrev pub filling_events : List Event
filling_events =
    flat_map (filling (λ n. 1024)) (range_with_len 1 15) ++ (filling last_lengths 16 ++ event.Crash 1 ∷ event.Restart 1 ∷ [])

abbrev pub saved_copies : List (ℕ × Stored)
saved_copies = map (λ n. (n, record { value = Some (long (last_lengths n)); table = None; date = opening })) numbers

abbrev pub saved_log : List (List LogRecord)
saved_log = (log_record.Checkpoint 1 2 (record { number = 1; site = 1 }) saved_copies [] [] ∷ []) ∷ []
