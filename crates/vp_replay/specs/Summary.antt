-- The summary of a run of the generator.
use Rattle.std.specs.Prelude.{ℕ, Bool, true, false, not, List, [], ◌∷◌, ◌++◌, length, filter, flat_map, codes}
use Rattle.std.specs.Fmt.{decimal}
use Rattle.vp_model.specs.Types.{Answer, Reply, Line}
use Rattle.vp_model.specs.Types.answer
use Rattle.vp_model.specs.Told.{replies_in}
use Rattle.vp_model.specs.OneCopy.{order}
use Rattle.vp_model.specs.World.{Schedule, run_of, journal_of}
use Rattle.vp_model.specs.Texts.Trace.{printed_lines}

-- the replies of some lines
abbrev pub replies_of : List (ℕ × Line) → List Reply
replies_of lines = flat_map (λ (line : ℕ × Line). replies_in line.1.shown) lines

abbrev pub begins : Answer → Bool
begins (answer.Begun txn view) = true
begins _ = false

abbrev pub commits : Answer → Bool
commits (answer.Committed txn number) = true
commits _ = false

-- what a client asked for was done
abbrev pub grants : Answer → Bool
grants (answer.Begun txn view) = true
grants (answer.Value txn number value) = true
grants (answer.Written txn number) = true
grants (answer.Absent txn number) = true
grants (answer.Deleted txn number) = true
grants (answer.Weighed txn number) = true
grants (answer.Committed txn number) = true
grants (answer.Aborted txn number) = true
grants (answer.Inviting view) = true
grants _ = false

abbrev pub refuses : Answer → Bool
refuses answer = not (grants answer)

-- how many of the replies pass this test
abbrev pub count_of : (Answer → Bool) → List Reply → ℕ
count_of test replies = length (filter (λ (reply : Reply). test reply.answer) replies)

abbrev pub count_line : List ℕ → ℕ → List ℕ
count_line word count = word ++ (decimal count ++ 10 ∷ [])

-- events, messages, replies of three kinds, and commits that are serial
abbrev pub summary_lines : ℕ → ℕ → List Reply → ℕ → List ℕ
summary_lines events messages replies serial =
    count_line (codes "events ") events
    ++ (count_line (codes "messages ") messages
    ++ (count_line (codes "begun ") (count_of begins replies)
    ++ (count_line (codes "committed ") (count_of commits replies)
    ++ (count_line (codes "refused ") (count_of refuses replies) ++ count_line (codes "serial ") serial))))

-- a run's events, the messages that were sent, the replies in its trace, and the commits of its history
abbrev pub summary_text : Schedule → List ℕ
summary_text s =
    summary_lines (length s.events) (length (run_of s).world.sent) (replies_of (printed_lines s)) (length (order (journal_of s)))
