-- A trace: each step's event with the number of its event line, and what it gave, on one line each after a space.
use Rattle.std.specs.Prelude.{ℕ, ◌+◌, List, [], ◌∷◌, ◌++◌, length, drop, map, flat_map, codes}
use Rattle.std.specs.Fmt.{decimal}
use Rattle.vp_model.specs.Types.{Commit, Sent, Reply, Event, Shown, Line}
use Rattle.vp_model.specs.Types.event
use Rattle.vp_model.specs.Types.shown
use Rattle.vp_model.specs.Catalogue.{Catalogue}
use Rattle.vp_model.specs.World.{Moment, Run, Schedule, one_event, start_run}
use Rattle.vp_model.specs.Texts.Fields.{view_text, txn_text}
use Rattle.vp_model.specs.Texts.Calls.{event_text}
use Rattle.vp_model.specs.Texts.Answers.{answer_text}
use Rattle.vp_model.specs.Texts.Messages.{message_text}

abbrev pub commit_line : Commit → List ℕ
commit_line commit = codes " commit " ++ (txn_text commit.txn ++ 32 ∷ (view_text commit.view ++ 10 ∷ []))

abbrev pub sent_line : Catalogue → ℕ → Sent → List ℕ
sent_line catalogue k sent =
    codes " sent " ++ (decimal k ++ 32 ∷ (decimal sent.from ++ 62 ∷ (decimal sent.to ++ 32 ∷ (message_text catalogue sent.message ++ 10 ∷ []))))

-- the messages are numbered through the whole run, and k is the number of the first of these
abbrev pub sent_lines : Catalogue → ℕ → List Sent → List ℕ
sent_lines catalogue k [] = []
sent_lines catalogue k (sent ∷ messages) = sent_line catalogue k sent ++ sent_lines catalogue (k + 1) messages

abbrev pub reply_line : Reply → List ℕ
reply_line reply = codes " reply " ++ (answer_text reply.answer ++ 10 ∷ [])

abbrev pub told_line : List ℕ → ℕ → List ℕ
told_line word number = word ++ (decimal number ++ 10 ∷ [])

abbrev pub shown_text : Catalogue → Shown → List ℕ
shown_text catalogue (shown.Step commits first messages replies) =
    flat_map commit_line commits ++ (sent_lines catalogue first messages ++ flat_map reply_line replies)
shown_text catalogue shown.Nothing = []
shown_text catalogue shown.NoMessage = codes " nomessage\n"
shown_text catalogue (shown.Down site) = told_line (codes " down ") site
shown_text catalogue (shown.Parted from to) = codes " cut " ++ (decimal from ++ 32 ∷ (decimal to ++ 10 ∷ []))
shown_text catalogue (shown.Up site) = told_line (codes " up ") site
shown_text catalogue (shown.Life life) = told_line (codes " life ") life
shown_text catalogue (shown.LivesSpent life) = told_line (codes " lives spent ") life

abbrev pub line_text : Catalogue → ℕ × Line → List ℕ
line_text catalogue numbered =
    decimal numbered.0 ++ 32 ∷ (event_text numbered.1.event ++ 10 ∷ shown_text catalogue numbered.1.shown)

-- a flow has a line of its own before its deliveries
abbrev pub own_line : ℕ → Event → List (ℕ × Line)
own_line number (event.Flow count) = (number, record { event = event.Flow count; shown = shown.Nothing }) ∷ []
own_line number _ = []

-- the lines under an event line: its own, and those of the steps that it adds to the run
abbrev pub lines_under : ℕ → Event → Run → Run → List (ℕ × Line)
lines_under number event run after =
    own_line number event ++ map (λ (m : Moment). (m.number, m.line)) (drop (length run.moments) after.moments)

-- the lines under each event line, one after another
unfoldable pub printed_from : Catalogue → ℕ → List Event → Run → List (ℕ × Line)
printed_from catalogue number [] run = []
printed_from catalogue number (event ∷ events) run =
    let after = one_event catalogue number event run in
    lines_under number event run after ++ printed_from catalogue (number + 1) events after

abbrev pub printed_lines : Schedule → List (ℕ × Line)
printed_lines s = printed_from s.catalogue 1 s.events (start_run s.catalogue)

abbrev pub trace_text : Schedule → List ℕ
trace_text s = flat_map (line_text s.catalogue) (printed_lines s)
