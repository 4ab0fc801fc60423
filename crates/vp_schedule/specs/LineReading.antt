-- Reading the lines of a schedule from left to right.
use Rattle.std.specs.Prelude.{ℕ, List, [], ◌∷◌, cond, codes, Result, Ok}
use Rattle.vp_text.specs.Reading.{◌>>=◌, literal_at}
use Rattle.vp_model.specs.Catalogue.{Catalogue}
use Rattle.vp_heads.specs.HeadReading.{head_at}
use Rattle.vp_heads.specs.declared.line.HeadLine.{HeadLine}
use Rattle.vp_heads.specs.declared.line.HeadLine.TheVariants as head
use Rattle.vp_schedule.specs.declared.line.ScheduleLine.{ScheduleLine}
use Rattle.vp_schedule.specs.declared.line.ScheduleLine.TheVariants as kind
use Rattle.vp_schedule.specs.declared.draft.ScheduleDraft.{ScheduleDraft}
use Rattle.vp_schedule.specs.EventReading.{event_at}
use Rattle.vp_schedule.specs.Drafts.{sites_said}

-- a line of the head, as a line of the schedule
abbrev pub of_head : HeadLine → ScheduleLine
of_head (head.Entry entry) = kind.Entry entry
of_head head.Key = kind.Events

-- before the line `events`
unfoldable pub head_line_at : Catalogue → List ℕ → Result (ScheduleLine × List ℕ) ℕ
head_line_at catalogue bytes = do
  line ← head_at (codes "events\n") catalogue bytes
  Ok (of_head line.0, line.1)

-- after it
unfoldable pub event_line_at : List ℕ → List ℕ → Result (ScheduleLine × List ℕ) ℕ
event_line_at sites bytes = do
  event ← event_at sites bytes
  end ← literal_at (10 ∷ []) event.1
  Ok (kind.Event event.0, end.1)

unfoldable pub line_at : ScheduleDraft → List ℕ → Result (ScheduleLine × List ℕ) ℕ
line_at draft bytes = cond draft.opened (event_line_at (sites_said draft) bytes) (head_line_at draft.schedule.catalogue bytes)
