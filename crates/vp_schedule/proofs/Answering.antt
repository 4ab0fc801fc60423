-- The results of the loop over the lines.
use Rattle.std.proofs.Common.{ltb, ◌≡◌, ℕ, ◌+◌, ◌-◌, ◌≤◌, List, ◌++◌, length, refl, sym, ap, subst, ◌∙◌, arith, Ok, Err, true, false, not, [], ◌∷◌}
use Rattle.std.proofs.lemmas.Bool.{false≢true, ltb-false, or_parts, not-false, not-true}
use Rattle.std.proofs.lemmas.List.{length-append, append-nil, nil_from_length}
use Rattle.vp_text.specs.Documents.{IsFaultyLine}
use Rattle.vp_text.proofs.Lists.{so_far_more, so_far_bad, so_far_faulty, fault_no_line}
use Rattle.vp_text.proofs.Determined.{Plain, plain, Divided, IsLast, last_same, whole_divided, ended_last}
use Rattle.vp_model.specs.World.{Schedule}
use Rattle.vp_schedule.specs.declared.line.ScheduleLine.{ScheduleLine}
use Rattle.vp_schedule.specs.declared.draft.ScheduleDraft.{ScheduleDraft}
use Rattle.vp_schedule.specs.declared.fault.ScheduleFault.{ScheduleFault}
use Rattle.vp_schedule.specs.declared.fault.ScheduleFault.TheVariants as faults
use Rattle.vp_schedule.specs.Drafts.{LineText, blank, after, Onward, Repeats, Exceeds, Adds}
use Rattle.vp_schedule.specs.LineReading.{line_at}
use Rattle.vp_schedule.specs.Document.{IsScheduleText, Answered, NextLine, is_owed}
use Rattle.vp_schedule.proofs.Steps.{said, Stands, readable}
use Rattle.vp_schedule.proofs.Spelled.{LinesOf, lines_spell, schedule_lines}

pub lines_plain : (text : List ℕ) → Plain blank after LineText Onward (length text)
lines_plain text = plain blank after LineText Onward line_at (length text) (readable (length text))

-- the lines of a schedule's text
pub spelled_lines : (s : Schedule) (text : List ℕ) → IsScheduleText s text → LinesOf (record { schedule = s; opened = true }) text
spelled_lines s text h = subst (LinesOf (record { schedule = s; opened = true })) h.1 (schedule_lines s h.0)

-- ---- whether a line has to come

owed_more : (rest : List ℕ) (d : ScheduleDraft) → is_owed rest d ≡ true → length rest ≡ 0 → d.opened ≡ false
owed_more [] d owed none = not-true d.opened owed
owed_more (c ∷ rest) d owed none = absurd (omega (arith, none))

owed_none : (rest : List ℕ) (d : ScheduleDraft) → is_owed rest d ≡ false → (length rest ≡ 0) × (d.opened ≡ true)
owed_none rest d owed =
    let neither = or_parts (ltb 0 (length rest)) (not d.opened) owed in
    (omega (arith, ltb-false 0 (length rest) neither.0), not-false d.opened neither.1)

-- ---- a line that can't be read: the text is not that of a schedule

abbrev standing : (text rest : List ℕ) (d : ScheduleDraft) (line : ℕ) (s : Stands text rest d line) → Divided blank after LineText Onward text
standing text rest d line s = record { lines = s.lines; front = s.front; rest = rest; lines_are = s.lines_are; parts = s.parts }

standing_last : (text rest : List ℕ) (d : ScheduleDraft) (line left : ℕ) (s : Stands text rest d line) → line_at d rest ≡ Err left → IsLast blank after LineText Onward (standing text rest d line s)
standing_last text rest d line left s read more =
    let r = readable (length text) in
    let fits : length s.front ≤ length text = omega (arith, ap length s.parts, length-append s.front rest) in
    let fault = (r.exact s.lines s.front fits s.lines_are).err rest left (ap (λ (d : ScheduleDraft). line_at d rest) s.state_is ∙ read) in
    fault_no_line (LineText (said s.lines)) (r.lines s.lines s.front fits s.lines_are) rest left fault more.entry more.line more.following more.line_is more.parts

no_schedule : (text rest : List ℕ) (d : ScheduleDraft) (line left : ℕ) → Stands text rest d line → line_at d rest ≡ Err left → is_owed rest d ≡ true → (s : Schedule) → IsScheduleText s text → ⊥
no_schedule text rest d line left stands read owed s h =
    let whole = spelled_lines s text h in
    let end = whole_divided blank after LineText Onward whole.lines text whole.lines_are in
    let same = last_same blank after LineText Onward text (lines_plain text) (standing text rest d line stands) end (standing_last text rest d line left stands read) (ended_last blank after LineText Onward text (lines_plain text) end refl) in
    let here : d ≡ record { schedule = s; opened = true } = sym stands.state_is ∙ ap said same.lines ∙ whole.says in
    false≢true (sym (owed_more rest d owed (ap length same.rest)) ∙ ap (λ (d : ScheduleDraft). d.opened) here)

-- ---- the results

pub answered_next : (text rest new : List ℕ) (d : ScheduleDraft) (line : ℕ) (e : ScheduleFault) → Stands text rest d line → is_owed rest d ≡ true → NextLine d line rest new (Err e) → Answered text (Err e)
answered_next text rest new d line (faults.BadLine l at) s owed n =
    let bad = (so_far_bad blank after LineText Onward line_at text rest d line n.1 (readable (length text)) s n.2).1 in (
      rw (n.0, n.3) bad,
      no_schedule text rest d line n.1 s n.2 owed,
    )
answered_next text rest new d line (faults.Twice l) s owed n = absurd n
answered_next text rest new d line (faults.TooMany l limit) s owed n = absurd n
answered_next text rest new d line faults.NoMemory s owed n = tt

pub answered_add : (text rest new : List ℕ) (d k : ScheduleDraft) (next : ScheduleLine) (line : ℕ) (e : ScheduleFault) → Stands text rest d line → line_at d rest ≡ Ok (next, new) → Adds d next line k (Err e) → Answered text (Err e)
answered_add text rest new d k next line (faults.BadLine l at) s read n = absurd n
answered_add text rest new d k next line (faults.Twice l) s read n =
    subst (IsFaultyLine blank after LineText Onward Repeats text) (sym n.1) (so_far_faulty blank after LineText Onward line_at Repeats text rest new d line next (readable (length text)) s read n.2)
answered_add text rest new d k next line (faults.TooMany l limit) s read n =
    subst (IsFaultyLine blank after LineText Onward (Exceeds limit) text) (sym n.1) (so_far_faulty blank after LineText Onward line_at (Exceeds limit) text rest new d line next (readable (length text)) s read n.2)
answered_add text rest new d k next line faults.NoMemory s read n = tt

pub answered_end : (text rest : List ℕ) (d : ScheduleDraft) (line : ℕ) → Stands text rest d line → is_owed rest d ≡ false → IsScheduleText d.schedule text
answered_end text rest d line s owed =
    let end = owed_none rest d owed in
    let whole : text ≡ s.front = s.parts ∙ ap (λ (x : List ℕ). s.front ++ x) (nil_from_length rest end.0) ∙ append-nil s.front in
    let spelled = lines_spell s.lines s.front s.lines_are (ap (λ (d : ScheduleDraft). d.opened) s.state_is ∙ end.1) in
    subst (λ (d : ScheduleDraft). IsScheduleText d.schedule text) s.state_is (subst (IsScheduleText (said s.lines).schedule) (sym whole) spelled)

pub stands_more : (text rest new : List ℕ) (d k : ScheduleDraft) (next : ScheduleLine) (line : ℕ) (u : Unit {0}) → Stands text rest d line → line_at d rest ≡ Ok (next, new) → Adds d next line k (Ok u) → Stands text new k (line + 1)
stands_more text rest new d k next line u s read n = subst (λ (k : ScheduleDraft). Stands text new k (line + 1)) (sym n.0) (so_far_more blank after LineText Onward line_at text rest new d line next (readable (length text)) s read n.1)
