-- What the loop over the lines answers.
use Rattle.std.proofs.Common.{ltb, ◌≡◌, ◌⊎◌, ℕ, ◌+◌, ◌≤◌, List, ◌++◌, length, refl, sym, ap, subst, ◌∙◌, arith, Ok, Err, true, false, not, [], ◌∷◌, inl, inr, ⊎_elim}
use Rattle.std.specs.Prelude.{is_some, ◌||◌}
use Rattle.std.proofs.lemmas.Bool.{false≢true, ltb-false, or_parts, or_cases, not-false, not-true}
use Rattle.std.proofs.lemmas.List.{length-append, append-nil, nil_from_length}
use Rattle.vp_text.specs.Documents.{IsFaultyLine}
use Rattle.vp_text.proofs.Lists.{so_far_more, so_far_bad, so_far_faulty, fault_no_line}
use Rattle.vp_text.proofs.Determined.{Plain, plain, Divided, IsLast, Stops, last_same, whole_divided, ended_last, whole_not_faulty}
use Rattle.vp_recording.specs.declared.line.RecordingLine.{RecordingLine}
use Rattle.vp_recording.specs.declared.line.RecordingLine.TheVariants as kind
use Rattle.vp_recording.specs.declared.draft.RecordingDraft.{RecordingDraft}
use Rattle.vp_recording.specs.declared.draft.RecordingSet.{RecordingSet}
use Rattle.vp_recording.specs.declared.fault.RecordingFault.{RecordingFault}
use Rattle.vp_recording.specs.declared.fault.RecordingFault.TheVariants as faults
use Rattle.vp_recording.specs.Drafts.{LineText, blank, after, Onward, Spends, Repeats, Overfills, Adds}
use Rattle.vp_recording.specs.LineReading.{line_at}
use Rattle.vp_recording.specs.Document.{IsRecordedText, Answered, NextLine, is_owed, recorded_of}
use Rattle.vp_recording.proofs.Steps.{said, Lines, Stands, readable}

pub lines_plain : (text : List ℕ) → Plain blank after LineText Onward (length text)
lines_plain text = plain blank after LineText Onward line_at (length text) (readable (length text))

pub spends_stop : Stops blank after LineText Onward Spends
spends_stop d (kind.Head line) f o = f
spends_stop d (kind.Node site) f o = omega (arith, f, o)
spends_stop d (kind.Start life) f o = f
spends_stop d (kind.In frame) f o = f
spends_stop d (kind.Out frame) f o = f
spends_stop d kind.Bad f o = f
spends_stop d kind.Stray f o = f
spends_stop d kind.End f o = f
spends_stop d kind.LinkFault f o = f
spends_stop d kind.DiskFault f o = f

-- ---- whether a line has to come

owed_more : (rest : List ℕ) (d : RecordingDraft) → is_owed rest d ≡ true → length rest ≡ 0 → (d.head.opened ≡ false) ⊎ (is_some d.named ≡ true)
owed_more [] d owed none = ⊎_elim (λ (off : not d.head.opened ≡ true). inl (not-true d.head.opened off)) (λ (on : is_some d.named ≡ true). inr on) (or_cases (not d.head.opened) (is_some d.named) owed)
owed_more (c ∷ rest) d owed none = absurd (omega (arith, none))

owed_none : (rest : List ℕ) (d : RecordingDraft) → is_owed rest d ≡ false → (length rest ≡ 0) × (d.head.opened ≡ true) × (is_some d.named ≡ false)
owed_none rest d owed =
    let neither = or_parts (ltb 0 (length rest)) (not d.head.opened || is_some d.named) owed in
    let both = or_parts (not d.head.opened) (is_some d.named) neither.1 in
    ((let z = ltb-false 0 (length rest) neither.0 in omega (arith, z)), not-false d.head.opened both.0, both.1)

-- ---- a line that can't be read: the text says no recordings

abbrev standing : (text rest : List ℕ) (d : RecordingDraft) (line : ℕ) (s : Stands text rest d line) → Divided blank after LineText Onward text
standing text rest d line s = record { lines = s.lines; front = s.front; rest = rest; lines_are = s.lines_are; parts = s.parts }

standing_last : (text rest : List ℕ) (d : RecordingDraft) (line left : ℕ) (s : Stands text rest d line) → line_at d rest ≡ Err left → IsLast blank after LineText Onward (standing text rest d line s)
standing_last text rest d line left s read more =
    let r = readable (length text) in
    let fits : length s.front ≤ length text = (let a = ap length s.parts in let b = length-append s.front rest in omega (arith, a, b)) in
    let fault = (r.exact s.lines s.front fits s.lines_are).err rest left (ap (λ (d : RecordingDraft). line_at d rest) s.state_is ∙ read) in
    fault_no_line (LineText (said s.lines)) (r.lines s.lines s.front fits s.lines_are) rest left fault more.entry more.line more.following more.line_is more.parts

no_recordings : (text rest : List ℕ) (d : RecordingDraft) (line left : ℕ) → Stands text rest d line → line_at d rest ≡ Err left → is_owed rest d ≡ true → (it : RecordingSet) → IsRecordedText it text → ⊥
no_recordings text rest d line left stands read owed it h =
    let end = whole_divided blank after LineText Onward h.lines text h.lines_are in
    let same = last_same blank after LineText Onward text (lines_plain text) (standing text rest d line stands) end (standing_last text rest d line left stands read) (ended_last blank after LineText Onward text (lines_plain text) end refl) in
    let here : d ≡ said h.lines = sym stands.state_is ∙ ap said same.lines in
    ⊎_elim
    (λ (off : d.head.opened ≡ false). false≢true (sym off ∙ ap (λ (d : RecordingDraft). d.head.opened) here ∙ h.opened))
    (λ (on : is_some d.named ≡ true). false≢true (sym h.unnamed ∙ ap (λ (d : RecordingDraft). is_some d.named) (sym here) ∙ on))
    (owed_more rest d owed (ap length same.rest))

pub whole_not : (F : RecordingDraft → RecordingLine → Type 0) → Stops blank after LineText Onward F → (text : List ℕ) (it : RecordingSet) (line : ℕ) → IsRecordedText it text → IsFaultyLine blank after LineText Onward F text line → ⊥
whole_not F stops text it line h f = whole_not_faulty blank after LineText Onward F stops text (lines_plain text) h.lines h.lines_are line f

-- ---- the answers

pub answered_next : (text rest new : List ℕ) (d : RecordingDraft) (line : ℕ) (e : RecordingFault) → Stands text rest d line → is_owed rest d ≡ true → NextLine d line rest new (Err e) → Answered text (Err e)
answered_next text rest new d line (faults.BadLine l at) s owed n =
    let bad = (so_far_bad blank after LineText Onward line_at text rest d line n.1 (readable (length text)) s n.2).1 in
    (inl (rw (n.0, n.3) bad), no_recordings text rest d line n.1 s n.2 owed)
answered_next text rest new d line (faults.Twice l) s owed n = absurd n
answered_next text rest new d line (faults.TooMany l limit) s owed n = absurd n
answered_next text rest new d line faults.NoMemory s owed n = tt

faulty : (F : RecordingDraft → RecordingLine → Type 0) (text rest new : List ℕ) (d : RecordingDraft) (next : RecordingLine) (line : ℕ) → Stands text rest d line → line_at d rest ≡ Ok (next, new) → F d next → IsFaultyLine blank after LineText Onward F text line
faulty F text rest new d next line s read f = so_far_faulty blank after LineText Onward line_at F text rest new d line next (readable (length text)) s read f

pub answered_add : (text rest new : List ℕ) (d k : RecordingDraft) (next : RecordingLine) (line : ℕ) (e : RecordingFault) → Stands text rest d line → line_at d rest ≡ Ok (next, new) → Adds d next line k (Err e) → Answered text (Err e)
answered_add text rest new d k next line (faults.BadLine l at) s read n =
    let f = faulty Spends text rest new d next line s read n.2 in
    (inr (line, n.0, n.1, f), (λ it h. whole_not Spends spends_stop text it line h f))
answered_add text rest new d k next line (faults.Twice l) s read n = subst (IsFaultyLine blank after LineText Onward Repeats text) (sym n.0) (faulty Repeats text rest new d next line s read n.1)
answered_add text rest new d k next line (faults.TooMany l limit) s read n = (n.1, subst (IsFaultyLine blank after LineText Onward Overfills text) (sym n.0) (faulty Overfills text rest new d next line s read n.2))
answered_add text rest new d k next line faults.NoMemory s read n = tt

pub answered_end : (text rest : List ℕ) (d : RecordingDraft) (line : ℕ) → Stands text rest d line → is_owed rest d ≡ false → IsRecordedText (recorded_of d) text
answered_end text rest d line s owed =
    let end = owed_none rest d owed in
    let whole : s.front ≡ text = sym (s.parts ∙ ap (λ (x : List ℕ). s.front ++ x) (nil_from_length rest end.0) ∙ append-nil s.front) in
    record {
      lines = s.lines;
      lines_are = subst (λ (text : List ℕ). Lines s.lines text) whole s.lines_are;
      says = ap recorded_of s.state_is;
      opened = ap (λ (d : RecordingDraft). d.head.opened) s.state_is ∙ end.1;
      unnamed = ap (λ (d : RecordingDraft). is_some d.named) s.state_is ∙ end.2;
    }

pub stands_more : (text rest new : List ℕ) (d k : RecordingDraft) (next : RecordingLine) (line : ℕ) (u : Unit {0}) → Stands text rest d line → line_at d rest ≡ Ok (next, new) → Adds d next line k (Ok u) → Stands text new k (line + 1)
stands_more text rest new d k next line u s read n = subst (λ (k : RecordingDraft). Stands text new k (line + 1)) (sym n.0) (so_far_more blank after LineText Onward line_at text rest new d line next (readable (length text)) s read n.1)
