-- Only one result is right for a text, apart from want of memory.
use Rattle.std.proofs.Common.{◌≡◌, ◌≢◌, ℕ, ◌+◌, List, length, Result, Ok, Err, refl, sym, ap, subst, ◌∙◌, arith}
use Rattle.std.proofs.lemmas.Bool.{false≢true}
use Rattle.vp_text.specs.Documents.{IsFaultyLine}
use Rattle.vp_text.proofs.Determined.{Stops, whole_same, bad_same, faulty_same, bad_not_faulty, whole_not_faulty}
use Rattle.vp_model.specs.World.{Schedule}
use Rattle.vp_catalog.specs.declared.entry.Entry.TheVariants as entry
use Rattle.vp_schedule.specs.declared.line.ScheduleLine.{ScheduleLine}
use Rattle.vp_schedule.specs.declared.line.ScheduleLine.TheVariants as kind
use Rattle.vp_schedule.specs.declared.draft.ScheduleDraft.{ScheduleDraft}
use Rattle.vp_schedule.specs.declared.fault.ScheduleFault.{ScheduleFault}
use Rattle.vp_schedule.specs.declared.fault.ScheduleFault.TheVariants as faults
use Rattle.vp_schedule.specs.Drafts.{LineText, blank, after, Onward, Repeats, Exceeds}
use Rattle.vp_schedule.specs.Document.{IsScheduleText, Answered, IsOnly, IsTaken}
use Rattle.vp_schedule.proofs.Steps.{said}
use Rattle.vp_schedule.proofs.Answering.{lines_plain, spelled_lines}

abbrev Stopped : (ScheduleDraft → ScheduleLine → Type 0) → List ℕ → ℕ → Type 0
Stopped = IsFaultyLine blank after LineText Onward

repeats_stop : Stops blank after LineText Onward Repeats
repeats_stop d (kind.Entry (entry.Site site port)) f o = false≢true (sym o ∙ f)
repeats_stop d (kind.Entry (entry.Record placed)) f o = false≢true (sym o.1 ∙ f.1)
repeats_stop d kind.Events f o = f
repeats_stop d (kind.Event event) f o = f

exceeds_stop : (limit : ℕ) → Stops blank after LineText Onward (Exceeds limit)
exceeds_stop limit d (kind.Entry (entry.Site site port)) f o = f.1
exceeds_stop limit d (kind.Entry (entry.Record placed)) f o = false≢true (sym o.0 ∙ f.1)
exceeds_stop limit d kind.Events f o = f
exceeds_stop limit d (kind.Event event) f o = omega (arith, f.1, o)

not_both : (limit : ℕ) (d : ScheduleDraft) (e : ScheduleLine) → Repeats d e → Exceeds limit d e → ⊥
not_both limit d (kind.Entry (entry.Site site port)) f g = g.1
not_both limit d (kind.Entry (entry.Record placed)) f g = false≢true (sym f.0 ∙ g.1)
not_both limit d kind.Events f g = f
not_both limit d (kind.Event event) f g = f

one_limit : (a b : ℕ) (d : ScheduleDraft) (e : ScheduleLine) → Exceeds a d e → Exceeds b d e → a ≡ b
one_limit a b d (kind.Entry entry) f g = f.0 ∙ sym g.0
one_limit a b d kind.Events f g = absurd f
one_limit a b d (kind.Event event) f g = f.0 ∙ sym g.0

ok_ok : (text : List ℕ) (s r : Schedule) → IsScheduleText s text → IsScheduleText r text → s ≡ r
ok_ok text s r h k =
    let a = spelled_lines s text h in
    let b = spelled_lines r text k in
    ap (λ (d : ScheduleDraft). d.schedule) (sym a.says ∙ ap said (whole_same blank after LineText Onward text (lines_plain text) a.lines b.lines a.lines_are b.lines_are) ∙ b.says)

ok_stopped : (F : ScheduleDraft → ScheduleLine → Type 0) → Stops blank after LineText Onward F → (text : List ℕ) (s : Schedule) (line : ℕ) → IsScheduleText s text → Stopped F text line → ⊥
ok_stopped F stops text s line h f =
    let a = spelled_lines s text h in
    whole_not_faulty blank after LineText Onward F stops text (lines_plain text) a.lines a.lines_are line f

twice_twice : (text : List ℕ) (l m : ℕ) → Stopped Repeats text l → Stopped Repeats text m → l ≡ m
twice_twice text l m f g =
    let same = faulty_same blank after LineText Onward Repeats Repeats repeats_stop repeats_stop text (lines_plain text) l m f g in
    sym f.number ∙ ap (λ (x : List ScheduleLine). length x + 1) same.lines ∙ g.number

twice_many : (text : List ℕ) (l m limit : ℕ) → Stopped Repeats text l → Stopped (Exceeds limit) text m → ⊥
twice_many text l m limit f g =
    let same = faulty_same blank after LineText Onward Repeats (Exceeds limit) repeats_stop (exceeds_stop limit) text (lines_plain text) l m f g in
    not_both limit (said g.lines) g.entry (subst (Repeats (said g.lines)) same.entry (subst (λ (x : List ScheduleLine). Repeats (said x) f.entry) same.lines f.fault)) g.fault

many_many : (text : List ℕ) (l m a b : ℕ) → Stopped (Exceeds a) text l → Stopped (Exceeds b) text m → (l ≡ m) × (a ≡ b)
many_many text l m a b f g =
    let same = faulty_same blank after LineText Onward (Exceeds a) (Exceeds b) (exceeds_stop a) (exceeds_stop b) text (lines_plain text) l m f g in
    let here = subst (Exceeds a (said g.lines)) same.entry (subst (λ (x : List ScheduleLine). Exceeds a (said x) f.entry) same.lines f.fault) in
    (sym f.number ∙ ap (λ (x : List ScheduleLine). length x + 1) same.lines ∙ g.number, one_limit a b (said g.lines) g.entry here g.fault)

abbrev NoMemory : Result Schedule ScheduleFault
NoMemory = Err faults.NoMemory

answers_same : (text : List ℕ) (r s : Result Schedule ScheduleFault) → Answered text r → Answered text s → r ≢ NoMemory → s ≢ NoMemory → s ≡ r
answers_same text (Ok s) (Ok r) a b t u = ap (λ (x : Schedule). Ok x) (sym (ok_ok text s r a b))
answers_same text (Ok s) (Err (faults.BadLine m k)) a b t u = absurd (b.1 s a)
answers_same text (Ok s) (Err (faults.Twice m)) a b t u = absurd (ok_stopped Repeats repeats_stop text s m a b)
answers_same text (Ok s) (Err (faults.TooMany m limit)) a b t u = absurd (ok_stopped (Exceeds limit) (exceeds_stop limit) text s m a b)
answers_same text (Err (faults.BadLine l i)) (Ok s) a b t u = absurd (a.1 s b)
answers_same text (Err (faults.BadLine l i)) (Err (faults.BadLine m k)) a b t u =
    let same = bad_same blank after LineText Onward text (lines_plain text) m l k i b.0 a.0 in
    rw (same.0, same.1) refl
answers_same text (Err (faults.BadLine l i)) (Err (faults.Twice m)) a b t u = absurd (bad_not_faulty blank after LineText Onward Repeats repeats_stop text (lines_plain text) l m i a.0 b)
answers_same text (Err (faults.BadLine l i)) (Err (faults.TooMany m limit)) a b t u = absurd (bad_not_faulty blank after LineText Onward (Exceeds limit) (exceeds_stop limit) text (lines_plain text) l m i a.0 b)
answers_same text (Err (faults.Twice l)) (Ok s) a b t u = absurd (ok_stopped Repeats repeats_stop text s l b a)
answers_same text (Err (faults.Twice l)) (Err (faults.BadLine m k)) a b t u = absurd (bad_not_faulty blank after LineText Onward Repeats repeats_stop text (lines_plain text) m l k b.0 a)
answers_same text (Err (faults.Twice l)) (Err (faults.Twice m)) a b t u = ap (λ (x : ℕ). Err (faults.Twice x)) (twice_twice text m l b a)
answers_same text (Err (faults.Twice l)) (Err (faults.TooMany m limit)) a b t u = absurd (twice_many text l m limit a b)
answers_same text (Err (faults.TooMany l limit)) (Ok s) a b t u = absurd (ok_stopped (Exceeds limit) (exceeds_stop limit) text s l b a)
answers_same text (Err (faults.TooMany l limit)) (Err (faults.BadLine m k)) a b t u = absurd (bad_not_faulty blank after LineText Onward (Exceeds limit) (exceeds_stop limit) text (lines_plain text) m l k b.0 a)
answers_same text (Err (faults.TooMany l limit)) (Err (faults.Twice m)) a b t u = absurd (twice_many text m l limit b a)
answers_same text (Err (faults.TooMany l i)) (Err (faults.TooMany m k)) a b t u =
    let same = many_many text m l k i b a in
    rw (same.0, same.1) refl
answers_same text (Err faults.NoMemory) s a b t u = absurd (t refl)
answers_same text r (Err faults.NoMemory) a b t u = absurd (u refl)

pub only : (text : List ℕ) (r : Result Schedule ScheduleFault) → Answered text r → IsOnly text r
only text r a = λ other b t u. answers_same text r other a b t u

pub taken : (text : List ℕ) (r : Result Schedule ScheduleFault) → Answered text r → IsTaken text r
taken text r a = λ s h t. sym (answers_same text r (Ok s) a h t (λ e. cc))
