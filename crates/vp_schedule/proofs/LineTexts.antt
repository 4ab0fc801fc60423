-- The lines of a schedule are read exactly.
use Rattle.std.proofs.Common.{◌≡◌, ℕ, Bool, true, false, cond, List, [], ◌∷◌, refl, sym, subst, ◌∙◌}
use Rattle.std.specs.Prelude.{codes}
use Rattle.std.proofs.lemmas.Bool.{false≢true}
use Rattle.vp_text.specs.Tokens.{IsLiteral}
use Rattle.vp_text.proofs.Exact.{Exact, exact_as, Then, Made, made_exact, then_exact}
use Rattle.vp_text.proofs.Words.{literal_exact}
use Rattle.vp_text.proofs.Fields.{made_outside}
use Rattle.vp_text.proofs.Choices.{follows_from}
use Rattle.vp_text.proofs.Newlines.{key_line}
use Rattle.vp_model.specs.Texts.Calls.{event_text}
use Rattle.vp_catalog.specs.Entries.{EntryText}
use Rattle.vp_catalog.specs.EntryReading.{entry_at}
use Rattle.vp_schedule.specs.declared.line.ScheduleLine.{ScheduleLine}
use Rattle.vp_schedule.specs.declared.line.ScheduleLine.TheVariants as kind
use Rattle.vp_schedule.specs.declared.draft.ScheduleDraft.{ScheduleDraft}
use Rattle.vp_schedule.specs.Events.{IsEventText}
use Rattle.vp_schedule.specs.Drafts.{sites_said, LineText}
use Rattle.vp_heads.specs.declared.line.HeadLine.{HeadLine}
use Rattle.vp_heads.specs.declared.line.HeadLine.TheVariants as head
use Rattle.vp_heads.specs.declared.head.Head.{Head}
use Rattle.vp_heads.specs.Heads.{LineText as HeadText}
use Rattle.vp_heads.proofs.HeadTexts.{IsKey, head_exact}
use Rattle.vp_schedule.specs.LineReading.{of_head, head_line_at, event_line_at, line_at}
use Rattle.vp_schedule.proofs.Exact.{in_line}
use Rattle.vp_schedule.proofs.Newlines.{event_goes}
use Rattle.vp_schedule.proofs.EventTexts.{IsSites, event_exact}

-- ---- after the line `events`

abbrev EventParts : List ℕ → ScheduleLine → List ℕ → Type 0
EventParts sites = Then (IsEventText sites) (λ event. Made (IsLiteral (10 ∷ [])) (λ u. kind.Event event))

event_parts_exact : (sites : List ℕ) → IsSites sites → Exact (EventParts sites) (event_line_at sites)
unfolding event_line_at
event_parts_exact sites h =
    then_exact (follows_from in_line (event_goes sites h.all) (λ event. made_outside in_line (10 ∷ []) refl)) (event_exact sites h)
    (λ event. made_exact (λ u. kind.Event event) (literal_exact (10 ∷ [])))

event_to : (d : ScheduleDraft) → d.opened ≡ true → (e : ScheduleLine) (t : List ℕ) → EventParts (sites_said d) e t → LineText d e t
event_to d on e t h =
    subst (λ (e : ScheduleLine). LineText d e t) (sym h.after.is) (on, h.before.allowed, h.parts ∙ rw (h.before.is, h.after.spelled) refl)

event_from : (d : ScheduleDraft) → d.opened ≡ true → (e : ScheduleLine) (t : List ℕ) → LineText d e t → EventParts (sites_said d) e t
event_from d on (kind.Entry entry) t h = absurd (false≢true (sym h.0 ∙ on))
event_from d on kind.Events t h = absurd (false≢true (sym h.0 ∙ on))
event_from d on (kind.Event event) t h = record {
  first = event;
  front = event_text event;
  back = 10 ∷ [];
  before = record { is = refl; allowed = h.1 };
  after = record { from = tt; spelled = refl; is = refl };
  parts = h.2;
}

-- ---- before it

abbrev key : List ℕ
key = codes "events\n"

key_is : IsKey key
key_is = record { line = key_line (codes "events") refl; no_site = refl; no_record = refl }

-- what the lines say of the head
abbrev head_of : ScheduleDraft → Head
head_of d = record { catalog = d.schedule.catalogue; opened = d.opened }

abbrev HeadPart : ScheduleDraft → ScheduleLine → List ℕ → Type 0
HeadPart d = Made (HeadText key (head_of d)) of_head

head_to : (d : ScheduleDraft) (e : ScheduleLine) (t : List ℕ) → HeadPart d e t → LineText d e t
head_to d e t h = subst (λ (e : ScheduleLine). LineText d e t) (sym h.is) (by h.from h.spelled)
  where
    by : (line : HeadLine) → HeadText key (head_of d) line t → LineText d (of_head line) t
    by (head.Entry entry) l = l
    by head.Key l = l

head_from : (d : ScheduleDraft) → d.opened ≡ false → (e : ScheduleLine) (t : List ℕ) → LineText d e t → HeadPart d e t
head_from d off (kind.Entry entry) t h = record { from = head.Entry entry; spelled = h; is = refl }
head_from d off kind.Events t h = record { from = head.Key; spelled = h; is = refl }
head_from d off (kind.Event event) t h = absurd (false≢true (sym off ∙ h.0))

head_line_exact : (d : ScheduleDraft) → d.opened ≡ false → Exact (EntryText d.schedule.catalogue) (entry_at d.schedule.catalogue) → Exact (LineText d) (head_line_at d.schedule.catalogue)
unfolding head_line_at
head_line_exact d off e = exact_as (head_to d) (head_from d off) (made_exact of_head (head_exact key (head_of d) off key_is e))

pub line_exact : (d : ScheduleDraft) → (d.opened ≡ false → Exact (EntryText d.schedule.catalogue) (entry_at d.schedule.catalogue)) → (d.opened ≡ true → IsSites (sites_said d)) → Exact (LineText d) (line_at d)
unfolding line_at
line_exact d entries sites =
    let c = d.schedule.catalogue in
    let f : (b : Bool) → d.opened ≡ b → Exact (LineText d) (λ bytes. cond b (event_line_at (sites_said d) bytes) (head_line_at c bytes)) = λ b. elim b as (λ b. d.opened ≡ b → Exact (LineText d) (λ bytes. cond b (event_line_at (sites_said d) bytes) (head_line_at c bytes))) [
      | true ↦ λ on. exact_as (event_to d on) (event_from d on) (event_parts_exact (sites_said d) (sites on))
      | false ↦ λ off. head_line_exact d off (entries off)
    ] in
    f d.opened refl
