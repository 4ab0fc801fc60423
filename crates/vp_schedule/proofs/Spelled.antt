-- The lines to the end of a text say only one schedule, and each schedule has lines that say it.
use Rattle.std.proofs.Common.{◌≡◌, ℕ, ◌+◌, ◌≤◌, ◌<◌, List, [], ◌∷◌, ◌++◌, length, refl, sym, ap, subst, ◌∙◌, arith, append_assoc, Bool, true, false}
use Rattle.std.specs.Prelude.{codes, flat_map}
use Rattle.std.specs.List.{AllByRecursion}
use Rattle.std.proofs.lemmas.Bool.{false≢true}
use Rattle.std.proofs.lemmas.List.{length-append, append-nil, flat_map_more}
use Rattle.std.proofs.lemmas.List.Concat.{flat_map-cons}
use Rattle.vp_text.proofs.Items.{all_push}
use Rattle.vp_model.specs.Types.{Event}
use Rattle.vp_model.specs.Catalogue.{Catalogue, sites_of}
use Rattle.vp_model.specs.World.{Schedule}
use Rattle.vp_model.specs.Texts.Schedule.{event_line, catalogue_text, schedule_text}
use Rattle.vp_catalog.specs.declared.entry.Entry.{Entry}
use Rattle.vp_catalog.specs.Document.{IsCatalogue}
use Rattle.vp_schedule.specs.declared.line.ScheduleLine.{ScheduleLine}
use Rattle.vp_schedule.specs.declared.line.ScheduleLine.TheVariants as kind
use Rattle.vp_schedule.specs.declared.draft.ScheduleDraft.{ScheduleDraft}
use Rattle.vp_schedule.specs.Events.{IsEvent}
use Rattle.vp_schedule.specs.Drafts.{LineText, after, Onward}
use Rattle.vp_schedule.specs.Document.{IsSchedule, IsScheduleText}
use Rattle.vp_catalog.proofs.Steps as catalogue
use Rattle.vp_catalog.proofs.Spelled.{spelled}
use Rattle.vp_schedule.proofs.Catalogues.{entries_whole}
use Rattle.vp_schedule.proofs.Steps.{said, Lines, entries_of, catalogue_said, head_whole, no_events}

abbrev draft_of : Catalogue → List Event → Bool → ScheduleDraft
draft_of c events opened = record { schedule = record { catalogue = c; events = events }; opened = opened }

-- ---- what the lines say

-- the line `events` after a catalogue
opened_spelled : (c : Catalogue) (front : List ℕ) → IsCatalogue c → catalogue_text c ≡ front → IsScheduleText (record { catalogue = c; events = [] }) (front ++ codes "events\n")
opened_spelled c front h text = (record { catalogue_is = h; events_are = tt; few = omega arith }, ap (λ (x : List ℕ). x ++ codes "events\n") text)

-- one more event
event_spelled : (s : Schedule) (event : Event) (front : List ℕ) → IsScheduleText s front → IsEvent (sites_of s.catalogue) event → length s.events < 100000
    → IsScheduleText (record { catalogue = s.catalogue; events = s.events ++ event ∷ [] }) (front ++ event_line event)
event_spelled s event front h allowed room =
    let before = catalogue_text s.catalogue in
    let lines = flat_map event_line s.events in
    let more : codes "events\n" ++ flat_map event_line (s.events ++ event ∷ []) ≡ (codes "events\n" ++ lines) ++ event_line event = sym (flat_map_more event_line (codes "events\n") s.events event) in (
      record {
        catalogue_is = h.0.catalogue_is;
        events_are = all_push (λ e. IsEvent (sites_of s.catalogue) e) s.events event h.0.events_are allowed;
        few = omega (arith, room, length-append s.events (event ∷ []));
      },
      ap (λ (x : List ℕ). before ++ x) more ∙ sym (append_assoc before (codes "events\n" ++ lines) (event_line event)) ∙ ap (λ (x : List ℕ). x ++ event_line event) h.1,
    )

pub lines_spell : (es : List ScheduleLine) (t : List ℕ) → Lines es t → (said es).opened ≡ true → IsScheduleText (said es).schedule t
lines_spell [] t h on = absurd (false≢true on)
lines_spell (kind.Entry entry ∷ es) t h on = absurd (false≢true (sym h.3.0 ∙ on))
lines_spell (kind.Events ∷ es) t h on =
    let s = (said es).schedule in
    let c = s.catalogue in
    let w = entries_whole (entries_of es) h.0 (head_whole es h.0 h.2 h.3.0) (subst (λ (c : Catalogue). 0 < length c.sites) (catalogue_said es) h.3.1) in
    let back = sym (catalogue_said es) in
    let spelled = opened_spelled c h.0 (subst IsCatalogue back w.0) (ap catalogue_text (catalogue_said es) ∙ w.1) in
    let none : (record { catalogue = c; events = [] }) ≡ s = ap (λ (events : List Event). record { catalogue = c; events = events }) (sym (no_events es h.0 h.2 h.3.0)) in
    subst (λ (x : List ℕ). IsScheduleText s x) (ap (λ (x : List ℕ). h.0 ++ x) (sym h.3.2) ∙ sym h.5) (subst (λ (s : Schedule). IsScheduleText s (h.0 ++ codes "events\n")) none spelled)
lines_spell (kind.Event event ∷ es) t h on =
    let s = (said es).schedule in
    subst (λ (x : List ℕ). IsScheduleText (record { catalogue = s.catalogue; events = s.events ++ event ∷ [] }) x) (ap (λ (x : List ℕ). h.0 ++ x) (sym h.3.2) ∙ sym h.5)
    (event_spelled s event h.0 (lines_spell es h.0 h.2 h.3.0) h.3.1 h.4)

-- ---- the lines of a schedule

-- some lines that say the draft
pub record LinesOf (d : ScheduleDraft) (text : List ℕ) : Type 0 where
  pub lines : List ScheduleLine
  pub lines_are : Lines lines text
  pub says : said lines ≡ d

abbrev as_lines : List Entry → List ScheduleLine
as_lines [] = []
as_lines (entry ∷ es) = kind.Entry entry ∷ as_lines es

said_head : (es : List Entry) → said (as_lines es) ≡ draft_of (catalogue.all_said es) [] false
said_head [] = refl
said_head (entry ∷ es) = ap (λ (d : ScheduleDraft). after d (kind.Entry entry)) (said_head es)

head_lines : (es : List Entry) (t : List ℕ) → catalogue.Lines es t → Lines (as_lines es) t
head_lines [] t h = h
head_lines (entry ∷ es) t h =
    let back = sym (said_head es) in
    (h.0, h.1, head_lines es h.0 h.2, subst (λ (d : ScheduleDraft). LineText d (kind.Entry entry) h.1) back (refl, h.3), subst (λ (d : ScheduleDraft). Onward d (kind.Entry entry)) back h.4, h.5)

-- one more line
line_more : (d : ScheduleDraft) (text line : List ℕ) (e : ScheduleLine) → LinesOf d text → LineText d e line → Onward d e → LinesOf (after d e) (text ++ line)
line_more d text line e l h onward =
    let back = sym l.says in
    record {
      lines = e ∷ l.lines;
      lines_are = (text, line, l.lines_are, subst (λ (d : ScheduleDraft). LineText d e line) back h, subst (λ (d : ScheduleDraft). Onward d e) back onward, refl);
      says = ap (λ (d : ScheduleDraft). after d e) l.says;
    }

event_lines : (c : Catalogue) (events more : List Event) (text : List ℕ) → LinesOf (draft_of c events true) text → AllByRecursion (λ e. IsEvent (sites_of c) e) more → length events + length more ≤ 100000
    → LinesOf (draft_of c (events ++ more) true) (text ++ flat_map event_line more)
event_lines c events [] text l h few =
    subst (λ (events : List Event). LinesOf (draft_of c events true) (text ++ [])) (sym (append-nil events)) (subst (LinesOf (draft_of c events true)) (sym (append-nil text)) l)
event_lines c events (event ∷ more) text l h few =
    let next = line_more (draft_of c events true) text (event_line event) (kind.Event event) l (refl, h.0, refl) (omega (arith, few)) in
    let all = event_lines c (events ++ event ∷ []) more (text ++ event_line event) next h.1 (omega (arith, few, length-append events (event ∷ []))) in
    let said_all : (events ++ event ∷ []) ++ more ≡ events ++ event ∷ more = append_assoc events (event ∷ []) more in
    let text_all : (text ++ event_line event) ++ flat_map event_line more ≡ text ++ flat_map event_line (event ∷ more) =
    append_assoc text (event_line event) (flat_map event_line more) ∙ ap (λ (x : List ℕ). text ++ x) (sym (flat_map-cons event_line event more)) in
    subst (λ (events : List Event). LinesOf (draft_of c events true) (text ++ flat_map event_line (event ∷ more))) said_all (subst (LinesOf (draft_of c ((events ++ event ∷ []) ++ more) true)) text_all all)

pub schedule_lines : (s : Schedule) → IsSchedule s → LinesOf (draft_of s.catalogue s.events true) (schedule_text s)
schedule_lines s h =
    let c = s.catalogue in
    let e = spelled c h.catalogue_is in
    let head : LinesOf (draft_of c [] false) (catalogue_text c) = record { lines = as_lines e.lines; lines_are = head_lines e.lines (catalogue_text c) e.lines_are; says = said_head e.lines ∙ ap (λ (c : Catalogue). draft_of c [] false) e.says } in
    let opened = line_more (draft_of c [] false) (catalogue_text c) (codes "events\n") kind.Events head (refl, h.catalogue_is.some, refl) tt in
    let all = event_lines c [] s.events (catalogue_text c ++ codes "events\n") opened h.events_are (omega (arith, h.few)) in
    subst (LinesOf (draft_of c s.events true)) (append_assoc (catalogue_text c) (codes "events\n") (flat_map event_line s.events)) all
