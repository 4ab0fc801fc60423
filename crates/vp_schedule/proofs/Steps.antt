-- Lines one after the other.
use Rattle.std.proofs.Common.{◌≡◌, ℕ, ◌+◌, ◌≤◌, ◌<◌, List, [], ◌∷◌, ◌++◌, length, refl, sym, ap, subst, ◌∙◌, Ok, Err, true, false}
use Rattle.std.specs.Prelude.{codes}
use Rattle.std.proofs.lemmas.Bool.{false≢true}
use Rattle.vp_text.specs.Documents.{IsLine, reached, LinesText}
use Rattle.vp_text.proofs.Exact.{Exact}
use Rattle.vp_text.proofs.Lists.{Readable, SoFar, so_far_exact, so_far_shorter, so_far_bad}
use Rattle.vp_text.proofs.Newlines.{key_line}
use Rattle.vp_model.specs.Catalogue.{Catalogue, sites_of}
use Rattle.vp_catalog.specs.declared.entry.Entry.{Entry}
use Rattle.vp_catalog.specs.Entries as entries
use Rattle.vp_catalog.specs.EntryReading.{entry_at}
use Rattle.vp_schedule.specs.declared.line.ScheduleLine.{ScheduleLine}
use Rattle.vp_schedule.specs.declared.line.ScheduleLine.TheVariants as kind
use Rattle.vp_schedule.specs.declared.draft.ScheduleDraft.{ScheduleDraft}
use Rattle.vp_schedule.specs.Drafts.{sites_said, LineText, IsAllowed, blank, after, Onward}
use Rattle.vp_schedule.specs.LineReading.{line_at}
use Rattle.vp_catalog.proofs.Steps as catalogue
use Rattle.vp_schedule.proofs.Catalogues.{entries_exact, entries_line, entries_sites, entries_few}
use Rattle.vp_schedule.proofs.EventTexts.{IsSites}
use Rattle.vp_schedule.proofs.Newlines.{event_is_line}
use Rattle.vp_schedule.proofs.LineTexts.{line_exact}

-- what some lines say
abbrev pub said : List ScheduleLine → ScheduleDraft
said = reached blank after LineText Onward

abbrev pub Lines : List ScheduleLine → List ℕ → Type 0
Lines = LinesText blank after LineText Onward

-- the place that the reading has reached
abbrev pub Stands : List ℕ → List ℕ → ScheduleDraft → ℕ → Type 0
Stands = SoFar blank after LineText Onward line_at

-- ---- the catalogue's lines among them

abbrev pub entries_of : List ScheduleLine → List Entry
entries_of [] = []
entries_of (kind.Entry entry ∷ es) = entry ∷ entries_of es
entries_of (kind.Events ∷ es) = entries_of es
entries_of (kind.Event event ∷ es) = entries_of es

pub catalogue_said : (es : List ScheduleLine) → (said es).schedule.catalogue ≡ catalogue.all_said (entries_of es)
catalogue_said [] = refl
catalogue_said (kind.Entry entry ∷ es) = ap (λ (c : Catalogue). entries.after c entry) (catalogue_said es)
catalogue_said (kind.Events ∷ es) = catalogue_said es
catalogue_said (kind.Event event ∷ es) = catalogue_said es

entry_said : (es : List ScheduleLine) (entry : Entry) (t : List ℕ) → entries.EntryText (said es).schedule.catalogue entry t → entries.EntryText (catalogue.all_said (entries_of es)) entry t
entry_said es entry t h = subst (λ (c : Catalogue). entries.EntryText c entry t) (catalogue_said es) h

onward_said : (es : List ScheduleLine) (entry : Entry) → entries.Onward (said es).schedule.catalogue entry → entries.Onward (catalogue.all_said (entries_of es)) entry
onward_said es entry h = subst (λ (c : Catalogue). entries.Onward c entry) (catalogue_said es) h

head_text : (es : List ScheduleLine) (t : List ℕ) → Lines es t → (front : List ℕ) × catalogue.Lines (entries_of es) front
head_text [] t h = ([], refl)
head_text (kind.Entry entry ∷ es) t h =
    let front = head_text es h.0 h.2 in
    (front.0 ++ h.1, (front.0, h.1, front.1, entry_said es entry h.1 h.3.1, onward_said es entry h.4, refl))
head_text (kind.Events ∷ es) t h = head_text es h.0 h.2
head_text (kind.Event event ∷ es) t h = head_text es h.0 h.2

-- before the line `events` there are only lines of the catalogue
pub head_whole : (es : List ScheduleLine) (t : List ℕ) → Lines es t → (said es).opened ≡ false → catalogue.Lines (entries_of es) t
head_whole [] t h off = h
head_whole (kind.Entry entry ∷ es) t h off = (h.0, h.1, head_whole es h.0 h.2 h.3.0, entry_said es entry h.1 h.3.1, onward_said es entry h.4, h.5)
head_whole (kind.Events ∷ es) t h off = absurd (false≢true (sym off))
head_whole (kind.Event event ∷ es) t h off = absurd (false≢true (sym off ∙ h.3.0))

pub no_events : (es : List ScheduleLine) (t : List ℕ) → Lines es t → (said es).opened ≡ false → (said es).schedule.events ≡ []
no_events [] t h off = refl
no_events (kind.Entry entry ∷ es) t h off = no_events es h.0 h.2 h.3.0
no_events (kind.Events ∷ es) t h off = absurd (false≢true (sym off))
no_events (kind.Event event ∷ es) t h off = absurd (false≢true (sym off ∙ h.3.0))

sites_some : (es : List ScheduleLine) (t : List ℕ) → Lines es t → (said es).opened ≡ true → 0 < length (said es).schedule.catalogue.sites
sites_some [] t h on = absurd (false≢true on)
sites_some (kind.Entry entry ∷ es) t h on = absurd (false≢true (sym h.3.0 ∙ on))
sites_some (kind.Events ∷ es) t h on = h.3.1
sites_some (kind.Event event ∷ es) t h on = sites_some es h.0 h.2 h.3.0

pub sites_are : (es : List ScheduleLine) (t : List ℕ) → Lines es t → (said es).opened ≡ true → IsSites (sites_said (said es))
sites_are es t h on =
    let front = head_text es t h in
    let back = sym (catalogue_said es) in
    subst (λ (c : Catalogue). IsSites (sites_of c)) back
    (entries_sites (entries_of es) front.0 front.1 (subst (λ (c : Catalogue). 0 < length c.sites) (catalogue_said es) (sites_some es t h on)))

sites_few : (es : List ScheduleLine) (t : List ℕ) → Lines es t → length (sites_said (said es)) ≤ 16
sites_few es t h =
    let front = head_text es t h in
    subst (λ (c : Catalogue). length (sites_of c) ≤ 16) (sym (catalogue_said es)) (entries_few (entries_of es) front.0 front.1)

entry_ready : (es : List ScheduleLine) (t : List ℕ) → Lines es t → Exact (entries.EntryText (said es).schedule.catalogue) (entry_at (said es).schedule.catalogue)
entry_ready es t h =
    let front = head_text es t h in
    subst (λ (c : Catalogue). Exact (entries.EntryText c) (entry_at c)) (sym (catalogue_said es)) (entries_exact (entries_of es) front.0 front.1)

line_is : (es : List ScheduleLine) (t : List ℕ) → Lines es t → (e : ScheduleLine) (u : List ℕ) → LineText (said es) e u → IsLine u
line_is es t h (kind.Entry entry) u l =
    let front = head_text es t h in
    entries_line (entries_of es) front.0 front.1 entry u (entry_said es entry u l.1)
line_is es t h kind.Events u l = subst IsLine (sym l.2) (key_line (codes "events") refl)
line_is es t h (kind.Event event) u l = subst IsLine (sym l.2) (event_is_line (sites_said (said es)) (sites_are es t h l.0).all event l.1)

pub readable : (most : ℕ) → Readable blank after LineText Onward line_at most
readable most = record {
  exact = λ es t le h. line_exact (said es) (λ off. entry_ready es t h) (λ on. sites_are es t h on);
  lines = λ es t le h. line_is es t h;
}

-- ---- the steps

pub stands_few : (text rest : List ℕ) (d : ScheduleDraft) (line : ℕ) → Stands text rest d line → length (sites_said d) ≤ 16
stands_few text rest d line s = subst (λ (d : ScheduleDraft). length (sites_said d) ≤ 16) s.state_is (sites_few s.lines s.front s.lines_are)

pub stands_room : (text rest : List ℕ) (d : ScheduleDraft) (line : ℕ) → Stands text rest d line → (left : ℕ) → line_at d rest ≡ Err left → left ≤ length rest
stands_room text rest d line s left read = (so_far_bad blank after LineText Onward line_at text rest d line left (readable (length text)) s read).0

pub stands_allowed : (text rest new : List ℕ) (d : ScheduleDraft) (line : ℕ) (e : ScheduleLine) → Stands text rest d line → line_at d rest ≡ Ok (e, new) → IsAllowed d e
stands_allowed text rest new d line e s read =
    let p = (so_far_exact blank after LineText Onward line_at text rest d line (readable (length text)) s).ok rest e new read in
    (p.text, p.spelled)

pub stands_shorter : (text rest new : List ℕ) (d : ScheduleDraft) (line : ℕ) (e : ScheduleLine) → Stands text rest d line → line_at d rest ≡ Ok (e, new) → length new < length rest
stands_shorter text rest new d line e s read = so_far_shorter blank after LineText Onward line_at text rest new d line e (readable (length text)) s read
