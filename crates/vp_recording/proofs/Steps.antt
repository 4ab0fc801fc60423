-- Lines of recordings one after the other.
use Rattle.std.proofs.Common.{◌≡◌, ℕ, ◌+◌, ◌-◌, ◌^◌, ◌≤◌, ◌<◌, List, [], ◌∷◌, ◌++◌, length, refl, sym, ap, subst, ◌∙◌, Ok, Err, true, false, arith}
use Rattle.std.specs.Prelude.{codes, Option, Some, None}
use Rattle.vp_text.specs.Documents.{IsLine, reached, LinesText}
use Rattle.vp_text.proofs.Exact.{Exact}
use Rattle.vp_text.proofs.Lists.{Readable, SoFar, so_far_exact, so_far_shorter, so_far_bad}
use Rattle.vp_model.specs.Words.{has, keys}
use Rattle.vp_catalog.specs.Document.{IsCatalogueSoFar, IsCatalogue}
use Rattle.vp_catalog.proofs.Sites.{has_here}
use Rattle.vp_catalog.proofs.Steps as catalogue
use Rattle.vp_heads.specs.Heads as heads
use Rattle.vp_heads.specs.HeadReading.{head_at}
use Rattle.vp_heads.specs.declared.head.Head.{Head}
use Rattle.vp_heads.specs.declared.line.HeadLine.{HeadLine}
use Rattle.vp_heads.specs.declared.line.HeadLine.TheVariants as heads_kind
use Rattle.vp_heads.proofs.HeadTexts.{IsKey}
use Rattle.vp_heads.proofs.Steps as head
use Rattle.vp_recording.specs.declared.draft.RecordingDraft.{RecordingDraft}
use Rattle.vp_recording.specs.declared.line.RecordingLine.{RecordingLine}
use Rattle.vp_recording.specs.declared.line.RecordingLine.TheVariants as kind
use Rattle.vp_recording.specs.Lines.{key}
use Rattle.vp_recording.specs.Drafts.{sites_said, life_named, life_before, LineText, Allows, blank, after, start_recording, Onward}
use Rattle.vp_recording.specs.LineReading.{line_at}
use Rattle.vp_recording.proofs.LineTexts.{AreSites, line_exact}
use Rattle.vp_recording.proofs.Newlines.{hex_is_line, number_is_line, site_is_line, word_is_line}
use Rattle.vp_text.proofs.Newlines.{key_line}

-- what some lines say
abbrev pub said : List RecordingLine → RecordingDraft
said = reached blank after LineText Onward

abbrev pub Lines : List RecordingLine → List ℕ → Type 0
Lines = LinesText blank after LineText Onward

-- where the reading is
abbrev pub Stands : List ℕ → List ℕ → RecordingDraft → ℕ → Type 0
Stands = SoFar blank after LineText Onward line_at

pub key_is : IsKey key
key_is = record { line = key_line (codes "recordings") refl; no_site = refl; no_record = refl }

-- ---- the lines of the head among them

abbrev pub heads_of : List RecordingLine → List HeadLine
heads_of [] = []
heads_of (kind.Head line ∷ es) = line ∷ heads_of es
heads_of (kind.Node site ∷ es) = heads_of es
heads_of (kind.Start life ∷ es) = heads_of es
heads_of (kind.In frame ∷ es) = heads_of es
heads_of (kind.Out frame ∷ es) = heads_of es
heads_of (kind.Bad ∷ es) = heads_of es
heads_of (kind.Stray ∷ es) = heads_of es
heads_of (kind.End ∷ es) = heads_of es
heads_of (kind.LinkFault ∷ es) = heads_of es
heads_of (kind.DiskFault ∷ es) = heads_of es

start_head : (named : Option ℕ) (life : ℕ) (d : RecordingDraft) → (start_recording named life d).head ≡ d.head
start_head None life d = refl
start_head (Some site) life d = refl

pub head_said : (es : List RecordingLine) → (said es).head ≡ head.said key (heads_of es)
head_said [] = refl
head_said (kind.Head line ∷ es) = ap (λ (h : Head). heads.after h line) (head_said es)
head_said (kind.Node site ∷ es) = head_said es
head_said (kind.Start life ∷ es) = start_head (said es).named life (said es) ∙ head_said es
head_said (kind.In frame ∷ es) = head_said es
head_said (kind.Out frame ∷ es) = head_said es
head_said (kind.Bad ∷ es) = head_said es
head_said (kind.Stray ∷ es) = head_said es
head_said (kind.End ∷ es) = head_said es
head_said (kind.LinkFault ∷ es) = head_said es
head_said (kind.DiskFault ∷ es) = head_said es

pub head_text : (es : List RecordingLine) (t : List ℕ) → Lines es t → (front : List ℕ) × head.Lines key (heads_of es) front
head_text [] t h = ([], refl)
head_text (kind.Head line ∷ es) t h =
    let front = head_text es h.0 h.2 in
    (front.0 ++ h.1, (front.0, h.1, front.1, subst (λ (d : Head). heads.LineText key d line h.1) (head_said es) h.3, subst (λ (d : Head). heads.Onward d line) (head_said es) h.4, refl))
head_text (kind.Node site ∷ es) t h = head_text es h.0 h.2
head_text (kind.Start life ∷ es) t h = head_text es h.0 h.2
head_text (kind.In frame ∷ es) t h = head_text es h.0 h.2
head_text (kind.Out frame ∷ es) t h = head_text es h.0 h.2
head_text (kind.Bad ∷ es) t h = head_text es h.0 h.2
head_text (kind.Stray ∷ es) t h = head_text es h.0 h.2
head_text (kind.End ∷ es) t h = head_text es h.0 h.2
head_text (kind.LinkFault ∷ es) t h = head_text es h.0 h.2
head_text (kind.DiskFault ∷ es) t h = head_text es h.0 h.2

part : (es : List RecordingLine) (t : List ℕ) → Lines es t → IsCatalogueSoFar (said es).head.catalog
part es t h = let front = head_text es t h in subst (λ (d : Head). IsCatalogueSoFar d.catalog) (sym (head_said es)) (head.part key (heads_of es) front.0 front.1)

pub catalogue_said : (es : List RecordingLine) (t : List ℕ) → Lines es t → (said es).head.opened ≡ true → IsCatalogue (said es).head.catalog
catalogue_said es t h on =
    let front = head_text es t h in
    subst (λ (d : Head). IsCatalogue d.catalog) (sym (head_said es)) (head.head_spelled key (heads_of es) front.0 front.1 (subst (λ (d : Head). d.opened ≡ true) (head_said es) on)).0

first_has : (sites : List (ℕ × ℕ)) → 0 < length sites → (s : ℕ) × (has (keys sites) s ≡ true)
first_has [] some = absurd (omega (arith, some))
first_has (s ∷ sites) some = (s.0, has_here s.0 s.0 (keys sites) refl)

pub sites_are : (es : List RecordingLine) (t : List ℕ) → Lines es t → (said es).head.opened ≡ true → AreSites (sites_said (said es))
sites_are es t h on =
    let c = catalogue_said es t h on in
    record { all = (catalogue.begun (said es).head.catalog (part es t h)).sites_are; some = first_has (said es).head.catalog.sites c.some }

-- ---- a site that is named has a life left

started_left : (named : Option ℕ) (life : ℕ) (d : RecordingDraft) → life_named named d.lives < 2 ^ 32 - 1 → d.named ≡ named → life_before (start_recording named life d) < 2 ^ 32 - 1
started_left None life d h is = subst (λ (named : Option ℕ). life_named named d.lives < 2 ^ 32 - 1) (sym is) h
started_left (Some site) life d h is = omega arith

pub life_left : (es : List RecordingLine) (t : List ℕ) → Lines es t → life_before (said es) < 2 ^ 32 - 1
life_left [] t h = omega arith
life_left (kind.Head line ∷ es) t h = life_left es h.0 h.2
life_left (kind.Node site ∷ es) t h = h.4
life_left (kind.Start life ∷ es) t h = started_left (said es).named life (said es) (life_left es h.0 h.2) refl
life_left (kind.In frame ∷ es) t h = life_left es h.0 h.2
life_left (kind.Out frame ∷ es) t h = life_left es h.0 h.2
life_left (kind.Bad ∷ es) t h = life_left es h.0 h.2
life_left (kind.Stray ∷ es) t h = life_left es h.0 h.2
life_left (kind.End ∷ es) t h = life_left es h.0 h.2
life_left (kind.LinkFault ∷ es) t h = life_left es h.0 h.2
life_left (kind.DiskFault ∷ es) t h = life_left es h.0 h.2

-- ---- the lines are read

head_ready : (es : List RecordingLine) (t : List ℕ) → Lines es t → (said es).head.opened ≡ false → Exact (heads.LineText key (said es).head) (head_at key (said es).head.catalog)
head_ready es t h off = head.line_ready key key_is (said es).head off (part es t h)

line_is : (es : List RecordingLine) (t : List ℕ) → Lines es t → (e : RecordingLine) (u : List ℕ) → LineText (said es) e u → IsLine u
line_is es t h (kind.Head line) u l = head.line_is key key_is (said es).head (part es t h) line u l
line_is es t h (kind.Node site) u l = site_is_line (sites_said (said es)) (sites_are es t h l.0.opened).all (codes "node ") refl site u l.1 l.2
line_is es t h (kind.Start life) u l = number_is_line (codes "start ") refl life u (let z = l.3 in omega (arith, z)) l.4
line_is es t h (kind.In frame) u l = hex_is_line (codes "in ") refl frame u l.1 l.2
line_is es t h (kind.Out frame) u l = hex_is_line (codes "out ") refl frame u l.2 l.3
line_is es t h kind.Bad u l = number_is_line (codes "bad ") refl l.1.0 u (let z = l.1.1 in omega (arith, z)) l.1.2
line_is es t h kind.Stray u l = hex_is_line (codes "stray ") refl l.1.0 u l.1.1 l.1.2
line_is es t h kind.End u l = word_is_line (codes "end") u refl l.1
line_is es t h kind.LinkFault u l = word_is_line (codes "link fault") u refl l.1
line_is es t h kind.DiskFault u l = word_is_line (codes "disk fault") u refl l.1

pub readable : (most : ℕ) → Readable blank after LineText Onward line_at most
readable most = record {
  exact = λ es t le h. line_exact (said es) (head_ready es t h) (sites_are es t h) (life_left es t h);
  lines = λ es t le h. line_is es t h;
}

-- ---- the steps

pub stands_left : (text rest : List ℕ) (d : RecordingDraft) (line : ℕ) → Stands text rest d line → life_before d < 2 ^ 32 - 1
stands_left text rest d line s = subst (λ (d : RecordingDraft). life_before d < 2 ^ 32 - 1) s.state_is (life_left s.lines s.front s.lines_are)

pub stands_room : (text rest : List ℕ) (d : RecordingDraft) (line : ℕ) → Stands text rest d line → (left : ℕ) → line_at d rest ≡ Err left → left ≤ length rest
stands_room text rest d line s left read = (so_far_bad blank after LineText Onward line_at text rest d line left (readable (length text)) s read).0

allows : (d : RecordingDraft) (e : RecordingLine) (t : List ℕ) → LineText d e t → Allows d e
allows d (kind.Head line) t h = head_allows line h
  where
    head_allows : (line : HeadLine) → heads.LineText key d.head line t → heads.Allows d.head line
    head_allows (heads_kind.Entry entry) h = (t, h.1)
    head_allows heads_kind.Key h = tt
allows d (kind.Node site) t h = tt
allows d (kind.Start life) t h = tt
allows d (kind.In frame) t h = tt
allows d (kind.Out frame) t h = tt
allows d kind.Bad t h = tt
allows d kind.Stray t h = tt
allows d kind.End t h = tt
allows d kind.LinkFault t h = tt
allows d kind.DiskFault t h = tt

pub stands_allowed : (text rest new : List ℕ) (d : RecordingDraft) (line : ℕ) (e : RecordingLine) → Stands text rest d line → line_at d rest ≡ Ok (e, new) → Allows d e
stands_allowed text rest new d line e s read =
    let p = (so_far_exact blank after LineText Onward line_at text rest d line (readable (length text)) s).ok rest e new read in
    allows d e p.text p.spelled

pub stands_shorter : (text rest new : List ℕ) (d : RecordingDraft) (line : ℕ) (e : RecordingLine) → Stands text rest d line → line_at d rest ≡ Ok (e, new) → length new < length rest
stands_shorter text rest new d line e s read = so_far_shorter blank after LineText Onward line_at text rest new d line e (readable (length text)) s read

pub stands_number : (text rest : List ℕ) (d : RecordingDraft) (line : ℕ) → Stands text rest d line → line ≤ length text + 1
stands_number text rest d line s = let b = s.bound in omega (arith, b)
