-- The lines of a head, one after the other.
use Rattle.std.proofs.Common.{◌≡◌, ℕ, ◌+◌, List, [], ◌∷◌, ◌++◌, length, refl, sym, ap, subst, ◌∙◌, true, false}
use Rattle.std.proofs.lemmas.Bool.{false≢true, leb-false}
use Rattle.vp_text.specs.Documents.{IsLine, reached, LinesText}
use Rattle.vp_text.proofs.Exact.{Exact}
use Rattle.vp_model.specs.Catalogue.{Catalogue}
use Rattle.vp_model.specs.Texts.Schedule.{catalogue_text}
use Rattle.vp_catalog.specs.declared.entry.Entry.{Entry}
use Rattle.vp_catalog.specs.declared.entry.Entry.TheVariants as entry
use Rattle.vp_catalog.specs.Document.{IsCatalogueSoFar, IsCatalogue}
use Rattle.vp_catalog.specs.Entries as entries
use Rattle.vp_catalog.proofs.EntriesExact.{entry_exact}
use Rattle.vp_catalog.proofs.Newlines.{entry_is_line}
use Rattle.vp_catalog.proofs.Steps as catalogue
use Rattle.vp_heads.specs.declared.line.HeadLine.{HeadLine}
use Rattle.vp_heads.specs.declared.line.HeadLine.TheVariants as kind
use Rattle.vp_heads.specs.declared.head.Head.{Head}
use Rattle.vp_heads.specs.Heads.{LineText, blank, after, Onward}
use Rattle.vp_heads.specs.HeadReading.{head_at}
use Rattle.vp_heads.proofs.HeadTexts.{IsKey, head_exact}

-- ---- a line, where the lines before it say a part of a catalogue

pub line_ready : (key : List ℕ) → IsKey key → (d : Head) → d.opened ≡ false → IsCatalogueSoFar d.catalog → Exact (LineText key d) (head_at key d.catalog)
line_ready key is d off so_far = head_exact key d off is (entry_exact d.catalog (catalogue.begun d.catalog so_far))

pub line_is : (key : List ℕ) → IsKey key → (d : Head) → IsCatalogueSoFar d.catalog → (e : HeadLine) (t : List ℕ) → LineText key d e t → IsLine t
line_is key is d so_far (kind.Entry entry) t h = entry_is_line d.catalog (catalogue.begun d.catalog so_far).sites_are entry t h.1
line_is key is d so_far kind.Key t h = subst IsLine (sym h.2) is.line

module _ (key : List ℕ) where
  -- what some lines say
  abbrev pub said : List HeadLine → Head
  said = reached blank after (LineText key) Onward

  abbrev pub Lines : List HeadLine → List ℕ → Type 0
  Lines = LinesText blank after (LineText key) Onward

  -- the part of a catalogue that they say
  pub part : (es : List HeadLine) (t : List ℕ) → Lines es t → IsCatalogueSoFar (said es).catalog
  part [] t h = catalogue.empty
  part (kind.Entry (entry.Site site port) ∷ es) t h = catalogue.site_added (said es).catalog (site, port) (part es h.0 h.2) h.3.1.first h.3.1.site_is h.4
  part (kind.Entry (entry.Record placed) ∷ es) t h =
      catalogue.record_added (said es).catalog placed (part es h.0 h.2) h.3.1.record_is (leb-false 256 (length (said es).catalog.records) h.4.0) h.4.1
  part (kind.Key ∷ es) t h = part es h.0 h.2

  -- ---- the lines of the catalogue among them

  abbrev entries_of : List HeadLine → List Entry
  entries_of [] = []
  entries_of (kind.Entry entry ∷ es) = entry ∷ entries_of es
  entries_of (kind.Key ∷ es) = entries_of es

  catalogue_said : (es : List HeadLine) → (said es).catalog ≡ catalogue.all_said (entries_of es)
  catalogue_said [] = refl
  catalogue_said (kind.Entry entry ∷ es) = ap (λ (c : Catalogue). entries.after c entry) (catalogue_said es)
  catalogue_said (kind.Key ∷ es) = catalogue_said es

  -- before the key line there are only lines of the catalogue
  head_whole : (es : List HeadLine) (t : List ℕ) → Lines es t → (said es).opened ≡ false → catalogue.Lines (entries_of es) t
  head_whole [] t h off = h
  head_whole (kind.Entry entry ∷ es) t h off = (
    h.0,
    h.1,
    head_whole es h.0 h.2 h.3.0,
    subst (λ (c : Catalogue). entries.EntryText c entry h.1) (catalogue_said es) h.3.1,
    subst (λ (c : Catalogue). entries.Onward c entry) (catalogue_said es) h.4,
    h.5,
  )
  head_whole (kind.Key ∷ es) t h off = absurd (false≢true (sym off))

  -- A head is the text of a catalogue, and then the key line.
  pub head_spelled : (es : List HeadLine) (t : List ℕ) → Lines es t → (said es).opened ≡ true → IsCatalogue (said es).catalog × (t ≡ catalogue_text (said es).catalog ++ key)
  head_spelled [] t h on = absurd (false≢true on)
  head_spelled (kind.Entry entry ∷ es) t h on = absurd (false≢true (sym h.3.0 ∙ on))
  head_spelled (kind.Key ∷ es) t h on =
      let front = head_whole es h.0 h.2 h.3.0 in
      let back = sym (catalogue_said es) in (
        record { some = h.3.1; so_far = subst IsCatalogueSoFar back (catalogue.part (entries_of es) h.0 front) },
        h.5 ∙ ap (λ (x : List ℕ). x ++ h.1) (catalogue.said_text (entries_of es) h.0 front ∙ ap catalogue_text back) ∙ ap (λ (x : List ℕ). catalogue_text (said es).catalog ++ x) h.3.2,
      )
