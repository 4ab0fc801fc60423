-- Bytes begin with at most one head.
use Rattle.std.proofs.Common.{◌≡◌, ℕ, List, [], ◌∷◌, ◌++◌, length, refl, sym, ap, subst, ◌∙◌, true, false}
use Rattle.std.proofs.lemmas.Bool.{false≢true}
use Rattle.vp_text.specs.Documents.{IsBadLine, IsFaultyLine}
use Rattle.vp_text.proofs.Exact.{IsOne, one_value}
use Rattle.vp_text.proofs.Determined.{Plain, Divided, IsLast, Stops, last_same, bad_divided, bad_last, faulty_divided, faulty_last}
use Rattle.vp_model.specs.Catalogue.{Catalogue}
use Rattle.vp_model.specs.Texts.Schedule.{catalogue_text}
use Rattle.vp_catalog.specs.declared.entry.Entry.{Entry}
use Rattle.vp_catalog.specs.declared.entry.Entry.TheVariants as entry
use Rattle.vp_catalog.specs.Document.{IsCatalogueSoFar, IsCatalogue}
use Rattle.vp_catalog.proofs.Steps as catalogue
use Rattle.vp_catalog.proofs.Spelled.{spelled}
use Rattle.vp_heads.specs.declared.line.HeadLine.{HeadLine}
use Rattle.vp_heads.specs.declared.line.HeadLine.TheVariants as kind
use Rattle.vp_heads.specs.declared.head.Head.{Head}
use Rattle.vp_heads.specs.Heads.{LineText, blank, after, Onward, Repeats, Overfills}
use Rattle.vp_heads.proofs.HeadTexts.{IsKey}
use Rattle.vp_heads.proofs.Steps.{said, Lines, part, line_ready, line_is}

repeats_stop : (key : List ℕ) → Stops blank after (LineText key) Onward Repeats
repeats_stop key d (kind.Entry (entry.Site site port)) f o = false≢true (sym o ∙ f)
repeats_stop key d (kind.Entry (entry.Record placed)) f o = false≢true (sym o.1 ∙ f.1)
repeats_stop key d kind.Key f o = f

overfills_stop : (key : List ℕ) → Stops blank after (LineText key) Onward Overfills
overfills_stop key d (kind.Entry (entry.Site site port)) f o = f
overfills_stop key d (kind.Entry (entry.Record placed)) f o = false≢true (sym o.0 ∙ f)
overfills_stop key d kind.Key f o = f

-- each line of a head is allowed only before the key line
closed : (key : List ℕ) (d : Head) (e : HeadLine) (t : List ℕ) → LineText key d e t → d.opened ≡ false
closed key d (kind.Entry entry) t h = h.0
closed key d kind.Key t h = h.0

one_line : (key : List ℕ) → IsKey key → (d : Head) → IsCatalogueSoFar d.catalog → IsOne (LineText key d)
one_line key is d so_far a b t h k = one_value (line_ready key is d (closed key d a t h) so_far) a b t h k

pub plain : (key : List ℕ) → IsKey key → (most : ℕ) → Plain blank after (LineText key) Onward most
plain key is most = record {
  one = λ es t le h. one_line key is (said key es) (part key es t h);
  lines = λ es t le h. line_is key is (said key es) (part key es t h);
}

-- ---- the lines of a head

-- the lines of a catalogue, and then the key line
pub record LinesOf (key : List ℕ) (c : Catalogue) : Type 0 where
  pub lines : List HeadLine
  pub lines_are : Lines key lines (catalogue_text c ++ key)
  pub says : said key lines ≡ record { catalog = c; opened = true }

abbrev as_lines : List Entry → List HeadLine
as_lines [] = []
as_lines (entry ∷ es) = kind.Entry entry ∷ as_lines es

said_entries : (key : List ℕ) (es : List Entry) → said key (as_lines es) ≡ record { catalog = catalogue.all_said es; opened = false }
said_entries key [] = refl
said_entries key (entry ∷ es) = ap (λ (d : Head). after d (kind.Entry entry)) (said_entries key es)

entry_lines : (key : List ℕ) (es : List Entry) (t : List ℕ) → catalogue.Lines es t → Lines key (as_lines es) t
entry_lines key [] t h = h
entry_lines key (entry ∷ es) t h =
    let back = sym (said_entries key es) in
    (h.0, h.1, entry_lines key es h.0 h.2, subst (λ (d : Head). LineText key d (kind.Entry entry) h.1) back (refl, h.3), subst (λ (d : Head). Onward d (kind.Entry entry)) back h.4, h.5)

pub head_lines : (key : List ℕ) (c : Catalogue) → IsCatalogue c → LinesOf key c
head_lines key c is =
    let s = spelled c is in
    let says : said key (as_lines s.lines) ≡ record { catalog = c; opened = false } = said_entries key s.lines ∙ ap (λ (c : Catalogue). record { catalog = c; opened = false }) s.says in
    let back = sym says in
    record {
      lines = kind.Key ∷ as_lines s.lines;
      lines_are = (catalogue_text c, key, entry_lines key s.lines (catalogue_text c) s.lines_are, subst (λ (d : Head). LineText key d kind.Key key) back (refl, is.some, refl), subst (λ (d : Head). Onward d kind.Key) back tt, refl);
      says = ap (λ (d : Head). after d kind.Key) says;
    }

module _ (key : List ℕ) (is : IsKey key) (text : List ℕ) where
  abbrev Part : Type 0
  Part = Divided blank after (LineText key) Onward text

  abbrev Last : Part → Type 0
  Last d = IsLast blank after (LineText key) Onward d

  -- after the key line there is no other
  opened_last : (d : Part) → (said key d.lines).opened ≡ true → Last d
  opened_last d on more = false≢true (sym (closed key (said key d.lines) more.entry more.line more.line_is) ∙ on)

  -- the text begins with the head of this catalogue
  abbrev headed : (c : Catalogue) → IsCatalogue c → (body : List ℕ) → text ≡ (catalogue_text c ++ key) ++ body → Part
  headed c it body parts = let l = head_lines key c it in record { lines = l.lines; front = catalogue_text c ++ key; rest = body; lines_are = l.lines_are; parts = parts }

  headed_last : (c : Catalogue) (it : IsCatalogue c) (body : List ℕ) (parts : text ≡ (catalogue_text c ++ key) ++ body) → Last (headed c it body parts)
  headed_last c it body parts = opened_last (headed c it body parts) (ap (λ (d : Head). d.opened) (head_lines key c it).says)

  -- No head begins a text whose lines end before the key line.
  pub no_head : (d : Part) → Last d → (said key d.lines).opened ≡ false → (c : Catalogue) → IsCatalogue c → (body : List ℕ) → text ≡ (catalogue_text c ++ key) ++ body → ⊥
  no_head d last off c it body parts =
      let same = last_same blank after (LineText key) Onward text (plain key is (length text)) d (headed c it body parts) last (headed_last c it body parts) in
      false≢true (sym off ∙ ap (λ (es : List HeadLine). (said key es).opened) same.lines ∙ ap (λ (d : Head). d.opened) (head_lines key c it).says)

  pub bad_no_head : (line at : ℕ) → IsBadLine blank after (LineText key) Onward text line at → (c : Catalogue) → IsCatalogue c → (body : List ℕ) → text ≡ (catalogue_text c ++ key) ++ body → ⊥
  bad_no_head line at b =
      let k = b.longest.2.begins in
      no_head (bad_divided blank after (LineText key) Onward text line at b) (bad_last blank after (LineText key) Onward text line at b) (closed key (said key b.lines) k.value _ k.spelled)

  pub repeats_no_head : (line : ℕ) → IsFaultyLine blank after (LineText key) Onward Repeats text line → (c : Catalogue) → IsCatalogue c → (body : List ℕ) → text ≡ (catalogue_text c ++ key) ++ body → ⊥
  repeats_no_head line f =
      no_head (faulty_divided blank after (LineText key) Onward Repeats text line f) (faulty_last blank after (LineText key) Onward Repeats (repeats_stop key) text (plain key is (length text)) line f) (closed key (said key f.lines) f.entry _ f.faulty_is)

  pub overfills_no_head : (line : ℕ) → IsFaultyLine blank after (LineText key) Onward Overfills text line → (c : Catalogue) → IsCatalogue c → (body : List ℕ) → text ≡ (catalogue_text c ++ key) ++ body → ⊥
  overfills_no_head line f =
      no_head (faulty_divided blank after (LineText key) Onward Overfills text line f) (faulty_last blank after (LineText key) Onward Overfills (overfills_stop key) text (plain key is (length text)) line f) (closed key (said key f.lines) f.entry _ f.faulty_is)

  -- Two heads that begin a text have the same catalogue.
  pub one_head : (c d : Catalogue) → IsCatalogue c → IsCatalogue d → (b e : List ℕ) → text ≡ (catalogue_text c ++ key) ++ b → text ≡ (catalogue_text d ++ key) ++ e → c ≡ d
  one_head c d ci di b e cp dp =
      let same = last_same blank after (LineText key) Onward text (plain key is (length text)) (headed c ci b cp) (headed d di e dp) (headed_last c ci b cp) (headed_last d di e dp) in
      ap (λ (d : Head). d.catalog) (sym (head_lines key c ci).says ∙ ap (said key) same.lines ∙ (head_lines key d di).says)
