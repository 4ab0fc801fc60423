-- The lines of a head are read exactly.
use Rattle.std.proofs.Common.{◌≡◌, ℕ, ◌<◌, Bool, true, false, cond, ltb, List, [], ◌∷◌, ◌++◌, length, refl, sym, subst, ◌∙◌, inl, inr}
use Rattle.std.specs.Prelude.{codes, flat_map}
use Rattle.std.specs.Fmt.{decimal}
use Rattle.std.proofs.lemmas.Bool.{false≢true, ltb-true, lt-ltb, cases_eq, eq-eqb, ne_eqb}
use Rattle.vp_text.specs.Tokens.{IsLiteral, Either}
use Rattle.vp_text.specs.Documents.{IsLine}
use Rattle.vp_text.specs.Reading.{either}
use Rattle.vp_text.proofs.Exact.{Exact, Made, made_exact, exact_as}
use Rattle.vp_text.proofs.Words.{literal_exact}
use Rattle.vp_text.proofs.Choices.{IsClear, Opens, differ, clear_keys, made_opens, either_exact}
use Rattle.vp_model.specs.Catalogue.{Catalogue}
use Rattle.vp_model.specs.Texts.Fields.{weight_text}
use Rattle.vp_catalog.specs.declared.entry.Entry.{Entry}
use Rattle.vp_catalog.specs.declared.entry.Entry.TheVariants as entry
use Rattle.vp_catalog.specs.Entries.{EntryText, SiteText, RecordText}
use Rattle.vp_catalog.specs.EntryReading.{entry_at}
use Rattle.vp_heads.specs.declared.line.HeadLine.{HeadLine}
use Rattle.vp_heads.specs.declared.line.HeadLine.TheVariants as kind
use Rattle.vp_heads.specs.declared.head.Head.{Head}
use Rattle.vp_heads.specs.Heads.{LineText}
use Rattle.vp_heads.specs.HeadReading.{entry_line_at, key_line_at, head_at}

-- The text is a line that no line of a catalogue begins and that begins none.
pub record IsKey (key : List ℕ) : Type 0 where
  pub line : IsLine key
  pub no_site : differ (codes "site ") key ≡ true
  pub no_record : differ (codes "record ") key ≡ true

abbrev EntryLine : Catalogue → HeadLine → List ℕ → Type 0
EntryLine c = Made (EntryText c) (λ e. kind.Entry e)

abbrev KeyLine : List ℕ → HeadLine → List ℕ → Type 0
KeyLine key = Made (IsLiteral key) (λ u. kind.Key)

-- ---- a line of a catalogue begins differently

site_opens : (c : Catalogue) → Opens (codes "site ") (SiteText c)
site_opens c = λ site t h. (decimal site.0 ++ 32 ∷ (decimal site.1 ++ 10 ∷ []), h.is)

record_opens : (c : Catalogue) → Opens (codes "record ") (RecordText c)
record_opens c = λ placed t h. (placed.name ++ 32 ∷ (placed.start ++ (flat_map weight_text placed.weights ++ 10 ∷ [])), h.is)

differ_back : (j k : List ℕ) → differ j k ≡ true → differ k j ≡ true
differ_back [] k d = absurd (false≢true d)
differ_back (x ∷ j) [] d = absurd (false≢true d)
differ_back (x ∷ j) (y ∷ k) d = elim (cases_eq x y) [
  | inl same ↦
      let inner : differ j k ≡ true = rw (eq-eqb x y same) at d in
      rw (eq-eqb y x (sym same)) (differ_back j k inner)
  | inr other ↦ rw (ne_eqb y x (λ e. other (sym e))) refl
]

clear_entry : (key : List ℕ) → IsKey key → (c : Catalogue) → IsClear (EntryLine c) (KeyLine key)
clear_entry key is c = λ a b t r l m. by l.from t r l.spelled b m
  where
    by : (e : Entry) (t r : List ℕ) → EntryText c e t → (b : HeadLine) → KeyLine key b (t ++ r) → ⊥
    by (entry.Site site port) t r h b m = clear_keys {L = SiteText c} {M = KeyLine key} (codes "site ") key is.no_site (site_opens c) (made_opens key) (site, port) b t r h m
    by (entry.Record placed) t r h b m = clear_keys {L = RecordText c} {M = KeyLine key} (codes "record ") key is.no_record (record_opens c) (made_opens key) placed b t r h m

clear_key : (key : List ℕ) → IsKey key → (c : Catalogue) → IsClear (KeyLine key) (EntryLine c)
clear_key key is c = λ a b t r l m. by m.from t r m.spelled a l
  where
    by : (e : Entry) (t r : List ℕ) → EntryText c e (t ++ r) → (a : HeadLine) → KeyLine key a t → ⊥
    by (entry.Site site port) t r h a l = clear_keys {L = KeyLine key} {M = SiteText c} key (codes "site ") (differ_back (codes "site ") key is.no_site) (made_opens key) (site_opens c) a (site, port) t r l h
    by (entry.Record placed) t r h a l = clear_keys {L = KeyLine key} {M = RecordText c} key (codes "record ") (differ_back (codes "record ") key is.no_record) (made_opens key) (record_opens c) a placed t r l h

-- ---- the lines are read exactly

entry_parts_exact : (c : Catalogue) → Exact (EntryText c) (entry_at c) → Exact (EntryLine c) (entry_line_at c)
unfolding entry_line_at
entry_parts_exact c e = made_exact (λ x. kind.Entry x) e

key_exact : (key : List ℕ) → Exact (KeyLine key) (key_line_at key)
unfolding key_line_at
key_exact key = made_exact (λ u. kind.Key) (literal_exact key)

module _ (key : List ℕ) (d : Head) (off : d.opened ≡ false) where
  abbrev c : Catalogue
  c = d.catalog

  entry_to : (e : HeadLine) (t : List ℕ) → EntryLine c e t → LineText key d e t
  entry_to e t h = subst (λ (e : HeadLine). LineText key d e t) (sym h.is) (off, h.spelled)

  either_to : 0 < length c.sites → (e : HeadLine) (t : List ℕ) → Either (EntryLine c) (KeyLine key) e t → LineText key d e t
  either_to some e t h = elim h [
    | inl x ↦ entry_to e t x
    | inr x ↦ subst (λ (e : HeadLine). LineText key d e t) (sym x.is) (off, some, x.spelled)
  ]

  either_from : (e : HeadLine) (t : List ℕ) → LineText key d e t → Either (EntryLine c) (KeyLine key) e t
  either_from (kind.Entry entry) t h = inl (record { from = entry; spelled = h.1; is = refl })
  either_from kind.Key t h = inr (record { from = tt; spelled = h.2; is = refl })

  entry_from : ltb 0 (length c.sites) ≡ false → (e : HeadLine) (t : List ℕ) → LineText key d e t → EntryLine c e t
  entry_from none (kind.Entry entry) t h = record { from = entry; spelled = h.1; is = refl }
  entry_from none kind.Key t h = absurd (false≢true (sym none ∙ lt-ltb 0 (length c.sites) h.1))

  pub head_exact : IsKey key → Exact (EntryText c) (entry_at c) → Exact (LineText key d) (head_at key c)
  unfolding head_at
  head_exact is e =
      let f : (b : Bool) → ltb 0 (length c.sites) ≡ b → Exact (LineText key d) (λ bytes. cond b (either (entry_line_at c bytes) (key_line_at key bytes)) (entry_line_at c bytes)) =
      λ b. elim b as (λ b. ltb 0 (length c.sites) ≡ b → Exact (LineText key d) (λ bytes. cond b (either (entry_line_at c bytes) (key_line_at key bytes)) (entry_line_at c bytes))) [
        | true ↦ λ some. exact_as (either_to (ltb-true 0 (length c.sites) some)) either_from (either_exact (clear_entry key is c) (clear_key key is c) (entry_parts_exact c e) (key_exact key))
        | false ↦ λ none. exact_as entry_to (entry_from none) (entry_parts_exact c e)
      ] in
      f (ltb 0 (length c.sites)) refl
