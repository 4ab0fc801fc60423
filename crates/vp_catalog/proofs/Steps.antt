-- Lines one after the other, and what they say.
use Rattle.std.proofs.Common.{◌≡◌, ℕ, ◌+◌, ◌-◌, ◌≤◌, ◌<◌, List, [], ◌∷◌, ◌++◌, length, map, refl, sym, ap, subst, ◌∙◌, append_assoc, arith, inl, inr, Ok, Err, Bool, true, false, ltb, leb, ◌||◌}
use Rattle.std.specs.Prelude.{flat_map, nat_eq}
use Rattle.std.specs.List.{list_any, AllByRecursion, IsDistinct}
use Rattle.std.specs.Str.{bytes_eq}
use Rattle.std.proofs.lemmas.Bool.{false≢true, leb-false, leb-true, ltb-false, ltb-true, or_cases}
use Rattle.std.proofs.lemmas.List.{length-append, append-nil, nil_from_length}
use Rattle.std.proofs.lemmas.List.Concat.{flat_map-cons}
use Rattle.vp_text.specs.Documents.{reached, LinesText, IsFaultyLine}
use Rattle.vp_text.proofs.Items.{all_push}
use Rattle.vp_text.proofs.Lists.{Readable, SoFar, so_far_exact, so_far_shorter, so_far_more, so_far_bad, so_far_faulty, fault_no_line, longest_in_line}
use Rattle.vp_text.proofs.Whole.{fault_longest}
use Rattle.vp_model.specs.Words.{keys}
use Rattle.vp_model.specs.Catalogue.{Catalogue, RecordEntry, sites_of}
use Rattle.vp_model.specs.Texts.Schedule.{site_line, record_line, catalogue_text}
use Rattle.vp_catalog.specs.declared.entry.Entry.{Entry}
use Rattle.vp_catalog.specs.declared.entry.Entry.TheVariants as kind
use Rattle.vp_catalog.specs.declared.fault.CatalogFault.{CatalogFault}
use Rattle.vp_catalog.specs.declared.fault.CatalogFault.TheVariants as faults
use Rattle.vp_catalog.specs.Sites.{AllSites}
use Rattle.vp_catalog.specs.Entries.{IsSite, IsRecord, last_from, last_site, has_port, has_name, EntryText, nothing, after, Onward, Repeats, Overfills}
use Rattle.vp_catalog.specs.EntryReading.{entry_at}
use Rattle.vp_catalog.specs.Adding.{IsAllowed, Adds}
use Rattle.vp_catalog.specs.Document.{AreSites, IsCatalogueSoFar, IsBadEntry, Answered, NextEntry, is_owed}
use Rattle.vp_catalog.proofs.EntriesExact.{IsBegun, held_at, entry_exact}
use Rattle.vp_catalog.proofs.Newlines.{entry_is_line}

-- what some lines say
abbrev pub all_said : List Entry → Catalogue
all_said = reached nothing after EntryText Onward

abbrev pub Lines : List Entry → List ℕ → Type 0
Lines = LinesText nothing after EntryText Onward

-- the place that the reading has reached
abbrev pub Stands : List ℕ → List ℕ → Catalogue → ℕ → Type 0
Stands = SoFar nothing after EntryText Onward entry_at

-- ---- one more at the end

pub last_from-push : (above : ℕ) (sites : List (ℕ × ℕ)) (site : ℕ × ℕ) → last_from above (sites ++ site ∷ []) ≡ site.0
last_from-push above [] site = refl
last_from-push above (s ∷ sites) site = last_from-push s.0 sites site

sites_push : (above : ℕ) (sites : List (ℕ × ℕ)) (site : ℕ × ℕ) → AreSites above sites → IsSite (last_from above sites) site → AreSites above (sites ++ site ∷ [])
sites_push above [] site h s = (s, tt)
sites_push above (x ∷ sites) site h s = (h.0, sites_push x.0 sites site h.1 s)

or_none : (x y : Bool) → (x || y) ≡ false → (x ≡ false) × (y ≡ false)
or_none false y e = (refl, e)
or_none true y e = absurd (false≢true (sym e))

-- no key is that of the last one, and the others differ
distinct_push : {X K : Type 0} (key : X → K) (same : K → K → Bool) (xs : List X) (x : X) → IsDistinct same (map key xs) → list_any (λ y. same (key y) (key x)) xs ≡ false → IsDistinct same (map key (xs ++ x ∷ []))
unfolding IsDistinct
distinct_push key same [] x h e = (tt, tt)
distinct_push {X = X} {K = K} key same (y ∷ xs) x h e =
    let both = or_none (same (key y) (key x)) (list_any (λ y. same (key y) (key x)) xs) e in
    (keys_push xs h.0 both.0, distinct_push key same xs x h.1 both.1)
  where
    keys_push : (zs : List X) → AllByRecursion (λ k. same (key y) k ≡ false) (map key zs) → same (key y) (key x) ≡ false → AllByRecursion (λ k. same (key y) k ≡ false) (map key (zs ++ x ∷ []))
    keys_push [] a o = (o, tt)
    keys_push (z ∷ zs) a o = (a.0, keys_push zs a.1 o)

-- ---- what the lines so far say

no_records : (sites : List ℕ) (records : List RecordEntry) → length records ≡ 0 → AllByRecursion (IsRecord sites) records
no_records sites [] e = tt
no_records sites (r ∷ records) e = absurd (omega arith)

pub empty : IsCatalogueSoFar nothing
unfolding IsDistinct
empty = record { sites_are = tt; ports_differ = tt; records_are = tt; names_differ = tt; few = omega arith }

pub site_added : (c : Catalogue) (site : ℕ × ℕ) → IsCatalogueSoFar c → length c.records ≡ 0 → IsSite (last_site c) site → has_port c site.1 ≡ false → IsCatalogueSoFar (record { sites = c.sites ++ site ∷ []; records = c.records })
site_added c site p first is fresh = record {
  sites_are = sites_push 0 c.sites site p.sites_are is;
  ports_differ = distinct_push (λ (s : ℕ × ℕ). s.1) nat_eq c.sites site p.ports_differ fresh;
  records_are = no_records (keys (c.sites ++ site ∷ [])) c.records first;
  names_differ = p.names_differ;
  few = p.few;
}

pub record_added : (c : Catalogue) (entry : RecordEntry) → IsCatalogueSoFar c → IsRecord (sites_of c) entry → length c.records < 256 → has_name c entry.name ≡ false → IsCatalogueSoFar (record { sites = c.sites; records = c.records ++ entry ∷ [] })
record_added c entry p is room fresh = record {
  sites_are = p.sites_are;
  ports_differ = p.ports_differ;
  records_are = all_push (IsRecord (sites_of c)) c.records entry p.records_are is;
  names_differ = distinct_push (λ (e : RecordEntry). e.name) bytes_eq c.records entry p.names_differ fresh;
  few = omega (arith, room, length-append c.records (entry ∷ []));
}

pub part : (es : List Entry) (t : List ℕ) → Lines es t → IsCatalogueSoFar (all_said es)
part [] t h = empty
part (kind.Site site port ∷ es) t h = site_added (all_said es) (site, port) (part es h.0 h.2) h.3.first h.3.site_is h.4
part (kind.Record entry ∷ es) t h = record_added (all_said es) entry (part es h.0 h.2) h.3.record_is (leb-false 256 (length (all_said es).records) h.4.0) h.4.1

all_sites : (above : ℕ) (sites : List (ℕ × ℕ)) → AreSites above sites → AllSites (keys sites)
all_sites above [] h = tt
all_sites above (s ∷ sites) h = ((omega (arith, h.0.higher), h.0.fits), all_sites s.0 sites h.1)

some_held : (sites : List (ℕ × ℕ)) (records : List RecordEntry) → AllByRecursion (IsRecord (keys sites)) records → 0 < length records → 0 < length sites
some_held sites [] h some = absurd (omega arith)
some_held sites (r ∷ records) h some = held_at sites r.weights h.0.held h.0.weights_are

pub begun : (c : Catalogue) → IsCatalogueSoFar c → IsBegun c
begun c p = record { sites_are = all_sites 0 c.sites p.sites_are; site_first = some_held c.sites c.records p.records_are }

pub readable : (most : ℕ) → Readable nothing after EntryText Onward entry_at most
readable most = record {
  exact = λ es t le h. entry_exact (all_said es) (begun (all_said es) (part es t h));
  lines = λ es t le h. entry_is_line (all_said es) (begun (all_said es) (part es t h)).sites_are;
}

-- ---- the text of the lines

flat_map_push : {X : Type 0} (f : X → List ℕ) (xs : List X) (x : X) → flat_map f (xs ++ x ∷ []) ≡ flat_map f xs ++ f x
flat_map_push f [] x = flat_map-cons f x [] ∙ append-nil (f x)
flat_map_push f (y ∷ xs) x = flat_map-cons f y (xs ++ x ∷ []) ∙ ap (λ (t : List ℕ). f y ++ t) (flat_map_push f xs x) ∙ sym (append_assoc (f y) (flat_map f xs) (f x)) ∙ ap (λ (t : List ℕ). t ++ f x) (sym (flat_map-cons f y xs))

pub said_text : (es : List Entry) (t : List ℕ) → Lines es t → t ≡ catalogue_text (all_said es)
said_text [] t h = h
said_text (kind.Site site port ∷ es) t h =
    let c = all_said es in
    let none = nil_from_length c.records h.3.first in
    let sites = flat_map site_line c.sites in
    let front : h.0 ≡ sites = said_text es h.0 h.2 ∙ ap (λ (x : List RecordEntry). sites ++ flat_map record_line x) none ∙ append-nil sites in
    let more = c.sites ++ (site, port) ∷ [] in
    let all : h.0 ++ h.1 ≡ flat_map site_line more = ap (λ (x : List ℕ). x ++ h.1) front ∙ ap (λ (x : List ℕ). sites ++ x) h.3.is ∙ sym (flat_map_push site_line c.sites (site, port)) in
    h.5 ∙ all ∙ sym (append-nil (flat_map site_line more)) ∙ ap (λ (x : List RecordEntry). flat_map site_line more ++ flat_map record_line x) (sym none)
said_text (kind.Record entry ∷ es) t h =
    let c = all_said es in
    let sites = flat_map site_line c.sites in
    let records = flat_map record_line c.records in
    h.5 ∙ ap (λ (x : List ℕ). x ++ h.1) (said_text es h.0 h.2) ∙ ap (λ (x : List ℕ). (sites ++ records) ++ x) h.3.is ∙ append_assoc sites records (record_line entry)
    ∙ ap (λ (x : List ℕ). sites ++ x) (sym (flat_map_push record_line c.records entry))

-- ---- the steps of the reader

pub stands_room : (text rest : List ℕ) (c : Catalogue) (line : ℕ) → Stands text rest c line → (left : ℕ) → entry_at c rest ≡ Err left → left ≤ length rest
stands_room text rest c line s left read = (so_far_bad nothing after EntryText Onward entry_at text rest c line left (readable (length text)) s read).0

pub stands_allowed : (text rest new : List ℕ) (c : Catalogue) (line : ℕ) (e : Entry) → Stands text rest c line → entry_at c rest ≡ Ok (e, new) → IsAllowed c e
stands_allowed text rest new c line e s read =
    let p = (so_far_exact nothing after EntryText Onward entry_at text rest c line (readable (length text)) s).ok rest e new read in
    (p.text, p.spelled)

pub stands_shorter : (text rest new : List ℕ) (c : Catalogue) (line : ℕ) (e : Entry) → Stands text rest c line → entry_at c rest ≡ Ok (e, new) → length new < length rest
stands_shorter text rest new c line e s read = so_far_shorter nothing after EntryText Onward entry_at text rest new c line e (readable (length text)) s read

pub stands_more : (text rest new : List ℕ) (c d : Catalogue) (e : Entry) (line : ℕ) → Stands text rest c line → entry_at c rest ≡ Ok (e, new) → (d ≡ after c e) × Onward c e → Stands text new d (line + 1)
stands_more text rest new c d e line s read n =
    subst (λ (d : Catalogue). Stands text new d (line + 1)) (sym n.0) (so_far_more nothing after EntryText Onward entry_at text rest new c line e (readable (length text)) s read n.1)

-- a line says a site, or comes after one that does
some_sites : (e : Entry) (es : List Entry) (t : List ℕ) → Lines (e ∷ es) t → 0 < length (all_said (e ∷ es)).sites
some_sites (kind.Site site port) es t h = omega (arith, length-append (all_said es).sites ((site, port) ∷ []))
some_sites (kind.Record entry) es t h = held_at (all_said es).sites entry.weights h.3.record_is.held h.3.record_is.weights_are

no_lines : (es : List Entry) (t : List ℕ) → Lines es t → length (all_said es).sites ≡ 0 → length es ≡ 0
no_lines [] t h e = refl
no_lines (d ∷ es) t h e = absurd (omega (arith, some_sites d es t h, e))

owed_is : (rest : List ℕ) (c : Catalogue) → is_owed rest c ≡ true → length rest ≡ 0 → length c.sites ≡ 0
owed_is rest c on none = elim (or_cases (ltb 0 (length rest)) (leb (length c.sites) 0) on) [
  | inl more ↦ absurd (let lt = ltb-true 0 (length rest) more in omega (arith, lt, none))
  | inr empty ↦ let le = leb-true (length c.sites) 0 empty in omega (arith, le)
]

bad_here : (text rest : List ℕ) (c : Catalogue) (line left : ℕ) → Stands text rest c line → is_owed rest c ≡ true → entry_at c rest ≡ Err left → IsBadEntry text line (length rest - left + 1)
bad_here text rest c line left s on read =
    let d = all_said s.lines in
    let b = begun d (part s.lines s.front s.lines_are) in
    let read : entry_at d rest ≡ Err left = subst (λ (c : Catalogue). entry_at c rest ≡ Err left) (sym s.state_is) read in
    let x = (entry_exact d b).err rest left read in
    record {
      bad = record {
        lines = s.lines;
        front = s.front;
        rest = rest;
        lines_are = s.lines_are;
        parts = s.parts;
        number = s.number;
        none = fault_no_line (EntryText d) (entry_is_line d b.sites_are) rest left x;
        longest = (length rest - left, refl, longest_in_line (entry_is_line d b.sites_are) rest (length rest - left) (fault_longest rest left x));
      };
      owed = λ none. no_lines s.lines s.front s.lines_are (ap (λ (c : Catalogue). length c.sites) s.state_is ∙ owed_is rest c on none);
    }

-- ---- what is returned

pub answered_next : (text rest new : List ℕ) (c : Catalogue) (line : ℕ) (e : CatalogFault) → Stands text rest c line → is_owed rest c ≡ true → NextEntry c line rest new (Err e) → Answered text (Err e)
answered_next text rest new c line (faults.BadLine l at) s on n =
    rw (n.0, n.3) (bad_here text rest c line n.1 s on n.2)
answered_next text rest new c line (faults.Twice l) s on n = absurd n
answered_next text rest new c line (faults.TooMany l limit) s on n = absurd n
answered_next text rest new c line faults.NoMemory s on n = tt

pub answered_add : (text rest new : List ℕ) (c d : Catalogue) (e : Entry) (line : ℕ) (f : CatalogFault) → Stands text rest c line → entry_at c rest ≡ Ok (e, new) → Adds c e line d (Err f) → Answered text (Err f)
answered_add text rest new c d e line (faults.BadLine l at) s read n = absurd n
answered_add text rest new c d e line (faults.Twice l) s read n =
    subst (IsFaultyLine nothing after EntryText Onward Repeats text) (sym n.1) (so_far_faulty nothing after EntryText Onward entry_at Repeats text rest new c line e (readable (length text)) s read n.2)
answered_add text rest new c d e line (faults.TooMany l limit) s read n =
    (n.2, subst (IsFaultyLine nothing after EntryText Onward Overfills text) (sym n.1) (so_far_faulty nothing after EntryText Onward entry_at Overfills text rest new c line e (readable (length text)) s read n.3))
answered_add text rest new c d e line faults.NoMemory s read n = tt

pub answered_end : (text rest : List ℕ) (c : Catalogue) (line : ℕ) → Stands text rest c line → is_owed rest c ≡ false → Answered text (Ok c)
answered_end text rest c line s off =
    let both = or_none (ltb 0 (length rest)) (leb (length c.sites) 0) off in
    let none : rest ≡ [] = nil_from_length rest (let le = ltb-false 0 (length rest) both.0 in omega (arith, le)) in
    let some : 0 < length c.sites = leb-false (length c.sites) 0 both.1 in
    let p = subst IsCatalogueSoFar s.state_is (part s.lines s.front s.lines_are) in
    let text_is : text ≡ s.front = s.parts ∙ ap (λ (x : List ℕ). s.front ++ x) none ∙ append-nil s.front in
    (record { some = some; so_far = p }, sym (text_is ∙ said_text s.lines s.front s.lines_are ∙ ap catalogue_text s.state_is))
