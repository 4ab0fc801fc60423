-- Laws of the lines of a catalogue, for the lines of a schedule.
use Rattle.std.proofs.Common.{◌≡◌, ℕ, ◌≤◌, ◌<◌, eqb, List, [], ◌∷◌, length, refl, sym, arith, inl, inr}
use Rattle.std.proofs.lemmas.Bool.{eq-eqb, cases_eq}
use Rattle.std.proofs.Math.Bool.{or-true}
use Rattle.std.proofs.lemmas.List.{length-map}
use Rattle.vp_text.proofs.Exact.{Exact}
use Rattle.vp_text.specs.Documents.{IsLine}
use Rattle.vp_model.specs.Words.{keys}
use Rattle.vp_model.specs.Catalogue.{sites_of}
use Rattle.vp_model.specs.Texts.Schedule.{catalogue_text}
use Rattle.vp_catalog.specs.declared.entry.Entry.{Entry}
use Rattle.vp_catalog.specs.Sites.{AllSites}
use Rattle.vp_catalog.specs.Entries.{EntryText}
use Rattle.vp_catalog.specs.EntryReading.{entry_at}
use Rattle.vp_catalog.specs.Document.{AreSites, IsCatalogue}
use Rattle.vp_catalog.proofs.Apart.{sites_few}
use Rattle.vp_catalog.proofs.EntriesExact.{entry_exact}
use Rattle.vp_catalog.proofs.Newlines.{entry_is_line}
use Rattle.vp_catalog.proofs.Steps.{all_said, Lines, part, begun, said_text}
use Rattle.vp_schedule.specs.Events.{IsListed}
use Rattle.vp_schedule.specs.EventReading.{other_sites}
use Rattle.vp_schedule.proofs.OtherSites.{other_listed}
use Rattle.vp_schedule.proofs.EventTexts.{IsSites}

pub entries_exact : (es : List Entry) (t : List ℕ) → Lines es t → Exact (EntryText (all_said es)) (entry_at (all_said es))
entries_exact es t h = entry_exact (all_said es) (begun (all_said es) (part es t h))

sites_all : (es : List Entry) (t : List ℕ) → Lines es t → AllSites (sites_of (all_said es))
sites_all es t h = (begun (all_said es) (part es t h)).sites_are

pub entries_line : (es : List Entry) (t : List ℕ) → Lines es t → (e : Entry) (u : List ℕ) → EntryText (all_said es) e u → IsLine u
entries_line es t h = entry_is_line (all_said es) (sites_all es t h)

-- ---- the sites

pub entries_few : (es : List Entry) (t : List ℕ) → Lines es t → length (sites_of (all_said es)) ≤ 16
entries_few es t h =
    let c = all_said es in
    omega (arith, sites_few 0 c.sites (part es t h).sites_are (omega arith), length-map c.sites (λ (s : ℕ × ℕ). s.0))

first_listed : (site : ℕ) (sites : List ℕ) → IsListed (site ∷ sites) site
first_listed site sites = rw (eq-eqb site site refl) refl

later_listed : (first site : ℕ) (sites : List ℕ) → IsListed sites site → IsListed (first ∷ sites) site
later_listed first site sites h = rw h (or-true (eqb first site))

some_listed : (sites : List (ℕ × ℕ)) → 0 < length sites → (s : ℕ) × IsListed (keys sites) s
some_listed [] some = absurd (omega arith)
some_listed (s ∷ sites) some = (s.0, first_listed s.0 (keys sites))

another_listed : (sites : List (ℕ × ℕ)) → AreSites 0 sites → 2 ≤ length (keys sites) → (site : ℕ) → (s : ℕ) × IsListed (other_sites (keys sites) site) s
another_listed [] h two site = absurd (omega arith)
another_listed (s ∷ []) h two site = absurd (omega arith)
another_listed (s ∷ t ∷ sites) h two site = elim (cases_eq site s.0) [
  | inl same ↦ (t.0, other_listed (keys (s ∷ t ∷ sites)) site t.0 (later_listed s.0 t.0 (t.0 ∷ keys sites) (first_listed t.0 (keys sites))) (λ e. omega (arith, h.1.0.higher, same, e)))
  | inr other ↦ (s.0, other_listed (keys (s ∷ t ∷ sites)) site s.0 (first_listed s.0 (t.0 ∷ keys sites)) other)
]

pub entries_sites : (es : List Entry) (t : List ℕ) → Lines es t → 0 < length (all_said es).sites → IsSites (sites_of (all_said es))
entries_sites es t h some =
    let c = all_said es in
    record { all = sites_all es t h; some = some_listed c.sites some; others = another_listed c.sites (part es t h).sites_are }

-- ---- the whole

pub entries_whole : (es : List Entry) (t : List ℕ) → Lines es t → 0 < length (all_said es).sites → IsCatalogue (all_said es) × (catalogue_text (all_said es) ≡ t)
entries_whole es t h some =
    (record { some = some; so_far = part es t h }, sym (said_text es t h))
