-- Only one result is right for a text, apart from want of memory.
use Rattle.std.proofs.Common.{◌≡◌, ℕ, ◌<◌, List, [], ◌∷◌, length, Result, Ok, Err, refl, sym, ap, subst, ◌∙◌, arith}
use Rattle.std.proofs.lemmas.Bool.{false≢true}
use Rattle.vp_text.specs.Documents.{IsFaultyLine}
use Rattle.vp_text.proofs.Determined.{Plain, plain, Stops, whole_same, bad_same, faulty_same, bad_not_faulty, bad_after_all, whole_not_faulty}
use Rattle.vp_model.specs.Catalogue.{Catalogue}
use Rattle.vp_catalog.specs.declared.entry.Entry.{Entry}
use Rattle.vp_catalog.specs.declared.entry.Entry.TheVariants as kind
use Rattle.vp_catalog.specs.declared.fault.CatalogFault.{CatalogFault}
use Rattle.vp_catalog.specs.declared.fault.CatalogFault.TheVariants as faults
use Rattle.vp_catalog.specs.Entries.{EntryText, nothing, after, Onward, Repeats, Overfills}
use Rattle.vp_catalog.specs.EntryReading.{entry_at}
use Rattle.vp_catalog.specs.Document.{IsBadEntry, Answered, IsOnly}
use Rattle.vp_catalog.proofs.Steps.{all_said, readable}
use Rattle.vp_catalog.proofs.Spelled.{Spelled, spelled}

abbrev Stopped : (Catalogue → Entry → Type 0) → List ℕ → ℕ → Type 0
Stopped = IsFaultyLine nothing after EntryText Onward

lines_plain : (text : List ℕ) → Plain nothing after EntryText Onward (length text)
lines_plain text = plain nothing after EntryText Onward entry_at (length text) (readable (length text))

repeats_stops : Stops nothing after EntryText Onward Repeats
repeats_stops c (kind.Site site port) r o = false≢true (sym o ∙ r)
repeats_stops c (kind.Record entry) r o = false≢true (sym o.1 ∙ r.1)

overfills_stops : Stops nothing after EntryText Onward Overfills
overfills_stops c (kind.Site site port) f o = f
overfills_stops c (kind.Record entry) f o = false≢true (sym o.0 ∙ f)

not_both : (c : Catalogue) (e : Entry) → Repeats c e → Overfills c e → ⊥
not_both c (kind.Site site port) r f = f
not_both c (kind.Record entry) r f = false≢true (sym r.0 ∙ f)

text_of : (text : List ℕ) (c : Catalogue) → Answered text (Ok c) → Spelled c text
text_of text c h = subst (Spelled c) h.1 (spelled c h.0)

ok_ok : (text : List ℕ) (c d : Catalogue) → Answered text (Ok c) → Answered text (Ok d) → c ≡ d
ok_ok text c d h k =
    let s = text_of text c h in
    let t = text_of text d k in
    sym s.says ∙ ap all_said (whole_same nothing after EntryText Onward text (lines_plain text) s.lines t.lines s.lines_are t.lines_are) ∙ t.says

ok_bad : (text : List ℕ) (c : Catalogue) (line at : ℕ) → Answered text (Ok c) → IsBadEntry text line at → ⊥
ok_bad text c line at h b =
    let s = text_of text c h in
    let same = bad_after_all nothing after EntryText Onward text (lines_plain text) s.lines s.lines_are line at b.bad in
    no_site s.lines (omega (arith, ap length same.lines, b.owed (ap length same.rest))) (subst (λ (c : Catalogue). 0 < length c.sites) (sym s.says) h.0.some)
  where
    no_site : (es : List Entry) → length es ≡ 0 → 0 < length (all_said es).sites → ⊥
    no_site [] e lt = omega arith
    no_site (e ∷ es) n lt = omega (arith, n)

ok_stopped : (F : Catalogue → Entry → Type 0) → Stops nothing after EntryText Onward F → (text : List ℕ) (c : Catalogue) (line : ℕ) → Answered text (Ok c) → Stopped F text line → ⊥
ok_stopped F stops text c line h f =
    let s = text_of text c h in
    whole_not_faulty nothing after EntryText Onward F stops text (lines_plain text) s.lines s.lines_are line f

bad_bad : (text : List ℕ) (l m i k : ℕ) → IsBadEntry text l i → IsBadEntry text m k → (l ≡ m) × (i ≡ k)
bad_bad text l m i k b d = bad_same nothing after EntryText Onward text (lines_plain text) l m i k b.bad d.bad

bad_stopped : (F : Catalogue → Entry → Type 0) → Stops nothing after EntryText Onward F → (text : List ℕ) (l i m : ℕ) → IsBadEntry text l i → Stopped F text m → ⊥
bad_stopped F stops text l i m b f = bad_not_faulty nothing after EntryText Onward F stops text (lines_plain text) l m i b.bad f

same_line : (F : Catalogue → Entry → Type 0) → Stops nothing after EntryText Onward F → (text : List ℕ) (l m : ℕ) → Stopped F text l → Stopped F text m → l ≡ m
same_line F stops text l m f g =
    let same = faulty_same nothing after EntryText Onward F F stops stops text (lines_plain text) l m f g in
    omega (arith, f.number, g.number, ap length same.lines)

twice_many : (text : List ℕ) (l m : ℕ) → Stopped Repeats text l → Stopped Overfills text m → ⊥
twice_many text l m f g =
    let same = faulty_same nothing after EntryText Onward Repeats Overfills repeats_stops overfills_stops text (lines_plain text) l m f g in
    let here : Repeats (all_said g.lines) g.entry = subst (λ (es : List Entry). Repeats (all_said es) g.entry) same.lines (subst (Repeats (all_said f.lines)) same.entry f.fault) in
    not_both (all_said g.lines) g.entry here g.fault

-- ---- two results

bad_same_answer : (l m i k : ℕ) → (l ≡ m) × (i ≡ k) → let x : Result Catalogue CatalogFault = Err (faults.BadLine l i) in let y : Result Catalogue CatalogFault = Err (faults.BadLine m k) in x ≡ y
bad_same_answer l m i k e = rw (e.0, e.1) refl

many_same_answer : (l m i k : ℕ) → l ≡ m → i ≡ k → let x : Result Catalogue CatalogFault = Err (faults.TooMany l i) in let y : Result Catalogue CatalogFault = Err (faults.TooMany m k) in x ≡ y
many_same_answer l m i k e f = rw (e, f) refl

pub only : (text : List ℕ) (result : Result Catalogue CatalogFault) → Answered text result → IsOnly text result
only text (Err faults.NoMemory) a other b have found = absurd (have refl)
only text (Ok c) a (Err faults.NoMemory) b have found = absurd (found refl)
only text (Ok c) a (Ok d) b have found = ap (λ (x : Catalogue). Ok x) (ok_ok text d c b a)
only text (Ok c) a (Err (faults.BadLine m k)) b have found = absurd (ok_bad text c m k a b)
only text (Ok c) a (Err (faults.Twice m)) b have found = absurd (ok_stopped Repeats repeats_stops text c m a b)
only text (Ok c) a (Err (faults.TooMany m limit)) b have found = absurd (ok_stopped Overfills overfills_stops text c m a b.1)
only text (Err (faults.BadLine l i)) a (Err faults.NoMemory) b have found = absurd (found refl)
only text (Err (faults.BadLine l i)) a (Ok d) b have found = absurd (ok_bad text d l i b a)
only text (Err (faults.BadLine l i)) a (Err (faults.BadLine m k)) b have found = bad_same_answer m l k i (bad_bad text m l k i b a)
only text (Err (faults.BadLine l i)) a (Err (faults.Twice m)) b have found = absurd (bad_stopped Repeats repeats_stops text l i m a b)
only text (Err (faults.BadLine l i)) a (Err (faults.TooMany m limit)) b have found = absurd (bad_stopped Overfills overfills_stops text l i m a b.1)
only text (Err (faults.Twice l)) a (Err faults.NoMemory) b have found = absurd (found refl)
only text (Err (faults.Twice l)) a (Ok d) b have found = absurd (ok_stopped Repeats repeats_stops text d l b a)
only text (Err (faults.Twice l)) a (Err (faults.BadLine m k)) b have found = absurd (bad_stopped Repeats repeats_stops text m k l b a)
only text (Err (faults.Twice l)) a (Err (faults.Twice m)) b have found = ap (λ (n : ℕ). Err (faults.Twice n)) (same_line Repeats repeats_stops text m l b a)
only text (Err (faults.Twice l)) a (Err (faults.TooMany m limit)) b have found = absurd (twice_many text l m a b.1)
only text (Err (faults.TooMany l limit)) a (Err faults.NoMemory) b have found = absurd (found refl)
only text (Err (faults.TooMany l limit)) a (Ok d) b have found = absurd (ok_stopped Overfills overfills_stops text d l b a.1)
only text (Err (faults.TooMany l limit)) a (Err (faults.BadLine m k)) b have found = absurd (bad_stopped Overfills overfills_stops text m k l b a.1)
only text (Err (faults.TooMany l limit)) a (Err (faults.Twice m)) b have found = absurd (twice_many text m l b a.1)
only text (Err (faults.TooMany l limit)) a (Err (faults.TooMany m most)) b have found = many_same_answer m l most limit (same_line Overfills overfills_stops text m l b.1 a.1) (b.0 ∙ sym a.0)
