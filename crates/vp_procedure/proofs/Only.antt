-- Only one result is possible for a text, apart from want of memory.
use Rattle.std.proofs.Common.{◌≡◌, ◌≢◌, ℕ, ◌+◌, ◌<◌, ◌≤◌, List, ◌++◌, length, Result, Ok, Err, refl, sym, ap, subst, ◌∙◌, arith, inl, inr, false}
use Rattle.vp_text.specs.Documents.{IsBadLine}
use Rattle.vp_text.proofs.Determined.{Stops, bad_same, bad_not_faulty, faulty_same}
use Rattle.vp_procedure.specs.declared.line.ProcedureLine.{ProcedureLine}
use Rattle.vp_procedure.specs.declared.line.ProcedureLine.TheVariants as kind
use Rattle.vp_procedure.specs.declared.draft.ProcedureDraft.{ProcedureDraft}
use Rattle.vp_procedure.specs.declared.draft.ProcedureInput.{ProcedureInput}
use Rattle.vp_procedure.specs.declared.fault.ProcedureFault.{ProcedureFault}
use Rattle.vp_procedure.specs.declared.fault.ProcedureFault.TheVariants as faults
use Rattle.vp_procedure.specs.Drafts.{LineText, blank, after, Onward, Closes, Overruns, Repeats, Overfills, Adds, input_of}
use Rattle.vp_procedure.specs.LineReading.{line_at}
use Rattle.vp_procedure.specs.Document.{IsProcedureText, IsTooLong, IsBadPlace, Answered, IsOnly, IsTaken, NextLine, Finishes}
use Rattle.vp_procedure.proofs.Steps.{said, Stands, readable, stands_few}
use Rattle.vp_procedure.proofs.Answering.{Stopped, AreApart, lines_plain, closes_stop, overruns_stop, repeats_stop, overfills_stop, twice_many, overruns_twice, overruns_many, closes_twice, closes_many, closes_overruns, one_fault, two_faults, faulty}
use Rattle.vp_procedure.proofs.Spelled.{text_closes, closed_spells}
use Rattle.vp_text.proofs.Lists.{so_far_bad, so_far_exact}
use Rattle.std.proofs.lemmas.List.{nil_from_length}

module _ (text : List ℕ) where
  -- ---- no procedure's text

  none_faulty : (F : ProcedureDraft → ProcedureLine → Type 0) → AreApart Closes F → Stops blank after LineText Onward F → (line : ℕ) → Stopped F text line → (it : ProcedureInput) → IsProcedureText it text → ⊥
  none_faulty F apart stops line f it h = let c = text_closes text it h in two_faults text Closes F apart closes_stop stops c.line line c.closes f

  none_bad : (line at : ℕ) → IsBadLine blank after LineText Onward text line at → (it : ProcedureInput) → IsProcedureText it text → ⊥
  none_bad line at b it h = let c = text_closes text it h in bad_not_faulty blank after LineText Onward Closes closes_stop text (lines_plain text) line c.line at b c.closes

  none_long : (line : ℕ) → IsTooLong text line → (it : ProcedureInput) → IsProcedureText it text → ⊥
  none_long line long it h =
      let c = text_closes text it h in
      let same = faulty_same blank after LineText Onward Closes Closes closes_stop closes_stop text (lines_plain text) line c.line long.0 c.closes in
      let more = long.1 in
      omega (arith, more, ap length (same.rest ∙ c.none))

  pub none_at : (line at : ℕ) → IsBadPlace text line at → (it : ProcedureInput) → IsProcedureText it text → ⊥
  none_at line at (inl b) it h = none_bad line at b it h
  none_at line at (inr (before, is, first, inl f)) it h = none_faulty Overruns closes_overruns overruns_stop before f it h
  none_at line at (inr (before, is, first, inr long)) it h = none_long before long it h

  -- ---- two faults of one text

  one_place : (l i m k : ℕ) → IsBadPlace text l i → IsBadPlace text m k → (l ≡ m) × (i ≡ k)
  one_place l i m k (inl x) (inl y) = bad_same blank after LineText Onward text (lines_plain text) l m i k x y
  one_place l i m k (inl x) (inr (n, is, first, inl f)) = absurd (bad_not_faulty blank after LineText Onward Overruns overruns_stop text (lines_plain text) l n i x f)
  one_place l i m k (inl x) (inr (n, is, first, inr f)) = absurd (bad_not_faulty blank after LineText Onward Closes closes_stop text (lines_plain text) l n i x f.0)
  one_place l i m k (inr (n, is, first, inl f)) (inl y) = absurd (bad_not_faulty blank after LineText Onward Overruns overruns_stop text (lines_plain text) m n k y f)
  one_place l i m k (inr (n, is, first, inr f)) (inl y) = absurd (bad_not_faulty blank after LineText Onward Closes closes_stop text (lines_plain text) m n k y f.0)
  one_place l i m k (inr (n, is, first, inl f)) (inr (p, at, start, inl g)) = (is ∙ ap (λ (x : ℕ). x + 1) (one_fault text Overruns overruns_stop n p f g) ∙ sym at, first ∙ sym start)
  one_place l i m k (inr (n, is, first, inl f)) (inr (p, at, start, inr g)) = absurd (two_faults text Closes Overruns closes_overruns closes_stop overruns_stop p n g.0 f)
  one_place l i m k (inr (n, is, first, inr f)) (inr (p, at, start, inl g)) = absurd (two_faults text Closes Overruns closes_overruns closes_stop overruns_stop n p f.0 g)
  one_place l i m k (inr (n, is, first, inr f)) (inr (p, at, start, inr g)) = (is ∙ ap (λ (x : ℕ). x + 1) (one_fault text Closes closes_stop n p f.0 g.0) ∙ sym at, first ∙ sym start)

  place_not : (F : ProcedureDraft → ProcedureLine → Type 0) → AreApart Overruns F → AreApart Closes F → Stops blank after LineText Onward F → (l i m : ℕ) → IsBadPlace text l i → Stopped F text m → ⊥
  place_not F over close stops l i m (inl x) f = bad_not_faulty blank after LineText Onward F stops text (lines_plain text) l m i x f
  place_not F over close stops l i m (inr (n, is, first, inl g)) f = two_faults text Overruns F over overruns_stop stops n m g f
  place_not F over close stops l i m (inr (n, is, first, inr g)) f = two_faults text Closes F close closes_stop stops n m g.0 f

  -- a text is that of one procedure
  pub one_text : (a b : ProcedureInput) → IsProcedureText a text → IsProcedureText b text → a ≡ b
  one_text a b h k =
      let c = text_closes text a h in
      let d = text_closes text b k in
      let same = faulty_same blank after LineText Onward Closes Closes closes_stop closes_stop text (lines_plain text) c.line d.line c.closes d.closes in
      sym c.says ∙ ap (λ (es : List ProcedureLine). input_of (after (said es) c.closes.entry)) same.lines ∙ ap (λ (e : ProcedureLine). input_of (after (said d.closes.lines) e)) same.entry ∙ d.says

  abbrev NoMemory : Result ProcedureInput ProcedureFault
  NoMemory = Err faults.NoMemory

  answers_same : (r s : Result ProcedureInput ProcedureFault) → Answered text r → Answered text s → r ≢ NoMemory → s ≢ NoMemory → s ≡ r
  answers_same (Ok s) (Ok r) a b t u = ap (λ (x : ProcedureInput). Ok x) (sym (one_text s r a b))
  answers_same (Ok s) (Err (faults.BadLine m k)) a b t u = absurd (b.1 s a)
  answers_same (Ok s) (Err (faults.Twice m)) a b t u = absurd (none_faulty Repeats closes_twice repeats_stop m b s a)
  answers_same (Ok s) (Err (faults.TooMany m limit)) a b t u = absurd (none_faulty Overfills closes_many overfills_stop m b.1 s a)
  answers_same (Err (faults.BadLine l i)) (Ok s) a b t u = absurd (a.1 s b)
  answers_same (Err (faults.BadLine l i)) (Err (faults.BadLine m k)) a b t u =
      let same = one_place m k l i b.0 a.0 in
      rw (same.0, same.1) refl
  answers_same (Err (faults.BadLine l i)) (Err (faults.Twice m)) a b t u = absurd (place_not Repeats overruns_twice closes_twice repeats_stop l i m a.0 b)
  answers_same (Err (faults.BadLine l i)) (Err (faults.TooMany m limit)) a b t u = absurd (place_not Overfills overruns_many closes_many overfills_stop l i m a.0 b.1)
  answers_same (Err (faults.Twice l)) (Ok s) a b t u = absurd (none_faulty Repeats closes_twice repeats_stop l a s b)
  answers_same (Err (faults.Twice l)) (Err (faults.BadLine m k)) a b t u = absurd (place_not Repeats overruns_twice closes_twice repeats_stop m k l b.0 a)
  answers_same (Err (faults.Twice l)) (Err (faults.Twice m)) a b t u = ap (λ (x : ℕ). Err (faults.Twice x)) (one_fault text Repeats repeats_stop m l b a)
  answers_same (Err (faults.Twice l)) (Err (faults.TooMany m limit)) a b t u = absurd (two_faults text Repeats Overfills twice_many repeats_stop overfills_stop l m a b.1)
  answers_same (Err (faults.TooMany l limit)) (Ok s) a b t u = absurd (none_faulty Overfills closes_many overfills_stop l a.1 s b)
  answers_same (Err (faults.TooMany l limit)) (Err (faults.BadLine m k)) a b t u = absurd (place_not Overfills overruns_many closes_many overfills_stop m k l b.0 a.1)
  answers_same (Err (faults.TooMany l limit)) (Err (faults.Twice m)) a b t u = absurd (two_faults text Repeats Overfills twice_many repeats_stop overfills_stop m l b a.1)
  answers_same (Err (faults.TooMany l i)) (Err (faults.TooMany m k)) a b t u = rw (one_fault text Overfills overfills_stop m l b.1 a.1, b.0, a.0) refl
  answers_same (Err faults.NoMemory) s a b t u = absurd (t refl)
  answers_same r (Err faults.NoMemory) a b t u = absurd (u refl)

  pub only : (r : Result ProcedureInput ProcedureFault) → Answered text r → IsOnly text r
  only r a = λ other b t u. answers_same r other a b t u

  pub taken : (r : Result ProcedureInput ProcedureFault) → Answered text r → IsTaken text r
  taken r a = λ it h t. answers_same (Ok it) r h a (λ e. cc) t

-- ---- what the loop answers

pub answered_next : (text rest new : List ℕ) (d : ProcedureDraft) (line : ℕ) (e : ProcedureFault) → Stands text rest d line → NextLine d line rest new (Err e) → Answered text (Err e)
answered_next text rest new d line (faults.BadLine l at) s n =
    let bad = (so_far_bad blank after LineText Onward line_at text rest d line n.1 (readable (length text)) s n.2).1 in
    let place : IsBadPlace text l at = rw (n.0, n.3) (inl bad) in
    (place, none_at text l at place)
answered_next text rest new d line (faults.Twice l) s n = absurd n
answered_next text rest new d line (faults.TooMany l limit) s n = absurd n
answered_next text rest new d line faults.NoMemory s n = tt

pub answered_add : (text rest new : List ℕ) (d k : ProcedureDraft) (next : ProcedureLine) (line : ℕ) (e : ProcedureFault) → Stands text rest d line → line_at d rest ≡ Ok (next, new) → Adds d next line k (Err e) → Answered text (Err e)
answered_add text rest new d k next line (faults.BadLine l at) s read n =
    let place : IsBadPlace text l at = inr (line, n.0, n.1, inl (faulty Overruns text rest new d next line s read n.2)) in
    (place, none_at text l at place)
answered_add text rest new d k next line (faults.Twice l) s read n = subst (Stopped Repeats text) (sym n.0) (faulty Repeats text rest new d next line s read n.1)
answered_add text rest new d k next line (faults.TooMany l limit) s read n = (n.1, subst (Stopped Overfills text) (sym n.0) (faulty Overfills text rest new d next line s read n.2))
answered_add text rest new d k next line faults.NoMemory s read n = tt

-- the line `result`, with what comes after it
closing : (text rest new : List ℕ) (d : ProcedureDraft) (next : ProcedureLine) (line : ℕ) → Stands text rest d line → line_at d rest ≡ Ok (next, new) → Closes d next
    → (f : Stopped Closes text line) × (f.rest ≡ new) × (after (said f.lines) f.entry ≡ after d next)
closing text rest new d next line s read c =
    let p = (so_far_exact blank after LineText Onward line_at text rest d line (readable (length text)) s).ok rest next new read in
    let back = sym s.state_is in (
      record {
        lines = s.lines;
        front = s.front;
        faulty = p.text;
        rest = new;
        entry = next;
        lines_are = s.lines_are;
        faulty_is = subst (λ (d : ProcedureDraft). LineText d next p.text) back p.spelled;
        fault = subst (λ (d : ProcedureDraft). Closes d next) back c;
        parts = s.parts ∙ ap (λ (x : List ℕ). s.front ++ x) p.parts;
        number = s.number;
      },
      refl,
      ap (λ (d : ProcedureDraft). after d next) s.state_is,
    )

pub answered_finish : (text rest new : List ℕ) (d k : ProcedureDraft) (next : ProcedureLine) (line : ℕ) (r : Result ProcedureInput ProcedureFault) → Stands text rest d line → line_at d rest ≡ Ok (next, new)
    → Adds d next line k (Ok false) → Finishes k line new r → Answered text r
answered_finish text rest new d k next line (Ok it) s read n f =
    let c = closing text rest new d next line s read n.1 in
    subst (λ (it : ProcedureInput). IsProcedureText it text) (ap input_of (c.2 ∙ sym n.0) ∙ sym f.0) (closed_spells text line c.0 (c.1 ∙ nil_from_length new f.1))
answered_finish text rest new d k next line (Err (faults.BadLine l at)) s read n f =
    let c = closing text rest new d next line s read n.1 in
    let long : IsTooLong text line = (c.0, subst (λ (x : List ℕ). 0 < length x) (sym c.1) f.2) in
    let place : IsBadPlace text l at = inr (line, f.0, f.1, inr long) in
    (place, none_at text l at place)
answered_finish text rest new d k next line (Err (faults.Twice l)) s read n f = absurd f
answered_finish text rest new d k next line (Err (faults.TooMany l limit)) s read n f = absurd f
answered_finish text rest new d k next line (Err faults.NoMemory) s read n f = absurd f

-- the sites of what is taken are few
pub closed_few : (text rest new : List ℕ) (d k : ProcedureDraft) (next : ProcedureLine) (line : ℕ) → Stands text rest d line → line_at d rest ≡ Ok (next, new) → Adds d next line k (Ok false) → length k.head.catalog.sites ≤ 16
closed_few text rest new d k (kind.Head l) line s read n = absurd n.1
closed_few text rest new d k (kind.Statement st) line s read n =
    let same : length k.head.catalog.sites ≡ length d.head.catalog.sites = ap (λ (k : ProcedureDraft). length k.head.catalog.sites) n.0 in
    let few = stands_few text rest d line s in
    omega (arith, same, few)
