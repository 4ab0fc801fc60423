-- What the loop over the lines answers.
use Rattle.std.proofs.Common.{◌≡◌, ℕ, ◌+◌, List, length, sym, ap, subst, ◌∙◌, arith, Ok, true, false}
use Rattle.std.proofs.lemmas.Bool.{false≢true}
use Rattle.vp_text.specs.Documents.{IsFaultyLine}
use Rattle.vp_text.proofs.Lists.{so_far_more, so_far_faulty}
use Rattle.vp_text.proofs.Determined.{Plain, plain, Stops, faulty_same}
use Rattle.vp_heads.specs.declared.line.HeadLine.TheVariants as heads_kind
use Rattle.vp_catalog.specs.declared.entry.Entry.TheVariants as entry
use Rattle.vp_procedure.specs.declared.line.ProcedureLine.{ProcedureLine}
use Rattle.vp_procedure.specs.declared.line.ProcedureLine.TheVariants as kind
use Rattle.vp_procedure.specs.declared.draft.ProcedureDraft.{ProcedureDraft}
use Rattle.vp_procedure.specs.declared.fault.ProcedureFault.TheVariants as faults
use Rattle.vp_procedure.specs.Drafts.{LineText, blank, after, Onward, Closes, Overruns, Repeats, Overfills, Adds}
use Rattle.vp_procedure.specs.LineReading.{line_at}
use Rattle.vp_procedure.proofs.Steps.{said, Stands, readable}

pub lines_plain : (text : List ℕ) → Plain blank after LineText Onward (length text)
lines_plain text = plain blank after LineText Onward line_at (length text) (readable (length text))

abbrev pub Stopped : (ProcedureDraft → ProcedureLine → Type 0) → List ℕ → ℕ → Type 0
Stopped = IsFaultyLine blank after LineText Onward

-- ---- after these lines no other one follows

pub closes_stop : Stops blank after LineText Onward Closes
closes_stop d (kind.Head line) f o = f
closes_stop d (kind.Statement s) f o = false≢true (sym o.0 ∙ f)

pub overruns_stop : Stops blank after LineText Onward Overruns
overruns_stop d (kind.Head line) f o = f
overruns_stop d (kind.Statement s) f o = omega (arith, f.1, o.1)

pub repeats_stop : Stops blank after LineText Onward Repeats
repeats_stop d (kind.Head (heads_kind.Entry (entry.Site site port))) f o = false≢true (sym o ∙ f)
repeats_stop d (kind.Head (heads_kind.Entry (entry.Record placed))) f o = false≢true (sym o.1 ∙ f.1)
repeats_stop d (kind.Head heads_kind.Key) f o = f
repeats_stop d (kind.Statement s) f o = f

pub overfills_stop : Stops blank after LineText Onward Overfills
overfills_stop d (kind.Head (heads_kind.Entry (entry.Site site port))) f o = f
overfills_stop d (kind.Head (heads_kind.Entry (entry.Record placed))) f o = false≢true (sym o.0 ∙ f)
overfills_stop d (kind.Head heads_kind.Key) f o = f
overfills_stop d (kind.Statement s) f o = f

-- ---- a line has one fault

abbrev pub AreApart : (ProcedureDraft → ProcedureLine → Type 0) → (ProcedureDraft → ProcedureLine → Type 0) → Type 0
AreApart F G = (d : ProcedureDraft) (e : ProcedureLine) → F d e → G d e → ⊥

pub twice_many : AreApart Repeats Overfills
twice_many d (kind.Head (heads_kind.Entry (entry.Site site port))) f g = g
twice_many d (kind.Head (heads_kind.Entry (entry.Record placed))) f g = false≢true (sym f.0 ∙ g)
twice_many d (kind.Head heads_kind.Key) f g = f
twice_many d (kind.Statement s) f g = f

pub overruns_twice : AreApart Overruns Repeats
overruns_twice d (kind.Head line) f g = f
overruns_twice d (kind.Statement s) f g = g

pub overruns_many : AreApart Overruns Overfills
overruns_many d (kind.Head line) f g = f
overruns_many d (kind.Statement s) f g = g

pub closes_twice : AreApart Closes Repeats
closes_twice d (kind.Head line) f g = f
closes_twice d (kind.Statement s) f g = g

pub closes_many : AreApart Closes Overfills
closes_many d (kind.Head line) f g = f
closes_many d (kind.Statement s) f g = g

pub closes_overruns : AreApart Closes Overruns
closes_overruns d (kind.Head line) f g = f
closes_overruns d (kind.Statement s) f g = false≢true (sym g.0 ∙ f)

module _ (text : List ℕ) where
  pub one_fault : (F : ProcedureDraft → ProcedureLine → Type 0) → Stops blank after LineText Onward F → (l m : ℕ) → Stopped F text l → Stopped F text m → l ≡ m
  one_fault F stops l m f g =
      let same = faulty_same blank after LineText Onward F F stops stops text (lines_plain text) l m f g in
      sym f.number ∙ ap (λ (x : List ProcedureLine). length x + 1) same.lines ∙ g.number

  pub two_faults : (F G : ProcedureDraft → ProcedureLine → Type 0) → AreApart F G → Stops blank after LineText Onward F → Stops blank after LineText Onward G → (l m : ℕ) → Stopped F text l → Stopped G text m → ⊥
  two_faults F G apart f_stops g_stops l m f g =
      let same = faulty_same blank after LineText Onward F G f_stops g_stops text (lines_plain text) l m f g in
      apart (said g.lines) g.entry (subst (F (said g.lines)) same.entry (subst (λ (x : List ProcedureLine). F (said x) f.entry) same.lines f.fault)) g.fault

-- ---- the steps of the loop

pub faulty : (F : ProcedureDraft → ProcedureLine → Type 0) (text rest new : List ℕ) (d : ProcedureDraft) (next : ProcedureLine) (line : ℕ) → Stands text rest d line → line_at d rest ≡ Ok (next, new) → F d next
    → Stopped F text line
faulty F text rest new d next line s read f = so_far_faulty blank after LineText Onward line_at F text rest new d line next (readable (length text)) s read f

pub stands_more : (text rest new : List ℕ) (d k : ProcedureDraft) (next : ProcedureLine) (line : ℕ) → Stands text rest d line → line_at d rest ≡ Ok (next, new) → Adds d next line k (Ok true) → Stands text new k (line + 1)
stands_more text rest new d k next line s read n =
    subst (λ (k : ProcedureDraft). Stands text new k (line + 1)) (sym n.0) (so_far_more blank after LineText Onward line_at text rest new d line next (readable (length text)) s read n.1)
