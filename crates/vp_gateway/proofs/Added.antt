-- A text is added to a head as its next line.
use Rattle.std.proofs.Common.{◌≡◌, ◌∙◌, ◌⊎◌, ℕ, ◌+◌, ◌-◌, ◌≤◌, List, [], length, refl, sym, subst, append-nil, inl, inr, Result, Ok, Err, false}
use Rattle.vp_text.specs.Documents.{HasNoNewline, IsLine}
use Rattle.vp_text.proofs.Exact.{Exact}
use Rattle.vp_text.proofs.Lists.{fault_no_line}
use Rattle.vp_text.proofs.Whole.{fault_longest, fault_left}
use Rattle.vp_text.proofs.Determined.{same_line}
use Rattle.vp_catalog.specs.Document.{IsCatalogueSoFar}
use Rattle.vp_catalog.specs.declared.fault.CatalogFault.{CatalogFault}
use Rattle.vp_catalog.specs.declared.fault.CatalogFault.TheVariants as faults
use Rattle.vp_heads.specs.declared.line.HeadLine.{HeadLine}
use Rattle.vp_heads.specs.declared.line.HeadLine.TheVariants as kind
use Rattle.vp_heads.specs.declared.head.Head.{Head}
use Rattle.vp_heads.specs.Heads.{LineText, Allows, Adds}
use Rattle.vp_heads.specs.HeadReading.{head_at}
use Rattle.vp_heads.proofs.Steps.{line_ready, line_is}
use Rattle.vp_gateway.specs.Opening.{key, IsNoLine, TakesLine}
use Rattle.vp_gateway.proofs.Heading.{key_is, newline_inside, front_plain}

module _ (d : Head) (off : d.opened ≡ false) (so_far : IsCatalogueSoFar d.catalog) (text : List ℕ) where
  exact : Exact (LineText key d) (head_at key d.catalog)
  exact = line_ready key key_is d off so_far

  pub allowed : (e : HeadLine) (rest : List ℕ) → head_at key d.catalog text ≡ Ok (e, rest) → Allows d e
  allowed e rest h = let p = exact.ok text e rest h in by e p.text p.spelled
    where
      by : (e : HeadLine) (t : List ℕ) → LineText key d e t → Allows d e
      by (kind.Entry entry) t l = (t, l.1)
      by kind.Key t l = tt

  pub fits : (left : ℕ) → head_at key d.catalog text ≡ Err left → left ≤ length text
  fits left h = fault_left text left (exact.err text left h)

  pub refused : (left : ℕ) → head_at key d.catalog text ≡ Err left → IsNoLine d text (length text - left + 1)
  refused left h =
      let x = exact.err text left h in
      record { none = fault_no_line (LineText key d) (line_is key key_is d so_far) text left x; longest = (length text - left, refl, fault_longest text left x) }

  module _ (one : IsLine text ⊎ HasNoNewline text) (e : HeadLine) (rest : List ℕ) (h : head_at key d.catalog text ≡ Ok (e, rest)) where
    -- a text of one line is read to its end
    whole : LineText key d e text
    whole =
        let p = exact.ok text e rest h in
        let line = line_is key key_is d so_far e p.text p.spelled in
        elim one [
          | inl x ↦ let same = same_line text [] p.text rest x line (append-nil text ∙ p.parts) in subst (LineText key d e) (sym same.0) p.spelled
          | inr x ↦ absurd (newline_inside p.text line (front_plain p.text rest (subst HasNoNewline p.parts x)))
        ]

    pub adds : (number : ℕ) (new : Head) (r : Result (Unit {0}) CatalogFault) → Adds d e number new r → TakesLine d text number new r
    adds number new (Ok u) a = (e, whole, a.0, a.1)
    adds number new (Err (faults.BadLine l at)) a = absurd a
    adds number new (Err (faults.Twice l)) a = (a.1, (e, whole, a.2))
    adds number new (Err (faults.TooMany l limit)) a = (a.1, a.2, (e, whole, a.3))
    adds number new (Err faults.NoMemory) a = tt
