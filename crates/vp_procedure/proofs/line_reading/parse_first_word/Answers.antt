use Rattle.std.proofs.Common.{◌∙◌, ap, sym, refl, arith, length}
use Rattle.std.proofs.lemmas.List.{length-set}
use Rattle.vp_procedure.specs.LineReading.{may_begin}
use Rattle.vp_procedure.proofs.FirstWords.{kept_true, kept_false}
use Rattle.vp_procedure.proofs.line_reading.parse_first_word.Goals as goal
use Rattle.vp_procedure.proofs.line_reading.parse_first_word.Goals.{then-may_begin, else-may_begin}

pub loop-keyword-preserved : goal.loop-keyword-preserved
loop-keyword-preserved c =
    let may = may_begin c.args.draft.now in
    let l = c.loop-keyword in
    elim c.if-may_begin.branch [
      | then-may_begin w ↦
          rw w.count-is (
            omega (arith, l.invariant.0),
            ap length w.allowed-is ∙ length-set l.allowed l.count _ ∙ l.invariant.1,
            kept_true may c.args.words.now l.allowed c.if-may_begin.allowed l.count l.keyword-index _ _ c.loop-keyword-test.true (omega (arith, l.invariant.0, l.invariant.1, c.loop-keyword-test.true, c.requires)) w.allowed-is refl (sym c.may_begin.ensures ∙ w.if-may_begin.true) l.invariant.2,
          )
      | else-may_begin w ↦
          rw (w.count-is, w.allowed-is) (
            omega (arith, l.invariant.0),
            l.invariant.1,
            kept_false may c.args.words.now l.allowed l.count l.keyword-index _ _ c.loop-keyword-test.true refl (sym c.may_begin.ensures ∙ w.if-may_begin.false) l.invariant.2,
          )
    ]
