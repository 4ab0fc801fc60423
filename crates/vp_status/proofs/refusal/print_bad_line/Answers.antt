use Rattle.std.proofs.Common.{ℕ, List, ◌++◌, ◌∙◌, ap}
use Rattle.std.specs.Prelude.{codes}
use Rattle.std.specs.Fmt.{decimal}
use Rattle.vp_text.proofs.Printing.{begun_none, begun_then, begun_err}
use Rattle.vp_status.proofs.refusal.print_bad_line.Goals as goal

pub returns-in_err-print_number-2 : goal.returns-in_err-print_number-2
returns-in_err-print_number-2 c =
    let old = c.args.out.now.items in
    let numbered = c.in_ok-print_number.ensures.ok ∙ ap (λ (front : List ℕ). front ++ decimal c.args.line) c.in_ok-extend_from_slice.ensures.items in
    let before = c.in_err-print_number-2.ensures.err ∙ c.in_ok-extend_from_slice-2.ensures.items ∙ ap (λ (front : List ℕ). front ++ codes " at ") numbered in
    begun_err _ _ _ _ c.from_residual-in_err-print_number-2.ensures.0
    (begun_then old (codes "bad line ") _ _
    (begun_then (old ++ codes "bad line ") (decimal c.args.line) _ _
    (begun_then ((old ++ codes "bad line ") ++ decimal c.args.line) (codes " at ") _ _
    (begun_none _ _ _ before))))
