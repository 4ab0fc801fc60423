use Rattle.std.proofs.Common.{ℕ, List, [], ◌∷◌, ◌++◌, ◌∙◌, ap, append_assoc}
use Rattle.std.specs.Prelude.{codes}
use Rattle.std.specs.Fmt.{decimal}
use Rattle.vp_text.proofs.Printing.{begun_none, begun_then, begun_err, all_of}
use Rattle.vp_status.proofs.refusal.print_twice.Goals as goal

pub returns-in_err-print_number : goal.returns-in_err-print_number
returns-in_err-print_number c =
    let old = c.args.out.now.items in
    begun_err _ _ _ _ c.from_residual-in_err-print_number.ensures.0
    (begun_then old (codes "twice line ") _ _ (begun_none _ _ _ (c.in_err-print_number.ensures.err ∙ c.in_ok-extend_from_slice.ensures.items)))

pub returns-in_err-push : goal.returns-in_err-push
returns-in_err-push c =
    let old = c.args.out.now.items in
    let numbered = c.in_ok-print_number.ensures.ok ∙ ap (λ (front : List ℕ). front ++ decimal c.args.line) c.in_ok-extend_from_slice.ensures.items in
    begun_err _ _ _ _ c.from_residual-in_err-push.ensures.0
    (begun_then old (codes "twice line ") _ _
    (begun_then (old ++ codes "twice line ") (decimal c.args.line) _ _ (begun_none _ _ _ (c.in_err-push.ensures.items ∙ numbered))))

pub returns : goal.returns
returns c =
    let old = c.args.out.now.items in
    let numbered = c.in_ok-print_number.ensures.ok ∙ ap (λ (front : List ℕ). front ++ decimal c.args.line) c.in_ok-extend_from_slice.ensures.items in
    let ended = c.in_ok-push.ensures.items ∙ ap (λ (front : List ℕ). front ++ 10 ∷ []) numbered in
    all_of old (codes "twice line " ++ (decimal c.args.line ++ 10 ∷ [])) c.push.new.self.items
    (ended ∙ append_assoc (old ++ codes "twice line ") (decimal c.args.line) (10 ∷ []) ∙ append_assoc old (codes "twice line ") (decimal c.args.line ++ 10 ∷ []))
