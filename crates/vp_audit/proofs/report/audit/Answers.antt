use Rattle.std.proofs.Common.{◌≡◌, ◌∙◌, ap, sym, subst, ℕ, map, length, arith}
use Rattle.std.specs.List.{range_with_len}
use Rattle.vp_audit.specs.Audited.{audit_of, finding_of}
use Rattle.vp_audit.specs.True.{IsTrueReport}
use Rattle.vp_audit.proofs.report.audit.Goals as goal

pub returns-clause-true_report : goal.returns-clause-true_report
returns-clause-true_report c =
    let catalogue = c.args.catalog.now in
    let parts = c.args.parts.now in
    let all : c.loop-place.place ≡ length catalogue.records = omega (arith, c.loop-place-test.false, c.loop-place.auto.place-end, c.count-place-end.ensures.count) in
    let is : c.loop-place.report ≡ audit_of catalogue parts = c.loop-place.invariant ∙ ap (λ (n : ℕ). map (finding_of catalogue parts) (range_with_len 0 n)) all in
    subst (IsTrueReport catalogue parts) (sym is) (c.reports_are_true.ensures catalogue parts c.sites.ensures.so_far)
