use Rattle.std.proofs.Common.{◌≡◌, map}
use Rattle.std.specs.List.{range_with_len}
use Rattle.vp_audit.specs.Audited.{finding_of}
use Rattle.vp_audit.proofs.report.audit.Given as goal

abbrev pub invariant-loop-place : goal.invariant-loop-place
invariant-loop-place l = l.report ≡ map (finding_of l.catalog l.parts) (range_with_len 0 l.place)
