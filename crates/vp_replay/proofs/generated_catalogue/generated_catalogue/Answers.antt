use Rattle.std.proofs.Common.{refl}
use Rattle.vp_replay.proofs.GeneratedCatalogue.{generated_text, read_so, no_fault}
use Rattle.vp_replay.proofs.generated_catalogue.generated_catalogue.Goals as goal

pub unreachable-requires : goal.unreachable-requires
unreachable-requires c = no_fault _ c.read.result (generated_text _ refl) c.read.ensures.only _ c.in-Err-BadLine.is (λ e. cc)

pub unreachable-requires-in-Err-Twice : goal.unreachable-requires-in-Err-Twice
unreachable-requires-in-Err-Twice c = no_fault _ c.read.result (generated_text _ refl) c.read.ensures.only _ c.in-Err-Twice.is (λ e. cc)

pub unreachable-requires-in-Err-TooMany : goal.unreachable-requires-in-Err-TooMany
unreachable-requires-in-Err-TooMany c = no_fault _ c.read.result (generated_text _ refl) c.read.ensures.only _ c.in-Err-TooMany.is (λ e. cc)

pub returns-in-Ok : goal.returns-in-Ok
returns-in-Ok c = read_so _ c.read.result (generated_text _ refl) c.read.ensures.only _ c.in-Ok.is
