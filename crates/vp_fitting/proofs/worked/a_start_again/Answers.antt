use Rattle.std.proofs.Common.{refl}
use Rattle.vp_bytes.specs.Reading.{u64_at, view_at}
use Rattle.vp_model.proofs.Computed.{computes}
use Rattle.vp_runs.proofs.WorkedRuns.{spells}
use Rattle.vp_fitting.specs.Asked.{asks}
use Rattle.vp_fitting.specs.Merged.{lowest, merged_from, merged}
use Rattle.vp_fitting.proofs.worked.a_start_again.Goals as goal

pub returns : goal.returns
unfolding computes spells u64_at view_at asks lowest merged_from merged
returns c = refl
