use Rattle.vp_laws.proofs.Words.CutTraces.{limits_cut_traces}
use Rattle.vp_laws.proofs.limits.limits_cut_traces.Goals as goal

pub returns : goal.returns
returns c = limits_cut_traces
