use Rattle.std.proofs.Common.{◌≡◌, refl}
use Rattle.std.specs.Prelude.{[]}
use Rattle.std.specs.Fmt.{digits}
use Rattle.vp_model.specs.Texts.Trace.{printed_from, trace_text}
use Rattle.vp_model.specs.Texts.History.{history_text}
use Rattle.vp_model.specs.Worked.NoEvents.{schedule, history}
use Rattle.vp_model.proofs.Computed.{computes}

pub trace_is_empty : trace_text schedule ≡ []
unfolding computes printed_from
trace_is_empty = refl

pub history_is : history_text schedule ≡ history
unfolding computes digits
history_is = refl
