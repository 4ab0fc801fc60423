use Rattle.std.proofs.Common.{[], refl}
use Rattle.vp_trace.proofs.Printed.{no_text}
use Rattle.vp_trace.proofs.messages.print_given.Goals as goal

pub returns-in-None : goal.returns-in-None
returns-in-None c = rw c.in-None.is (no_text _ [] refl)
