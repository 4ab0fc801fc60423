use Rattle.std.proofs.Common.{[], refl}
use Rattle.vp_trace.proofs.Printed.{no_text}
use Rattle.vp_trace.proofs.messages.print_put.Goals as goal

pub returns-in-Keep : goal.returns-in-Keep
returns-in-Keep c = rw c.in-Keep.is (no_text _ [] refl)
