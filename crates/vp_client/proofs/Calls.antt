-- A call of a client has a frame.
use Rattle.std.proofs.Common.{ℕ, ◌≤◌, refl, arith}
use Rattle.vp_base.specs.Calls.{IsCall}
use Rattle.vp_model.specs.Types.{Call}
use Rattle.vp_runs.specs.Asking.{call_frame}
use Rattle.vp_wire.specs.Grammar.{IsFrame}
use Rattle.vp_wire.proofs.CallForms.{call_in}

pub call_is_framed : (site : ℕ) (words : Call) → 1 ≤ site → site ≤ 16 → IsCall words → IsFrame (call_frame site words)
call_is_framed site words least most h = (omega arith, omega arith, (refl, (least, most), call_in words h))
