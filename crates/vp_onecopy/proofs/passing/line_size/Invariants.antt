use Rattle.std.proofs.Common.{take}
use Rattle.vp_text.specs.Documents.{HasNoNewline}
use Rattle.vp_onecopy.proofs.passing.line_size.Given as goal

abbrev pub invariant-loop-i : goal.invariant-loop-i
invariant-loop-i l = HasNoNewline (take l.i l.bytes)
