-- Lines whose event and content are lent.
use Rattle.vp_model.specs.Types.{Line}
use Rattle.vp_trace.specs.declared.line.LentLine.{LentLine}

-- the line that is lent
abbrev pub line_of : LentLine → Line
line_of line = record { event = line.event.now; shown = line.shown.now }
