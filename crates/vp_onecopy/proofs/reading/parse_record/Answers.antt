use Rattle.std.proofs.Common.{arith}
use Rattle.vp_onecopy.proofs.Places.{among_below}
use Rattle.vp_onecopy.proofs.reading.parse_record.Goals as goal

pub overflow_cast-place : goal.overflow_cast-place
overflow_cast-place c = omega (arith, c.requires, among_below c.args.names.now c.args.cursor.now c.in_ok-place.place c.parse_place.new.cursor c.in_ok-place.ensures)
