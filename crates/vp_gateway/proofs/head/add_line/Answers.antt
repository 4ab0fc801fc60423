use Rattle.std.proofs.Common.{refl}
use Rattle.vp_gateway.proofs.Added.{allowed, fits, refused, adds}
use Rattle.vp_gateway.proofs.head.add_line.Goals as goal

pub add-requires : goal.add-requires
add-requires c = allowed c.args.head.now c.requires.closed c.requires.so_far c.args.text.now c.in-Ok.line c.parse_head.new.cursor (rw c.new-cursor.ensures at c.in-Ok.ensures)

pub overflow_sub-result : goal.overflow_sub-result
overflow_sub-result c =
    fits c.args.head.now c.requires.closed c.requires.so_far c.args.text.now c.in-Err-Unexpected.e.left (rw (c.new-cursor.ensures, c.in-Err-Unexpected.field-0-is) at c.in-Err-Unexpected.ensures)

pub returns-in-Ok : goal.returns-in-Ok
returns-in-Ok c =
    adds c.args.head.now c.requires.closed c.requires.so_far c.args.text.now c.requires.one c.in-Ok.line c.parse_head.new.cursor (rw c.new-cursor.ensures at c.in-Ok.ensures)
    c.args.number c.add.new.self c.add.result c.add.ensures

pub returns-in-Err-Unexpected : goal.returns-in-Err-Unexpected
returns-in-Err-Unexpected c = (
  refl,
  refused c.args.head.now c.requires.closed c.requires.so_far c.args.text.now c.in-Err-Unexpected.e.left (rw (c.new-cursor.ensures, c.in-Err-Unexpected.field-0-is) at c.in-Err-Unexpected.ensures),
)
