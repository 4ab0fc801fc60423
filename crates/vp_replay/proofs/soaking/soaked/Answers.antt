use Rattle.std.proofs.Common.{rules}
use Rattle.vp_replay.proofs.Soaks.{soak_within, soak_serial, soak_done}
use Rattle.vp_replay.proofs.soaking.soaked.Goals as goal

pub serial_commits-requires-clause-within : goal.serial_commits-requires-clause-within
serial_commits-requires-clause-within c = soak_within c.args.seed c.args.count c.in-Ok.world c.make.new.self c.in-Ok.ensures

pub serial_commits-requires-clause-serial : goal.serial_commits-requires-clause-serial
serial_commits-requires-clause-serial c = soak_serial c.args.seed c.args.count c.in-Ok.world c.make.new.self c.in-Ok.ensures

pub returns-in-Ok : goal.returns-in-Ok
returns-in-Ok c =
    soak_done c.args.seed c.args.count c.in-Ok.world c.make.new.self c.in-Ok.ensures c.in_ok-serial-in-Ok.serial c.in_ok-serial-in-Ok.ensures c.messages.result c.messages.ensures.count c.print_summary.new.out.items (search rules)
