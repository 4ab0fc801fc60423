use Rattle.std.proofs.Common.{rules}
use Rattle.vp_replay.proofs.Replays.{replay_is_done}
use Rattle.vp_replay.proofs.replay.play.Goals as goal

pub returns-in_ok-print_end-in-Ok : goal.returns-in_ok-print_end-in-Ok
returns-in_ok-print_end-in-Ok c = replay_is_done c.args.schedule.now c.in-Ok.ran c.run.new.out.items c.print_end.new.out.items c.requires (search rules) (search rules)
