use Rattle.vp_stopping.proofs.Crashing.{sent_more, stop_done, taken_sent}
use Rattle.vp_stopping.proofs.stopped.Steps.stop.Goals as goal

pub pass-requires : goal.pass-requires
pass-requires c = taken_sent c.args.self c.args.site c.args.event c.requires.taken c.args.kept c.message_taken-taken.result c.message_taken-taken.ensures c.in_ok-steps.steps c.in_ok-steps.ensures.done

pub lose-requires : goal.lose-requires
lose-requires c =
    sent_more c.args.self c.args.site c.args.event c.requires.taken c.args.kept c.message_taken-taken.result c.message_taken-taken.ensures c.in_ok-steps.steps c.in_ok-steps.ensures.done
    c.pass.new.self c.in_ok-pass.ensures c.messages-before.result c.messages-before.ensures.count

pub returns-clause-done : goal.returns-clause-done
returns-clause-done c =
    stop_done c.args.self c.args.site c.args.event c.requires.taken c.args.kept c.message_taken-taken.result c.message_taken-taken.ensures c.in_ok-steps.steps c.in_ok-steps.ensures.done
    c.pass.new.self c.in_ok-pass.ensures c.messages-before.result c.messages-before.ensures.count c.lose.new.self c.in_ok-lose.ensures
