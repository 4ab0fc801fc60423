use Rattle.std.proofs.Common.{◌≡◌, ◌+◌, suc, arith}
use Rattle.vp_cluster.proofs.Filed.{span_within}
use Rattle.vp_cluster.proofs.sent_letters.span.Goals as goal

pub returns-clause-within : goal.returns-clause-within
returns-clause-within c =
    let next : c.args.place + 1 ≡ suc c.args.place = omega arith in
    rw (c.start_in.ensures, c.start_in-2.ensures, next) (span_within c.args.end c.args.filed.now c.args.place c.requires.order c.requires.at)
