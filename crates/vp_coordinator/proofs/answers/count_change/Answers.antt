use Rattle.std.proofs.Common.{rules, ◌≡◌, ◌==◌, not, filter, true}
use Rattle.vp_model.specs.Words.{is_empty}
use Rattle.vp_coordinator.proofs.Answered.{counted_all}
use Rattle.vp_coordinator.proofs.answers.count_change.Goals as goal

pub returns-then-is_empty : goal.returns-then-is_empty
returns-then-is_empty c =
    let e : is_empty (filter (λ q. not (q == c.args.from)) c.args.handled.now.pending.missing) ≡ true = search rules in
    rw (counted_all c.args.from c.args.handled.now.live c.args.handled.now.pending _ _ e) c.complete.ensures
