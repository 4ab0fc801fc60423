use Rattle.std.proofs.Common.{rules, ◌≡◌, ◌==◌, not, filter, true}
use Rattle.vp_model.specs.Words.{is_empty}
use Rattle.vp_coordinator.proofs.Rows.{decide_own}
use Rattle.vp_coordinator.proofs.Answered.{counted_all}
use Rattle.vp_coordinator.proofs.answers.count_vote.Goals as goal

pub returns-then-is_empty : goal.returns-then-is_empty
returns-then-is_empty c =
    let e : is_empty (filter (λ q. not (q == c.args.came.now.from)) c.args.handled.now.pending.missing) ≡ true = search rules in
    rw (counted_all c.args.came.now.from c.args.handled.now.live c.args.handled.now.pending _ _ e, decide_own c.args.handled.now.live c.args.lent.now c.args.came.now.catalog.now c.args.came.now.id) c.decide.ensures.row
