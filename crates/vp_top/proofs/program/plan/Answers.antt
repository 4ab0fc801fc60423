use Rattle.std.proofs.Common.{rules}
use Rattle.vp_top.proofs.Ending.{plans_read, plans_unread}
use Rattle.vp_top.proofs.program.plan.Goals as goal

pub returns-then-not-reads-clause-plans : goal.returns-then-not-reads-clause-plans
returns-then-not-reads-clause-plans g c =
    plans_unread c.args.words.now (g.S.Source.state c.args.source.now) (g.L.Link.state c.args.link.now) (g.L.Link.state c.plan_of.new.link) c.in-Some.command c.in_ok-plan_of.field-0 (search rules) (search rules) (search rules)

pub returns-in_ok-plan_of-in-Some-2-clause-plans : goal.returns-in_ok-plan_of-in-Some-2-clause-plans
returns-in_ok-plan_of-in-Some-2-clause-plans g c =
    plans_read c.args.words.now (g.S.Source.state c.args.source.now) (g.S.Source.state c.input_of.new.source) (g.L.Link.state c.args.link.now) (g.L.Link.state c.plan_of-in-Some-2.new.link) c.in-Some.command (search rules) (search rules)
    c.in-Some-2.input.items c.in_ok-plan_of-in-Some-2.field-0 (search rules) (search rules) (search rules) (search rules)
