use Rattle.std.proofs.Common.{◌≡◌, ◌<◌, ◌+◌, ◌-◌, ◌∙◌, ℕ, sym, subst, refl, arith}
use Rattle.vp_node.proofs.Faults.{gave_err}
use Rattle.vp_stopping.proofs.Coming.{Comes, comes_first, comes_over, comes_ready, comes_on, comes_ends, comes_before}
use Rattle.vp_stopping.proofs.stopped.come_to.Goals as goal

pub loop-init : goal.loop-init
loop-init c = record { comes = comes_first c.args.schedule.now c.in_ok-front.front c.in_ok-front.ensures }

pub returns-in-None : goal.returns-in-None
returns-in-None c =
    let few : c.loop.counter - 1 < c.args.step = omega (arith, c.loop-test.true) in
    comes_over c.args.schedule.now c.requires.schedule (c.loop.counter - 1) c.loop.front.steps c.loop.front.nodes c.loop.front.left c.loop.invariant.comes
    (sym c.in_ok-next.ensures.next ∙ c.in-None.is) c.args.step few

pub step-requires : goal.step-requires
step-requires c =
    comes_ready c.args.schedule.now c.requires.schedule (c.loop.counter - 1) c.loop.front.steps c.loop.front.nodes c.loop.front.left c.loop.invariant.comes
    c.in-Some.event (sym c.in_ok-next.ensures.next ∙ c.in-Some.is)

pub returns-in_err-front-in-Some : goal.returns-in_err-front-in-Some
returns-in_err-front-in-Some c =
    let few : (c.loop.counter - 1) + 1 < c.args.step = omega (arith, c.loop-test.true, c.loop.auto.counter) in
    comes_ends c.args.schedule.now c.requires.schedule (c.loop.counter - 1) c.loop.front.steps c.loop.front.nodes c.loop.front.left c.loop.invariant.comes
    c.in-Some.event (sym c.in_ok-next.ensures.next ∙ c.in-Some.is) c.args.step c.in_err-front-in-Some.field-0.0 c.from_residual-in_err-front-in-Some.result few
    c.in_err-front-in-Some.ensures.end (gave_err c.from_residual-in_err-front-in-Some.result c.in_err-front-in-Some.field-0.0 c.from_residual-in_err-front-in-Some.ensures.1)

pub loop-preserved : goal.loop-preserved
loop-preserved c =
    let front = c.in_ok-front-in-Some.front in
    let next_one : (c.loop.counter - 1) + 1 ≡ (c.loop.counter + 1) - 1 = omega (arith, c.loop.auto.counter) in
    record {
      comes = subst (λ (j : ℕ). Comes c.args.schedule.now j front.steps front.nodes front.left) next_one
          (comes_on c.args.schedule.now c.requires.schedule (c.loop.counter - 1) c.loop.front.steps c.loop.front.nodes c.loop.front.left c.loop.invariant.comes
          c.in-Some.event (sym c.in_ok-next.ensures.next ∙ c.in-Some.is) front.steps front.nodes front.left
          c.in_ok-front-in-Some.ensures.done c.in_ok-front-in-Some.ensures.end c.in_ok-front-in-Some.ensures.nodes
          (c.in_ok-front-in-Some.ensures.left ∙ c.in_ok-next.ensures.left));
    }

pub returns-in-None-2 : goal.returns-in-None-2
returns-in-None-2 c =
    let few : c.loop.counter - 1 < c.args.step = omega (arith, c.loop.auto) in
    comes_over c.args.schedule.now c.requires.schedule (c.loop.counter - 1) c.loop.front.steps c.loop.front.nodes c.loop.front.left c.loop.invariant.comes
    (sym c.in_ok-next-2.ensures.next ∙ c.in-None-2.is) c.args.step few

pub returns-in-Some-2 : goal.returns-in-Some-2
returns-in-Some-2 c =
    let step_is : c.args.step ≡ (c.loop.counter - 1) + 1 = omega (arith, c.loop.auto) in
    comes_before c.args.schedule.now c.requires.schedule (c.loop.counter - 1) c.loop.front.steps c.loop.front.nodes c.loop.front.left c.loop.invariant.comes
    c.in-Some-2.event (sym c.in_ok-next-2.ensures.next ∙ c.in-Some-2.is) c.args.step step_is
    (record { nodes = c.loop.front.nodes; steps = c.loop.front.steps; left = c.next-2.new.self }) refl refl c.in_ok-next-2.ensures.left
