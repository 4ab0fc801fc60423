use Rattle.std.proofs.Common.{◌≡◌, ◌+◌, ◌≤◌, ◌==◌, false, take, Result, Err, rules, sym, subst, arith}
use Rattle.std.specs.Prelude.{None, Some}
use Rattle.std.proofs.lemmas.Bool.Decides.{nat_tests}
use Rattle.vp_model.specs.Types.{Answer}
use Rattle.vp_runs.specs.Asking.{answer_of}
use Rattle.vp_client.specs.Asked.{Asks}
use Rattle.vp_client.specs.declared.asking.AskFault.{AskFault}
use Rattle.vp_client.specs.declared.asking.AskFault.TheVariants as faults
use Rattle.vp_client.proofs.Asked.{goes_on, goes_past, answered, forgotten, at_port}
use Rattle.vp_client.proofs.Shaped.{answers_are_shaped}
use Rattle.vp_client.proofs.asking.ask.Goals as goal

pub loop-preserved-then-from-port : goal.loop-preserved-then-from-port
loop-preserved-then-from-port g c =
    let t = c.if-from-port.true in
    let other : (c.in_ok-from.from == c.args.port) ≡ false = grind (arith, nat_tests, t) in
    record { so_far = goes_past _ _ _ c.args.turns _ c.loop.counter _ _ _ _ (c.in_ok-from.from, c.in_ok-from.count) c.loop.invariant.so_far c.in_ok-from.ensures other }

pub returns-in_err-answer-clause-asks : goal.returns-in_err-answer-clause-asks
returns-in_err-answer-clause-asks g c =
    let t = c.loop-test.true in
    let few : c.loop.counter + 1 ≤ c.args.turns = omega (arith, t) in
    let is : c.from_residual-in_err-answer.result ≡ Err faults.NoMemory = search rules in
    subst (λ (r : Result Answer AskFault). Asks c.args.port c.args.site c.args.call.now c.args.turns (g.L.Link.state c.args.link.now) (g.L.Link.state c.receive.new.self) r) (sym is)
    (forgotten _ _ _ c.args.turns _ c.loop.counter _ _ _ _ (c.in_ok-from.from, c.in_ok-from.count) c.loop.invariant.so_far c.in_ok-from.ensures few)

pub returns-in-Some-clause-asks : goal.returns-in-Some-clause-asks
returns-in-Some-clause-asks g c =
    let t = c.loop-test.true in
    let u = c.if-from-port.false in
    let few : c.loop.counter + 1 ≤ c.args.turns = omega (arith, t) in
    let own : c.in_ok-from.from ≡ c.args.port = grind (arith, nat_tests, u) in
    let found : answer_of c.args.port c.args.site c.args.call.now (record { port = c.args.port; bytes = take c.in_ok-from.count c.receive.new.buf }) ≡ Some c.in-Some.answer = search rules in
    answered _ _ _ c.args.turns _ c.loop.counter _ _ _ _ (c.in_ok-from.from, c.in_ok-from.count) c.loop.invariant.so_far c.in_ok-from.ensures c.in-Some.answer few (at_port _ _ _ _ _ _ _ own found)

pub returns-in-Some-clause-shaped : goal.returns-in-Some-clause-shaped
returns-in-Some-clause-shaped g c =
    let found : answer_of c.args.port c.args.site c.args.call.now (record { port = c.args.port; bytes = take c.in_ok-from.count c.receive.new.buf }) ≡ Some c.in-Some.answer = search rules in
    answers_are_shaped _ _ _ _ _ found

pub loop-preserved : goal.loop-preserved
loop-preserved g c =
    let u = c.if-from-port.false in
    let own : c.in_ok-from.from ≡ c.args.port = grind (arith, nat_tests, u) in
    let found : answer_of c.args.port c.args.site c.args.call.now (record { port = c.args.port; bytes = take c.in_ok-from.count c.receive.new.buf }) ≡ None = search rules in
    record { so_far = goes_on _ _ _ c.args.turns _ c.loop.counter _ _ _ _ (c.in_ok-from.from, c.in_ok-from.count) c.loop.invariant.so_far c.in_ok-from.ensures (at_port _ _ _ _ _ _ _ own found) }
