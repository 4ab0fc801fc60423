use Rattle.std.proofs.Common.{◌≡◌, ℕ, Err, List, sym, subst}
use Rattle.std.specs.List.{concat}
use Rattle.vp_outside.specs.declared.datagram.Datagram.{Datagram}
use Rattle.vp_node.proofs.Faults.{gave_err}
use Rattle.vp_serving.specs.Ends.{end_of_node}
use Rattle.vp_serving.specs.Telling.{HasTurned, Tells, Takes, lines_of}
use Rattle.vp_serving.proofs.TurnTells.{may_have_turned, turn_fails, tell_fails}
use Rattle.vp_serving.proofs.serving.take_turn.Goals as goal

pub returns-in_err-node-clause-takes : goal.returns-in_err-node-clause-takes
returns-in_err-node-clause-takes g c =
    let d : Datagram = record { port = c.args.port; bytes = c.args.bytes.now } in
    let disk = g.D.Disk.state c.args.disk.now in
    let disk' = g.D.Disk.state c.turn.new.disk in
    let link = g.L.Link.state c.args.link.now in
    let sink = g.K.Sink.state c.args.sink.now in
    let is : c.from_residual.result ≡ Err (end_of_node c.in_err-node.field-0.0) = gave_err _ _ c.from_residual.ensures.1 in
    let may = may_have_turned c.args.catalog.now c.args.node d link sink disk disk' (g.met.D.Disk.is_disk c.turn.new.disk) c.turn.ensures.any_moment in
    subst (λ r. Takes c.args.catalog.now c.args.node d link link sink sink disk disk' r) (sym is)
    (turn_fails c.args.catalog.now c.args.node d link sink disk disk' c.in_err-node.field-0.0 c.in_err-node.ensures.ends c.in_err-node.ensures.cause may)

pub returns-in_err-tell-clause-takes : goal.returns-in_err-tell-clause-takes
returns-in_err-tell-clause-takes g c =
    let d : Datagram = record { port = c.args.port; bytes = c.args.bytes.now } in
    let disk = g.D.Disk.state c.args.disk.now in
    let disk' = g.D.Disk.state c.turn.new.disk in
    let link = g.L.Link.state c.args.link.now in
    let link' = g.L.Link.state c.tell.new.link in
    let sink = g.K.Sink.state c.args.sink.now in
    let sink' = g.K.Sink.state c.tell.new.sink in
    let h = c.in_ok-node.ensures in
    let e = c.in_err-tell.field-0.0 in
    let is : c.from_residual-in_err-tell.result ≡ Err e = gave_err _ _ c.from_residual-in_err-tell.ensures.1 in
    let turned : HasTurned c.args.catalog.now c.args.node d disk disk' c.in_ok-node.node = record { site = h.turned.site; saved = h.saved; node_is = h.node; kept = h.kept; same_faults = h.cause.ok } in
    let told = subst (λ (datagrams : List Datagram). Tells (lines_of c.args.catalog.now c.args.node d) datagrams link link' sink sink' (Err e)) h.turned.datagrams
    (subst (λ (lines : List (List ℕ)). Tells (concat lines) c.in_ok-node.turned.datagrams link link' sink sink' (Err e)) h.turned.lines c.in_err-tell.ensures.tells) in
    subst (λ r. Takes c.args.catalog.now c.args.node d link link' sink sink' disk disk' r) (sym is)
    (tell_fails c.args.catalog.now c.args.node d link sink disk disk' link' sink' c.in_ok-node.node e turned told)
