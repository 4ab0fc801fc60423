use Rattle.std.proofs.Common.{◌≡◌, arith, subst}
use Rattle.std.specs.Prelude.{IfSome}
use Rattle.vp_model.specs.Step.{durable_of}
use Rattle.vp_outside.specs.Disk.{log_of}
use Rattle.vp_outside.specs.declared.datagram.Datagram.{Datagram}
use Rattle.vp_stable.specs.Moments.{LeavesOnly}
use Rattle.vp_stable.proofs.Writes.{on_err}
use Rattle.vp_runs.specs.declared.arrival.Arrival.{Arrival}
use Rattle.vp_runs.specs.Turns.{turn_on}
use Rattle.vp_runs.proofs.Shaped.{arrives}
use Rattle.vp_node.specs.Keeping.{MayKeepAt}
use Rattle.vp_node.specs.Nodes.{NodeValue, MaySave, turn_of, what_comes}
use Rattle.vp_node.proofs.Kept.{leaves_settled, may_keep_none}
use Rattle.vp_node.proofs.Turning.{brings, settled, saves_none, leaves_saves}
use Rattle.vp_node.proofs.node.Node.turn.Goals as goal

pub returns-in_err-what-clause-fault : goal.returns-in_err-what-clause-fault
returns-in_err-what-clause-fault g c honest =
    let d : Datagram = record { port = c.args.port; bytes = c.args.bytes.now } in
    let what = what_comes c.args.catalog.now c.args.self d in
    let disk = g.D.Disk.state c.args.disk.now in
    let comes = arrives c.args.catalog.now c.args.self.site.id d (omega (arith, c.ranges.port.fits)) in
    let follows = brings c.args.catalog.now c.args.self.site what c.requires.node.catalogue_is c.requires.node.site_is comes in
    on_err c.from_residual.result (saves_none c.args.catalog.now c.args.self (turn_of c.args.catalog.now c.args.self d) follows (disk.may_leave disk.asked) (log_of disk) (c.requires.kept honest))

pub returns-in_err-what-clause-any_moment : goal.returns-in_err-what-clause-any_moment
returns-in_err-what-clause-any_moment g c honest =
    let d : Datagram = record { port = c.args.port; bytes = c.args.bytes.now } in
    let what = what_comes c.args.catalog.now c.args.self d in
    let turn = turn_of c.args.catalog.now c.args.self d in
    let disk = g.D.Disk.state c.args.disk.now in
    let comes = arrives c.args.catalog.now c.args.self.site.id d (omega (arith, c.ranges.port.fits)) in
    let follows = brings c.args.catalog.now c.args.self.site what c.requires.node.catalogue_is c.requires.node.site_is comes in
    leaves_saves c.args.catalog.now c.args.self turn follows (disk.may_leave disk.asked) disk disk (log_of disk) (c.requires.kept honest)
    (leaves_settled (MayKeepAt (durable_of turn.site) turn.batch c.args.self.at) (may_keep_none _ _ _) c.args.self.at disk (g.met.D.Disk.is_disk c.args.disk.now) (log_of disk) (settled c.args.catalog.now c.args.self (disk.may_leave disk.asked) (log_of disk) (c.requires.kept honest)))

pub returns-in_err-line-clause-fault : goal.returns-in_err-line-clause-fault
returns-in_err-line-clause-fault g c honest =
    let d : Datagram = record { port = c.args.port; bytes = c.args.bytes.now } in
    let what = what_comes c.args.catalog.now c.args.self d in
    let disk = g.D.Disk.state c.args.disk.now in
    let comes = arrives c.args.catalog.now c.args.self.site.id d (omega (arith, c.ranges.port.fits)) in
    let follows = brings c.args.catalog.now c.args.self.site what c.requires.node.catalogue_is c.requires.node.site_is comes in
    on_err c.from_residual-in_err-line.result (saves_none c.args.catalog.now c.args.self (turn_of c.args.catalog.now c.args.self d) follows (disk.may_leave disk.asked) (log_of disk) (c.requires.kept honest))

pub returns-in_err-line-clause-any_moment : goal.returns-in_err-line-clause-any_moment
returns-in_err-line-clause-any_moment g c honest =
    let d : Datagram = record { port = c.args.port; bytes = c.args.bytes.now } in
    let what = what_comes c.args.catalog.now c.args.self d in
    let turn = turn_of c.args.catalog.now c.args.self d in
    let disk = g.D.Disk.state c.args.disk.now in
    let comes = arrives c.args.catalog.now c.args.self.site.id d (omega (arith, c.ranges.port.fits)) in
    let follows = brings c.args.catalog.now c.args.self.site what c.requires.node.catalogue_is c.requires.node.site_is comes in
    leaves_saves c.args.catalog.now c.args.self turn follows (disk.may_leave disk.asked) disk disk (log_of disk) (c.requires.kept honest)
    (leaves_settled (MayKeepAt (durable_of turn.site) turn.batch c.args.self.at) (may_keep_none _ _ _) c.args.self.at disk (g.met.D.Disk.is_disk c.args.disk.now) (log_of disk) (settled c.args.catalog.now c.args.self (disk.may_leave disk.asked) (log_of disk) (c.requires.kept honest)))

pub returns-clause-any_moment : goal.returns-clause-any_moment
returns-clause-any_moment g c honest =
    let d : Datagram = record { port = c.args.port; bytes = c.args.bytes.now } in
    let node = c.args.self in
    let disk = g.D.Disk.state c.args.disk.now in
    let what_is = subst (λ (n : NodeValue). c.in_ok-what.what ≡ what_comes c.args.catalog.now n d) c.self.view_is (rw c.id-id.ensures at c.in_ok-what.ensures.what) in
    subst (λ (what : Arrival). IfSome (log_of disk) (λ log. LeavesOnly disk (g.D.Disk.state c.handle.new.disk) (MaySave c.args.catalog.now node (turn_on c.args.catalog.now node.site what) log))) what_is (c.handle.ensures.any_moment honest)
