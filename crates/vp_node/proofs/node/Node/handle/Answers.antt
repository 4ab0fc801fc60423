use Rattle.std.proofs.Common.{◌≡◌, Err, ap, sym, subst}
use Rattle.std.specs.Prelude.{IfSome}
use Rattle.vp_model.specs.Step.{durable_of}
use Rattle.vp_model.specs.Site.{SiteState}
use Rattle.vp_records.specs.Records.{CanBeSaved}
use Rattle.vp_records.specs.Batches.{IsBatch}
use Rattle.vp_laws.specs.Shapes.{IsShaped}
use Rattle.vp_outside.specs.Disk.{log_of, Becomes}
use Rattle.vp_stable.specs.Halves.{AreSettled}
use Rattle.vp_stable.proofs.Writes.{becomes-as}
use Rattle.vp_runs.specs.Turns.{turn_on}
use Rattle.vp_runs.proofs.Shaped.{turn_shaped}
use Rattle.vp_node.specs.Taking.{IsStepOf}
use Rattle.vp_node.specs.Keeping.{KeepsAt, MayKeepAt}
use Rattle.vp_node.specs.Causes.{HasNodeCause, EndsInTurn, end_of_append}
use Rattle.vp_node.specs.Nodes.{NodeValue}
use Rattle.vp_node.proofs.Kept.{leaves_settled, may_keep_none, keeps_may}
use Rattle.vp_node.proofs.Turning.{same_id, brings, can_be_saved, settled, saves_none, saves_as, leaves_saves, keeps_on}
use Rattle.vp_node.proofs.Faults.{append_ends, append_causes, gave_err}
use Rattle.vp_node.proofs.node.Node.handle.Goals as goal

pub keep-requires-clause-kept : goal.keep-requires-clause-kept
keep-requires-clause-kept g c honest =
    let disk = g.D.Disk.state c.args.disk.now in
    subst (λ (n : NodeValue). IfSome (log_of disk) (λ log. AreSettled n.at log (disk.may_leave disk.asked))) (sym c.self.view_is)
    (settled c.args.catalog.now c.args.self (disk.may_leave disk.asked) (log_of disk) (c.requires.kept honest))

pub keep-requires-clause-form : goal.keep-requires-clause-form
keep-requires-clause-form g c =
    let site_is = subst (λ (n : NodeValue). c.in_ok-site.site ≡ (turn_on c.args.catalog.now n.site c.args.what).site) c.self.view_is c.in_ok-site.ensures.does.site_is in
    subst (λ (site : SiteState). CanBeSaved (durable_of site)) (sym site_is)
    (can_be_saved c.args.catalog.now c.args.self.site c.args.what c.requires.node.catalogue_is c.requires.node.site_is c.requires.what)

pub keep-requires-clause-batch : goal.keep-requires-clause-batch
keep-requires-clause-batch g c =
    let records_are = subst (λ (n : NodeValue). c.in_ok-site.turn_effects.effects.records ≡ (turn_on c.args.catalog.now n.site c.args.what).batch) c.self.view_is c.in_ok-site.ensures.does.records_are in
    subst IsBatch (sym records_are)
    (turn_shaped c.args.catalog.now c.args.self.site c.args.what c.requires.node.catalogue_is c.requires.node.site_is c.requires.what).batch_is

pub returns-in_err-site-clause-left : goal.returns-in_err-site-clause-left
returns-in_err-site-clause-left g c honest =
    let k = c.requires.node.catalogue_is in
    let shaped = c.requires.node.site_is in
    let follows = brings c.args.catalog.now c.args.self.site c.args.what k shaped c.requires.what in
    saves_none c.args.catalog.now c.args.self (turn_on c.args.catalog.now c.args.self.site c.args.what) follows ((g.D.Disk.state c.args.disk.now).may_leave (g.D.Disk.state c.args.disk.now).asked) (log_of (g.D.Disk.state c.args.disk.now)) (c.requires.kept honest)

pub returns-in_err-site-clause-any_moment : goal.returns-in_err-site-clause-any_moment
returns-in_err-site-clause-any_moment g c honest =
    let turn = turn_on c.args.catalog.now c.args.self.site c.args.what in
    let disk = g.D.Disk.state c.args.disk.now in
    let follows = brings c.args.catalog.now c.args.self.site c.args.what c.requires.node.catalogue_is c.requires.node.site_is c.requires.what in
    leaves_saves c.args.catalog.now c.args.self turn follows (disk.may_leave disk.asked) disk disk (log_of disk) (c.requires.kept honest)
    (leaves_settled (MayKeepAt (durable_of turn.site) turn.batch c.args.self.at) (may_keep_none _ _ _) c.args.self.at disk (g.met.D.Disk.is_disk c.args.disk.now) (log_of disk) (settled c.args.catalog.now c.args.self (disk.may_leave disk.asked) (log_of disk) (c.requires.kept honest)))

pub returns-in_err-keep-clause-left : goal.returns-in_err-keep-clause-left
returns-in_err-keep-clause-left g c honest =
    let site_is = subst (λ (n : NodeValue). c.in_ok-site.site ≡ (turn_on c.args.catalog.now n.site c.args.what).site) c.self.view_is c.in_ok-site.ensures.does.site_is in
    let records_are = subst (λ (n : NodeValue). c.in_ok-site.turn_effects.effects.records ≡ (turn_on c.args.catalog.now n.site c.args.what).batch) c.self.view_is c.in_ok-site.ensures.does.records_are in
    let turn = turn_on c.args.catalog.now c.args.self.site c.args.what in
    let disk = g.D.Disk.state c.args.disk.now in
    let follows = brings c.args.catalog.now c.args.self.site c.args.what c.requires.node.catalogue_is c.requires.node.site_is c.requires.what in
    let at_is = ap (λ (n : NodeValue). n.at) c.self.view_is in
    let kept = rw (site_is, records_are, at_is) at c.in_err-keep.ensures.fault in
    saves_as c.args.catalog.now c.args.self turn follows (disk.may_leave disk.asked) (log_of disk) _ (c.requires.kept honest) kept

pub returns-in_err-keep-clause-any_moment : goal.returns-in_err-keep-clause-any_moment
returns-in_err-keep-clause-any_moment g c honest =
    let site_is = subst (λ (n : NodeValue). c.in_ok-site.site ≡ (turn_on c.args.catalog.now n.site c.args.what).site) c.self.view_is c.in_ok-site.ensures.does.site_is in
    let records_are = subst (λ (n : NodeValue). c.in_ok-site.turn_effects.effects.records ≡ (turn_on c.args.catalog.now n.site c.args.what).batch) c.self.view_is c.in_ok-site.ensures.does.records_are in
    let turn = turn_on c.args.catalog.now c.args.self.site c.args.what in
    let disk = g.D.Disk.state c.args.disk.now in
    let follows = brings c.args.catalog.now c.args.self.site c.args.what c.requires.node.catalogue_is c.requires.node.site_is c.requires.what in
    let at_is = ap (λ (n : NodeValue). n.at) c.self.view_is in
    let kept = rw (site_is, records_are, at_is) at (c.keep.ensures.any_moment honest) in
    leaves_saves c.args.catalog.now c.args.self turn follows (disk.may_leave disk.asked) disk (g.D.Disk.state c.keep.new.disk) (log_of disk) (c.requires.kept honest) kept

pub returns-clause-stepped : goal.returns-clause-stepped
returns-clause-stepped g c = subst (λ (n : NodeValue). IsStepOf c.args.catalog.now n.site c.args.what c.in_ok-site.site c.in_ok-site.turn_effects.effects) c.self.view_is c.in_ok-site.ensures.stepped

pub returns-clause-saved : goal.returns-clause-saved
returns-clause-saved g c =
    let site_is = subst (λ (n : NodeValue). c.in_ok-site.site ≡ (turn_on c.args.catalog.now n.site c.args.what).site) c.self.view_is c.in_ok-site.ensures.does.site_is in
    let records_are = subst (λ (n : NodeValue). c.in_ok-site.turn_effects.effects.records ≡ (turn_on c.args.catalog.now n.site c.args.what).batch) c.self.view_is c.in_ok-site.ensures.does.records_are in
    let at_is = ap (λ (n : NodeValue). n.at) c.self.view_is in
    rw (site_is, records_are, at_is) at c.in_ok-keep.ensures.kept_at

pub returns-clause-short : goal.returns-clause-short
returns-clause-short g c =
    let records_are = subst (λ (n : NodeValue). c.in_ok-site.turn_effects.effects.records ≡ (turn_on c.args.catalog.now n.site c.args.what).batch) c.self.view_is c.in_ok-site.ensures.does.records_are in
    let at_is = ap (λ (n : NodeValue). n.at) c.self.view_is in
    rw (records_are, at_is) at c.in_ok-keep.ensures.short

pub returns-clause-left : goal.returns-clause-left
returns-clause-left g c honest =
    let site_is = subst (λ (n : NodeValue). c.in_ok-site.site ≡ (turn_on c.args.catalog.now n.site c.args.what).site) c.self.view_is c.in_ok-site.ensures.does.site_is in
    let records_are = subst (λ (n : NodeValue). c.in_ok-site.turn_effects.effects.records ≡ (turn_on c.args.catalog.now n.site c.args.what).batch) c.self.view_is c.in_ok-site.ensures.does.records_are in
    let turn = turn_on c.args.catalog.now c.args.self.site c.args.what in
    let disk = g.D.Disk.state c.args.disk.now in
    let follows = brings c.args.catalog.now c.args.self.site c.args.what c.requires.node.catalogue_is c.requires.node.site_is c.requires.what in
    let at_is = ap (λ (n : NodeValue). n.at) c.self.view_is in
    let kept = rw (site_is, records_are, at_is) at c.in_ok-keep.ensures.kept_at in
    saves_as c.args.catalog.now c.args.self turn follows (disk.may_leave disk.asked) (log_of disk) _ (c.requires.kept honest)
    (becomes-as {S = KeepsAt (durable_of turn.site) turn.batch c.args.self.at c.keep.new.log} {T = MayKeepAt (durable_of turn.site) turn.batch c.args.self.at} _ _
    (keeps_may (durable_of turn.site) turn.batch c.args.self.at c.keep.new.log) kept)

pub returns-clause-any_moment : goal.returns-clause-any_moment
returns-clause-any_moment g c honest =
    let site_is = subst (λ (n : NodeValue). c.in_ok-site.site ≡ (turn_on c.args.catalog.now n.site c.args.what).site) c.self.view_is c.in_ok-site.ensures.does.site_is in
    let records_are = subst (λ (n : NodeValue). c.in_ok-site.turn_effects.effects.records ≡ (turn_on c.args.catalog.now n.site c.args.what).batch) c.self.view_is c.in_ok-site.ensures.does.records_are in
    let turn = turn_on c.args.catalog.now c.args.self.site c.args.what in
    let disk = g.D.Disk.state c.args.disk.now in
    let follows = brings c.args.catalog.now c.args.self.site c.args.what c.requires.node.catalogue_is c.requires.node.site_is c.requires.what in
    let at_is = ap (λ (n : NodeValue). n.at) c.self.view_is in
    let kept = rw (site_is, records_are, at_is) at (c.keep.ensures.any_moment honest) in
    leaves_saves c.args.catalog.now c.args.self turn follows (disk.may_leave disk.asked) disk (g.D.Disk.state c.keep.new.disk) (log_of disk) (c.requires.kept honest) kept

pub returns-clause-node : goal.returns-clause-node
returns-clause-node g c =
    let site_is = subst (λ (n : NodeValue). c.in_ok-site.site ≡ (turn_on c.args.catalog.now n.site c.args.what).site) c.self.view_is c.in_ok-site.ensures.does.site_is in
    let shaped = (turn_shaped c.args.catalog.now c.args.self.site c.args.what c.requires.node.catalogue_is c.requires.node.site_is c.requires.what).site_is in
    record { catalogue_is = c.requires.node.catalogue_is; site_is = subst (λ (site : SiteState). IsShaped c.args.catalog.now site) (sym site_is) shaped }

pub returns-clause-kept : goal.returns-clause-kept
returns-clause-kept g c honest =
    let site_is = subst (λ (n : NodeValue). c.in_ok-site.site ≡ (turn_on c.args.catalog.now n.site c.args.what).site) c.self.view_is c.in_ok-site.ensures.does.site_is in
    let records_are = subst (λ (n : NodeValue). c.in_ok-site.turn_effects.effects.records ≡ (turn_on c.args.catalog.now n.site c.args.what).batch) c.self.view_is c.in_ok-site.ensures.does.records_are in
    let turn = turn_on c.args.catalog.now c.args.self.site c.args.what in
    let disk = g.D.Disk.state c.args.disk.now in
    let k = c.requires.node.catalogue_is in
    let shaped = c.requires.node.site_is in
    let at_is = ap (λ (n : NodeValue). n.at) c.self.view_is in
    let new = g.D.Disk.state c.keep.new.disk in
    let kept = rw (site_is, records_are, at_is) at c.in_ok-keep.ensures.kept_at in
    let kept_there = subst (λ name. Becomes (KeepsAt (durable_of turn.site) turn.batch c.args.self.at c.keep.new.log) (log_of disk) (new.logs name)) (sym c.keep.ensures.others.stays.same_name) kept in
    keeps_on c.args.catalog.now c.args.self turn (brings c.args.catalog.now c.args.self.site c.args.what k shaped c.requires.what) (record { site = c.in_ok-site.site; at = c.keep.new.log })
    site_is (same_id c.args.catalog.now c.args.self.site c.args.what k shaped c.requires.what) (disk.may_leave disk.asked) ((g.D.Disk.state c.keep.new.disk).may_leave (g.D.Disk.state c.keep.new.disk).asked)
    (log_of disk) (log_of (g.D.Disk.state c.keep.new.disk)) (c.requires.kept (c.keep.ensures.others.honest.1 honest)) kept_there (c.in_ok-keep.ensures.kept honest)

pub returns-in_err-keep-clause-ends : goal.returns-in_err-keep-clause-ends
returns-in_err-keep-clause-ends g c =
    let is : c.from_residual-in_err-keep.result ≡ Err (end_of_append c.in_err-keep.field-0.0) = gave_err _ _ c.from_residual-in_err-keep.ensures.1 in
    subst (λ r. EndsInTurn r) (sym is) (append_ends (Unit {0}) c.in_err-keep.field-0.0)

pub returns-in_err-keep-clause-cause : goal.returns-in_err-keep-clause-cause
returns-in_err-keep-clause-cause g c =
    let is : c.from_residual-in_err-keep.result ≡ Err (end_of_append c.in_err-keep.field-0.0) = gave_err _ _ c.from_residual-in_err-keep.ensures.1 in
    subst (λ r. HasNodeCause (g.D.Disk.state c.args.disk.now).faults (g.D.Disk.state c.keep.new.disk).faults r) (sym is) (append_causes _ _ c.in_err-keep.field-0.0 c.in_err-keep.ensures.cause)
