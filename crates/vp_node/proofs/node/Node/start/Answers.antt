use Rattle.std.proofs.Common.{◌∷◌, [], ◌⊎◌, ◌<◌, ◌^◌, List, inl, inr, ⊎_elim, sym, subst}
use Rattle.std.specs.Prelude.{IfSome}
use Rattle.vp_model.specs.Types.{LogRecord}
use Rattle.vp_model.specs.Site.{SiteState}
use Rattle.vp_model.specs.Step.{start_record}
use Rattle.vp_laws.specs.Shapes.{IsShaped}
use Rattle.vp_outside.specs.Disk.{log_of, Becomes}
use Rattle.vp_stable.specs.Halves.{StandsAt, ReadAlike, GainsAt, MayGainAt}
use Rattle.vp_stable.specs.Moments.{LeavesOnly}
use Rattle.vp_stable.proofs.Times.{others_join}
use Rattle.vp_stable.proofs.Writes.{becomes-as, on_err}
use Rattle.vp_runs.specs.Keeping.{durable_in}
use Rattle.vp_node.specs.Nodes.{MayStart}
use Rattle.vp_node.proofs.Kept.{leaves_as}
use Rattle.vp_node.proofs.Revived.{may_start_alike, starts_then, leaves_start_then, starts_shaped, starts_life, stands_begun, keeps_start}
use Rattle.vp_node.proofs.Taken.{is_catalogue}
use Rattle.vp_node.proofs.node.Node.start.Goals as goal

-- ---- no log was recovered

pub returns-in_err-log-clause-fault : goal.returns-in_err-log-clause-fault
returns-in_err-log-clause-fault g c =
    on_err c.from_residual.result (becomes-as {S = ReadAlike} {T = MayStart c.args.catalog.now c.args.id} _ _ (may_start_alike c.args.catalog.now c.args.id) c.recover.ensures.alike)

pub returns-in_err-log-clause-any_moment : goal.returns-in_err-log-clause-any_moment
returns-in_err-log-clause-any_moment g c honest =
    let disk = g.D.Disk.state c.args.disk.now in
    leaves_as (λ log image. disk.may_leave disk.asked image ⊎ ReadAlike log image) (λ log image. disk.may_leave disk.asked image ⊎ MayStart c.args.catalog.now c.args.id log image)
    (λ log image left. ⊎_elim (λ was. inl was) (λ same. inr (may_start_alike c.args.catalog.now c.args.id log image same)) left)
    disk (g.D.Disk.state c.recover.new.disk) (log_of disk) (c.recover.ensures.any_moment honest)

pub returns-in_err-log-clause-still : goal.returns-in_err-log-clause-still
returns-in_err-log-clause-still g c half at life is honest = c.recover.ensures.any_moment honest

-- ---- no site starts from it

pub returns-in_err-site-clause-fault : goal.returns-in_err-site-clause-fault
returns-in_err-site-clause-fault g c =
    on_err c.from_residual-in_err-site.result (becomes-as {S = ReadAlike} {T = MayStart c.args.catalog.now c.args.id} _ _ (may_start_alike c.args.catalog.now c.args.id) c.recover.ensures.alike)

pub returns-in_err-site-clause-any_moment : goal.returns-in_err-site-clause-any_moment
returns-in_err-site-clause-any_moment g c honest =
    let disk = g.D.Disk.state c.args.disk.now in
    leaves_as (λ log image. disk.may_leave disk.asked image ⊎ ReadAlike log image) (λ log image. disk.may_leave disk.asked image ⊎ MayStart c.args.catalog.now c.args.id log image)
    (λ log image left. ⊎_elim (λ was. inl was) (λ same. inr (may_start_alike c.args.catalog.now c.args.id log image same)) left)
    disk (g.D.Disk.state c.recover.new.disk) (log_of disk) (c.recover.ensures.any_moment honest)

pub returns-in_err-site-clause-still : goal.returns-in_err-site-clause-still
returns-in_err-site-clause-still g c half at life is honest = c.recover.ensures.any_moment honest

-- ---- its start isn't appended

pub returns-in_err-append-clause-fault : goal.returns-in_err-append-clause-fault
returns-in_err-append-clause-fault g c =
    let disk = g.D.Disk.state c.args.disk.now in
    let at = c.in_ok-log.log in
    let fault = subst (λ (batch : List LogRecord). Becomes (MayGainAt batch at) ((g.D.Disk.state c.recover.new.disk).logs disk.asked) ((g.D.Disk.state c.append.new.disk).logs disk.asked)) c.in_ok-site.ensures.batch
    (rw c.recover.ensures.others.stays.same_name at c.in_err-append.ensures.fault) in
    on_err c.from_residual-in_err-append.result
    (starts_then c.args.catalog.now c.args.id c.halves_are_one_log.ensures.batches c.halves_are_one_log.ensures.bad at c.in_ok-log.batches c.in_ok-site.ensures.left _ _ _ c.recover.ensures.alike c.in_ok-log.ensures.stands fault)

pub returns-in_err-append-clause-any_moment : goal.returns-in_err-append-clause-any_moment
returns-in_err-append-clause-any_moment g c honest =
    let disk = g.D.Disk.state c.args.disk.now in
    let mid = g.D.Disk.state c.recover.new.disk in
    let at = c.in_ok-log.log in
    let moment = subst (λ (batch : List LogRecord). IfSome (mid.logs disk.asked) (λ log. LeavesOnly mid (g.D.Disk.state c.append.new.disk) (MayGainAt batch at log))) c.in_ok-site.ensures.batch
    (subst (λ name. IfSome (mid.logs name) (λ log. LeavesOnly mid (g.D.Disk.state c.append.new.disk) (MayGainAt c.in_ok-site.begun at log))) c.recover.ensures.others.stays.same_name (c.append.ensures.any_moment (c.recover.ensures.others.honest.0 honest))) in
    leaves_start_then c.args.catalog.now c.args.id c.halves_are_one_log.ensures.batches c.halves_are_one_log.ensures.bad at c.in_ok-log.batches c.in_ok-site.ensures.left disk mid (g.D.Disk.state c.append.new.disk) c.recover.ensures.others.stays.same_name
    (disk.may_leave disk.asked) _ _ c.recover.ensures.alike c.in_ok-log.ensures.stands (c.recover.ensures.any_moment honest) moment

pub returns-in_err-append-clause-others : goal.returns-in_err-append-clause-others
returns-in_err-append-clause-others g c = others_join c.recover.ensures.others c.append.ensures.others

-- ---- the node

pub returns-clause-started : goal.returns-clause-started
returns-clause-started g c =
    let disk = g.D.Disk.state c.args.disk.now in
    let mid = g.D.Disk.state c.recover.new.disk in
    let new = g.D.Disk.state c.append.new.disk in
    let at = c.in_ok-log.log in
    let gains = subst (λ (batch : List LogRecord). Becomes (GainsAt batch at c.append.new.self) (mid.logs disk.asked) (new.logs disk.asked)) c.in_ok-site.ensures.batch
    (rw c.recover.ensures.others.stays.same_name at c.in_ok-append.ensures.appended) in
    record {
      batches = c.in_ok-log.batches;
      had = c.in_ok-log.ensures.answer;
      site = c.in_ok-site.ensures.site;
      has = stands_begun c.args.catalog.now c.args.id at c.append.new.self c.in_ok-log.batches (log_of disk) (mid.logs disk.asked) (new.logs disk.asked) c.recover.ensures.alike c.in_ok-log.ensures.stands gains;
    }

pub returns-clause-node : goal.returns-clause-node
returns-clause-node g c =
    let k = is_catalogue c.args.catalog.now c.args.id c.sites.ensures.so_far c.requires.id in
    record {
      catalogue_is = k;
      site_is = subst (λ (site : SiteState). IsShaped c.args.catalog.now site) (sym c.in_ok-site.ensures.site) (starts_shaped c.args.catalog.now c.args.id c.in_ok-log.batches k c.requires.id c.in_ok-log.ensures.batches c.in_ok-site.ensures.left);
    }

pub returns-clause-lives : goal.returns-clause-lives
returns-clause-lives g c = subst (λ (site : SiteState). site.life < 2 ^ 32) (sym c.in_ok-site.ensures.site) (starts_life c.args.catalog.now c.args.id c.in_ok-log.batches c.in_ok-site.ensures.left)

pub returns-clause-kept : goal.returns-clause-kept
returns-clause-kept g c honest =
    let disk = g.D.Disk.state c.args.disk.now in
    let mid = g.D.Disk.state c.recover.new.disk in
    let new = g.D.Disk.state c.append.new.disk in
    let at = c.in_ok-log.log in
    let gains = subst (λ (batch : List LogRecord). Becomes (GainsAt batch at c.append.new.self) (log_of mid) (new.logs mid.asked)) c.in_ok-site.ensures.batch c.in_ok-append.ensures.appended in
    let there = subst (λ name. Becomes (GainsAt (start_record (durable_in c.args.catalog.now c.args.id c.in_ok-log.batches) ∷ []) at c.append.new.self) (log_of mid) (new.logs name)) (sym c.append.ensures.others.stays.same_name) gains in
    let stands = subst (λ name. IfSome (mid.logs name) (StandsAt at c.in_ok-log.batches)) (sym c.recover.ensures.others.stays.same_name) c.in_ok-log.ensures.stands in
    keeps_start c.args.catalog.now c.args.id at c.append.new.self c.in_ok-log.batches c.in_ok-site.site c.in_ok-site.ensures.site (new.may_leave new.asked) (log_of mid) (log_of new) stands there (c.in_ok-append.ensures.kept honest)

pub returns-clause-any_moment : goal.returns-clause-any_moment
returns-clause-any_moment g c honest =
    let disk = g.D.Disk.state c.args.disk.now in
    let mid = g.D.Disk.state c.recover.new.disk in
    let at = c.in_ok-log.log in
    let moment = subst (λ (batch : List LogRecord). IfSome (mid.logs disk.asked) (λ log. LeavesOnly mid (g.D.Disk.state c.append.new.disk) (MayGainAt batch at log))) c.in_ok-site.ensures.batch
    (subst (λ name. IfSome (mid.logs name) (λ log. LeavesOnly mid (g.D.Disk.state c.append.new.disk) (MayGainAt c.in_ok-site.begun at log))) c.recover.ensures.others.stays.same_name (c.append.ensures.any_moment (c.recover.ensures.others.honest.0 honest))) in
    leaves_start_then c.args.catalog.now c.args.id c.halves_are_one_log.ensures.batches c.halves_are_one_log.ensures.bad at c.in_ok-log.batches c.in_ok-site.ensures.left disk mid (g.D.Disk.state c.append.new.disk) c.recover.ensures.others.stays.same_name
    (disk.may_leave disk.asked) _ _ c.recover.ensures.alike c.in_ok-log.ensures.stands (c.recover.ensures.any_moment honest) moment

pub returns-clause-others : goal.returns-clause-others
returns-clause-others g c = others_join c.recover.ensures.others c.append.ensures.others
