use Rattle.std.proofs.Common.{refl}
use Rattle.vp_status.specs.declared.status.Status.TheVariants as status
use Rattle.vp_top.proofs.AuditedLogs.{gives_so}
use Rattle.vp_top.proofs.auditing.audit_logs.Goals as goal

pub returns-in-Ok-clause-gives : goal.returns-in-Ok-clause-gives
returns-in-Ok-clause-gives g c =
    gives_so c.args.catalog.now c.args.logs.now _ _ status.Done _ _
    (record { parts = c.in-Ok.parts; read = rw c.as_slice.ensures at c.in-Ok.ensures.stops; text_is = refl; is_true = c.reports_are_true.ensures c.args.catalog.now c.in-Ok.parts c.sites.ensures.so_far })
    c.reported.ensures.status c.reported.ensures.text

pub returns-in-Err-BadLog-clause-gives : goal.returns-in-Err-BadLog-clause-gives
returns-in-Err-BadLog-clause-gives g c =
    gives_so c.args.catalog.now c.args.logs.now _ _ status.BadLog _ _
    (c.in-Err-BadLog.half, c.in-Err-BadLog.at, rw (c.in-Err-BadLog.field-0-is, c.as_slice.ensures) at c.in-Err-BadLog.ensures.stops, refl) c.bad_log.ensures.status c.bad_log.ensures.text

pub returns-in-Err-DiskFault-clause-gives : goal.returns-in-Err-DiskFault-clause-gives
returns-in-Err-DiskFault-clause-gives g c =
    gives_so c.args.catalog.now c.args.logs.now _ _ status.DiskFault _ _ (rw (c.in-Err-DiskFault.field-0-is, c.as_slice.ensures) at c.in-Err-DiskFault.ensures.stops, refl) c.new.ensures.status c.new.ensures.text
