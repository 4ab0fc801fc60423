use Rattle.std.proofs.Common.{◌∙◌, arith}
use Rattle.vp_stable.specs.Halves.{Peeks}
use Rattle.vp_top.proofs.AuditedLogs.{keeps_attached, keeps_quiet, keeps_then, read_attached}
use Rattle.vp_top.proofs.auditing.peek.Goals as goal

pub returns-in-Ok-clause-read : goal.returns-in-Ok-clause-read
returns-in-Ok-clause-read g c =
    read_attached c.args.name.now (g.D.Disk.state c.args.disk.now) _ _ (λ log. Peeks log c.peek.result) c.in-Ok.ensures c.peek.ensures.answer

pub returns-in-Ok-clause-fault : goal.returns-in-Ok-clause-fault
returns-in-Ok-clause-fault g c failed =
    let rose = c.peek.ensures.cause.failed failed in
    let same = c.in-Ok.ensures.cause.ok in
    (c.peek.ensures.quiet.stays.same_name ∙ c.in-Ok.ensures.asked (λ q. cc), rw same at rose)

pub returns-in-Ok-clause-later : goal.returns-in-Ok-clause-later
returns-in-Ok-clause-later g c = let first = c.in-Ok.ensures.cause.later in let second = c.peek.ensures.cause.later in omega (arith, first, second)

pub returns-in-Ok-clause-kept : goal.returns-in-Ok-clause-kept
returns-in-Ok-clause-kept g c =
    keeps_then _ _ _ (keeps_attached c.args.name.now _ _ _ c.in-Ok.ensures) (keeps_quiet _ _ c.peek.ensures.quiet)

pub returns-in-Err-Failed-clause-kept : goal.returns-in-Err-Failed-clause-kept
returns-in-Err-Failed-clause-kept g c = keeps_attached c.args.name.now _ _ _ c.attach.ensures

pub returns-in-Err-NoMemory-clause-kept : goal.returns-in-Err-NoMemory-clause-kept
returns-in-Err-NoMemory-clause-kept g c = keeps_attached c.args.name.now _ _ _ c.attach.ensures
