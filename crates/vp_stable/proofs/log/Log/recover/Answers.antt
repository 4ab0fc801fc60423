use Rattle.std.proofs.Common.{◌<◌, ◌≤◌, ◌∙◌, length, sym, subst, arith}
use Rattle.std.specs.Prelude.{IfSome}
use Rattle.vp_outside.specs.Disk.{Only}
use Rattle.vp_stable.specs.Halves.{Standing}
use Rattle.vp_stable.specs.Scans.{IsRead}
use Rattle.vp_stable.proofs.Recoveries.{short_half, scan_can, becomes_alike, becomes_same, becomes_torn, stands_old, stands_new, settled, kept_as, quiet_leaves, torn_leaves, only_fewer}
use Rattle.vp_stable.proofs.Times.{quiet_one, quiet_join, told_before, others_quiet, others_join}
use Rattle.vp_stable.proofs.log.Log.recover.Goals as goal
use Rattle.vp_stable.proofs.log.Log.recover.Goals.{then-len-lt2+in_ok-write_synced, else-len-lt2}

-- a sync that fails
pub returns-in_err-sync-clause-any_moment : goal.returns-in_err-sync-clause-any_moment
returns-in_err-sync-clause-any_moment g c honest = quiet_leaves _ _ (g.met.D.Disk.is_disk c.args.disk.now) (quiet_one c.sync.ensures.leaves)

-- a read that fails
pub returns-in_err-current-clause-any_moment : goal.returns-in_err-current-clause-any_moment
returns-in_err-current-clause-any_moment g c honest =
    quiet_leaves _ _ (g.met.D.Disk.is_disk c.args.disk.now) (quiet_join (quiet_one c.sync.ensures.leaves) c.read_current.ensures.quiet)

-- bytes that are not a log
pub returns-in_err-scan-clause-any_moment : goal.returns-in_err-scan-clause-any_moment
returns-in_err-scan-clause-any_moment g c honest =
    quiet_leaves _ _ (g.met.D.Disk.is_disk c.args.disk.now) (quiet_join (quiet_one c.sync.ensures.leaves) c.read_current.ensures.quiet)

-- a gate that isn't written
pub returns-in_err-write_synced-clause-alike : goal.returns-in_err-write_synced-clause-alike
returns-in_err-write_synced-clause-alike g c =
    let name = (g.D.Disk.state c.args.disk.now).asked in
    let synced = quiet_one c.sync.ensures.leaves in
    let quiet = quiet_join synced c.read_current.ensures.quiet in
    let current = c.in_ok-current.current in
    let read = told_before (λ o. IfSome o (IsRead current.half current.bytes.items)) synced c.in_ok-current.ensures.told in
    let small : length current.bytes.items < 2 = omega (arith, c.if-len-lt2.true, c.len.ensures, current.bytes.ok) in
    let torn = rw (quiet.untouched name).same at (rw quiet.stays.same_name at c.in_err-write_synced.ensures.torn) in
    becomes_alike current.half _ _ (short_half current.half _ _ read small) torn

pub returns-in_err-write_synced-clause-any_moment : goal.returns-in_err-write_synced-clause-any_moment
returns-in_err-write_synced-clause-any_moment g c honest =
    let name = (g.D.Disk.state c.args.disk.now).asked in
    let synced = quiet_one c.sync.ensures.leaves in
    let quiet = quiet_join synced c.read_current.ensures.quiet in
    let current = c.in_ok-current.current in
    let read = told_before (λ o. IfSome o (IsRead current.half current.bytes.items)) synced c.in_ok-current.ensures.told in
    let small : length current.bytes.items < 2 = omega (arith, c.if-len-lt2.true, c.len.ensures, current.bytes.ok) in
    let only = only_fewer _ _ _ (λ image left. (c.read_current.ensures.quiet.untouched name).no_other image left) (c.in_ok-sync.ensures.durable honest) in
    let time = rw quiet.stays.same_name at c.write_synced.ensures.time in
    torn_leaves _ _ (g.met.D.Disk.is_disk c.args.disk.now) current.half _ quiet time only (short_half current.half _ _ read small)

-- a log that is read, or made
pub returns-clause-stands : goal.returns-clause-stands
returns-clause-stands g c =
    let name = (g.D.Disk.state c.args.disk.now).asked in
    let synced = quiet_one c.sync.ensures.leaves in
    let quiet = quiet_join synced c.read_current.ensures.quiet in
    let current = c.in_ok-current.current in
    let read = told_before (λ o. IfSome o (IsRead current.half current.bytes.items)) synced c.in_ok-current.ensures.told in
    let scan = rw c.deref.ensures.value at c.in_ok-scan.ensures.scanned in
    elim c.if-len-lt2.branch [
      | then-len-lt2+in_ok-write_synced w ↦
          let small : length current.bytes.items < 2 = omega (arith, w.if-len-lt2.true, c.len.ensures, current.bytes.ok) in
          let written = rw quiet.stays.same_name at w.in_ok-write_synced.ensures.written in
          let made = rw (quiet.untouched name).same at written in
          rw w.disk-is (stands_new current.half _ _ _ current.generation c.in_ok-scan.scan c.in_ok-current.ensures.generation scan small (short_half current.half _ _ read small) made)
      | else-len-lt2 w ↦
          let long : 2 ≤ length current.bytes.items = omega (arith, w.if-len-lt2.false, c.len.ensures, current.bytes.ok) in
          rw (w.disk-is, (quiet.untouched name).same) (stands_old current.half _ _ current.generation c.in_ok-scan.scan c.in_ok-current.ensures.generation scan long read)
    ]

pub returns-clause-kept : goal.returns-clause-kept
returns-clause-kept g c =
    let name = (g.D.Disk.state c.args.disk.now).asked in
    let synced = quiet_one c.sync.ensures.leaves in
    let quiet = quiet_join synced c.read_current.ensures.quiet in
    let stands = returns-clause-stands g c in
    let current = c.in_ok-current.current in
    let scan = c.in_ok-scan.scan in
    let at : Standing = record { half = current.half; generation = current.generation; gate = scan.gate; second = scan.second } in
    elim c.if-len-lt2.branch [
      | then-len-lt2+in_ok-write_synced w ↦ λ honest.
          let mid = w.write_synced.ensures.others.honest.1 (rw w.disk-is at honest) in
          let durable = rw quiet.stays.same_name at (w.in_ok-write_synced.ensures.durable mid) in
          let same = w.write_synced.ensures.others.stays.same_name ∙ quiet.stays.same_name in
          rw w.disk-is (kept_as at (g.D.Disk.state w.write_synced.new.disk) name same (settled _ _ at scan.batches durable (rw w.disk-is at stands)))
      | else-len-lt2 w ↦ λ honest.
          let start = quiet.as_honest.1 (rw w.disk-is at honest) in
          let only = only_fewer _ _ _ (λ image left. (c.read_current.ensures.quiet.untouched name).no_other image left) (c.in_ok-sync.ensures.durable start) in
          let still = subst (λ o. IfSome o (λ log. Only log ((g.D.Disk.state c.read_current.new.disk).may_leave name))) (sym (quiet.untouched name).same) only in
          rw w.disk-is (kept_as at (g.D.Disk.state c.read_current.new.disk) name quiet.stays.same_name (settled _ _ at scan.batches still (rw w.disk-is at stands)))
    ]

pub returns-clause-batches : goal.returns-clause-batches
returns-clause-batches g c = scan_can c.in_ok-scan.scan c.deref.result.now c.in_ok-scan.ensures.scanned

pub returns-clause-alike : goal.returns-clause-alike
returns-clause-alike g c =
    let name = (g.D.Disk.state c.args.disk.now).asked in
    let synced = quiet_one c.sync.ensures.leaves in
    let quiet = quiet_join synced c.read_current.ensures.quiet in
    let current = c.in_ok-current.current in
    let read = told_before (λ o. IfSome o (IsRead current.half current.bytes.items)) synced c.in_ok-current.ensures.told in
    elim c.if-len-lt2.branch [
      | then-len-lt2+in_ok-write_synced w ↦
          let small : length current.bytes.items < 2 = omega (arith, w.if-len-lt2.true, c.len.ensures, current.bytes.ok) in
          let written = rw (quiet.untouched name).same at (rw quiet.stays.same_name at w.in_ok-write_synced.ensures.written) in
          rw w.disk-is (becomes_alike current.half _ _ (short_half current.half _ _ read small) (becomes_torn current.half _ _ written))
      | else-len-lt2 w ↦ rw w.disk-is (becomes_same _ _ (quiet.untouched name).same)
    ]

pub returns-clause-any_moment : goal.returns-clause-any_moment
returns-clause-any_moment g c honest =
    let name = (g.D.Disk.state c.args.disk.now).asked in
    let synced = quiet_one c.sync.ensures.leaves in
    let quiet = quiet_join synced c.read_current.ensures.quiet in
    let current = c.in_ok-current.current in
    let read = told_before (λ o. IfSome o (IsRead current.half current.bytes.items)) synced c.in_ok-current.ensures.told in
    let only = only_fewer _ _ _ (λ image left. (c.read_current.ensures.quiet.untouched name).no_other image left) (c.in_ok-sync.ensures.durable honest) in
    elim c.if-len-lt2.branch [
      | then-len-lt2+in_ok-write_synced w ↦
          let small : length current.bytes.items < 2 = omega (arith, w.if-len-lt2.true, c.len.ensures, current.bytes.ok) in
          let time = rw quiet.stays.same_name at w.write_synced.ensures.time in
          rw w.disk-is (torn_leaves _ _ (g.met.D.Disk.is_disk c.args.disk.now) current.half _ quiet time only (short_half current.half _ _ read small))
      | else-len-lt2 w ↦ rw w.disk-is (quiet_leaves _ _ (g.met.D.Disk.is_disk c.args.disk.now) quiet)
    ]

-- the other logs
pub returns-in_err-sync-clause-others : goal.returns-in_err-sync-clause-others
returns-in_err-sync-clause-others g c = others_quiet (quiet_one c.sync.ensures.leaves)

pub returns-in_err-current-clause-others : goal.returns-in_err-current-clause-others
returns-in_err-current-clause-others g c = others_quiet (quiet_join (quiet_one c.sync.ensures.leaves) c.read_current.ensures.quiet)

pub returns-in_err-scan-clause-others : goal.returns-in_err-scan-clause-others
returns-in_err-scan-clause-others g c = others_quiet (quiet_join (quiet_one c.sync.ensures.leaves) c.read_current.ensures.quiet)

pub returns-in_err-write_synced-clause-others : goal.returns-in_err-write_synced-clause-others
returns-in_err-write_synced-clause-others g c =
    others_join (others_quiet (quiet_join (quiet_one c.sync.ensures.leaves) c.read_current.ensures.quiet)) c.write_synced.ensures.others

pub returns-clause-others : goal.returns-clause-others
returns-clause-others g c =
    let quiet = quiet_join (quiet_one c.sync.ensures.leaves) c.read_current.ensures.quiet in
    elim c.if-len-lt2.branch [
      | then-len-lt2+in_ok-write_synced w ↦ rw w.disk-is (others_join (others_quiet quiet) w.write_synced.ensures.others)
      | else-len-lt2 w ↦ rw w.disk-is (others_quiet quiet)
    ]
