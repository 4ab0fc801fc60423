-- What the faults of a log say, and their causes.
use Rattle.std.specs.Prelude.{ℕ, ◌≡◌, ◌≤◌, Result, OnOk, IsErrOf}
use Rattle.vp_outside.specs.Causes.{Rose}
use Rattle.vp_outside.specs.declared.sink.OutFault.{OutFault}
use Rattle.vp_outside.specs.declared.sink.OutFault.TheVariants as out
use Rattle.vp_stable.specs.declared.fault.LogFault.{LogFault}
use Rattle.vp_stable.specs.declared.fault.LogFault.TheVariants as log
use Rattle.vp_stable.specs.declared.fault.AppendFault.{AppendFault}
use Rattle.vp_stable.specs.declared.fault.AppendFault.TheVariants as append

abbrev pub log_fault : OutFault → LogFault
log_fault out.Failed = log.DiskFault
log_fault out.NoMemory = log.NoMemory

abbrev pub append_fault : OutFault → AppendFault
append_fault out.Failed = append.DiskFault
append_fault out.NoMemory = append.NoMemory

-- The disk's count of failures rose where the error is DiskFault, and otherwise is as it was.
pub record HasLogCause {T : Type 0} (before now : ℕ) (result : Result T LogFault) : Type 0 where
  pub later : before ≤ now
  pub failed : IsErrOf result log.DiskFault → Rose before now
  pub ok : OnOk result (now ≡ before)
  pub bad_log : (half at : ℕ) → IsErrOf result (log.BadLog half at) → now ≡ before
  pub no_memory : IsErrOf result log.NoMemory → now ≡ before

pub record HasAppendCause {T : Type 0} (before now : ℕ) (result : Result T AppendFault) : Type 0 where
  pub later : before ≤ now
  pub failed : IsErrOf result append.DiskFault → Rose before now
  pub ok : OnOk result (now ≡ before)
  pub no_memory : IsErrOf result append.NoMemory → now ≡ before
