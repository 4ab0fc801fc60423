-- How the command ends that reports what stopped sites hold: the logs that were read, and what was defined for them.
use Rattle.std.specs.Prelude.{◌≡◌, ◌↔◌, ℕ, List, [], ◌∷◌, ◌++◌, Option, Some, Result, Ok, Err, IfSome}
use Rattle.vp_model.specs.Types.{LogRecord}
use Rattle.vp_model.specs.Catalogue.{Catalogue}
use Rattle.vp_model.specs.Durable.{DurableState}
use Rattle.vp_outside.specs.Causes.{Rose}
use Rattle.vp_outside.specs.Disk.{DiskState, Untouched, Elapses}
use Rattle.vp_stable.specs.Halves.{HaveBatches, AreBadLog}
use Rattle.vp_stable.specs.declared.fault.LogFault.{LogFault}
use Rattle.vp_stable.specs.declared.fault.LogFault.TheVariants as faults
use Rattle.vp_runs.specs.Keeping.{durable_in}
use Rattle.vp_audit.specs.Audited.{Parts, audit_of}
use Rattle.vp_audit.specs.Lines.{report_text}
use Rattle.vp_audit.specs.True.{IsTrueReport}
use Rattle.vp_status.specs.Lines.{bad_log_text, disk_fault_text}
use Rattle.vp_status.specs.declared.status.Status.{Status}
use Rattle.vp_status.specs.declared.status.Status.TheVariants as status

-- No log changed, and a crash leaves of each what it might have left before.
pub record KeepsLogs (old new : DiskState) : Type 0 where
  pub as_honest : old.honest ↔ new.honest
  pub untouched : (log : Option (List ℕ)) → Untouched log old new
  pub time : (log : Option (List ℕ)) → Elapses log old new (old.may_leave log)

module _ (catalogue : Catalogue) (disk : DiskState) where
  -- The durable part of the site is what the batches of its log make, if the disk has the log.
  pub record IsPart (log : ℕ × List ℕ) (part : ℕ × DurableState) : Type 0 where
    pub site : part.0 ≡ log.0
    pub batches : List (List LogRecord)
    pub had : IfSome (disk.logs (Some log.1)) (HaveBatches batches)
    pub is : part.1 ≡ durable_in catalogue log.0 batches

  -- this holds of each log, in their order
  abbrev pub AreParts : List (ℕ × List ℕ) → Parts → Type 0
  AreParts [] [] = Unit {0}
  AreParts (log ∷ logs) (part ∷ parts) = IsPart log part × AreParts logs parts
  AreParts _ _ = ⊥

  -- Those before this log were read.
  pub record ComesTo (logs : List (ℕ × List ℕ)) (log : ℕ × List ℕ) : Type 0 where
    pub before : List (ℕ × List ℕ)
    pub following : List (ℕ × List ℕ)
    pub all : logs ≡ before ++ log ∷ following
    pub parts : Parts
    pub read : AreParts before parts

module _ (catalogue : Catalogue) (logs : List (ℕ × List ℕ)) (old new : DiskState) where
  -- Those before some log were read, and this holds of it.
  abbrev pub AtOne : (ℕ × List ℕ → Type 0) → Type 0
  AtOne P = (log : ℕ × List ℕ) × ComesTo catalogue old logs log × P log

  -- this log is damaged, at this byte of the half
  abbrev pub IsBad : ℕ → ℕ → ℕ × List ℕ → Type 0
  IsBad half at log = IfSome (old.logs (Some log.1)) (AreBadLog half at)

  -- the disk failed at this log
  abbrev pub IsFailed : ℕ × List ℕ → Type 0
  IsFailed log = (new.asked ≡ Some log.1) × Rose old.faults new.faults

  -- where reading the logs stops
  abbrev pub StopsBy : Result Parts LogFault → Type 0
  StopsBy (Ok parts) = AreParts catalogue old logs parts
  StopsBy (Err (faults.BadLog half at)) = AtOne (IsBad half at)
  StopsBy (Err faults.DiskFault) = AtOne IsFailed
  StopsBy (Err faults.NoMemory) = Unit {0}

  -- All logs were read, and this is the report on the durable parts of the sites. It is true of each schedule that left them like this.
  pub record IsReported (text : List ℕ) : Type 0 where
    pub parts : Parts
    pub read : AreParts catalogue old logs parts
    pub text_is : text ≡ report_text catalogue (audit_of catalogue parts)
    pub is_true : IsTrueReport catalogue parts (audit_of catalogue parts)

  -- the text at each status
  abbrev pub AuditGives : Status → List ℕ → Type 0
  AuditGives status.Done text = IsReported text
  AuditGives status.BadLog text = (half : ℕ) × (at : ℕ) × AtOne (IsBad half at) × (text ≡ bad_log_text half at)
  AuditGives status.DiskFault text = AtOne IsFailed × (text ≡ disk_fault_text)
  AuditGives _ text = ⊥
