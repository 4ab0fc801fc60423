-- Logs that are read one after the other.
use Rattle.std.proofs.Common.{◌≡◌, ◌∙◌, ◌≤◌, ◌<◌, ◌+◌, ℕ, List, [], ◌∷◌, ◌++◌, length, get_or, take, drop, refl, sym, ap, subst, arith}
use Rattle.std.specs.Prelude.{Option, Some, None, Result, Ok, Err, IfOk, IfSome}
use Rattle.std.proofs.lemmas.List.{take-append-drop, take_more, drop_more}
use Rattle.vp_model.specs.Types.{LogRecord}
use Rattle.vp_model.specs.Catalogue.{Catalogue}
use Rattle.vp_model.specs.Durable.{DurableState}
use Rattle.vp_outside.specs.Causes.{Rose}
use Rattle.vp_outside.specs.Disk.{Halves, DiskState, log_of}
use Rattle.vp_outside.specs.DiskCalls.{Attaches}
use Rattle.vp_outside.specs.declared.sink.OutFault.{OutFault}
use Rattle.vp_stable.specs.Halves.{HaveBatches, AreBadLog, Peeks}
use Rattle.vp_stable.specs.Moments.{Quiet}
use Rattle.vp_stable.specs.declared.fault.LogFault.{LogFault}
use Rattle.vp_stable.specs.declared.fault.LogFault.TheVariants as faults
use Rattle.vp_stable.proofs.Times.{elapses_as, elapses_none, elapses_then}
use Rattle.vp_runs.specs.Keeping.{durable_in}
use Rattle.vp_audit.specs.Audited.{Parts}
use Rattle.vp_top.specs.Audits.{AreParts, AuditGives, ComesTo, IsPart, KeepsLogs, StopsBy}
use Rattle.vp_base.specs.declared.memory.NoMemory.{NoMemory}
use Rattle.vp_status.specs.declared.status.RunOutput.{RunOutput}
use Rattle.vp_status.specs.declared.status.Status.{Status}

-- ---- calls that change no log

pub keeps_none : (disk : DiskState) → KeepsLogs disk disk
keeps_none disk = record {
  as_honest = (λ h. h, λ h. h);
  untouched = λ log. record { same = refl; no_other = λ image h. h };
  time = λ log. elapses_none log disk (disk.may_leave log);
}

pub keeps_then : (a b c : DiskState) → KeepsLogs a b → KeepsLogs b c → KeepsLogs a c
keeps_then a b c first second = record {
  as_honest = (λ h. second.as_honest.0 (first.as_honest.0 h), λ h. first.as_honest.1 (second.as_honest.1 h));
  untouched = λ log. record {
    same = (second.untouched log).same ∙ (first.untouched log).same;
    no_other = λ image h. (first.untouched log).no_other image ((second.untouched log).no_other image h);
  };
  time = λ log. elapses_then log a b c _ _ _ (first.time log) (second.time log) (λ image h. h) (λ image h. (first.untouched log).no_other image h);
}

pub keeps_attached : (name : List ℕ) (old new : DiskState) (r : Result (Unit {0}) OutFault) → Attaches name old new r → KeepsLogs old new
keeps_attached name old new r a = record {
  as_honest = a.goes_on.honest;
  untouched = a.untouched;
  time = λ log. elapses_as log old new _ _ (a.goes_on.time log) (λ image h. (a.untouched log).no_other image h);
}

pub keeps_quiet : (old new : DiskState) → Quiet old new → KeepsLogs old new
keeps_quiet old new q = record { as_honest = q.as_honest; untouched = q.untouched; time = q.time }

-- ---- one log

-- what is read of the attached log holds of the log of that name before
pub read_attached : (name : List ℕ) (old new : DiskState) (t : Unit {0}) (P : Halves → Type 0) → Attaches name old new (Ok t) → IfSome (log_of new) P → IfSome (old.logs (Some name)) P
read_attached name old new t P a h = subst (λ (o : Option Halves). IfSome o P) (ap new.logs (a.asked (λ q. cc)) ∙ (a.untouched (Some name)).same) h

pub always : (o : Option Halves) (P : Halves → Type 0) → ((log : Halves) → P log) → IfSome o P
always None P h = tt
always (Some log) P h = h log

-- ---- the logs

module _ (catalogue : Catalogue) (disk : DiskState) where
  pub one_more : (logs : List (ℕ × List ℕ)) (parts : Parts) (log : ℕ × List ℕ) (part : ℕ × DurableState) → AreParts catalogue disk logs parts → IsPart catalogue disk log part
      → AreParts catalogue disk (logs ++ log ∷ []) (parts ++ part ∷ [])
  one_more [] [] log part are is = (is, tt)
  one_more [] (p ∷ parts) log part are is = absurd are
  one_more (l ∷ logs) [] log part are is = absurd are
  one_more (l ∷ logs) (p ∷ parts) log part are is = (are.0, one_more logs parts log part are.1 is)

module _ (catalogue : Catalogue) (logs : List (ℕ × List ℕ)) (i : ℕ) (log : ℕ × List ℕ) (lt : i < length logs) (at : log ≡ get_or logs i log) (old mid new : DiskState) (parts : Parts)
    (are : AreParts catalogue old (take i logs) parts) (kept : KeepsLogs old mid) (later : old.faults ≤ mid.faults) where
  -- what holds of a log in between holds of it at the beginning
  told_first : (P : Halves → Type 0) → IfSome (mid.logs (Some log.1)) P → IfSome (old.logs (Some log.1)) P
  told_first P h = subst (λ (o : Option Halves). IfSome o P) (kept.untouched (Some log.1)).same h

  taken : take (i + 1) logs ≡ take i logs ++ log ∷ []
  taken = take_more logs i log lt ∙ ap (λ (l : ℕ × List ℕ). take i logs ++ l ∷ []) (sym at)

  comes : ComesTo catalogue old logs log
  comes = record {
    before = take i logs;
    following = drop (i + 1) logs;
    all = sym (take-append-drop i logs) ∙ ap (λ (l : List (ℕ × List ℕ)). take i logs ++ l) (drop_more logs i log lt ∙ ap (λ (l : ℕ × List ℕ). l ∷ drop (i + 1) logs) (sym at));
    parts = parts;
    read = are;
  }

  -- the log has batches
  pub goes_on : (batches : List (List LogRecord)) (part : ℕ × DurableState) → IfSome (mid.logs (Some log.1)) (HaveBatches batches) → part ≡ (log.0, durable_in catalogue log.0 batches)
      → AreParts catalogue old (take (i + 1) logs) (parts ++ part ∷ [])
  goes_on batches part had is =
      subst (λ (l : List (ℕ × List ℕ)). AreParts catalogue old l (parts ++ part ∷ [])) (sym taken)
      (one_more catalogue old (take i logs) parts log part are (record { site = ap (λ p. p.0) is; batches = batches; had = told_first (HaveBatches batches) had; is = ap (λ p. p.1) is }))

  -- it is damaged, or the disk failed
  pub stops : (fault given : LogFault) → given ≡ fault → IfSome (mid.logs (Some log.1)) (λ halves. Peeks halves (Err fault))
      → (fault ≡ faults.DiskFault → (new.asked ≡ Some log.1) × Rose mid.faults new.faults) → StopsBy catalogue logs old new (Err given)
  stops fault given is read failed = subst (λ (f : LogFault). StopsBy catalogue logs old new (Err f)) (sym is) (by fault read failed)
    where
      by : (fault : LogFault) → IfSome (mid.logs (Some log.1)) (λ halves. Peeks halves (Err fault)) → (fault ≡ faults.DiskFault → (new.asked ≡ Some log.1) × Rose mid.faults new.faults)
          → StopsBy catalogue logs old new (Err fault)
      by faults.DiskFault read failed = let f = failed refl in (log, comes, (f.0, let rose = f.1 in omega (arith, later, rose)))
      by (faults.BadLog half place) read failed = (log, comes, told_first (AreBadLog half place) read)
      by faults.NoMemory read failed = tt

-- ---- what is defined for them

module _ (catalogue : Catalogue) (logs : List (ℕ × List ℕ)) (old new : DiskState) where
  pub gives_so : (end : Status) (text : List ℕ) (r : Result RunOutput NoMemory) → AuditGives catalogue logs old new end text → IfOk r (λ it. it.status ≡ end) → IfOk r (λ it. it.text.items ≡ text)
      → IfOk r (λ it. AuditGives catalogue logs old new it.status it.text.items)
  gives_so end text (Ok it) g ends texts =
      subst (λ (s : Status). AuditGives catalogue logs old new s it.text.items) (sym ends) (subst (λ (t : List ℕ). AuditGives catalogue logs old new end t) (sym texts) g)
  gives_so end text (Err e) g ends texts = tt
