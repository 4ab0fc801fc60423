-- What a plan of failing calls says of a call.
use Rattle.std.specs.Prelude.{◌≡◌, ◌==◌, ◌↔◌, ◌⊎◌, ℕ, ◌-◌, length, if◌then◌else◌, Contains, Option, Some, None, option_map, Result, OnOk, IsErrOf}
use Rattle.std.specs.Global.{Vec}
use Rattle.vp_outside.specs.Causes.{count_after}
use Rattle.vp_outside.specs.declared.fault_plan.FaultPlan.{FaultPlan}
use Rattle.vp_outside.specs.declared.sink.OutFault.{OutFault}
use Rattle.vp_outside.specs.declared.sink.OutFault.TheVariants.{Failed, NoMemory}

-- the plan in which these calls are to fail, before the first call
abbrev pub new_plan : Vec ℕ → FaultPlan
new_plan failing = record { failing = failing; calls = 0; faults = 0; until_stop = None }

-- how many calls are left before the stop, after one of them
abbrev pub one_nearer : Option ℕ → Option ℕ
one_nearer until_stop = option_map (λ calls. calls - 1) until_stop

-- how many calls are left before the stop, where no other call is to fail
abbrev pub stop_of : FaultPlan → Option ℕ
stop_of plan = if length plan.failing.items == 0 then plan.until_stop else None

-- the next call is to fail: its number is in the plan, or the stop has come
abbrev pub FailsNext : FaultPlan → Type 0
FailsNext plan = Contains plan.failing.items (count_after plan.calls 1) ⊎ (plan.until_stop ≡ Some 0)

-- the plan after a call that is done
abbrev pub pass_call : FaultPlan → FaultPlan
pass_call plan = record plan { calls = count_after plan.calls 1; until_stop = one_nearer plan.until_stop }

-- the plan after a call that failed
abbrev pub fail_call : FaultPlan → FaultPlan
fail_call plan = record plan { calls = count_after plan.calls 1; faults = count_after plan.faults 1; until_stop = one_nearer plan.until_stop }

-- A call was counted, and it failed exactly where it was to fail.
pub record CountsCall (old new : FaultPlan) (failed : Type 0) : Type 0 where
  pub same_plan : new.failing ≡ old.failing
  pub counted : new.calls ≡ count_after old.calls 1
  pub nearer : new.until_stop ≡ one_nearer old.until_stop
  pub planned : failed ↔ FailsNext old

-- A call was counted as done or as failed, or not at all where it lacked memory. A call that is to fail isn't done.
pub record GoesByPlan {T : Type 0} (old new : FaultPlan) (result : Result T OutFault) : Type 0 where
  pub done : OnOk result (new ≡ pass_call old)
  pub not_planned : OnOk result (FailsNext old → ⊥)
  pub fault : IsErrOf result Failed → new ≡ fail_call old
  pub no_memory : IsErrOf result NoMemory → new ≡ old
