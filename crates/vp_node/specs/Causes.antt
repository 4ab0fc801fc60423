-- The causes of the ends of a node.
use Rattle.std.specs.Prelude.{ℕ, ◌≡◌, ◌≤◌, ◌⊎◌, Result, OnOk, IfErr, IsErrOf}
use Rattle.vp_outside.specs.Causes.{Rose}
use Rattle.vp_site.specs.declared.fault.StartFault.{StartFault}
use Rattle.vp_site.specs.declared.fault.StartFault.TheVariants as start
use Rattle.vp_stable.specs.declared.fault.LogFault.{LogFault}
use Rattle.vp_stable.specs.declared.fault.LogFault.TheVariants as log
use Rattle.vp_stable.specs.declared.fault.AppendFault.{AppendFault}
use Rattle.vp_stable.specs.declared.fault.AppendFault.TheVariants as append
use Rattle.vp_node.specs.declared.end.NodeEnd.{NodeEnd}
use Rattle.vp_node.specs.declared.end.NodeEnd.TheVariants as ends

abbrev pub end_of_log : LogFault → NodeEnd
end_of_log log.DiskFault = ends.DiskFault
end_of_log (log.BadLog half at) = ends.BadLog half at
end_of_log log.NoMemory = ends.NoMemory

abbrev pub end_of_start : StartFault → NodeEnd
end_of_start (start.LivesSpent life) = ends.LivesSpent life
end_of_start start.NoMemory = ends.NoMemory

abbrev pub end_of_append : AppendFault → NodeEnd
end_of_append append.DiskFault = ends.DiskFault
end_of_append append.NoMemory = ends.NoMemory

-- The disk's count of failures rose if the end is DiskFault, and stayed as it was at any other.
pub record HasNodeCause {T : Type 0} (before now : ℕ) (result : Result T NodeEnd) : Type 0 where
  pub later : before ≤ now
  pub failed : IsErrOf result ends.DiskFault → Rose before now
  pub ok : OnOk result (now ≡ before)
  pub bad_log : (half at : ℕ) → IsErrOf result (ends.BadLog half at) → now ≡ before
  pub lives_spent : (life : ℕ) → IsErrOf result (ends.LivesSpent life) → now ≡ before
  pub no_memory : IsErrOf result ends.NoMemory → now ≡ before

-- a turn ends a node only if its disk fails or memory runs out
abbrev pub EndsInTurn : {T : Type 0} → Result T NodeEnd → Type 0
EndsInTurn result = IfErr result (λ e. (e ≡ ends.DiskFault) ⊎ (e ≡ ends.NoMemory))

-- it ends because memory runs out or its lives are spent
abbrev pub EndsWithoutDisk : {T : Type 0} → Result T NodeEnd → Type 0
EndsWithoutDisk result = IfErr result (λ e. (e ≡ ends.NoMemory) ⊎ ((life : ℕ) × (e ≡ ends.LivesSpent life)))
