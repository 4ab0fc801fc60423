-- How a world that ends, ends a merge.
use Rattle.std.specs.Prelude.{◌≡◌, ⊤, Option, Some, None, Result, Ok, Err}
use Rattle.vp_model.specs.Types.{Counted}
use Rattle.vp_world.specs.declared.end.WorldEnd.{WorldEnd}
use Rattle.vp_world.specs.declared.end.WorldEnd.TheVariants as end
use Rattle.vp_world.specs.Limits.{limit_of}
use Rattle.vp_merge.specs.declared.fault.MergeFault.{MergeFault}
use Rattle.vp_merge.specs.declared.fault.MergeFault.TheVariants as faults

abbrev pub fault_of : WorldEnd → MergeFault
fault_of (end.Limit what limit) = faults.Limit what limit
fault_of end.NoMemory = faults.NoMemory

-- a limit is reported exactly where one is exceeded, and no other fault but want of memory
abbrev pub Ends : {A : Type 0} → Option Counted → Result A MergeFault → Type 0
Ends exceeded (Ok a) = exceeded ≡ None
Ends exceeded (Err (faults.Limit what limit)) = (exceeded ≡ Some what) × (limit ≡ limit_of what)
Ends exceeded (Err (faults.Unsent site turn)) = ⊥
Ends exceeded (Err (faults.Differs site turn)) = ⊥
Ends exceeded (Err faults.NoMemory) = ⊤
