-- The place that a fault names, unless it is want of memory.
use Rattle.std.specs.Prelude.{ℕ, Option, Some, None}
use Rattle.vp_base.specs.declared.fault.BadName.{BadName}
use Rattle.vp_base.specs.declared.fault.NameFault.{NameFault}
use Rattle.vp_base.specs.declared.fault.NameFault.TheVariants as faults
use Rattle.vp_base.specs.declared.fault.LineFault.{LineFault}
use Rattle.vp_base.specs.declared.fault.LineFault.TheVariants as line_faults

-- how many bytes of the text begin a word
abbrev pub bad_place : BadName → Option ℕ
bad_place e = Some e.at

-- the same for the faults of names and values
abbrev pub name_place : NameFault → Option ℕ
name_place (faults.BadName at) = Some at
name_place faults.NoMemory = None

-- how many bytes are left at the fault of a line
abbrev pub line_left : LineFault → Option ℕ
line_left (line_faults.Unexpected e) = Some e.left
line_left line_faults.NoMemory = None
