-- The place that a fault names, unless it is want of memory.
use Rattle.std.specs.Prelude.{ℕ, Option, Some, None}
use Rattle.vp_wire.specs.declared.fault.WireFault.{WireFault}
use Rattle.vp_wire.specs.declared.fault.WireFault.TheVariants as faults

-- how many bytes begin a frame
abbrev pub wire_place : WireFault → Option ℕ
wire_place (faults.BadFrame at) = Some at
wire_place faults.NoMemory = None
