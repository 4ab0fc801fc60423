-- The end of a gateway that a result or a fault becomes.
use Rattle.std.specs.Prelude.{Result, Ok, Err}
use Rattle.vp_catalog.specs.declared.fault.CatalogFault.{CatalogFault}
use Rattle.vp_catalog.specs.declared.fault.CatalogFault.TheVariants as lines
use Rattle.vp_outside.specs.declared.source.InputFault.{InputFault}
use Rattle.vp_outside.specs.declared.source.InputFault.TheVariants as input
use Rattle.vp_outside.specs.declared.sink.OutFault.{OutFault}
use Rattle.vp_outside.specs.declared.sink.OutFault.TheVariants as output
use Rattle.vp_gateway.specs.declared.end.GateEnd.{GateEnd}
use Rattle.vp_gateway.specs.declared.end.GateEnd.TheVariants as ends

-- the end of a session that goes on to the end of its input, or is broken off
abbrev pub end_of : {T : Type 0} → Result T GateEnd → GateEnd
end_of (Ok it) = ends.Done
end_of (Err end) = end

abbrev pub end_of_input : InputFault → GateEnd
end_of_input input.Failed = ends.ReadFault
end_of_input input.TooLong = ends.Limit
end_of_input input.NoMemory = ends.NoMemory

abbrev pub end_of_output : OutFault → GateEnd
end_of_output output.Failed = ends.WriteFault
end_of_output output.NoMemory = ends.NoMemory

abbrev pub end_of_catalog : CatalogFault → GateEnd
end_of_catalog (lines.BadLine line at) = ends.BadLine line at
end_of_catalog (lines.Twice line) = ends.Twice line
end_of_catalog (lines.TooMany line limit) = ends.TooMany line limit
end_of_catalog lines.NoMemory = ends.NoMemory
