-- The end of serving that each fault is.
use Rattle.vp_node.specs.declared.end.NodeEnd.{NodeEnd}
use Rattle.vp_node.specs.declared.end.NodeEnd.TheVariants as node_ends
use Rattle.vp_outside.specs.declared.sink.OutFault.{OutFault}
use Rattle.vp_outside.specs.declared.sink.OutFault.TheVariants as output
use Rattle.vp_serving.specs.declared.end.End.{End}
use Rattle.vp_serving.specs.declared.end.End.TheVariants as ends

abbrev pub end_of_node : NodeEnd → End
end_of_node node_ends.DiskFault = ends.DiskFault
end_of_node (node_ends.BadLog half at) = ends.BadLog half at
end_of_node (node_ends.LivesSpent life) = ends.LivesSpent life
end_of_node node_ends.NoMemory = ends.NoMemory

abbrev pub end_of_output : OutFault → End
end_of_output output.Failed = ends.WriteFault
end_of_output output.NoMemory = ends.NoMemory
