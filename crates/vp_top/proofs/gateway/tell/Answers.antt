use Rattle.vp_catalog.specs.declared.fault.CatalogFault.TheVariants as faults
use Rattle.vp_top.proofs.Sessions.{refusal_told}
use Rattle.vp_top.proofs.gateway.tell.Goals as goal

pub returns-in-Twice : goal.returns-in-Twice
returns-in-Twice g c =
    rw c.in-Twice.is (refusal_told (g.K.Sink.state c.args.sink.now) (g.K.Sink.state c.print_line-in-Twice.new.sink) c.print_line-in-Twice.result (faults.Twice c.in-Twice.line)
    c.refused-in-Twice.result c.refused-in-Twice.ensures c.print_line-in-Twice.ensures)
