use Rattle.std.proofs.Common.{arith}
use Rattle.std.proofs.lemmas.Grind.{common_steps}
use Rattle.vp_model.specs.Catalogue.{name_of}
use Rattle.vp_trace.proofs.Printed.{no_text}
use Rattle.vp_trace.proofs.fields.print_record.Goals as goal

pub returns-in-None : goal.returns-in-None
returns-in-None c = no_text _ (name_of c.args.catalog.now c.args.rec) (grind (arith, common_steps))
