use Rattle.std.proofs.Common.{arith}
use Rattle.std.proofs.lemmas.Grind.{common_steps}
use Rattle.vp_model.specs.Texts.Fields.{sites_text}
use Rattle.vp_trace.proofs.Printed.{no_text}
use Rattle.vp_trace.proofs.fields.print_sites.Goals as goal

pub returns-in-None : goal.returns-in-None
returns-in-None c = no_text _ (sites_text c.args.sites.now) (grind (arith, common_steps))
