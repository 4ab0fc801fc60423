use Rattle.vp_top.proofs.Answering.{answer_told}
use Rattle.vp_top.proofs.Audits.{audit_ends, none_audited}
use Rattle.vp_top.proofs.Completing.{lacking_told}
use Rattle.vp_words.specs.declared.words.Command.TheVariants as commands
use Rattle.vp_top.proofs.claims.logs_are_audited.Goals as goal

pub returns : goal.returns
returns g c = record {
  audited = λ words logs bytes catalogue w fits answered there source source' link link' sink sink' disk disk' end e given calm.
      audit_ends words logs bytes catalogue w answered source source' _ given calm fits there end e;
  missing = λ words logs bytes catalogue w fits answered lacks source source' link link' sink sink' disk disk' end e given.
      answer_told words source source' _ (commands.Audit logs) w tt bytes given fits _ (λ end text a. lacking_told bytes logs catalogue answered end text a.0)
      (none_audited words logs bytes catalogue w answered source source' _ given lacks) end e;
}
