use Rattle.vp_top.proofs.Answering.{answer_told, no_disk}
use Rattle.vp_top.proofs.Procedures.{run_told, missing_told}
use Rattle.vp_top.specs.Procedures.{ProcedureGives}
use Rattle.vp_words.specs.declared.words.Command.TheVariants as commands
use Rattle.vp_top.proofs.claims.procedures_are_run.Goals as goal

pub returns : goal.returns
returns g c = record {
  run = λ words own turns site port bytes it w fits spelled there source source' link link' sink sink' disk disk' end e given.
      answer_told words source source' _ (commands.Proc own turns site) w tt bytes given fits (ProcedureGives own turns port site it.procedure link link')
      (λ end text a. run_told own turns site bytes link link' it spelled port there end text a) (no_disk words source source' _ (commands.Proc own turns site) w (λ is. is)) end e;
  missing = λ words own turns site bytes it w fits spelled none source source' link link' sink sink' disk disk' end e given.
      answer_told words source source' _ (commands.Proc own turns site) w tt bytes given fits _
      (λ end text a. missing_told own turns site bytes link link' it spelled none end text a) (no_disk words source source' _ (commands.Proc own turns site) w (λ is. is)) end e;
}
