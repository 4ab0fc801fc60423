use Rattle.vp_top.specs.Asked.{ClientGives}
use Rattle.vp_top.proofs.Answering.{answer_told, no_disk}
use Rattle.vp_top.proofs.Completing.{at_port}
use Rattle.vp_words.specs.declared.words.Command.TheVariants as commands
use Rattle.vp_top.proofs.claims.answers_are_printed.Goals as goal

pub returns : goal.returns
returns g c words own turns site port call bytes catalogue left a w fits answered there is source source' link link' sink sink' disk disk' end e linked =
    answer_told words source source' _ (commands.Client own turns site call) w tt bytes linked.0.0 fits _
    (λ end text told. c.answers_are_told.ensures own turns port site call link link' end text left a (at_port bytes site link link' (λ port. ClientGives own turns port site call link link') catalogue answered port there end text told) linked.0.1 linked.1 is)
    (no_disk words source source' _ (commands.Client own turns site call) w (λ is. is)) end e
