use Rattle.vp_top.proofs.Answering.{unread_told}
use Rattle.vp_top.proofs.Completing.{generated_within}
use Rattle.vp_words.specs.declared.words.Command.TheVariants as commands
use Rattle.vp_top.proofs.claims.schedules_are_generated.Goals as goal

pub returns : goal.returns
returns g c words seed count w within source source' link link' sink sink' disk disk' end e calm =
    unread_told words source source' _ (commands.Generate seed count) w (λ is. is) calm _ (λ bytes end text a. generated_within seed count within end text a) (λ is. is) (λ is. is) end e
