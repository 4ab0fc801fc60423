use Rattle.vp_top.proofs.Answering.{answer_told, no_disk}
use Rattle.vp_top.proofs.Completing.{played, logs_within}
use Rattle.vp_replay.specs.Logged.{Leaves}
use Rattle.vp_words.specs.declared.words.Command.TheVariants as commands
use Rattle.vp_top.proofs.claims.logs_are_told.Goals as goal

pub returns : goal.returns
returns g c words bytes schedule w fits spelled within source source' link link' sink sink' disk disk' end e given =
    answer_told words source source' _ commands.Logs w tt bytes given fits _ (λ end text a. logs_within schedule within end text (played bytes Leaves schedule spelled end text a)) (no_disk words source source' _ commands.Logs w (λ is. is)) end e
