use Rattle.vp_top.proofs.Answering.{answer_told, no_disk}
use Rattle.vp_top.proofs.Completing.{played, replay_within}
use Rattle.vp_replay.specs.Replayed.{Gives}
use Rattle.vp_words.specs.declared.words.Command.TheVariants as commands
use Rattle.vp_top.proofs.claims.schedules_are_replayed.Goals as goal

pub returns : goal.returns
returns g c words bytes schedule w fits spelled within source source' link link' sink sink' disk disk' end e given =
    answer_told words source source' _ commands.Replay w tt bytes given fits _ (λ end text a. replay_within schedule within end text (played bytes Gives schedule spelled end text a)) (no_disk words source source' _ commands.Replay w (λ is. is)) end e
