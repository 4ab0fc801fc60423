use Rattle.vp_top.proofs.Answering.{answer_told, no_disk}
use Rattle.vp_top.proofs.Completing.{checked}
use Rattle.vp_replay.specs.Checked.{IsVerdict}
use Rattle.vp_words.specs.declared.words.Command.TheVariants as commands
use Rattle.vp_top.proofs.claims.histories_are_checked.Goals as goal

pub returns : goal.returns
returns g c words bytes history w fits spelled source source' link link' sink sink' disk disk' end e given =
    answer_told words source source' _ commands.Check w tt bytes given fits (IsVerdict history) (checked bytes history spelled) (no_disk words source source' _ commands.Check w (λ is. is)) end e
