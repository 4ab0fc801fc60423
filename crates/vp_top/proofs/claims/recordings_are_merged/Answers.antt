use Rattle.vp_top.proofs.Answering.{answer_told, no_disk}
use Rattle.vp_top.proofs.Merges.{merge_told}
use Rattle.vp_top.specs.Merges.{MergeGives}
use Rattle.vp_words.specs.declared.words.Command.TheVariants as commands
use Rattle.vp_top.proofs.claims.recordings_are_merged.Goals as goal

pub returns : goal.returns
returns g c words bytes it w fits spelled source source' link link' sink sink' disk disk' end e given =
    answer_told words source source' _ commands.Merge w tt bytes given fits (MergeGives it) (merge_told bytes it spelled) (no_disk words source source' _ commands.Merge w (λ is. is)) end e
