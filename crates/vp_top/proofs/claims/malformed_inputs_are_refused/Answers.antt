use Rattle.vp_top.proofs.Answering.{answer_told}
use Rattle.vp_top.proofs.Completing.{fault_told, text_reads, no_disk_on}
use Rattle.vp_top.specs.Complete.{TellsFaultOf}
use Rattle.vp_top.proofs.claims.malformed_inputs_are_refused.Goals as goal

pub returns : goal.returns
returns g c words bytes command w fits none source source' link link' sink sink' disk disk' end e given =
    answer_told words source source' _ command w (text_reads command bytes none) bytes given fits (TellsFaultOf command bytes) (fault_told bytes link link' command none)
    (λ end n. no_disk_on words source source' _ command w bytes given none end n) end e
