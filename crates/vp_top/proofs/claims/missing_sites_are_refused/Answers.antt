use Rattle.vp_top.proofs.Answering.{answer_told}
use Rattle.vp_top.proofs.Completing.{missing_told, site_reads, no_disk_at}
use Rattle.vp_top.proofs.claims.missing_sites_are_refused.Goals as goal

pub returns : goal.returns
returns g c words site bytes catalogue command w at fits answered missing source source' link link' sink sink' disk disk' end e given =
    answer_told words source source' _ command w (site_reads command site at) bytes given fits _ (missing_told bytes link link' catalogue answered site missing command at)
    (λ end n. no_disk_at words source source' _ command w bytes given site at catalogue answered missing end n) end e
