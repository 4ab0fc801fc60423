use Rattle.vp_top.proofs.Answering.{limit_told}
use Rattle.vp_top.proofs.claims.long_inputs_are_refused.Goals as goal

pub returns : goal.returns
returns g c words bytes reads many source source' link link' sink sink' disk disk' end e given = limit_told words source source' _ reads.0 reads.1 reads.2 bytes given many end e
