use Rattle.std.proofs.Common.{arith}
use Rattle.vp_contents.proofs.values.read_word.Goals as goal

pub returns-clause-allowed : goal.returns-clause-allowed
returns-clause-allowed c =
    c.read_word_bytes.ensures.allowed (omega (arith, c.from-count.ensures, c.in_ok-read_length.ensures.range.0)) (omega (arith, c.from-count.ensures, c.in_ok-read_length.ensures.range.1))
