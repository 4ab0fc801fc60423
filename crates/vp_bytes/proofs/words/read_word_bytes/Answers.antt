use Rattle.std.proofs.Common.{take, drop}
use Rattle.vp_bytes.proofs.Items.{word_allowed}
use Rattle.vp_bytes.proofs.words.read_word_bytes.Goals as goal

pub returns-clause-allowed : goal.returns-clause-allowed
returns-clause-allowed c = λ some short.
    word_allowed c.args.class c.args.count c.rest-rest.result.now (take c.args.count c.rest-rest.result.now) (drop c.args.count c.rest-rest.result.now) some short c.in_ok-check_word.ensures.read
