use Rattle.vp_words.proofs.Pairs.{StandsAt}
use Rattle.vp_words.proofs.words.pairs.Given as goal

abbrev pub invariant-loop-word : goal.invariant-loop-word
invariant-loop-word l = StandsAt l.words l.named l.last l.logs l.word-index
