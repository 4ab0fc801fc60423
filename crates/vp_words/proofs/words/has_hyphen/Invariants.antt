use Rattle.vp_words.proofs.Hyphens.{StandsAt}
use Rattle.vp_words.proofs.words.has_hyphen.Given as goal

abbrev pub invariant-loop-text : goal.invariant-loop-text
invariant-loop-text l = StandsAt l.texts l.text-index
