use Rattle.vp_merge.specs.Lives.{Lives}
use Rattle.vp_merge.proofs.lives.start_lives.Given as goal

abbrev pub invariant-loop : goal.invariant-loop
invariant-loop l = Lives l.site l.counter l.fn.played l.played
