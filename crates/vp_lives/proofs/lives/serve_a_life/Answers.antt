use Rattle.vp_lives.proofs.Served.{lives_in}
use Rattle.vp_lives.proofs.lives.serve_a_life.Goals as goal

pub returns : goal.returns
returns g c = record { served = c.serve.ensures.served; lives = lives_in c.halves_are_one_log.ensures.batches c.runs_are_handed_over.ensures _ _ _ _ _ c.serve.ensures.served }
