-- What one more event adds to a run and to its trace.
use Rattle.std.proofs.Common.{◌≡◌, ℕ, ◌+◌, List, [], ◌∷◌, ◌++◌, length, ap, ◌∙◌, arith}
use Rattle.vp_model.specs.Types.{Event}
use Rattle.vp_model.specs.Catalogue.{Catalogue}
use Rattle.vp_model.specs.World.{Run, one_event, run_from}

pub run_from-more : (catalogue : Catalogue) (n : ℕ) (events : List Event) (e : Event) (run : Run) → run_from catalogue n (events ++ e ∷ []) run ≡ one_event catalogue (n + length events) e (run_from catalogue n events run)
unfolding run_from
run_from-more catalogue n [] e run = ap (λ k. one_event catalogue k e run) (omega arith)
run_from-more catalogue n (x ∷ events) e run =
    run_from-more catalogue (n + 1) events e (one_event catalogue n x run)
    ∙ ap (λ k. one_event catalogue k e (run_from catalogue (n + 1) events (one_event catalogue n x run))) (omega arith)
