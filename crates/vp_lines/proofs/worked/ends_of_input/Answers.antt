use Rattle.std.proofs.Common.{◌∙◌, ℕ, List, ap, take}
use Rattle.vp_lines.specs.Ahead.{rest_found}
use Rattle.vp_lines.proofs.worked.ends_of_input.Goals as goal

pub returns-clause-within : goal.returns-clause-within
returns-clause-within c old new line source source' found h e = (h.kept ∙ ap (λ (l : List ℕ). take 4097 l) e, h.is ∙ ap rest_found e)

pub returns-clause-after : goal.returns-clause-after
returns-clause-after c old new line source source' found h e = (h.kept ∙ ap (λ (l : List ℕ). take 4097 l) e, h.is ∙ ap rest_found e)
