use Rattle.std.proofs.Common.{sym, ap, ◌∙◌, ◌++◌, List, ℕ, ⊎_elim, inl, inr}
use Rattle.std.proofs.lemmas.List.{append-nil}
use Rattle.vp_replay.proofs.Values.{values_end}
use Rattle.vp_replay.proofs.check.print_values.Goals as goal

pub returns : goal.returns
returns c =
    let names = c.loop-name.name-iterator.a.rest.now in
    let values = c.loop-name.name-iterator.b.rest.now in
    let ended = values_end names values (⊎_elim (λ u. inl u.1.0) (λ u. inr u.1.0) c.in-None.ensures.steps) in
    sym (append-nil c.loop-name.out.items) ∙ ap (λ (x : List ℕ). c.loop-name.out.items ++ x) (sym ended) ∙ c.loop-name.invariant
