use Rattle.std.proofs.Common.{◌≡◌, ◌∙◌, ℕ, List, Option, ap, refl}
use Rattle.vp_model.specs.Words.{value_at}
use Rattle.vp_model.specs.Transactions.{last_put, last_writes}
use Rattle.vp_coordinator.proofs.final_writes.change_of.Goals as goal

pub returns : goal.returns
returns c =
    let put : c.in_ok-last_put.field-0 ≡ last_put (value_at c.args.rec (last_writes c.args.t.now.ops)) =
    c.in_ok-last_put.ensures ∙ ap last_put (c.value_at.ensures ∙ ap (λ (ws : List (ℕ × Option (List ℕ))). value_at c.args.rec ws) c.requires) in
    let table : c.in_ok-copy_of_table.field-0 ≡ value_at c.args.rec c.args.t.now.tables =
    c.in_ok-copy_of_table.ensures ∙ c.value_at-2.ensures ∙ ap (λ (ts : List (ℕ × List (ℕ × ℕ))). value_at c.args.rec ts) c.as_slice.ensures in
    rw (put, table) refl
