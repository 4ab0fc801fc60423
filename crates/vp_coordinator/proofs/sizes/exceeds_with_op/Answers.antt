use Rattle.std.proofs.Common.{◌≡◌, ◌∙◌, ◌++◌, ◌∷◌, ◌+◌, [], ℕ, List, Option, length, nat_lt, ap, sym}
use Rattle.std.specs.Prelude.{◌*◌, sum_by}
use Rattle.vp_model.specs.Transactions.{last_writes, with_op}
use Rattle.vp_model.specs.Calls.{content_size}
use Rattle.vp_coordinator.proofs.LastWrites.{written_next}
use Rattle.vp_coordinator.proofs.sizes.exceeds_with_op.Goals as goal

pub returns : goal.returns
returns c =
    let written : c.add_op.new.writes.items ≡ last_writes (c.args.t.now.ops ++ c.args.operation.now ∷ []) =
    c.in_ok-add_op.ensures ∙ ap (λ (ws : List (ℕ × Option (List ℕ))). with_op ws c.args.operation.now) (c.in_ok-contents.ensures ∙ ap last_writes c.as_slice.ensures) ∙ sym (written_next c.args.t.now.ops c.args.operation.now) in
    c.exceeds.ensures
    ∙ ap (λ (ws : List (ℕ × Option (List ℕ))). nat_lt 15360 (sum_by (λ (w : ℕ × Option (List ℕ)). content_size w.1) ws + 50 * length c.as_slice-2.result.now)) (c.deref.ensures.value ∙ written)
    ∙ ap (λ (ts : List (ℕ × List (ℕ × ℕ))). nat_lt 15360 (sum_by (λ (w : ℕ × Option (List ℕ)). content_size w.1) (last_writes (c.args.t.now.ops ++ c.args.operation.now ∷ [])) + 50 * length ts)) c.as_slice-2.ensures
