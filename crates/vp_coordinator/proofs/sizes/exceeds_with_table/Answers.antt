use Rattle.std.proofs.Common.{◌≡◌, ◌∙◌, ◌+◌, ℕ, List, Option, length, nat_lt, ap}
use Rattle.std.specs.Prelude.{◌*◌, sum_by}
use Rattle.vp_model.specs.Words.{put_at}
use Rattle.vp_model.specs.Transactions.{last_writes}
use Rattle.vp_model.specs.Calls.{content_size}
use Rattle.vp_coordinator.proofs.sizes.exceeds_with_table.Goals as goal

pub returns : goal.returns
returns c =
    let written : c.deref.result.now ≡ last_writes c.args.t.now.ops = c.deref.ensures.value ∙ c.in_ok-contents.ensures ∙ ap last_writes c.as_slice.ensures in
    let given : c.as_slice-2.result.now ≡ put_at c.args.rec c.args.table.now c.args.t.now.tables =
    c.as_slice-2.ensures ∙ c.in_ok-put_in.ensures ∙ ap (λ (ts : List (ℕ × List (ℕ × ℕ))). put_at c.args.rec c.in_ok-copy_of.field-0 ts) c.in_ok-tables.ensures ∙ ap (λ (table : List (ℕ × ℕ)). put_at c.args.rec table c.args.t.now.tables) c.in_ok-copy_of.ensures in
    c.exceeds.ensures
    ∙ ap (λ (ws : List (ℕ × Option (List ℕ))). nat_lt 15360 (sum_by (λ (w : ℕ × Option (List ℕ)). content_size w.1) ws + 50 * length c.as_slice-2.result.now)) written
    ∙ ap (λ (ts : List (ℕ × List (ℕ × ℕ))). nat_lt 15360 (sum_by (λ (w : ℕ × Option (List ℕ)). content_size w.1) (last_writes c.args.t.now.ops) + 50 * length ts)) given
