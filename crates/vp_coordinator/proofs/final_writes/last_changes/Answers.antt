use Rattle.std.proofs.Common.{◌≡◌, ◌∙◌, ◌<◌, ◌≤◌, ℕ, List, Option, map, take, get_or, length, ap, refl, subst, arith}
use Rattle.std.proofs.lemmas.List.{take_all}
use Rattle.vp_model.specs.Types.{Change}
use Rattle.vp_model.specs.Words.{for_each, put_at}
use Rattle.vp_model.specs.Transactions.{last_writes, change_of}
use Rattle.vp_coordinator.proofs.Each.{done_more}
use Rattle.vp_coordinator.proofs.final_writes.last_changes.Goals as goal

pub loop-given-preserved : goal.loop-given-preserved
loop-given-preserved c =
    let t = c.args.t.now in
    let i = c.loop-given.given-index in
    let given = c.given-item.result in
    let step : ℕ × List (ℕ × ℕ) → List (ℕ × Change) → List (ℕ × Change) = λ g. put_at g.0 (change_of g.0 t.ops t.tables) in
    let first = map (λ (w : ℕ × Option (List ℕ)). (w.0, change_of w.0 t.ops t.tables)) (last_writes t.ops) in
    let is : c.as_slice-given-items.result.now ≡ t.tables = c.as_slice-given-items.ensures in
    c.in_ok-put_change.ensures
    ∙ ap (step given) c.loop-given.invariant
    ∙ ap (λ (g : ℕ × List (ℕ × ℕ)). step g (for_each (take i t.tables) step first)) (c.given-item.is ∙ ap (λ (ts : List (ℕ × List (ℕ × ℕ))). get_or ts i given) is)
    ∙ done_more t.tables t.tables i given refl step first (subst (λ (ts : List (ℕ × List (ℕ × ℕ))). i < length ts) is c.loop-given-test.true)

pub returns : goal.returns
returns c =
    let t = c.args.t.now in
    let i = c.loop-given.given-index in
    let step : ℕ × List (ℕ × ℕ) → List (ℕ × Change) → List (ℕ × Change) = λ g. put_at g.0 (change_of g.0 t.ops t.tables) in
    let first = map (λ (w : ℕ × Option (List ℕ)). (w.0, change_of w.0 t.ops t.tables)) (last_writes t.ops) in
    let is : c.as_slice-given-items.result.now ≡ t.tables = c.as_slice-given-items.ensures in
    let all : length t.tables ≤ i = subst (λ (ts : List (ℕ × List (ℕ × ℕ))). length ts ≤ i) is (omega (arith, c.loop-given-test.false)) in
    c.from_vec.ensures ∙ c.loop-given.invariant ∙ ap (λ (ts : List (ℕ × List (ℕ × ℕ))). for_each ts step first) (take_all i t.tables all)
