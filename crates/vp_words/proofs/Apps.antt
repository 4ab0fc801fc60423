-- Commands as `clap` has them, operand by operand.
use Rattle.std.proofs.Common.{◌≡◌, ℕ, ◌+◌, ◌<◌, List, [], ◌∷◌, length, get_or, take, map, ap, ap₂, sym, ◌∙◌}
use Rattle.std.specs.Borrow.{Bor}
use Rattle.std.specs.Prelude.{fold}
use Rattle.std.proofs.lemmas.List.{map-append, take_more}
use Rattle.std.proofs.lemmas.List.Sums.{fold-append}
use Rattle.clap.specs.Words.{App, Rule, Text, with_rule}
use Rattle.vp_words.specs.Parsed.{required_rule, with_operand}

-- one more operand
pub operand_added : (old new first : App) (rule : Rule) (ids : List (Bor Text)) (i : ℕ) (id : Bor Text) → i < length ids
    → old ≡ fold with_operand first (map (λ id. id.now) (take i ids)) → new ≡ with_rule old rule → rule ≡ required_rule (get_or ids i id).now
    → new ≡ fold with_operand first (map (λ id. id.now) (take (i + 1) ids))
operand_added old new first rule ids i id lt before adds is =
    let last = get_or ids i id in
    let split = ap (map (λ (id : Bor Text). id.now)) (take_more ids i id lt) ∙ map-append (λ (id : Bor Text). id.now) (take i ids) (last ∷ []) in
    adds ∙ ap₂ with_rule before is ∙ sym (ap (fold with_operand first) split ∙ fold-append with_operand first (map (λ id. id.now) (take i ids)) (last.now ∷ []))
