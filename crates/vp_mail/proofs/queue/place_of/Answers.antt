use Rattle.std.proofs.Common.{rules, ◌≡◌, ◌<◌, ◌∙◌, IfSome, map, length, subst, sym}
use Rattle.std.specs.List.{slice_index_or}
use Rattle.std.proofs.lemmas.Fn.{always_returns_same}
use Rattle.vp_mail.specs.declared.queue.Numbered.{Numbered}
use Rattle.vp_mail.proofs.Marked.{found_at, absent}
use Rattle.vp_mail.proofs.queue.place_of.Goals as goal

pub returns-clause-numbered : goal.returns-clause-numbered
returns-clause-numbered c =
    let position = c.binary_search_by_key.ensures.position (λ m. m.number) (always_returns_same _ _ _ (λ a r f k. search rules)) in
    let within : IfSome c.ok.result (λ i. i < length c.args.messages.now.items) = search rules in
    subst (λ o. IfSome o (λ i. slice_index_or (map (λ (m : Numbered). m.number) c.args.messages.now.items) i c.args.number ≡ c.args.number)) (sym c.ok.ensures.value) (found_at c.args.number c.args.messages.now.items c.binary_search_by_key.result position (subst (λ o. IfSome o (λ i. i < length c.args.messages.now.items)) c.ok.ensures.value within))

pub returns-clause-absent : goal.returns-clause-absent
returns-clause-absent c none =
    let position = c.binary_search_by_key.ensures.position (λ m. m.number) (always_returns_same _ _ _ (λ a r f k. search rules)) in
    absent c.args.number c.args.messages.now.items c.binary_search_by_key.result c.requires position (sym c.ok.ensures.value ∙ none)
