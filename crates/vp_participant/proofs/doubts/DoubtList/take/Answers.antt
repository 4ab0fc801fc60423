use Rattle.std.proofs.Common.{rules, ◌≡◌, ◌∙◌}
use Rattle.std.proofs.lemmas.Fn.{filter_same}
use Rattle.vp_model.specs.Words.{same_txn}
use Rattle.vp_model.specs.Durable.{without_doubt}
use Rattle.vp_model.specs.Types.{Doubt}
use Rattle.vp_participant.proofs.Ended.{none_left}
use Rattle.vp_participant.proofs.Named.{named_without}
use Rattle.vp_participant.proofs.doubts.DoubtList.take.Goals as goal

pub returns-clause-rest : goal.returns-clause-rest
returns-clause-rest c =
    rw (← c.self.view_is)
    (filter_same _ _ _ (λ x b f' k. search rules) _ _ c.retain.ensures.filtered
    ∙ none_left (λ (d : Doubt). same_txn d.txn c.args.txn.now) c.self.inside.items.items c.take_txn-doubt.new.items.items c.take_txn-doubt.result c.take_txn-doubt.ensures.rest)

pub invariant_of-self : goal.invariant_of-self
invariant_of-self c =
    let rest : c.retain.new.self.items ≡ without_doubt c.args.txn.now c.self.inside.items.items =
    filter_same _ _ _ (λ x b f' k. search rules) _ _ c.retain.ensures.filtered
    ∙ none_left (λ (d : Doubt). same_txn d.txn c.args.txn.now) c.self.inside.items.items c.take_txn-doubt.new.items.items c.take_txn-doubt.result c.take_txn-doubt.ensures.rest in
    rw (c.remove.ensures, rest) (named_without c.self.inside.names c.self.inside.items.items c.args.txn.now c.self.invariant)
