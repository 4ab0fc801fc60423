use Rattle.std.proofs.Common.{rules, ◌∙◌, ap}
use Rattle.std.proofs.lemmas.List.Sorted.{answers_always}
use Rattle.vp_model.specs.OneCopy.{order}
use Rattle.vp_onecopy.proofs.Ordered.{key, order_from_sort}
use Rattle.vp_onecopy.proofs.ordering.order.Goals as goal

pub returns : goal.returns
returns c =
    let keys = answers_always _ _ _ (λ f a r next called. search rules) in
    c.from_vec.ensures ∙ order_from_sort _ _ (c.in_ok-sort_by_key.ensures.sorted key keys) (c.in_ok-sort_by_key.ensures.stable key keys) ∙ ap order c.in_ok-commits.ensures
