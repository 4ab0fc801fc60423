use Rattle.std.proofs.Common.{rules}
use Rattle.std.proofs.lemmas.List.Sorted.{answers_always}
use Rattle.vp_lists.proofs.Halving.{searched}
use Rattle.vp_lists.proofs.ascending.search.Goals as goal

pub returns : goal.returns
returns g c =
    let found = c.binary_search_by_key.ensures in
    let by_record = found.position g.T.OfRec.rec (answers_always _ _ _ (λ f a r h called. search rules)) in
    rw (← c.get.ensures.value) (searched g.T.OfRec.rec c.args.items.now c.requires c.get.result c.binary_search_by_key.result found.bound by_record)
