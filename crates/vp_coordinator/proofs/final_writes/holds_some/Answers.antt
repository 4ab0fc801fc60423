use Rattle.std.proofs.Common.{rules, tests, ◌∙◌, sym, ℕ}
use Rattle.std.proofs.lemmas.Iterator.{YieldsList-from_slice}
use Rattle.std.proofs.lemmas.Iterator.Search.{any_from_yields_List}
use Rattle.vp_model.specs.Types.{Change}
use Rattle.vp_model.specs.Words.{has}
use Rattle.vp_model.specs.Catalogue.{holders}
use Rattle.vp_coordinator.proofs.Some.{some_is_left}
use Rattle.vp_coordinator.proofs.final_writes.holds_some.Goals as goal

pub returns : goal.returns
returns c =
    any_from_yields_List (λ (w : ℕ × Change). has (holders c.args.catalog.now w.0) c.args.site) _ _ c.any.result c.any.ensures.ran (YieldsList-from_slice c.args.writes.now c.iter.ensures.rest) (λ x b q k. search (rules, tests))
    ∙ sym (some_is_left (λ (w : ℕ × Change). has (holders c.args.catalog.now w.0) c.args.site) c.args.writes.now)
