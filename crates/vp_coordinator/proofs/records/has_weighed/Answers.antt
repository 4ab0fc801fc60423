use Rattle.std.proofs.Common.{◌≡◌, ◌∙◌, option_copied, ap, rules}
use Rattle.vp_model.specs.Words.{value_at}
use Rattle.vp_coordinator.proofs.records.has_weighed.Goals as goal

pub returns : goal.returns
returns c =
    let there : option_copied c.value_at.result ≡ value_at c.args.rec c.args.t.now.tables = c.value_at.ensures ∙ ap (value_at c.args.rec) c.as_slice.ensures in
    rw (← there) (search rules)
