use Rattle.std.proofs.Common.{rules}
use Rattle.std.proofs.lemmas.Fn.{filter_same}
use Rattle.vp_records.proofs.decision.drop_site.Goals as goal

pub returns : goal.returns
returns c =
    rw (c.from_vec.ensures, ← c.replace.ensures.value, ← c.into_vec-items.ensures) (filter_same _ _ _ (λ x b f' k. search rules) _ _ c.retain.ensures.filtered)
