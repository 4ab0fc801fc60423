use Rattle.std.proofs.Common.{◌∙◌, sym}
use Rattle.vp_transactions.proofs.Kept.{length_is}
use Rattle.vp_transactions.proofs.slots.Slots.len.Goals as goal

pub returns : goal.returns
returns g c =
    rw (← c.self.view_is) (c.len.ensures ∙ c.self.inside.keys.ok.0 ∙ sym (length_is c.self.inside.items c.self.inside.keys.items c.self.invariant))
