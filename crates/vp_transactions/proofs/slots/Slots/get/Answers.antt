use Rattle.std.proofs.Common.{sym}
use Rattle.vp_transactions.proofs.Kept.{item_is, key_at, none_at}
use Rattle.vp_transactions.proofs.slots.Slots.get.Goals as goal

pub returns-in_err-key : goal.returns-in_err-key
returns-in_err-key g c =
    rw (← c.self.view_is, c.from_residual.ensures) (sym (none_at c.self.inside.items c.self.inside.keys.items c.args.place c.in_err-key.ensures.item.3 c.self.invariant))

pub returns : goal.returns
returns g c =
    rw (← c.self.view_is, c.get-2.ensures) (sym (item_is c.self.inside.items c.self.inside.keys.items c.args.place c.in_ok-key.key.now (key_at c.self.inside.keys.items c.args.place c.in_ok-key.key c.in_ok-key.ensures.item) c.self.invariant))
