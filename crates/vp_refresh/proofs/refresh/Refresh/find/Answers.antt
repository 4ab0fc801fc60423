use Rattle.std.proofs.Common.{◌==◌, Some, sym, ap, ◌∙◌}
use Rattle.vp_model.specs.Types.{Refreshing}
use Rattle.vp_lists.proofs.Found.{find_none, find_some}
use Rattle.vp_refresh.proofs.refresh.Refresh.find.Goals as goal

pub returns-in-None : goal.returns-in-None
returns-in-None c =
    let there = rw (c.deref.ensures.value) at (sym c.in-None.ensures) in
    rw (← c.self.view_is) (sym (find_none (λ (r : Refreshing). r.rec == c.args.rec) c.self.inside.listed.items there))

pub returns-in-Some : goal.returns-in-Some
returns-in-Some c =
    let there = rw (c.deref.ensures.value) at (sym c.in-Some.ensures) in
    let found = find_some (λ (r : Refreshing). r.rec == c.args.rec) c.self.inside.listed.items c.in-Some.place c.index.result.now there in
    rw (← c.self.view_is) (ap (λ (r : Refreshing). Some r) c.index.ensures ∙ sym found)
