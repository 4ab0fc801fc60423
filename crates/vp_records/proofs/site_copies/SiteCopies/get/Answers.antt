use Rattle.std.proofs.Common.{ℕ, ◌==◌, Some, refl, sym, ap}
use Rattle.vp_model.specs.Types.{Stored}
use Rattle.vp_lists.proofs.Found.{find_none, find_some}
use Rattle.vp_records.proofs.site_copies.SiteCopies.get.Goals as goal

pub returns-in-None : goal.returns-in-None
returns-in-None c = rw (find_none (λ (copy : ℕ × Stored). copy.0 == c.args.rec) c.args.self.now (sym c.in-None.ensures.place)) refl

pub returns-in-Some : goal.returns-in-Some
returns-in-Some c =
    let found = find_some (λ (copy : ℕ × Stored). copy.0 == c.args.rec) c.args.self.now c.in-Some.place c.index.result.now (sym c.in-Some.ensures.place) in
    rw (found, ← c.self.view_is) (ap (λ (copy : ℕ × Stored). Some copy.1) c.index.ensures)
