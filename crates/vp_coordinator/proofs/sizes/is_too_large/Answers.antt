use Rattle.vp_coordinator.proofs.sizes.is_too_large.Goals as goal

pub returns-in-Weighs : goal.returns-in-Weighs
returns-in-Weighs c = rw c.in-Weighs.is c.exceeds_with_table.ensures
