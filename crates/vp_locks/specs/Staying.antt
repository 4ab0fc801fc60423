-- Which locks of an owner are kept where its others are released.
use Rattle.std.specs.Prelude.{Bool, false, not, ◌==◌}
use Rattle.vp_base.specs.declared.site.Lock.{Lock}
use Rattle.vp_locks.specs.declared.keeps.KeepRule.{KeepRule}
use Rattle.vp_locks.specs.declared.keeps.KeepRule.TheVariants.{None, Exclusive, Elsewhere}

abbrev pub stays : KeepRule → Lock → Bool
stays None lock = false
stays Exclusive lock = lock.exclusive
stays (Elsewhere rec) lock = not (lock.rec == rec)
