use Rattle.std.proofs.Common.{◌≡◌, take}
use Rattle.std.specs.Prelude.{option_copied}
use Rattle.vp_site.specs.Asking.{ask_each}
use Rattle.vp_site.proofs.tick.Asking.ask_each.Given as goal

abbrev pub invariant-loop-asked : goal.invariant-loop-asked
invariant-loop-asked l =
    l.effects ≡ ask_each l.self.catalog.now l.self.id (option_copied l.self.held) l.self.view (take l.asked-index l.refresh) l.initial.effects
