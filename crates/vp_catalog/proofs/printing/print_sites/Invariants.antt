use Rattle.std.proofs.Common.{◌≡◌, ◌++◌, take}
use Rattle.std.specs.List.{flat_map}
use Rattle.vp_model.specs.Texts.Schedule.{site_line}
use Rattle.vp_catalog.proofs.printing.print_sites.Given as goal

abbrev pub invariant-loop-site : goal.invariant-loop-site
invariant-loop-site l = l.out.items ≡ l.fn.out.items ++ flat_map site_line (take l.site-index l.sites)
