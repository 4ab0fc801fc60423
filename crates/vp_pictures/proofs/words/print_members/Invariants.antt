use Rattle.std.proofs.Common.{◌≡◌, ◌++◌, take}
use Rattle.std.specs.List.{flat_map}
use Rattle.vp_pictures.specs.Words.{member_words}
use Rattle.vp_pictures.proofs.words.print_members.Given as goal

abbrev pub invariant-loop-site : goal.invariant-loop-site
invariant-loop-site l = l.out.items ≡ l.fn.out.items ++ flat_map member_words (take l.site-index l.members)
