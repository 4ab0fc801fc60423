use Rattle.std.proofs.lemmas.Fmt.{decimal_digit}
use Rattle.vp_catalog.proofs.Sites.{two_digits}
use Rattle.vp_catalog.proofs.site.is_number.Goals as goal

pub returns-then-number-lt10 : goal.returns-then-number-lt10
returns-then-number-lt10 c = rw (← c.get-number.ensures.value, decimal_digit c.get-number.result c.if-number-lt10.true, ← c.as_slice.ensures) c.eq.ensures

pub returns-else-number-lt10 : goal.returns-else-number-lt10
returns-else-number-lt10 c = rw (← c.get-number.ensures.value, two_digits c.get-number.result c.if-number-lt10.false c.get-number.ensures.most, ← c.as_slice-else-number-lt10.ensures) c.eq-else-number-lt10.ensures
