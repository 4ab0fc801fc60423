use Rattle.std.proofs.Common.{refl}
use Rattle.std.specs.Fmt.{digits}
use Rattle.vp_proc.proofs.worked.contents_are_numbers.Goals as goal

pub returns-clause-none : goal.returns-clause-none
unfolding digits
returns-clause-none c = refl

pub returns-clause-zeros : goal.returns-clause-zeros
unfolding digits
returns-clause-zeros c = refl

pub returns-clause-most : goal.returns-clause-most
unfolding digits
returns-clause-most c = refl

pub returns-clause-more : goal.returns-clause-more
unfolding digits
returns-clause-more c = refl

pub returns-clause-signed : goal.returns-clause-signed
unfolding digits
returns-clause-signed c = refl
