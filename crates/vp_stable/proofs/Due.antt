-- When a checkpoint is due.
use Rattle.std.proofs.Common.{◌≡◌, Bool, false, ◌==◌, if◌then◌else◌, [], ◌∷◌, refl, ap, arith}
use Rattle.std.proofs.lemmas.Bool.Decides.{nat_tests}
use Rattle.vp_stable.specs.Halves.{second_gate, due, DueIsOfTheBatches, NoneIsDueAfterOne}

pub due_is_of_the_batches : DueIsOfTheBatches
due_is_of_the_batches at [] log stands = rw stands.second refl
due_is_of_the_batches at (batch ∷ batches) log stands =
    let some : (second_gate (batch ∷ batches) == 0) ≡ false = grind (arith, nat_tests) in
    rw (stands.second, stands.is_log.at) (ap (λ (b : Bool). if b then false else due (batch ∷ batches)) some)

pub none_is_due_after_one : NoneIsDueAfterOne
none_is_due_after_one batch = grind arith
