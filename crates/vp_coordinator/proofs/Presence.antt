-- What depends only on whether there is a value.
use Rattle.std.proofs.Common.{◌≡◌, if◌then◌else◌, Option, Some, None, is_some, refl}
use Rattle.std.specs.Option.{option_map_or}

pub by_presence : {A B : Type 0} (o : Option A) (a b : B) → option_map_or (λ _. a) o b ≡ (if is_some o then a else b)
by_presence None a b = refl
by_presence (Some x) a b = refl
