-- Lists that are played one after the other.
use Rattle.std.proofs.Common.{◌≡◌, List, [], ◌∷◌, ◌++◌, refl}
use Rattle.std.specs.Prelude.{Option, Some, None, option_and_then}
use Rattle.vp_model.specs.Types.{Op, Commit}
use Rattle.vp_model.specs.OneCopy.{Values, play_one, play, serial}

then_append : {A : Type 0} (o : Option A) (f g : A → Option Values) (k : Values → Option Values) → ((a : A) → f a ≡ option_and_then k (g a)) → option_and_then f o ≡ option_and_then k (option_and_then g o)
then_append None f g k h = refl
then_append (Some a) f g k h = h a

pub play-append : (m : Values) (xs ys : List Op) → play m (xs ++ ys) ≡ option_and_then (λ n. play n ys) (play m xs)
play-append m [] ys = refl
play-append m (x ∷ xs) ys = then_append (play_one m x) (λ n. play n (xs ++ ys)) (λ n. play n xs) (λ n. play n ys) (λ n. play-append n xs ys)

pub serial-append : (m : Values) (xs ys : List Commit) → serial m (xs ++ ys) ≡ option_and_then (λ n. serial n ys) (serial m xs)
serial-append m [] ys = refl
serial-append m (x ∷ xs) ys = then_append (play m x.ops) (λ n. serial n (xs ++ ys)) (λ n. serial n xs) (λ n. serial n ys) (λ n. serial-append n xs ys)
