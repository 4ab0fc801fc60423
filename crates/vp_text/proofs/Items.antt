-- What holds of each item of a list.
use Rattle.std.proofs.Common.{List, [], ◌∷◌, ◌++◌}
use Rattle.std.specs.List.{AllByRecursion}

pub all_append : {X : Type 0} (P : X → Type 0) (p q : List X) → AllByRecursion P p → AllByRecursion P q → AllByRecursion P (p ++ q)
all_append P [] q h k = k
all_append P (x ∷ p) q h k = (h.0, all_append P p q h.1 k)

pub all_push : {X : Type 0} (P : X → Type 0) (p : List X) (x : X) → AllByRecursion P p → P x → AllByRecursion P (p ++ x ∷ [])
all_push P p x h k = all_append P p (x ∷ []) h (k, tt)

pub all_back : {X : Type 0} (P : X → Type 0) (p q : List X) → AllByRecursion P (p ++ q) → AllByRecursion P q
all_back P [] q h = h
all_back P (x ∷ p) q h = all_back P p q h.1

pub all_at : {X : Type 0} (P : X → Type 0) (p : List X) (x : X) (q : List X) → AllByRecursion P (p ++ x ∷ q) → P x
all_at P [] x q h = h.0
all_at P (y ∷ p) x q h = all_at P p x q h.1

pub all_each : {X : Type 0} (P Q : X → Type 0) → ((x : X) → P x → Q x) → (p : List X) → AllByRecursion P p → AllByRecursion Q p
all_each P Q f [] h = tt
all_each P Q f (x ∷ p) h = (f x h.0, all_each P Q f p h.1)
