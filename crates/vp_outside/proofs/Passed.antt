-- Datagrams that are given, and handed over, one after the other.
use Rattle.std.proofs.Common.{◌≡◌, ◌∙◌, ℕ, suc, zero, ◌+◌, ◌≤◌, List, [], ◌∷◌, ◌++◌, length, take, drop, replicate, refl, sym, ap, arith, append_assoc}
use Rattle.std.specs.Prelude.{Option, Some, None}
use Rattle.std.proofs.lemmas.List.{length-append, append-nil}
use Rattle.vp_outside.specs.Causes.{count_after}
use Rattle.vp_outside.specs.Links.{Gave, Hands, nothing}
use Rattle.vp_outside.specs.declared.datagram.Datagram.{Datagram}
use Rattle.vp_outside.specs.declared.datagram.Dispatch.{Dispatch}

pub count_none : (n : ℕ) → n ≡ count_after n 0
count_none n = grind (arith)

pub count_more : (before n : ℕ) → count_after (count_after before n) 1 ≡ count_after before (n + 1)
count_more before n = grind (arith)

-- the next datagrams of a list, and then empty ones
abbrev pub firsts : ℕ → List Datagram → List Datagram
firsts zero left = []
firsts (suc n) [] = nothing ∷ firsts n []
firsts (suc n) (d ∷ left) = d ∷ firsts n left

pub given_firsts : (n m : ℕ) (left : List Datagram) → n ≤ m → take n (left ++ replicate m nothing) ≡ firsts n left
given_firsts zero m left h = refl
given_firsts (suc n) zero left h = absurd (omega (arith, h))
given_firsts (suc n) (suc m) [] h = ap (λ (l : List Datagram). nothing ∷ l) (given_firsts n m [] (omega (arith, h)))
given_firsts (suc n) (suc m) (d ∷ left) h = ap (λ (l : List Datagram). d ∷ l) (given_firsts n (suc m) left (omega (arith, h)))

drop_none : (n : ℕ) → drop {A = Datagram} n [] ≡ []
drop_none zero = refl
drop_none (suc n) = refl

firsts_more : (n : ℕ) (left : List Datagram) → firsts (suc n) left ≡ firsts n left ++ firsts 1 (drop n left)
firsts_more zero left = refl
firsts_more (suc n) [] = ap (λ (l : List Datagram). nothing ∷ l) (firsts_more n [] ∙ ap (λ (l : List Datagram). firsts n [] ++ firsts 1 l) (drop_none n))
firsts_more (suc n) (d ∷ left) = ap (λ (l : List Datagram). d ∷ l) (firsts_more n left)

drop_more : (n : ℕ) (left : List Datagram) → drop 1 (drop n left) ≡ drop (suc n) left
drop_more zero left = refl
drop_more (suc n) [] = refl
drop_more (suc n) (d ∷ left) = drop_more n left

pub one_longer : (ds : List Datagram) (d : Datagram) → length (ds ++ d ∷ []) ≡ suc (length ds)
one_longer ds d = omega (arith, length-append ds (d ∷ []))

-- a datagram that was given after these is in the list after them
pub gave_more : (a b c : Option (List Datagram)) (ds : List Datagram) (d : Datagram) → Gave a b ds → Gave b c (d ∷ []) → Gave a c (ds ++ d ∷ [])
gave_more None b c ds d h k = tt
gave_more (Some left) None c ds d h k = absurd h
gave_more (Some left) (Some left') None ds d h k = absurd k
gave_more (Some left) (Some left') (Some left'') ds d h k =
    let n = length ds in
    let before : ds ≡ firsts n left = h.0 ∙ given_firsts n n left (omega arith) in
    let next : d ∷ [] ≡ firsts 1 (drop n left) = k.0 ∙ given_firsts 1 1 left' (omega arith) ∙ ap (firsts 1) h.1 in
    let all : ds ++ d ∷ [] ≡ firsts (suc n) left = ap (λ (l : List Datagram). l ++ d ∷ []) before ∙ ap (λ (l : List Datagram). firsts n left ++ l) next ∙ sym (firsts_more n left) in
    rw (one_longer ds d) (all ∙ sym (given_firsts (suc n) (suc n) left (omega arith)), k.1 ∙ ap (drop 1) h.1 ∙ drop_more n left)

pub gave_none : (a b : Option (List Datagram)) → b ≡ a → Gave a b []
gave_none None b e = tt
gave_none (Some left) b e = rw e (refl, refl)

pub hands_none : (a b : Option (List Dispatch)) → b ≡ a → Hands a b []
hands_none None b e = tt
hands_none (Some handed) b e = rw e (sym (append-nil handed))

-- some datagrams were handed over, and then others
pub hands_then : (a b c : Option (List Dispatch)) (xs ys : List Dispatch) → Hands a b xs → Hands b c ys → Hands a c (xs ++ ys)
hands_then None b c xs ys h k = tt
hands_then (Some x) None c xs ys h k = absurd h
hands_then (Some x) (Some y) None xs ys h k = absurd k
hands_then (Some x) (Some y) (Some z) xs ys h k = k ∙ ap (λ l. l ++ ys) h ∙ append_assoc x xs ys
