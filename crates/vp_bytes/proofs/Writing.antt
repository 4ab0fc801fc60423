-- Bytes that are written part by part: where a part fails, a beginning of the whole was written.
use Rattle.std.proofs.Common.{◌≡◌, ℕ, suc, ◌+◌, ◌<◌, true, List, [], ◌∷◌, ◌++◌, length, get_or, take, drop, Result, Ok, Err, sym, ap, ◌∙◌, subst, append_assoc}
use Rattle.std.specs.Prelude.{⊤}
use Rattle.std.specs.List.{flat_map}
use Rattle.std.proofs.lemmas.Grind.{flat_map-append}
use Rattle.std.proofs.lemmas.List.{append-nil, take-append-drop, take_more}
use Rattle.std.proofs.Math.Seq.{drop-cons}
use Rattle.vp_text.specs.Printing.{Appends, is_begun}
use Rattle.vp_text.proofs.Printing.{begun_none, begun_whole, begun_first, begun_then, begun_byte}

-- the last part, after the others
pub following : {E : Type 0} (result : Result ⊤ E) (old front part text new : List ℕ) → text ≡ front ++ part → Appends result (old ++ front) part new → Appends result old text new
following (Ok x) old front part text new e a =
    let whole : new ≡ old ++ text = a.whole ∙ append_assoc old front part ∙ ap (λ (t : List ℕ). old ++ t) (sym e) in
    record { whole = whole; begun = begun_whole old text new whole }
following (Err x) old front part text new e a =
    record { whole = tt; begun = subst (λ (t : List ℕ). is_begun old t new ≡ true) (sym e) (begun_then old front part new a.begun) }

-- only the first parts
pub begun_front : (old front more text new : List ℕ) → text ≡ front ++ more → new ≡ old ++ front → is_begun old text new ≡ true
begun_front old front more text new e is =
    subst (λ (t : List ℕ). is_begun old t new ≡ true) (sym e) (begun_first old front more new (begun_whole old front new is))

-- a beginning of the first part
pub begun_as : (old part more text new : List ℕ) → text ≡ part ++ more → is_begun old part new ≡ true → is_begun old text new ≡ true
begun_as old part more text new e h = subst (λ (t : List ℕ). is_begun old t new ≡ true) (sym e) (begun_first old part more new h)

pub begun_head : (old : List ℕ) (byte : ℕ) (first more new : List ℕ) → is_begun old (byte ∷ first) new ≡ true → is_begun old (byte ∷ (first ++ more)) new ≡ true
begun_head old byte first more new h = begun_first old (byte ∷ first) more new h

-- some bytes, and a beginning of the part after them
pub begun_part : (old front part more text new : List ℕ) → text ≡ front ++ (part ++ more) → is_begun (old ++ front) part new ≡ true → is_begun old text new ≡ true
begun_part old front part more text new e h =
    subst (λ (t : List ℕ). is_begun old t new ≡ true) (sym e) (begun_then old front (part ++ more) new (begun_first (old ++ front) part more new h))

-- an item of a list, with those before it and those after it
at_item : {X : Type 0} (xs : List X) (i : ℕ) (x : X) → i < length xs → x ≡ get_or xs i x → xs ≡ take i xs ++ (x ∷ drop (suc i) xs)
at_item xs i x within is = sym (take-append-drop i xs) ∙ ap (λ (r : List _). take i xs ++ r) (drop-cons xs i x within ∙ ap (λ (y : _). y ∷ drop (suc i) xs) (sym is))

-- the items before one of them, and a beginning of that one
pub begun_item : {X : Type 0} (f : X → List ℕ) (old front : List ℕ) (xs : List X) (i : ℕ) (x : X) (new : List ℕ) → i < length xs → x ≡ get_or xs i x
    → is_begun (old ++ (front ++ flat_map f (take i xs))) (f x) new ≡ true → is_begun old (front ++ flat_map f xs) new ≡ true
begun_item f old front xs i x new within is h =
    let parts : flat_map f xs ≡ flat_map f (take i xs) ++ (f x ++ flat_map f (drop (suc i) xs)) =
    ap (flat_map f) (at_item xs i x within is) ∙ flat_map-append f (take i xs) (x ∷ drop (suc i) xs) in
    begun_part old (front ++ flat_map f (take i xs)) (f x) (flat_map f (drop (suc i) xs)) (front ++ flat_map f xs) new
    (ap (λ (t : List ℕ). front ++ t) parts ∙ sym (append_assoc front (flat_map f (take i xs)) (f x ++ flat_map f (drop (suc i) xs)))) h

-- the bytes before one of them
pub begun_bytes : (old front xs : List ℕ) (i : ℕ) (new : List ℕ) → new ≡ old ++ (front ++ take i xs) → is_begun old (front ++ xs) new ≡ true
begun_bytes old front xs i new e =
    let all : front ++ xs ≡ (front ++ take i xs) ++ drop i xs = ap (λ (t : List ℕ). front ++ t) (sym (take-append-drop i xs)) ∙ sym (append_assoc front (take i xs) (drop i xs)) in
    subst (λ (t : List ℕ). is_begun old t new ≡ true) (sym all) (begun_first old (front ++ take i xs) (drop i xs) new (begun_whole old (front ++ take i xs) new e))

-- ---- loops that append items to some bytes, one turn at a time

pub no_turn : (old front new : List ℕ) → new ≡ old ++ front → new ≡ old ++ (front ++ [])
no_turn old front new e = e ∙ ap (λ (t : List ℕ). old ++ t) (sym (append-nil front))

pub byte_turn : (old front xs : List ℕ) (i byte : ℕ) (before new : List ℕ) → i < length xs → byte ≡ get_or xs i byte → before ≡ old ++ (front ++ take i xs)
    → new ≡ before ++ byte ∷ [] → new ≡ old ++ (front ++ take (i + 1) xs)
byte_turn old front xs i byte before new within is so_far e =
    let more : take (i + 1) xs ≡ take i xs ++ byte ∷ [] = take_more xs i byte within ∙ ap (λ (b : ℕ). take i xs ++ b ∷ []) (sym is) in
    let parts : (front ++ take i xs) ++ byte ∷ [] ≡ front ++ take (i + 1) xs = append_assoc front (take i xs) (byte ∷ []) ∙ ap (λ (t : List ℕ). front ++ t) (sym more) in
    e ∙ ap (λ (t : List ℕ). t ++ byte ∷ []) so_far ∙ append_assoc old (front ++ take i xs) (byte ∷ []) ∙ ap (λ (t : List ℕ). old ++ t) parts

pub item_turn : {X : Type 0} (f : X → List ℕ) (old front : List ℕ) (xs : List X) (i : ℕ) (x : X) (before new : List ℕ) → i < length xs → x ≡ get_or xs i x
    → before ≡ old ++ (front ++ flat_map f (take i xs)) → new ≡ before ++ f x → new ≡ old ++ (front ++ flat_map f (take (i + 1) xs))
item_turn f old front xs i x before new within is so_far e =
    let more : take (i + 1) xs ≡ take i xs ++ x ∷ [] = take_more xs i x within ∙ ap (λ (y : _). take i xs ++ y ∷ []) (sym is) in
    let texts : flat_map f (take (i + 1) xs) ≡ flat_map f (take i xs) ++ f x =
    ap (flat_map f) more ∙ flat_map-append f (take i xs) (x ∷ []) ∙ ap (λ (t : List ℕ). flat_map f (take i xs) ++ t) (append-nil (f x)) in
    let parts : (front ++ flat_map f (take i xs)) ++ f x ≡ front ++ flat_map f (take (i + 1) xs) =
    append_assoc front (flat_map f (take i xs)) (f x) ∙ ap (λ (t : List ℕ). front ++ t) (sym texts) in
    e ∙ ap (λ (t : List ℕ). t ++ f x) so_far ∙ append_assoc old (front ++ flat_map f (take i xs)) (f x) ∙ ap (λ (t : List ℕ). old ++ t) parts

pub ruleset writing = (append_assoc, begun_none, begun_whole, begun_first, begun_then, begun_byte, begun_head)
