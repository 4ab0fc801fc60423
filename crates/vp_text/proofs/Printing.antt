-- Texts that are printed part by part: where a part fails, a beginning of the whole was printed.
use Rattle.std.proofs.Common.{◌≡◌, ℕ, true, nat_eq, List, [], ◌∷◌, ◌++◌, length, get_or, take, drop, zero, suc, ◌<◌, refl, sym, ap, subst, ◌∙◌, append_assoc, arith}
use Rattle.std.specs.Prelude.{⊤, Result, Ok, Err, IsErr, OnOk, OnErr}
use Rattle.std.specs.List.{starts_with, flat_map}
use Rattle.std.proofs.lemmas.List.{append-nil, append_cancel_left}
use Rattle.std.proofs.lemmas.Bool.{false≢true, and_from, and_parts}
use Rattle.std.proofs.lemmas.Bool.Decides.{Decides-eqb}
use Rattle.std.proofs.lemmas.Slice.Eq.{starts_is}
use Rattle.vp_text.specs.Printing.{Appends, is_begun}

-- what was appended to the old bytes, and what is missing of the text
pub record IsBegun (old text new : List ℕ) : Type 0 where
  pub front : List ℕ
  pub rest : List ℕ
  pub is : new ≡ old ++ front
  pub parts : text ≡ front ++ rest

-- where a text starts with another one, the rest follows that
pub starts_Decides : (w p : List ℕ) → (starts_with nat_eq w p ≡ true → w ≡ p ++ drop (length p) w) × ((r : List ℕ) → w ≡ p ++ r → starts_with nat_eq w p ≡ true)
starts_Decides w p = starts_is Decides-eqb w p (starts_with nat_eq w p) refl

pub begun_parts : (old text new : List ℕ) → is_begun old text new ≡ true → IsBegun old text new
unfolding is_begun
begun_parts old text new h =
    let both = and_parts (starts_with nat_eq new old) (starts_with nat_eq (old ++ text) new) h in
    let front = drop (length old) new in
    let rest = drop (length new) (old ++ text) in
    let is : new ≡ old ++ front = (starts_Decides new old).0 both.0 in
    let all : old ++ text ≡ old ++ (front ++ rest) =
    (starts_Decides (old ++ text) new).0 both.1 ∙ ap (λ (x : List ℕ). x ++ rest) is ∙ append_assoc old front rest in
    record { front = front; rest = rest; is = is; parts = append_cancel_left old text (front ++ rest) all }

pub begun_from : (old text new : List ℕ) → IsBegun old text new → is_begun old text new ≡ true
unfolding is_begun
begun_from old text new b =
    let all : old ++ text ≡ new ++ b.rest =
    ap (λ (x : List ℕ). old ++ x) b.parts ∙ sym (append_assoc old b.front b.rest) ∙ ap (λ (x : List ℕ). x ++ b.rest) (sym b.is) in
    and_from (starts_with nat_eq new old) (starts_with nat_eq (old ++ text) new) ((starts_Decides new old).1 b.front b.is) ((starts_Decides (old ++ text) new).1 b.rest all)

-- nothing of it
pub begun_none : (old text new : List ℕ) → new ≡ old → is_begun old text new ≡ true
begun_none old text new e = begun_from old text new (record { front = []; rest = text; is = e ∙ sym (append-nil old); parts = refl })

-- all of it
pub begun_whole : (old text new : List ℕ) → new ≡ old ++ text → is_begun old text new ≡ true
begun_whole old text new e = begun_from old text new (record { front = text; rest = []; is = e; parts = sym (append-nil text) })

-- a beginning of its first part
pub begun_first : (old first more new : List ℕ) → is_begun old first new ≡ true → is_begun old (first ++ more) new ≡ true
begun_first old first more new h =
    let b = begun_parts old first new h in
    begun_from old (first ++ more) new (record { front = b.front; rest = b.rest ++ more; is = b.is; parts = ap (λ (x : List ℕ). x ++ more) b.parts ∙ append_assoc b.front b.rest more })

-- its first part, and a beginning of what follows
pub begun_then : (old first more new : List ℕ) → is_begun (old ++ first) more new ≡ true → is_begun old (first ++ more) new ≡ true
begun_then old first more new h =
    let b = begun_parts (old ++ first) more new h in
    begun_from old (first ++ more) new (record {
      front = first ++ b.front;
      rest = b.rest;
      is = b.is ∙ append_assoc old first b.front;
      parts = ap (λ (x : List ℕ). first ++ x) b.parts ∙ sym (append_assoc first b.front b.rest);
    })

-- its first byte, and a beginning of what follows
pub begun_byte : (old : List ℕ) (byte : ℕ) (more new : List ℕ) → is_begun (old ++ byte ∷ []) more new ≡ true → is_begun old (byte ∷ more) new ≡ true
begun_byte old byte more new h = begun_then old (byte ∷ []) more new h

-- the texts of the first items of a list, and a beginning of the text of the next
items_at : {X : Type 0} (f : X → List ℕ) (xs : List X) (i : ℕ) (x : X) → i < length xs → x ≡ get_or xs i x → flat_map f xs ≡ flat_map f (take i xs) ++ (f x ++ flat_map f (drop (suc i) xs))
items_at f [] i x lt e = absurd (omega (arith, lt))
items_at f (y ∷ ys) zero x lt e = ap (λ z. f z ++ flat_map f ys) (sym e)
items_at f (y ∷ ys) (suc i) x lt e =
    ap (λ (r : List ℕ). f y ++ r) (items_at f ys i x (omega (arith, lt)) e) ∙ sym (append_assoc (f y) (flat_map f (take i ys)) (f x ++ flat_map f (drop (suc i) ys)))

pub begun_item : {X : Type 0} (f : X → List ℕ) (xs : List X) (i : ℕ) (x : X) (old mid new : List ℕ) → i < length xs → x ≡ get_or xs i x → mid ≡ old ++ flat_map f (take i xs) → is_begun mid (f x) new ≡ true → is_begun old (flat_map f xs) new ≡ true
begun_item f xs i x old mid new lt at e h =
    let front = flat_map f (take i xs) in
    let rest = flat_map f (drop (suc i) xs) in
    subst (λ (t : List ℕ). is_begun old t new ≡ true) (sym (items_at f xs i x lt at)) (begun_then old front (f x ++ rest) new (begun_first (old ++ front) (f x) rest new (subst (λ (m : List ℕ). is_begun m (f x) new ≡ true) e h)))

-- a beginning of the text, and then a beginning of the rest of it
pub begun_on : (old text mid rest new : List ℕ) → mid ++ rest ≡ old ++ text → is_begun old text mid ≡ true → is_begun mid rest new ≡ true → is_begun old text new ≡ true
begun_on old text mid rest new all before h =
    let b = begun_parts old text mid before in
    let m = begun_parts mid rest new h in
    let same : rest ≡ b.rest =
    append_cancel_left mid rest b.rest (all ∙ ap (λ (x : List ℕ). old ++ x) b.parts ∙ sym (append_assoc old b.front b.rest) ∙ ap (λ (x : List ℕ). x ++ b.rest) (sym b.is)) in
    begun_from old text new (record {
      front = b.front ++ m.front;
      rest = m.rest;
      is = m.is ∙ ap (λ (x : List ℕ). x ++ m.front) b.is ∙ append_assoc old b.front m.front;
      parts = b.parts ∙ ap (λ (x : List ℕ). b.front ++ x) (sym same ∙ m.parts) ∙ sym (append_assoc b.front m.front m.rest);
    })

-- ---- what a printer returns

-- all of the text
pub all_of : {E : Type 0} (old text new : List ℕ) → new ≡ old ++ text → Appends {E = E} (Ok tt) old text new
all_of old text new e = record { whole = e; begun = begun_whole old text new e }

-- after an error a beginning of the text
pub begun_err : {E : Type 0} (result : Result ⊤ E) (old text new : List ℕ) → IsErr result → is_begun old text new ≡ true → Appends result old text new
begun_err (Ok x) old text new err begun = absurd (false≢true err)
begun_err (Err e) old text new err begun = record { whole = tt; begun = begun }

-- all of the text, or after an error none of it
pub all_or_none : {E : Type 0} (result : Result ⊤ E) (old text new : List ℕ) → OnOk result (new ≡ old ++ text) → OnErr result (new ≡ old) → Appends result old text new
all_or_none (Ok x) old text new ok err = record { whole = ok; begun = begun_whole old text new ok }
all_or_none (Err e) old text new ok err = record { whole = ok; begun = begun_none old text new err }

pub ruleset printing = (append_assoc, begun_none, begun_whole, begun_first, begun_then, begun_byte)
