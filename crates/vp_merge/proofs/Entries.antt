-- The entry of a frame after one was put in, or written.
use Rattle.std.proofs.Common.{◌≡◌, ◌∙◌, ap, sym, subst, Bool, true, false, cond, ℕ, List, [], ◌∷◌, Some, None, refl}
use Rattle.std.specs.Prelude.{Option, option_and_then, option_map, is_some, not, position, slice_get, IfSome}
use Rattle.std.specs.Str.{bytes_eq}
use Rattle.std.specs.Map.{keys_of, lookup, set_value, values_of}
use Rattle.std.proofs.lemmas.Map.{keys-set_value}
use Rattle.std.proofs.lemmas.Bool.{false≢true}
use Rattle.std.proofs.lemmas.Slice.Eq.{bytes_eq-Decides}
use Rattle.std.specs.Option.{option_or}
use Rattle.std.specs.declared.vec.Vec.{Vec}
use Rattle.indexmap.specs.IndexMap.{insert_entry}
use Rattle.indexmap.proofs.MapLemmas.{value_index, some_index}
use Rattle.vp_merge.specs.Numbers.{number_at, number_in, place_of, HaveSame, HasFrame}
use Rattle.vp_merge.specs.declared.numbers.FrameNumbers.{FrameNumbers}

pub same : (xs ys : List ℕ) → bytes_eq xs ys ≡ true → xs ≡ ys
same xs ys e = (bytes_eq-Decides xs ys).0 e

pub yes : (xs ys : List ℕ) → xs ≡ ys → bytes_eq xs ys ≡ true
yes xs ys e = (bytes_eq-Decides xs ys).1 e

iff : (a b : Bool) → (a ≡ true → b ≡ true) → (b ≡ true → a ≡ true) → a ≡ b
iff true b f g = sym (f refl)
iff false true f g = absurd (false≢true (g refl))
iff false false f g = refl

-- three texts: where the first two are the same, the third is both or neither
along : (x y b : List ℕ) → bytes_eq x y ≡ true → bytes_eq x b ≡ bytes_eq b y
along x y b e =
    iff (bytes_eq x b) (bytes_eq b y)
    (λ h. yes b y (sym (same x b h) ∙ same x y e))
    (λ h. yes x b (same x y e ∙ sym (same b y h)))

both : (x y b : List ℕ) → bytes_eq b y ≡ true → bytes_eq x b ≡ true → bytes_eq x y ≡ true
both x y b q r = yes x y (same x b r ∙ same b y q)

pub turned : (x b : List ℕ) → bytes_eq b x ≡ bytes_eq x b
turned x b = iff (bytes_eq b x) (bytes_eq x b) (λ h. yes x b (sym (same b x h))) (λ h. yes b x (sym (same x b h)))

module _ {K X : Type 0} (items : K → List ℕ) (b : List ℕ) where
  abbrev at : List (K × X) → Option X
  at es = lookup (λ key. bytes_eq b (items key)) es

  module _ (eq : K → K → Bool) (is : (x y : K) → eq x y ≡ bytes_eq (items x) (items y)) (k : K) (v : X) where
    pub inserted : (es : List (K × X)) → at (insert_entry eq es k v) ≡ cond (bytes_eq (items k) b) (Some v) (at es)
    inserted [] = ap (λ t. cond t (Some v) None) (turned (items k) b)
    inserted (e ∷ es) = go (eq k e.0) (bytes_eq b (items e.0)) (bytes_eq (items k) b) refl refl refl (is k e.0) (inserted es)
      where
        go : (p q r : Bool) → eq k e.0 ≡ p → bytes_eq b (items e.0) ≡ q → bytes_eq (items k) b ≡ r → eq k e.0 ≡ bytes_eq (items k) (items e.0)
            → at (insert_entry eq es k v) ≡ cond (bytes_eq (items k) b) (Some v) (at es)
            → at (cond p ((e.0, v) ∷ es) (e ∷ insert_entry eq es k v)) ≡ cond r (Some v) (cond q (Some e.1) (at es))
        go true true true ep eq_ er i rest = rw eq_ refl
        go true true false ep eq_ er i rest = absurd (false≢true (sym er ∙ along (items k) (items e.0) b (sym i ∙ ep) ∙ eq_))
        go true false true ep eq_ er i rest = absurd (false≢true (sym eq_ ∙ sym (along (items k) (items e.0) b (sym i ∙ ep)) ∙ er))
        go true false false ep eq_ er i rest = rw eq_ refl
        go false true true ep eq_ er i rest = absurd (false≢true (sym ep ∙ i ∙ both (items k) (items e.0) b eq_ er))
        go false true false ep eq_ er i rest = rw eq_ refl
        go false false r ep eq_ er i rest = rw eq_ (rest ∙ ap (λ t. cond t (Some v) (at es)) er)

  module _ (f : List ℕ) (w : X) where
    pub written : (es : List (K × X)) → at (set_value (λ key. bytes_eq f (items key)) es w) ≡ cond (bytes_eq f b) (option_map (λ _. w) (at es)) (at es)
    written [] = none (bytes_eq f b)
      where
        none : (r : Bool) → None ≡ cond {A = Option X} r None None
        none true = refl
        none false = refl
    written (e ∷ es) = go (bytes_eq f (items e.0)) (bytes_eq b (items e.0)) (bytes_eq f b) refl refl refl (written es)
      where
        go : (p q r : Bool) → bytes_eq f (items e.0) ≡ p → bytes_eq b (items e.0) ≡ q → bytes_eq f b ≡ r
            → at (set_value (λ key. bytes_eq f (items key)) es w) ≡ cond (bytes_eq f b) (option_map (λ _. w) (at es)) (at es)
            → at (cond p ((e.0, w) ∷ es) (e ∷ set_value (λ key. bytes_eq f (items key)) es w)) ≡ cond r (option_map (λ _. w) (cond q (Some e.1) (at es))) (cond q (Some e.1) (at es))
        go true true true ep eq_ er rest = rw eq_ refl
        go true true false ep eq_ er rest = absurd (false≢true (sym er ∙ along f (items e.0) b ep ∙ eq_))
        go true false true ep eq_ er rest = absurd (false≢true (sym eq_ ∙ sym (along f (items e.0) b ep) ∙ er))
        go true false false ep eq_ er rest = rw eq_ refl
        go false true true ep eq_ er rest = absurd (false≢true (sym ep ∙ both f (items e.0) b eq_ er))
        go false true false ep eq_ er rest = rw eq_ refl
        go false false r ep eq_ er rest = rw eq_ (rest ∙ ap (λ t. cond t (option_map (λ _. w) (at es)) (at es)) er)

-- ---- the entries of a map

module _ {A : Type 0} (old new : List (Vec ℕ A × Option ℕ)) (bytes frame : List ℕ) where
  abbrev entry : List (Vec ℕ A × Option ℕ) → Option (Option ℕ)
  entry es = lookup (λ (key : Vec ℕ A). bytes_eq bytes key.items) es

  pub added : (key : Vec ℕ A) → new ≡ insert_entry (λ (x y : Vec ℕ A). bytes_eq x.items y.items) old key None → key.items ≡ frame
      → entry new ≡ cond (bytes_eq frame bytes) (Some None) (entry old)
  added key e f =
      ap entry e
      ∙ inserted (λ (k : Vec ℕ A). k.items) bytes (λ (x y : Vec ℕ A). bytes_eq x.items y.items) (λ x y. refl) key None old
      ∙ ap (λ text. cond (bytes_eq text bytes) (Some None) (entry old)) f

  pub noted : (was now : Option ℕ) (number : ℕ) → Some was ≡ lookup (λ (k : Vec ℕ A). bytes_eq frame k.items) old → new ≡ set_value (λ (k : Vec ℕ A). bytes_eq frame k.items) old now → now ≡ option_or was (Some number)
      → entry new ≡ cond (bytes_eq frame bytes) (option_map (λ n. option_or n (Some number)) (entry old)) (entry old)
  noted was now number found e is =
      ap entry e
      ∙ written (λ (k : Vec ℕ A). k.items) bytes frame now old
      ∙ by (bytes_eq frame bytes) refl
    where
      by : (b : Bool) → bytes_eq frame bytes ≡ b → cond b (option_map (λ _. now) (entry old)) (entry old) ≡ cond b (option_map (λ n. option_or n (Some number)) (entry old)) (entry old)
      by true p =
          let there : entry old ≡ Some was = subst (λ text. lookup (λ (k : Vec ℕ A). bytes_eq text k.items) old ≡ Some was) (same frame bytes p) (sym found) in
          rw (there, is) refl
      by false p = refl

  -- a number that is written leaves each frame at its place
  pub kept_place : (w : Option ℕ) → new ≡ set_value (λ (k : Vec ℕ A). bytes_eq frame k.items) old w
      → position (λ (k : Vec ℕ A). bytes_eq bytes k.items) (keys_of new) ≡ position (λ (k : Vec ℕ A). bytes_eq bytes k.items) (keys_of old)
  kept_place w e = ap (position (λ (k : Vec ℕ A). bytes_eq bytes k.items)) (ap keys_of e ∙ keys-set_value (λ (k : Vec ℕ A). bytes_eq frame k.items) old w)

-- ---- places

module _ {K X : Type 0} (test : K → Bool) (es : List (K × Option X)) where
  at_place : (o : Option ℕ) → position test (keys_of es) ≡ o
      → option_and_then (λ (i : ℕ). option_and_then (λ (x : Option X). x) (slice_get (values_of es) i)) o ≡ option_and_then (λ (x : Option X). x) (lookup test es)
  at_place None e = none (lookup test es) (sym (some_index test es) ∙ ap is_some e)
    where
      none : (found : Option (Option X)) → is_some found ≡ false → None ≡ option_and_then (λ (x : Option X). x) found
      none None e = refl
      none (Some x) e = absurd (false≢true (sym e))
  at_place (Some i) e = ap (option_and_then (λ (x : Option X). x)) (subst (λ (o : Option ℕ). IfSome o (λ i. slice_get (values_of es) i ≡ lookup test es)) e (value_index test es))

-- the number at the place of a frame is the frame's
pub number_there : (n : FrameNumbers) (bytes : List ℕ) → number_at n (place_of n bytes) ≡ number_in n bytes
number_there n bytes = at_place _ n.numbers.entries (place_of n bytes) refl

-- where each frame has kept its place, none has gone
pub same_there : (old new : FrameNumbers) → HaveSame old new → (bytes : List ℕ) → HasFrame old bytes → HasFrame new bytes
same_there old new same bytes there = sym (some_index _ new.numbers.entries) ∙ ap is_some (same bytes) ∙ some_index _ old.numbers.entries ∙ there

-- where there was none, the new one stays; where there was one, it does
pub first_now : (was : Option ℕ) (number : ℕ) (none : Bool) → is_some was ≡ not none → none ≡ true → Some number ≡ option_or was (Some number)
first_now None number none s e = refl
first_now (Some n) number none s e = absurd (false≢true (ap not (sym e) ∙ sym s))

pub first_before : (was : Option ℕ) (number : ℕ) (none : Bool) → is_some was ≡ not none → none ≡ false → was ≡ option_or was (Some number)
first_before None number none s e = absurd (false≢true (s ∙ ap not e))
first_before (Some n) number none s e = refl
