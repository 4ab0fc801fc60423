-- The list of a key after it was changed.
use Rattle.std.proofs.Common.{◌≡◌, ℕ, ◌∙◌, ◌==◌, not, Bool, true, false, List, [], ◌∷◌, filter, Some, None, length, if◌then◌else◌, refl, ap, sym, arith}
use Rattle.std.proofs.lemmas.Bool.Decides.{nat_tests}
use Rattle.std.specs.Cmp.{IsEquivalence}
use Rattle.std.specs.List.{list_any}
use Rattle.std.specs.Option.{option_map_or}
use Rattle.std.specs.Map.{lookup}
use Rattle.std.specs.declared.vec.Vec.{Vec}
use Rattle.indexmap.specs.IndexMap.{IndexMap, get, Updates}
use Rattle.vp_locks.specs.Index.{places_of}

-- a list of no places
pub none_left : (ks : List ℕ) (n : ℕ) → n ≡ length ks → (n == 0) ≡ true → ks ≡ []
none_left [] n long h = refl
none_left (k ∷ ks) n long h = absurd (grind (arith, nat_tests, long, h))

module _ {K A S : Type 0} {eq : K → K → Bool} (laws : IsEquivalence eq) (old new : IndexMap K (Vec ℕ A) S) (key : K) where
  -- equal keys have the same list
  same_list : (q : K) → eq key q ≡ true → places_of eq old key ≡ places_of eq old q
  same_list q h = λ i. option_map_or (λ (list : Vec ℕ A). list.items) (lookup (λ z. laws.congr key q z h i) old.entries) []

  module _ (f : List ℕ → List ℕ) where
    pub list_written : (now : Vec ℕ A) → Updates eq old new key (Some now) → now.items ≡ f (places_of eq old key) → (q : K) → places_of eq new q ≡ (if eq key q then f (places_of eq old q) else places_of eq old q)
    list_written now up is q = ap (λ o. option_map_or (λ (list : Vec ℕ A). list.items) o []) (up.0 q) ∙ by (eq key q) refl
      where
        by : (b : Bool) → eq key q ≡ b → option_map_or (λ (list : Vec ℕ A). list.items) (if b then Some now else get eq old q) [] ≡ (if b then f (places_of eq old q) else places_of eq old q)
        by true e = is ∙ ap f (same_list q e)
        by false e = refl

    -- a list that has become empty is removed
    pub list_emptied : (last : IndexMap K (Vec ℕ A) S) → ((q : K) → places_of eq new q ≡ (if eq key q then f (places_of eq old q) else places_of eq old q)) → f (places_of eq old key) ≡ [] → Updates eq new last key None → (q : K) → places_of eq last q ≡ (if eq key q then f (places_of eq old q) else places_of eq old q)
    list_emptied last written empty up q = ap (λ o. option_map_or (λ (list : Vec ℕ A). list.items) o []) (up.0 q) ∙ by (eq key q) refl ∙ written q
      where
        by : (b : Bool) → eq key q ≡ b → option_map_or (λ (list : Vec ℕ A). list.items) (if b then None else get eq new q) [] ≡ places_of eq new q
        by true e = sym (ap f (sym (same_list q e)) ∙ empty) ∙ sym (written q ∙ ap (λ b. if b then f (places_of eq old q) else places_of eq old q) e)
        by false e = refl

-- another place stays
pub any_others : (place other : ℕ) → (other == place) ≡ false → (ks : List ℕ) → list_any (λ k. k == other) (filter (λ k. not (k == place)) ks) ≡ list_any (λ k. k == other) ks
any_others place other apart [] = refl
any_others place other apart (k ∷ ks) = let rest = any_others place other apart ks in grind (arith, nat_tests, rest, apart)
