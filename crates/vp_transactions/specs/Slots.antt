-- A list whose items are in the slots of a slab.
use Rattle.std.specs.Prelude.{◌≡◌, ◌≢◌, ℕ, List, [], ◌∷◌, length}
use Rattle.std.specs.List.{filter_map, AllByRecursion}
use Rattle.slab.specs.Slab.{Slab, get, ContainsKey, slab_len}

-- no key is listed twice
abbrev pub AreApart : List ℕ → Type 0
AreApart [] = Unit {0}
AreApart (key ∷ keys) = AllByRecursion (λ other. other ≢ key) keys × AreApart keys

module _ {T : Type 0} where
  -- the items at these keys, in their order
  abbrev pub items_at : Slab T → List ℕ → List T
  items_at slab keys = filter_map (get slab) keys

  -- each of the slab's items has one of these keys
  pub record AreKeys (slab : Slab T) (keys : List ℕ) : Type 0 where
    pub used : AllByRecursion (ContainsKey slab) keys
    pub apart : AreApart keys
    pub all : slab_len slab ≡ length keys
