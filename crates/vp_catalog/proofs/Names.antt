-- The bytes of the records' names, which are in a set, each at the place of its record.
use Rattle.std.proofs.Common.{◌≡◌, ◌∙◌, ℕ, ◌+◌, Bool, List, [], ◌∷◌, ◌++◌, map, cond, Some, refl, sym, ap, false, ◌||◌}
use Rattle.std.specs.Prelude.{position}
use Rattle.std.specs.List.{AllZip, list_any, position_from}
use Rattle.std.specs.Str.{bytes_eq}
use Rattle.std.specs.Cmp.Lexicographic.{nat_list_eq_equiv}
use Rattle.std.proofs.lemmas.Iterator.Adapters.{position_from-zero}
use Rattle.std.proofs.lemmas.List.{map-append}
use Rattle.indexmap.specs.IndexSet.{insert_key}
use Rattle.vp_model.specs.Catalogue.{RecordEntry}

module _ {X Y : Type 0} (f : X → Y) (t : X → Bool) (u : Y → Bool) (same : (x : X) → t x ≡ u (f x)) where
  place_read : (n : ℕ) (xs : List X) → position_from t n xs ≡ position_from u n (map f xs)
  place_read n [] = refl
  place_read n (x ∷ xs) = rw (same x) (ap (cond (u (f x)) (Some n)) (place_read (n + 1) xs))

  any_read : (xs : List X) → list_any t xs ≡ list_any u (map f xs)
  any_read [] = refl
  any_read (x ∷ xs) = rw (same x) (ap (λ b. u (f x) || b) (any_read xs))

module _ {K : Type 0} (bytes : K → List ℕ) (clones : K → K → Type 0) (same : (x y : K) → clones x y → bytes y ≡ bytes x) where
  -- copies have the same bytes
  pub bytes_copied : (keys copies : List K) → AllZip clones keys copies → map bytes copies ≡ map bytes keys
  bytes_copied [] [] h = refl
  bytes_copied [] (c ∷ cs) h = absurd h
  bytes_copied (k ∷ ks) [] h = absurd h
  bytes_copied (k ∷ ks) (c ∷ cs) h = rw (same k c h.0) (ap (λ l. bytes k ∷ l) (bytes_copied ks cs h.1))

abbrev entry_name : RecordEntry → List ℕ
entry_name entry = entry.name

abbrev pub is_named : List ℕ → RecordEntry → Bool
is_named name entry = bytes_eq entry.name name

module _ {K : Type 0} (bytes : K → List ℕ) (name : List ℕ) (keys : List K) (records : List RecordEntry) (listed : map bytes keys ≡ map entry_name records) where
  turned : (entry : RecordEntry) → is_named name entry ≡ bytes_eq name entry.name
  turned entry = nat_list_eq_equiv.symm entry.name name

  -- a name has the same place as its bytes
  pub name_place : position (λ k. bytes_eq name (bytes k)) keys ≡ position_from (is_named name) 0 records
  name_place = position_from-zero (λ k. bytes_eq name (bytes k)) keys ∙ place_read bytes _ (bytes_eq name) (λ k. refl) 0 keys ∙ ap (position_from (bytes_eq name) 0) listed ∙ sym (place_read entry_name (is_named name) (bytes_eq name) turned 0 records)

  -- a name is in the catalogue exactly where its bytes are in the set
  pub name_known : list_any (λ k. bytes_eq name (bytes k)) keys ≡ list_any (is_named name) records
  name_known = any_read bytes _ (bytes_eq name) (λ k. refl) keys ∙ ap (list_any (bytes_eq name)) listed ∙ sym (any_read entry_name (is_named name) (bytes_eq name) turned records)

module _ {K : Type 0} (bytes : K → List ℕ) (keys : List K) (records : List RecordEntry) (listed : map bytes keys ≡ map entry_name records) where
  -- a new record's name is appended to the others
  pub name_added : (key : K) (entry : RecordEntry) → bytes key ≡ entry.name → list_any (is_named entry.name) records ≡ false → map bytes (insert_key (λ x y. bytes_eq (bytes x) (bytes y)) keys key) ≡ map entry_name (records ++ entry ∷ [])
  name_added key entry read fresh =
      let absent : list_any (λ k. bytes_eq (bytes key) (bytes k)) keys ≡ false = rw read (name_known bytes entry.name keys records listed ∙ fresh) in
      rw (absent, map-append bytes keys (key ∷ []), map-append entry_name records (entry ∷ []), listed, read) refl
