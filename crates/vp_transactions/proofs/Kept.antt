-- What happens to the listed items where a slot of the slab changes.
use Rattle.std.proofs.Common.{◌≡◌, ◌≢◌, ℕ, zero, suc, ◌+◌, ◌<◌, ◌≤◌, true, false, List, [], ◌∷◌, ◌++◌, length, get_or, set, Option, Some, None, is_some, cond, refl, sym, ap, ◌∙◌, subst, Bor, inl, inr, arith}
use Rattle.std.specs.Prelude.{slice_get}
use Rattle.std.specs.List.{remove, cons_option, AllByRecursion}
use Rattle.std.proofs.lemmas.Bool.{cases_eq, cases_lt}
use Rattle.std.proofs.lemmas.List.{length-append}
use Rattle.std.proofs.lemmas.List.Elements.{filter_map-append}
use Rattle.std.proofs.lemmas.List.Sums.{sum_by-set}
use Rattle.std.proofs.lemmas.Option.{slice_get_past, slice_get_read}
use Rattle.std.specs.Slice.{IsItemAt}
use Rattle.slab.specs.Slab.{Slab, get, ContainsKey, slab_len, with_value, Updates}
use Rattle.slab.proofs.SlabLemmas.{ContainsKey-within, Updates-with_value}
use Rattle.vp_transactions.specs.Slots.{items_at, AreApart, AreKeys}

-- what holds of each key holds of the one at a place, of those that are left where one is removed, and of one more
module _ (P : ℕ → Type 0) where
  at : (keys : List ℕ) (i key : ℕ) → slice_get keys i ≡ Some key → AllByRecursion P keys → P key
  at [] i key e h = absurd (cc)
  at (k ∷ keys) zero key e h = let same : k ≡ key = cc in subst P same h.0
  at (k ∷ keys) (suc i) key e h = at keys i key e h.1

  without : (keys : List ℕ) (i : ℕ) → AllByRecursion P keys → AllByRecursion P (remove keys i)
  without [] zero h = tt
  without [] (suc i) h = tt
  without (k ∷ keys) zero h = h.1
  without (k ∷ keys) (suc i) h = (h.0, without keys i h.1)

  with_last : (keys : List ℕ) (key : ℕ) → AllByRecursion P keys → P key → AllByRecursion P (keys ++ key ∷ [])
  with_last [] key h p = (p, tt)
  with_last (k ∷ keys) key h p = (h.0, with_last keys key h.1 p)

-- a new key comes last, or a key is removed: all keys stay different
apart_with : (keys : List ℕ) (key : ℕ) → AreApart keys → AllByRecursion (λ other. other ≢ key) keys → AreApart (keys ++ key ∷ [])
apart_with [] key a h = (tt, tt)
apart_with (k ∷ keys) key a h = (with_last _ keys key a.0 (λ e. h.0 (sym e)), apart_with keys key a.1 h.1)

apart_without : (keys : List ℕ) (i : ℕ) → AreApart keys → AreApart (remove keys i)
apart_without [] zero a = tt
apart_without [] (suc i) a = tt
apart_without (k ∷ keys) zero a = a.1
apart_without (k ∷ keys) (suc i) a = (without _ keys i a.0, apart_without keys i a.1)

-- the keys that are left differ from the one that was removed
gone : (keys : List ℕ) (i key : ℕ) → slice_get keys i ≡ Some key → AreApart keys → AllByRecursion (λ other. other ≢ key) (remove keys i)
gone [] i key e a = absurd (cc)
gone (k ∷ keys) zero key e a = let same : k ≡ key = cc in subst (λ k. AllByRecursion (λ other. other ≢ k) keys) same a.0
gone (k ∷ keys) (suc i) key e a = (λ same. at _ keys i key e a.0 (sym same), gone keys i key e a.1)

remove_past : {T : Type 0} (xs : List T) (i : ℕ) → length xs ≤ i → remove xs i ≡ xs
remove_past [] zero h = refl
remove_past [] (suc i) h = refl
remove_past (x ∷ xs) zero h = absurd (omega arith)
remove_past (x ∷ xs) (suc i) h = ap (λ ys. x ∷ ys) (remove_past xs i (omega arith))

length_without : (keys : List ℕ) (i key : ℕ) → slice_get keys i ≡ Some key → length (remove keys i) + 1 ≡ length keys
length_without [] i key e = absurd (cc)
length_without (k ∷ keys) zero key e = omega arith
length_without (k ∷ keys) (suc i) key e = let rest = length_without keys i key e in omega (arith, rest)

module _ {T : Type 0} where
  length_items : (s : Slab T) (keys : List ℕ) → AllByRecursion (ContainsKey s) keys → length (items_at s keys) ≡ length keys
  length_items s [] h = refl
  length_items s (k ∷ keys) h = counts (get s k) h.0 (items_at s keys) (length_items s keys h.1)
    where
      counts : (o : Option T) → is_some o ≡ true → (xs : List T) → length xs ≡ length keys → length (cons_option o xs) ≡ suc (length keys)
      counts None p xs h = absurd (cc)
      counts (Some x) p xs h = ap suc h

  -- an item is found by its key
  got : (s : Slab T) (keys : List ℕ) (i key : ℕ) → slice_get keys i ≡ Some key → AllByRecursion (ContainsKey s) keys → slice_get (items_at s keys) i ≡ get s key
  got s [] i key e h = absurd (cc)
  got s (k ∷ keys) zero key e h = let same : k ≡ key = cc in rw (← same) (first (get s k) h.0)
    where
      first : (o : Option T) → is_some o ≡ true → slice_get (cons_option o (items_at s keys)) 0 ≡ o
      first None p = absurd (cc)
      first (Some x) p = refl
  got s (k ∷ keys) (suc i) key e h = later (get s k) h.0 (got s keys i key e h.1)
    where
      later : (o : Option T) → is_some o ≡ true → slice_get (items_at s keys) i ≡ get s key → slice_get (cons_option o (items_at s keys)) (suc i) ≡ get s key
      later None p h = absurd (cc)
      later (Some x) p h = h

  module _ (old new : Slab T) (key : ℕ) (slot : Option T) (u : Updates old new key slot) where
    -- the other keys have the items that they had
    others_have : (keys : List ℕ) → AllByRecursion (λ other. other ≢ key) keys → items_at new keys ≡ items_at old keys
    others_have [] h = refl
    others_have (k ∷ keys) h = rw (u.others k h.0, others_have keys h.1) refl

    others_used : (keys : List ℕ) → AllByRecursion (λ other. other ≢ key) keys → AllByRecursion (ContainsKey old) keys → AllByRecursion (ContainsKey new) keys
    others_used [] h p = tt
    others_used (k ∷ keys) h p = (rw (u.others k h.0) p.0, others_used keys h.1 p.1)

    -- an item is removed with its key
    items_without : (keys : List ℕ) (i : ℕ) → slice_get keys i ≡ Some key → AreApart keys → AllByRecursion (ContainsKey old) keys → items_at new (remove keys i) ≡ remove (items_at old keys) i
    items_without [] i e a p = absurd (cc)
    items_without (k ∷ keys) zero e a p = others_have keys (gone (k ∷ keys) zero key e a) ∙ sym (rest (get old k) p.0)
      where
        rest : (o : Option T) → is_some o ≡ true → remove (cons_option o (items_at old keys)) 0 ≡ items_at old keys
        rest None p = absurd (cc)
        rest (Some x) p = refl
    items_without (k ∷ keys) (suc i) e a p =
        let apart : k ≢ key = λ same. at _ keys i key e a.0 (sym same) in
        rw (u.others k apart) (later (get old k) p.0 (items_without keys i e a.1 p.1))
      where
        later : (o : Option T) → is_some o ≡ true → items_at new (remove keys i) ≡ remove (items_at old keys) i → cons_option o (items_at new (remove keys i)) ≡ remove (cons_option o (items_at old keys)) (suc i)
        later None p h = absurd (cc)
        later (Some x) p h = ap (λ xs. x ∷ xs) h

    pub removed : (keys : List ℕ) (i : ℕ) → slice_get keys i ≡ Some key → AreKeys old keys → slab_len new + 1 ≡ slab_len old → AreKeys new (remove keys i)
    removed keys i e k h =
        record {
          used = others_used (remove keys i) (gone keys i key e k.apart) (without _ keys i k.used);
          apart = apart_without keys i k.apart;
          all = omega (arith, k.all, h, length_without keys i key e);
        }

    pub removed_items : (keys : List ℕ) (i : ℕ) → slice_get keys i ≡ Some key → AreKeys old keys → items_at new (remove keys i) ≡ remove (items_at old keys) i
    removed_items keys i e k = items_without keys i e k.apart k.used

  module _ (old new : Slab T) (key : ℕ) (item : T) (u : Updates old new key (Some item)) where
    -- an item replaces another one
    items_with : (keys : List ℕ) (i : ℕ) → slice_get keys i ≡ Some key → AreApart keys → AllByRecursion (ContainsKey old) keys → items_at new keys ≡ set (items_at old keys) i item
    items_with [] i e a p = absurd (cc)
    items_with (k ∷ keys) zero e a p =
        let same : k ≡ key = cc in
        let here : get new k ≡ Some item = ap (get new) same ∙ u.changed in
        rw (here, others_have old new key (Some item) u keys (gone (k ∷ keys) zero key e a)) (sym (rest (get old k) p.0))
      where
        rest : (o : Option T) → is_some o ≡ true → set (cons_option o (items_at old keys)) 0 item ≡ item ∷ items_at old keys
        rest None p = absurd (cc)
        rest (Some x) p = refl
    items_with (k ∷ keys) (suc i) e a p =
        let apart : k ≢ key = λ same. at _ keys i key e a.0 (sym same) in
        rw (u.others k apart) (later (get old k) p.0 (items_with keys i e a.1 p.1))
      where
        later : (o : Option T) → is_some o ≡ true → items_at new keys ≡ set (items_at old keys) i item → cons_option o (items_at new keys) ≡ set (cons_option o (items_at old keys)) (suc i) item
        later None p h = absurd (cc)
        later (Some x) p h = ap (λ xs. x ∷ xs) h

    used_still : (keys : List ℕ) → AllByRecursion (ContainsKey old) keys → AllByRecursion (ContainsKey new) keys
    used_still [] h = tt
    used_still (k ∷ keys) h = (here, used_still keys h.1)
      where
        here : ContainsKey new k
        here = elim (cases_eq k key) [
          | inl same ↦ ap is_some (ap (get new) same ∙ u.changed)
          | inr apart ↦ rw (u.others k apart) h.0
        ]

    pub replaced : (keys : List ℕ) → AreKeys old keys → slab_len new ≡ slab_len old → AreKeys new keys
    replaced keys k h = record { used = used_still keys k.used; apart = k.apart; all = h ∙ k.all }

    pub replaced_items : (keys : List ℕ) (i : ℕ) → slice_get keys i ≡ Some key → AreKeys old keys → items_at new keys ≡ set (items_at old keys) i item
    replaced_items keys i e k = items_with keys i e k.apart k.used

    -- a key that had no item is not one of these
    unlisted : get old key ≡ None → (keys : List ℕ) → AllByRecursion (ContainsKey old) keys → AllByRecursion (λ other. other ≢ key) keys
    unlisted v [] h = tt
    unlisted v (k ∷ keys) h = (apart, unlisted v keys h.1)
      where
        apart : k ≢ key
        apart same = let here : get old k ≡ None = ap (get old) same ∙ v in let there : is_some (get old k) ≡ true = h.0 in absurd (cc)

    pub pushed : get old key ≡ None → (keys : List ℕ) → AreKeys old keys → slab_len new ≡ slab_len old + 1 → AreKeys new (keys ++ key ∷ [])
    pushed v keys k h =
        let others = unlisted v keys k.used in
        record {
          used = with_last _ keys key (others_used old new key (Some item) u keys others k.used) (ap is_some u.changed);
          apart = apart_with keys key k.apart others;
          all = omega (arith, k.all, h, length-append keys (key ∷ []));
        }

    pub pushed_items : get old key ≡ None → (keys : List ℕ) → AreKeys old keys → items_at new (keys ++ key ∷ []) ≡ items_at old keys ++ item ∷ []
    pushed_items v keys k =
        filter_map-append (get new) keys (key ∷ [])
        ∙ rw (others_have old new key (Some item) u keys (unlisted v keys k.used), u.changed) refl

  pub length_is : (s : Slab T) (keys : List ℕ) → AreKeys s keys → length (items_at s keys) ≡ length keys
  length_is s keys k = length_items s keys k.used

  pub item_is : (s : Slab T) (keys : List ℕ) (i key : ℕ) → slice_get keys i ≡ Some key → AreKeys s keys → slice_get (items_at s keys) i ≡ get s key
  item_is s keys i key e k = got s keys i key e k.used

  pub key_used : (s : Slab T) (keys : List ℕ) (i key : ℕ) → slice_get keys i ≡ Some key → AreKeys s keys → ContainsKey s key
  key_used s keys i key e k = at _ keys i key e k.used

  pub none_at : (s : Slab T) (keys : List ℕ) (i : ℕ) → length keys ≤ i → AreKeys s keys → slice_get (items_at s keys) i ≡ None
  none_at s keys i past k = slice_get_past _ i (omega (arith, past, length_is s keys k))

  pub remove_none : (s : Slab T) (keys : List ℕ) (i : ℕ) → length keys ≤ i → AreKeys s keys → remove (items_at s keys) i ≡ items_at s keys
  remove_none s keys i past k = remove_past _ i (omega (arith, past, length_is s keys k))

  -- writing a slot is an update, and leaves as many items
  pub written : (s : Slab T) (key : ℕ) (item : T) → ContainsKey s key → Updates s (with_value s key item) key (Some item)
  written s key item h = Updates-with_value s key item h

  pub written_len : (s : Slab T) (key : ℕ) (item : T) → ContainsKey s key → slab_len (with_value s key item) ≡ slab_len s
  written_len s key item h =
      let f : Option T → ℕ = λ o. cond (is_some o) 1 0 in
      let sums = sum_by-set f s.slots key (Some item) None (ContainsKey-within s key h) in
      let one : f (get s key) ≡ 1 = rw h refl in
      omega (arith, sums, one)

-- the key at a place
pub key_at : (keys : List ℕ) (i : ℕ) (key : Bor ℕ) → IsItemAt keys i (Some key) → slice_get keys i ≡ Some key.now
key_at keys i key h = slice_get_read keys (length keys) i key.now refl h.3.0 h.1

pub read_at : (keys : List ℕ) (n i key : ℕ) → n ≡ length keys → i < n → key ≡ get_or keys i key → slice_get keys i ≡ Some key
read_at keys n i key e l h = slice_get_read keys n i key e l h

-- the place is past the last key
pub past_all : (keys : List ℕ) (n i : ℕ) → n ≡ length keys → (i < n → false ≡ true) → length keys ≤ i
past_all keys n i e h = elim (cases_lt i n) [ inl l ↦ absurd (let no = h l in cc) | inr l ↦ omega (arith, e, l) ]

-- a place in the list of items is the place of a key, and the key is in use
module _ {T : Type 0} (s : Slab T) (keys : List ℕ) (n place : ℕ) (items : List T) (e : n ≡ length keys) (v : items_at s keys ≡ items) (k : AreKeys s keys) (h : place < length items) where
  pub place_within : place < n
  place_within = let same : length (items_at s keys) ≡ length items = ap length v in omega (arith, h, e, length_is s keys k, same)

  module _ (key : ℕ) (read : key ≡ get_or keys place key) where
    pub key_there : slice_get keys place ≡ Some key
    key_there = read_at keys n place key e place_within read

    pub key_is_used : ContainsKey s key
    key_is_used = key_used s keys place key key_there k
