-- A map from the keys of transactions to items, as the list of its items.
use Rattle.std.proofs.Common.{◌≡◌, ◌∙◌, ap, sym, subst, ℕ, Bool, true, false, cond, not, ◌&&◌, ◌||◌, ◌==◌, if◌then◌else◌, List, [], ◌∷◌, ◌++◌, filter, find, Some, None, is_some, Ordering, Less, Equal, Greater, refl, arith}
use Rattle.std.specs.Prelude.{nat_eq, nat_lt}
use Rattle.std.specs.List.{list_any, AllByRecursion}
use Rattle.std.specs.List.Sorted.{IsStrictlySortedBy}
use Rattle.std.specs.Ordering.{ordering_then, is_eq, match_ordering}
use Rattle.std.specs.Map.{keys_of, values_of, lookup, remove_entry, set_value}
use Rattle.std.specs.BTreeMap as tree
use Rattle.indexmap.specs.IndexMap as index
use Rattle.std.proofs.lemmas.Bool.Decides.{nat_tests}
use Rattle.vp_model.specs.Types.{TxnId}
use Rattle.vp_model.specs.Words.{change_first, put, same_txn, txn_before, has_txn}
use Rattle.vp_model.proofs.SameTxn.{same_txn-is}
use Rattle.vp_tables.specs.Keys.{key_of, key_cmp, AreKeyed, AreAscending}

abbrev Key : Type 0
Key = ℕ × ℕ × ℕ

-- whether two keys are the same
abbrev pub key_eq : Key → Key → Bool
key_eq x y = (nat_eq x.0 y.0 && nat_eq x.1 y.1) && nat_eq x.2 y.2

apart : (m n : ℕ) → nat_lt m n ≡ true → (m == n) ≡ false
apart m n h = grind (arith, nat_tests, h)

-- keys are the same exactly where their transactions are
chosen : {X : Type 0} (t u : TxnId) (a b c : X) → match_ordering (key_cmp (key_of t) (key_of u)) a b c ≡ (if same_txn t u then b else (if txn_before t u then a else c))
chosen {X} t u a b c =
    go (nat_lt t.site u.site) (t.site == u.site) (nat_lt t.life u.life) (t.life == u.life) (nat_lt t.seq u.seq) (t.seq == u.seq)
    (apart t.site u.site) (apart t.life u.life) (apart t.seq u.seq)
  where
    go : (l1 e1 l2 e2 l3 e3 : Bool) → (l1 ≡ true → e1 ≡ false) → (l2 ≡ true → e2 ≡ false) → (l3 ≡ true → e3 ≡ false)
        → match_ordering (ordering_then (ordering_then (cond l1 Less (cond e1 Equal Greater)) (cond l2 Less (cond e2 Equal Greater))) (cond l3 Less (cond e3 Equal Greater))) a b c
        ≡ (if e1 && e2 && e3 then b else (if l1 || (e1 && (l2 || (e2 && l3))) then a else c))
    go true false l2 e2 l3 e3 h i j = refl
    go true true l2 e2 l3 e3 h i j = let no : true ≡ false = h refl in absurd (cc)
    go false false l2 e2 l3 e3 h i j = refl
    go false true true false l3 e3 h i j = refl
    go false true true true l3 e3 h i j = let no : true ≡ false = i refl in absurd (cc)
    go false true false false l3 e3 h i j = refl
    go false true false true true false h i j = refl
    go false true false true true true h i j = let no : true ≡ false = j refl in absurd (cc)
    go false true false true false true h i j = refl
    go false true false true false false h i j = refl

same_turned : (t u : TxnId) → same_txn t u ≡ same_txn u t
same_turned t u = grind (arith, nat_tests)

eq_as_choice : (o : Ordering) → is_eq o ≡ match_ordering o false true false
eq_as_choice Less = refl
eq_as_choice Equal = refl
eq_as_choice Greater = refl

only_before : (s b : Bool) → (if s then false else (if b then true else false)) ≡ true → b ≡ true
only_before true b e = absurd (cc)
only_before false true e = refl
only_before false false e = absurd (cc)

before_by_key : (t u : TxnId) → key_cmp (key_of t) (key_of u) ≡ Less → txn_before t u ≡ true
before_by_key t u e = only_before (same_txn t u) (txn_before t u) (sym (chosen t u true false false) ∙ ap (λ o. match_ordering o true false false) e)

not_same : (t u : TxnId) → txn_before t u ≡ true → same_txn u t ≡ false
not_same t u b = grind (arith, nat_tests, b)

not_before : (t u : TxnId) → txn_before t u ≡ true → txn_before u t ≡ false
not_before t u b = grind (arith, nat_tests, b)

only_same : (s b : Bool) → (if s then true else (if b then false else false)) ≡ s
only_same true b = refl
only_same false true = refl
only_same false false = refl

pub by_cmp : (n t : TxnId) → is_eq (key_cmp (key_of n) (key_of t)) ≡ same_txn t n
by_cmp n t =
    eq_as_choice (key_cmp (key_of n) (key_of t)) ∙ chosen n t false true false ∙ only_same (same_txn n t) (txn_before n t) ∙ same_turned n t

pub by_eq : (n t : TxnId) → key_eq (key_of n) (key_of t) ≡ same_txn t n
by_eq n t = grind (arith, nat_tests)

module _ {T : Type 0} (txn : T → TxnId) where
  abbrev Entries : Type 0
  Entries = List (Key × T)

  module _ (n : TxnId) (test : Key → Bool) (says : (t : TxnId) → test (key_of t) ≡ same_txn t n) where
    passes : (e : Key × T) → e.0 ≡ key_of (txn e.1) → test e.0 ≡ same_txn (txn e.1) n
    passes e k = ap test k ∙ says (txn e.1)

    pub looked_up : (es : Entries) → AreKeyed txn es → lookup test es ≡ find (λ t. same_txn (txn t) n) (values_of es)
    looked_up [] h = refl
    looked_up (e ∷ es) h = let here = passes e h.0 in let rest = looked_up es h.1 in grind (arith, nat_tests, here, rest)

    pub looked_for : (es : Entries) → AreKeyed txn es → is_some (lookup test es) ≡ list_any (λ t. same_txn (txn t) n) (values_of es)
    looked_for [] h = refl
    looked_for (e ∷ es) h = let here = passes e h.0 in let rest = looked_for es h.1 in grind (arith, nat_tests, here, rest)

    pub removed_keyed : (es : Entries) → AreKeyed txn es → AreKeyed txn (remove_entry test es)
    removed_keyed [] h = h
    removed_keyed (e ∷ es) h = go (test e.0) (removed_keyed es h.1)
      where
        go : (b : Bool) → AreKeyed txn (remove_entry test es) → AreKeyed txn (cond b es (e ∷ remove_entry test es))
        go true r = h.1
        go false r = (h.0, r)

    -- where none is found, removing it changes nothing
    none_left : (es : Entries) → AreKeyed txn es → lookup test es ≡ None → filter (λ t. not (same_txn (txn t) n)) (values_of es) ≡ values_of es
    none_left [] h e = refl
    none_left (x ∷ es) h e = go (test x.0) (passes x h.0) e (none_left es h.1)
      where
        go : (b : Bool) → b ≡ same_txn (txn x.1) n → cond b (Some x.1) (lookup test es) ≡ None
            → (lookup test es ≡ None → filter (λ t. not (same_txn (txn t) n)) (values_of es) ≡ values_of es)
            → filter (λ t. not (same_txn (txn t) n)) (values_of (x ∷ es)) ≡ values_of (x ∷ es)
        go true p q r = absurd (cc)
        go false p q r = let rest = r q in grind (arith, nat_tests, p, rest)

    others_left : (es : Entries) → AreKeyed txn es → filter (λ t. not (same_txn (txn t) n)) (values_of (remove_entry test es)) ≡ filter (λ t. not (same_txn (txn t) n)) (values_of es)
    others_left [] h = refl
    others_left (e ∷ es) h = let here = passes e h.0 in let rest = others_left es h.1 in grind (arith, nat_tests, here, rest)

    pub removed : (old new : Entries) → AreKeyed txn old → new ≡ remove_entry test old → lookup test new ≡ None → values_of new ≡ filter (λ t. not (same_txn (txn t) n)) (values_of old)
    removed old new h e none =
        let kept : AreKeyed txn new = subst (AreKeyed txn) (sym e) (removed_keyed old h) in
        sym (none_left new kept none) ∙ ap (λ es. filter (λ t. not (same_txn (txn t) n)) (values_of es)) e ∙ others_left old h

  -- an item replaces the one of its transaction
  module _ (item : T) (test : Key → Bool) (says : (t : TxnId) → test (key_of t) ≡ same_txn t (txn item)) where
    pub changed : (es : Entries) → AreKeyed txn es → values_of (set_value test es item) ≡ change_first (λ t. same_txn (txn t) (txn item)) (λ _. item) (values_of es)
    changed [] h = refl
    changed (e ∷ es) h = let here = passes (txn item) test says e h.0 in let rest = changed es h.1 in grind (arith, nat_tests, here, rest)

    pub changed_keyed : (es : Entries) → AreKeyed txn es → AreKeyed txn (set_value test es item)
    changed_keyed [] h = h
    changed_keyed (e ∷ es) h = go (test e.0) (passes (txn item) test says e h.0) (changed_keyed es h.1)
      where
        go : (b : Bool) → b ≡ same_txn (txn e.1) (txn item) → AreKeyed txn (set_value test es item) → AreKeyed txn (cond b ((e.0, item) ∷ es) (e ∷ set_value test es item))
        go true p r = (h.0 ∙ ap key_of (same_txn-is (txn e.1) (txn item) (sym p)), h.1)
        go false p r = (h.0, r)

  -- the order of transactions is that of their keys
  all_after : (n : TxnId) (es : Entries) → AreKeyed txn es → AllByRecursion (λ k. key_cmp (key_of n) k ≡ Less) (keys_of es) → AllByRecursion (λ t. txn_before n (txn t) ≡ true) (values_of es)
  all_after n [] h a = tt
  all_after n (e ∷ es) h a = (before_by_key n (txn e.1) (ap (key_cmp (key_of n)) (sym h.0) ∙ a.0), all_after n es h.1 a.1)

  pub ascending : (es : Entries) → AreKeyed txn es → IsStrictlySortedBy key_cmp (keys_of es) → AreAscending txn (values_of es)
  unfolding IsStrictlySortedBy
  ascending [] h s = tt
  ascending (e ∷ es) h s = (all_after (txn e.1) es h.1 (subst (λ k. AllByRecursion (λ y. key_cmp k y ≡ Less) (keys_of es)) h.0 s.0), ascending es h.1 s.1)

  -- an item is inserted after others
  is_after : (n : TxnId) (item : T) (done rest : List T) → AllByRecursion (λ t. txn_before n (txn t) ≡ true) (done ++ item ∷ rest) → txn_before n (txn item) ≡ true
  is_after n item [] rest a = a.0
  is_after n item (t ∷ done) rest a = is_after n item done rest a.1

  pub put_after : (item : T) (done rest : List T) → AreAscending txn (done ++ item ∷ rest) → put (λ a b. same_txn (txn a) (txn b)) (λ a b. txn_before (txn a) (txn b)) item done ≡ done ++ item ∷ []
  put_after item [] rest a = refl
  put_after item (t ∷ done) rest a =
      let after = is_after (txn t) item done rest a.0 in
      rw (not_same (txn t) (txn item) after, not_before (txn t) (txn item) after) (ap (λ ts. t ∷ ts) (put_after item done rest a.1))

  -- an item is inserted by the key of its transaction
  pub put_there : (item : T) (es : Entries) → AreKeyed txn es → values_of (tree.insert_entry key_cmp es (key_of (txn item)) item) ≡ put (λ a b. same_txn (txn a) (txn b)) (λ a b. txn_before (txn a) (txn b)) item (values_of es)
  put_there item [] h = refl
  put_there item (e ∷ es) h =
      let rest = put_there item es h.1 in
      ap (λ k. values_of (match_ordering (key_cmp (key_of (txn item)) k) ((key_of (txn item), item) ∷ e ∷ es) ((e.0, item) ∷ es) (e ∷ tree.insert_entry key_cmp es (key_of (txn item)) item))) h.0
      ∙ ap values_of (chosen (txn item) (txn e.1) ((key_of (txn item), item) ∷ e ∷ es) ((e.0, item) ∷ es) (e ∷ tree.insert_entry key_cmp es (key_of (txn item)) item))
      ∙ go (same_txn (txn item) (txn e.1)) (txn_before (txn item) (txn e.1)) rest
    where
      go : (s b : Bool) → values_of (tree.insert_entry key_cmp es (key_of (txn item)) item) ≡ put (λ a b. same_txn (txn a) (txn b)) (λ a b. txn_before (txn a) (txn b)) item (values_of es)
          → values_of (if s then (e.0, item) ∷ es else (if b then (key_of (txn item), item) ∷ e ∷ es else e ∷ tree.insert_entry key_cmp es (key_of (txn item)) item))
          ≡ (if s then item ∷ values_of es else (if b then item ∷ e.1 ∷ values_of es else e.1 ∷ put (λ a b. same_txn (txn a) (txn b)) (λ a b. txn_before (txn a) (txn b)) item (values_of es)))
      go true b r = refl
      go false true r = refl
      go false false r = ap (λ ts. e.1 ∷ ts) r

  pub put_keyed : (item : T) (es : Entries) → AreKeyed txn es → AreKeyed txn (tree.insert_entry key_cmp es (key_of (txn item)) item)
  put_keyed item [] h = (refl, tt)
  put_keyed item (e ∷ es) h = go (key_cmp (key_of (txn item)) e.0) (chosen_key (txn item) e.0 (txn e.1) h.0) (put_keyed item es h.1)
    where
      chosen_key : (t : TxnId) (k : Key) (u : TxnId) → k ≡ key_of u → is_eq (key_cmp (key_of t) k) ≡ true → k ≡ key_of t
      chosen_key t k u same e = same ∙ ap key_of (same_txn-is u t (sym (by_cmp t u) ∙ ap (λ q. is_eq (key_cmp (key_of t) q)) (sym same) ∙ e))

      go : (o : Ordering) → (is_eq o ≡ true → e.0 ≡ key_of (txn item)) → AreKeyed txn (tree.insert_entry key_cmp es (key_of (txn item)) item) → AreKeyed txn (match_ordering o ((key_of (txn item), item) ∷ e ∷ es) ((e.0, item) ∷ es) (e ∷ tree.insert_entry key_cmp es (key_of (txn item)) item))
      go Less k r = (refl, h)
      go Equal k r = (k refl, h.1)
      go Greater k r = (h.0, r)

-- where none is found, nothing changes
pub changed_none : {T : Type 0} (test : T → Bool) (f : T → T) (ts : List T) → find test ts ≡ None → change_first test f ts ≡ ts
changed_none test f [] e = refl
changed_none test f (t ∷ ts) e = let rest = changed_none test f ts in grind (arith, nat_tests, e, rest)

-- a transaction is noted after the others
pub noted_keyed : (n : TxnId) (es : List (Key × TxnId)) → AreKeyed (λ t. t) es → AreKeyed (λ t. t) (es ++ (key_of n, n) ∷ [])
noted_keyed n [] h = (refl, tt)
noted_keyed n (e ∷ es) h = (h.0, noted_keyed n es h.1)

noted_last : (n : TxnId) (es : List (Key × TxnId)) → values_of (es ++ (key_of n, n) ∷ []) ≡ values_of es ++ n ∷ []
noted_last n [] = refl
noted_last n (e ∷ es) = ap (λ ts. e.1 ∷ ts) (noted_last n es)

pub noted_new : (n : TxnId) (es : List (Key × TxnId)) → AreKeyed (λ t. t) es → has_txn (values_of es) n ≡ false → index.insert_entry key_eq es (key_of n) n ≡ es ++ (key_of n, n) ∷ []
noted_new n [] h new = refl
noted_new n (e ∷ es) h new = go (key_eq (key_of n) e.0) (ap (key_eq (key_of n)) h.0 ∙ by_eq n e.1) (noted_new n es h.1)
  where
    here : has_txn (values_of (e ∷ es)) n ≡ false → same_txn e.1 n ≡ false
    here q = grind (arith, nat_tests, q)

    rest : has_txn (values_of (e ∷ es)) n ≡ false → has_txn (values_of es) n ≡ false
    rest q = grind (arith, nat_tests, q)

    go : (b : Bool) → b ≡ same_txn e.1 n → (has_txn (values_of es) n ≡ false → index.insert_entry key_eq es (key_of n) n ≡ es ++ (key_of n, n) ∷ [])
        → (if b then (e.0, n) ∷ es else e ∷ index.insert_entry key_eq es (key_of n) n) ≡ e ∷ (es ++ (key_of n, n) ∷ [])
    go true p r = let none : true ≡ false = p ∙ here new in absurd (cc)
    go false p r = ap (λ fs. e ∷ fs) (r (rest new))

pub noted : (n : TxnId) (es : List (Key × TxnId)) → has_txn (values_of es) n ≡ false → values_of (es ++ (key_of n, n) ∷ []) ≡ (if has_txn (values_of es) n then values_of es else values_of es ++ n ∷ [])
noted n es new = noted_last n es ∙ go (has_txn (values_of es) n) new
  where
    go : (b : Bool) → b ≡ false → values_of es ++ n ∷ [] ≡ (if b then values_of es else values_of es ++ n ∷ [])
    go true q = absurd (cc)
    go false q = refl
