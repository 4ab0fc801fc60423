-- The names beside the transactions in doubt.
use Rattle.std.proofs.Common.{◌≡◌, ◌∙◌, Bool, true, false, not, cond, ◌&&◌, ◌||◌, if◌then◌else◌, List, [], ◌∷◌, ◌++◌, filter, refl, ap, sym, subst}
use Rattle.std.specs.List.{list_any}
use Rattle.std.proofs.lemmas.List.Folds.{list_any-append}
use Rattle.vp_model.specs.Types.{TxnId, Doubt}
use Rattle.vp_model.specs.Words.{put, put_txn, same_txn, txn_before, has_txn}
use Rattle.vp_model.specs.Durable.{put_doubt, without_doubt}
use Rattle.vp_model.specs.Views.{has_doubt}
use Rattle.vp_model.proofs.SameTxn.{same_txn-is}
use Rattle.vp_participant.specs.Doubts.{AreNamed}

or_twice : (p q : Bool) → (p || q) ≡ (p || (p || q))
or_twice true q = refl
or_twice false q = refl

or_between : (p q r : Bool) → (q || (p || r)) ≡ (p || (q || r))
or_between true true r = refl
or_between true false r = refl
or_between false q r = refl

or_last : (p q : Bool) → (p || q) ≡ (q || (p || false))
or_last true true = refl
or_last true false = refl
or_last false true = refl
or_last false false = refl

and_none : (p : Bool) → false ≡ (p && false)
and_none true = refl
and_none false = refl

and_rest : (p r : Bool) → (not p && r) ≡ (not p && (p || r))
and_rest true r = refl
and_rest false r = refl

module _ {A : Type 0} (txn : A → TxnId) where
  abbrev is_named : TxnId → A → Bool
  is_named u a = same_txn (txn a) u

  -- a put item's name is there, and all that were there are
  put_named : (before : A → A → Bool) (x : A) (ys : List A) (u : TxnId) → list_any (is_named u) (put (λ (a : A) (b : A). same_txn (txn a) (txn b)) before x ys) ≡ (same_txn (txn x) u || list_any (is_named u) ys)
  put_named before x [] u = refl
  put_named before x (y ∷ ys) u = go (same_txn (txn x) (txn y)) refl (before x y) (put_named before x ys u)
    where
      go : (s : Bool) → same_txn (txn x) (txn y) ≡ s → (b : Bool)
          → list_any (is_named u) (put (λ (a : A) (b : A). same_txn (txn a) (txn b)) before x ys) ≡ (same_txn (txn x) u || list_any (is_named u) ys)
          → list_any (is_named u) (if s then x ∷ ys else (if b then x ∷ y ∷ ys else y ∷ put (λ (a : A) (b : A). same_txn (txn a) (txn b)) before x ys)) ≡ (same_txn (txn x) u || (same_txn (txn y) u || list_any (is_named u) ys))
      go true e b more = or_twice (same_txn (txn x) u) (list_any (is_named u) ys) ∙ ap (λ t. same_txn (txn x) u || (same_txn t u || list_any (is_named u) ys)) (same_txn-is (txn x) (txn y) e)
      go false e true more = refl
      go false e false more = ap (λ r. same_txn (txn y) u || r) more ∙ or_between (same_txn (txn x) u) (same_txn (txn y) u) (list_any (is_named u) ys)

  -- without the items of a name it isn't there, and each other one is as it was
  gone_named : (t : TxnId) (xs : List A) (u : TxnId) → list_any (is_named u) (filter (λ (a : A). not (same_txn (txn a) t)) xs) ≡ (not (same_txn t u) && list_any (is_named u) xs)
  gone_named t [] u = and_none (not (same_txn t u))
  gone_named t (x ∷ xs) u = go (same_txn (txn x) t) refl (gone_named t xs u)
    where
      go : (s : Bool) → same_txn (txn x) t ≡ s
          → list_any (is_named u) (filter (λ (a : A). not (same_txn (txn a) t)) xs) ≡ (not (same_txn t u) && list_any (is_named u) xs)
          → list_any (is_named u) (cond (not s) (x ∷ filter (λ (a : A). not (same_txn (txn a) t)) xs) (filter (λ (a : A). not (same_txn (txn a) t)) xs)) ≡ (not (same_txn t u) && (same_txn (txn x) u || list_any (is_named u) xs))
      go true e rest = rest ∙ and_rest (same_txn t u) (list_any (is_named u) xs) ∙ ap (λ v. not (same_txn t u) && (same_txn v u || list_any (is_named u) xs)) (sym (same_txn-is (txn x) t e))
      go false e rest = ap (λ r. same_txn (txn x) u || r) rest ∙ out (same_txn t u) refl
        where
          out : (b : Bool) → same_txn t u ≡ b → (same_txn (txn x) u || (not b && list_any (is_named u) xs)) ≡ (not b && (same_txn (txn x) u || list_any (is_named u) xs))
          out true k = ap (λ b. b || false) (subst (λ v. same_txn (txn x) v ≡ false) (same_txn-is t u k) e)
          out false k = refl

-- one more is put in, or comes after the others
pub named_put : (names : List TxnId) (doubts : List Doubt) (d : Doubt) → AreNamed names doubts → AreNamed (put_txn d.txn names) (put_doubt d doubts)
named_put names doubts d is u =
    put_named (λ (t : TxnId). t) txn_before d.txn names u ∙ ap (λ r. same_txn d.txn u || r) (is u)
    ∙ sym (put_named (λ (d : Doubt). d.txn) (λ (a : Doubt) (b : Doubt). txn_before a.txn b.txn) d doubts u)

pub named_more : (names : List TxnId) (doubts : List Doubt) (d : Doubt) → AreNamed names doubts → AreNamed (put_txn d.txn names) (doubts ++ d ∷ [])
named_more names doubts d is u =
    put_named (λ (t : TxnId). t) txn_before d.txn names u ∙ ap (λ r. same_txn d.txn u || r) (is u)
    ∙ or_last (same_txn d.txn u) (has_doubt u doubts) ∙ sym (list_any-append (λ (d : Doubt). same_txn d.txn u) doubts (d ∷ []))

-- one is taken out
pub named_without : (names : List TxnId) (doubts : List Doubt) (t : TxnId) → AreNamed names doubts → AreNamed (filter (λ (n : TxnId). not (same_txn n t)) names) (without_doubt t doubts)
named_without names doubts t is u =
    gone_named (λ (t : TxnId). t) t names u ∙ ap (λ r. not (same_txn t u) && r) (is u) ∙ sym (gone_named (λ (d : Doubt). d.txn) t doubts u)

-- a name that was there is put in and changes nothing
pub named_again : (names : List TxnId) (doubts : List Doubt) (t : TxnId) → has_txn names t ≡ true → AreNamed names doubts → AreNamed (put_txn t names) doubts
named_again names doubts t has is u = put_named (λ (t : TxnId). t) txn_before t names u ∙ go (same_txn t u) refl
  where
    go : (b : Bool) → same_txn t u ≡ b → (b || has_txn names u) ≡ has_doubt u doubts
    go true e = sym (subst (λ v. has_txn names v ≡ true) (same_txn-is t u e) has) ∙ is u
    go false e = is u

-- a name that wasn't there is put in and taken out
pub named_back : (names : List TxnId) (doubts : List Doubt) (t : TxnId) → has_txn names t ≡ false → AreNamed names doubts → AreNamed (filter (λ (n : TxnId). not (same_txn n t)) (put_txn t names)) doubts
named_back names doubts t has is u =
    gone_named (λ (t : TxnId). t) t (put_txn t names) u ∙ ap (λ r. not (same_txn t u) && r) (put_named (λ (t : TxnId). t) txn_before t names u) ∙ go (same_txn t u) refl
  where
    go : (b : Bool) → same_txn t u ≡ b → (not b && (b || has_txn names u)) ≡ has_doubt u doubts
    go true e = sym (subst (λ v. has_txn names v ≡ false) (same_txn-is t u e) has) ∙ is u
    go false e = is u
