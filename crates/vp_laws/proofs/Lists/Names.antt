-- Names of transactions; the live ones of a site have different names.
use Rattle.std.proofs.Common.{◌≡◌, ◌≢◌, ◌⊎◌, ◌∙◌, ap, sym, Bool, true, false, cond, List, [], ◌∷◌, ◌++◌, map, refl, inl, inr, ⊎_elim}
use Rattle.vp_model.specs.Types.{TxnId, Live}
use Rattle.vp_model.specs.Words.{same_txn, change_first, without_first}
use Rattle.vp_model.specs.Step.{mark}
use Rattle.vp_model.proofs.SameTxn.{same_txn-is, same_txn-not}
use Rattle.vp_laws.proofs.Lists.Members.{Has, has_none, has_first, has_more, has_cons, has_cases, has_one_is, map_has}
use Rattle.vp_laws.proofs.Lists.Changes.{without_first_has, change_first_has}

abbrev pub Apart : List Live → Type 0
Apart [] = Unit {0}
Apart (t ∷ live) = ((u : Live) → Has live u → u.txn ≢ t.txn) × Apart live

abbrev pub named : TxnId → Live → Bool
named txn u = same_txn u.txn txn

pub apart_unique : (live : List Live) → Apart live → (a b : Live) → Has live a → Has live b → a.txn ≡ b.txn → a ≡ b
apart_unique [] p a b h k e = absurd (has_none a h)
apart_unique (t ∷ live) p a b h k e = ⊎_elim
    (λ (one : t ≡ a). ⊎_elim (λ (two : t ≡ b). sym one ∙ two) (λ more. absurd (p.0 b more (sym e ∙ ap (λ (u : Live). u.txn) (sym one)))) (has_cons t live b k))
    (λ rest. ⊎_elim (λ (two : t ≡ b). absurd (p.0 a rest (e ∙ ap (λ (u : Live). u.txn) (sym two)))) (λ more. apart_unique live p.1 a b rest more e) (has_cons t live b k))
    (has_cons t live a h)

pub apart_without : (txn : TxnId) (live : List Live) → Apart live → Apart (without_first (named txn) live)
apart_without txn [] p = tt
apart_without txn (t ∷ live) p = go (same_txn t.txn txn) (apart_without txn live p.1)
  where
    go : (b : Bool) → Apart (without_first (named txn) live) → Apart (cond b live (t ∷ without_first (named txn) live))
    go true rest = p.1
    go false rest = ((λ u h. p.0 u (without_first_has (named txn) live u h)), rest)

-- one that has ended is not there any more
pub without_gone : (txn : TxnId) (live : List Live) → Apart live → (a : Live) → Has (without_first (named txn) live) a → a.txn ≢ txn
without_gone txn [] p a h = absurd (has_none a h)
without_gone txn (t ∷ live) p a h = go (same_txn t.txn txn) refl h (λ q. without_gone txn live p.1 a q)
  where
    go : (b : Bool) → same_txn t.txn txn ≡ b → Has (cond b live (t ∷ without_first (named txn) live)) a → (Has (without_first (named txn) live) a → a.txn ≢ txn) → a.txn ≢ txn
    go true e q rest g = p.0 a q (g ∙ sym (same_txn-is t.txn txn e))
    go false e q rest g = ⊎_elim (λ (one : t ≡ a). same_txn-not t.txn txn e (ap (λ (u : Live). u.txn) one ∙ g)) (λ more. rest more g) (has_cons t (without_first (named txn) live) a q)

-- the transaction in its place is t, and no other one has its name
pub change_cases : (t : Live) (live : List Live) → Apart live → (a : Live) → Has (change_first (named t.txn) (λ u. t) live) a → (a ≡ t) ⊎ (Has live a × (a.txn ≢ t.txn))
change_cases t [] p a h = absurd (has_none a h)
change_cases t (u ∷ live) p a h = go (same_txn u.txn t.txn) refl h (λ q. change_cases t live p.1 a q)
  where
    go : (b : Bool) → same_txn u.txn t.txn ≡ b → Has (cond b (t ∷ live) (u ∷ change_first (named t.txn) (λ u. t) live)) a → (Has (change_first (named t.txn) (λ u. t) live) a → (a ≡ t) ⊎ (Has live a × (a.txn ≢ t.txn))) → (a ≡ t) ⊎ (Has (u ∷ live) a × (a.txn ≢ t.txn))
    go true e q rest = ⊎_elim (λ one. inl (sym one)) (λ more. inr (has_more u live a more, (λ g. p.0 a more (g ∙ sym (same_txn-is u.txn t.txn e))))) (has_cons t live a q)
    go false e q rest = ⊎_elim
        (λ (one : u ≡ a). inr (rw one (has_first a live), (λ g. same_txn-not u.txn t.txn e (ap (λ (u : Live). u.txn) one ∙ g))))
        (λ more. ⊎_elim (λ new. inl new) (λ old. inr (has_more u live a old.0, old.1)) (rest more))
        (has_cons u (change_first (named t.txn) (λ u. t) live) a q)

pub apart_change : (t : Live) (live : List Live) → Apart live → Apart (change_first (named t.txn) (λ u. t) live)
apart_change t [] p = tt
apart_change t (u ∷ live) p = go (same_txn u.txn t.txn) refl (apart_change t live p.1)
  where
    go : (b : Bool) → same_txn u.txn t.txn ≡ b → Apart (change_first (named t.txn) (λ u. t) live) → Apart (cond b (t ∷ live) (u ∷ change_first (named t.txn) (λ u. t) live))
    go true e rest = ((λ a h g. p.0 a h (g ∙ sym (same_txn-is u.txn t.txn e))), p.1)
    go false e rest = (
      (λ a h g. ⊎_elim
          (λ (one : a ≡ t). same_txn-not u.txn t.txn e (sym g ∙ ap (λ (u : Live). u.txn) one))
          (λ old. p.0 a old g) (change_first_has (named t.txn) t live a h)),
      rest,
    )

pub apart_more : (t : Live) (live : List Live) → Apart live → ((u : Live) → Has live u → u.txn ≢ t.txn) → Apart (live ++ t ∷ [])
apart_more t [] p n = ((λ u h. absurd (has_none u h)), tt)
apart_more t (u ∷ live) p n = (
  (λ a h g. ⊎_elim
      (λ old. p.0 a old g)
      (λ new. n u (has_first u live) (sym g ∙ ap (λ (u : Live). u.txn) (sym (has_one_is t a new))))
      (has_cases live (t ∷ []) a h)),
  apart_more t live p.1 (λ v h. n v (has_more u live v h)),
)

pub apart_mark : (live : List Live) → Apart live → Apart (map mark live)
apart_mark [] p = tt
apart_mark (t ∷ live) p = ((λ a h g. let r = map_has mark live a h in p.0 r.0 r.1 (ap (λ (u : Live). u.txn) r.2 ∙ g)), apart_mark live p.1)
