-- Decisions that each wait for some site, ascending by transaction, of which one changes.
use Rattle.std.proofs.Common.{◌≡◌, ◌∙◌, ℕ, Bool, true, false, not, cond, ◌&&◌, ◌||◌, ◌==◌, if◌then◌else◌, List, [], ◌∷◌, ◌++◌, Some, None, filter, find, map, ap, sym, subst, refl, arith}
use Rattle.std.specs.Prelude.{Result, Ok, Err, OnOk, OnErr}
use Rattle.std.specs.List.{AllByRecursion}
use Rattle.std.proofs.lemmas.Bool.Decides.{nat_tests}
use Rattle.vp_model.specs.Types.{TxnId, Decision}
use Rattle.vp_model.specs.Words.{change_first, has, is_empty, same_txn, txn_before}
use Rattle.vp_model.specs.Answers.{waits_for}
use Rattle.vp_model.specs.Durable.{acknowledged, put_decision}
use Rattle.vp_model.proofs.SameTxn.{same_txn-is, same_txn-self}
use Rattle.vp_tables.specs.Keys.{AreAscending}
use Rattle.vp_records.specs.Decided.{with_changed, AreAwaited}

abbrev awaited : Decision → Bool
awaited d = not (is_empty d.waiting)

-- ---- each waits for some site

pub awaited_more : (d : Decision) (ds : List Decision) → AreAwaited ds → awaited d ≡ true → AreAwaited (ds ++ d ∷ [])
awaited_more d [] a w = (grind (arith, nat_tests, w), tt)
awaited_more d (e ∷ ds) a w = (a.0, awaited_more d ds a.1 w)

pub awaited_put : (d : Decision) (ds : List Decision) → AreAwaited ds → is_empty d.waiting ≡ false → AreAwaited (put_decision d ds)
awaited_put d [] a w = (w, tt)
awaited_put d (e ∷ ds) a w = go (same_txn d.txn e.txn) (txn_before d.txn e.txn) (awaited_put d ds a.1 w)
  where
    go : (s b : Bool) → AreAwaited (put_decision d ds) → AreAwaited (if s then d ∷ ds else (if b then d ∷ e ∷ ds else e ∷ put_decision d ds))
    go true b r = (w, a.1)
    go false true r = (w, a)
    go false false r = (a.0, r)

-- whether there was memory for it or not
pub awaited_by : {R E : Type 0} (r : Result R E) (d : Decision) (old new : List Decision) → AreAwaited old → is_empty d.waiting ≡ false → OnOk r (new ≡ put_decision d old) → OnErr r (new ≡ old) → AreAwaited new
awaited_by (Ok v) d old new a w ok err = subst AreAwaited (sym ok) (awaited_put d old a w)
awaited_by (Err e) d old new a w ok err = subst AreAwaited (sym err) a

only_awaited : (ds : List Decision) → AreAwaited (filter awaited ds)
only_awaited [] = tt
only_awaited (d ∷ ds) = go (is_empty d.waiting) refl (only_awaited ds)
  where
    go : (b : Bool) → is_empty d.waiting ≡ b → AreAwaited (filter awaited ds) → AreAwaited (cond (not b) (d ∷ filter awaited ds) (filter awaited ds))
    go true e r = r
    go false e r = (e, r)

pub awaited_left : (txn : TxnId) (site : ℕ) (ds : List Decision) → AreAwaited (acknowledged txn site ds)
awaited_left txn site ds = only_awaited (map (λ (d : Decision). if same_txn d.txn txn then record d { waiting = filter (λ q. not (q == site)) d.waiting } else d) ds)

all_kept : (ds : List Decision) → AreAwaited ds → filter awaited ds ≡ ds
all_kept [] a = refl
all_kept (d ∷ ds) a = rw (a.0) (ap (λ es. d ∷ es) (all_kept ds a.1))

-- ---- one of them changes

module _ (txn : TxnId) where
  abbrev same : Decision → Bool
  same d = same_txn d.txn txn

  -- what keeps the place of a decision while it is changed
  abbrev empty : Decision
  empty = record { txn = txn; waiting = [] }

  -- the changed decision in its place, if it still waits for some site
  abbrev placed : Decision → List Decision → List Decision
  placed d ds = if is_empty d.waiting then filter (λ (e : Decision). not (same_txn e.txn txn)) ds else change_first (λ (e : Decision). same_txn e.txn txn) (λ e. d) ds

  placed_after : (e d : Decision) (ds : List Decision) → same_txn e.txn txn ≡ false → e ∷ placed d ds ≡ placed d (e ∷ ds)
  placed_after e d ds s = grind (arith, nat_tests, s)

  -- those after it are on other transactions
  abbrev AreOthers : List Decision → Type 0
  AreOthers ds = AllByRecursion (λ (d : Decision). same_txn d.txn txn ≡ false) ds

  other_after : (t u : TxnId) → same_txn t txn ≡ true → txn_before t u ≡ true → same_txn u txn ≡ false
  other_after t u s b = grind (arith, nat_tests, s, b)

  others_after : (d : Decision) (ds : List Decision) → same_txn d.txn txn ≡ true → AllByRecursion (λ (e : Decision). txn_before d.txn e.txn ≡ true) ds → AreOthers ds
  others_after d [] s a = tt
  others_after d (e ∷ ds) s a = (other_after d.txn e.txn s a.0, others_after d ds s a.1)

  others_kept : (ds : List Decision) → AreOthers ds → filter (λ (e : Decision). not (same_txn e.txn txn)) ds ≡ ds
  others_kept [] o = refl
  others_kept (d ∷ ds) o = rw (o.0) (ap (λ es. d ∷ es) (others_kept ds o.1))

  found_of : (ds : List Decision) (d : Decision) → find (λ (e : Decision). same_txn e.txn txn) ds ≡ Some d → d.txn ≡ txn
  found_of [] d f = absurd (cc)
  found_of (e ∷ ds) d f = go (same_txn e.txn txn) refl f (found_of ds d)
    where
      go : (b : Bool) → same_txn e.txn txn ≡ b → (if b then Some e else find (λ (u : Decision). same_txn u.txn txn) ds) ≡ Some d
          → (find (λ (u : Decision). same_txn u.txn txn) ds ≡ Some d → d.txn ≡ txn) → d.txn ≡ txn
      go true s q r =
          let is : e ≡ d = cc in
          ap (λ (u : Decision). u.txn) (sym is) ∙ same_txn-is e.txn txn s
      go false s q r = r q

  module _ (site : ℕ) where
    abbrev dropped : Decision → Decision
    dropped d = record d { waiting = filter (λ q. not (q == site)) d.waiting }

    abbrev changed : List Decision → List Decision
    changed ds = map (λ (d : Decision). if same_txn d.txn txn then record d { waiting = filter (λ q. not (q == site)) d.waiting } else d) ds

    others_unchanged : (ds : List Decision) → AreOthers ds → changed ds ≡ ds
    others_unchanged [] o = refl
    others_unchanged (d ∷ ds) o = rw (o.0) (ap (λ es. d ∷ es) (others_unchanged ds o.1))

    -- the first one is on the transaction
    first_acked : (e : Decision) (ds : List Decision) → AreOthers ds → AreAwaited ds → filter awaited (dropped e ∷ changed ds) ≡ placed (dropped e) (empty ∷ ds)
    first_acked e ds o a =
        ap (λ es. filter awaited (dropped e ∷ es)) (others_unchanged ds o)
        ∙ go (is_empty (filter (λ q. not (q == site)) e.waiting)) (same_txn txn txn) (same_txn-self txn) (filter awaited ds) (all_kept ds a) (filter (λ (e : Decision). not (same_txn e.txn txn)) ds) (others_kept ds o)
      where
        go : (b c : Bool) → c ≡ true → (es : List Decision) → es ≡ ds → (fs : List Decision) → fs ≡ ds
            → cond (not b) (dropped e ∷ es) es ≡ (if b then cond (not c) (empty ∷ fs) fs else (if c then dropped e ∷ ds else empty ∷ change_first (λ (u : Decision). same_txn u.txn txn) (λ u. dropped e) ds))
        go true true t es p fs q = p ∙ sym q
        go false true t es p fs q = ap (λ us. dropped e ∷ us) p
        go b false t es p fs q = absurd (cc)

    acked : (ds : List Decision) → AreAwaited ds → AreAscending (λ (d : Decision). d.txn) ds → (d : Decision) → find (λ (e : Decision). same_txn e.txn txn) ds ≡ Some d → acknowledged txn site ds ≡ placed (dropped d) (change_first (λ (e : Decision). same_txn e.txn txn) (λ e. empty) ds)
    acked [] a ascends d f = absurd (cc)
    acked (e ∷ ds) a ascends d f = go (same_txn e.txn txn) refl f (acked ds a.1 ascends.1 d)
      where
        go : (b : Bool) → same_txn e.txn txn ≡ b → (if b then Some e else find (λ (u : Decision). same_txn u.txn txn) ds) ≡ Some d
            → (find (λ (u : Decision). same_txn u.txn txn) ds ≡ Some d → acknowledged txn site ds ≡ placed (dropped d) (change_first (λ (u : Decision). same_txn u.txn txn) (λ u. empty) ds))
            → filter awaited ((if b then dropped e else e) ∷ changed ds) ≡ placed (dropped d) (if b then empty ∷ ds else e ∷ change_first (λ (u : Decision). same_txn u.txn txn) (λ u. empty) ds)
        go true s q r =
            let is : e ≡ d = cc in
            first_acked e ds (others_after e ds s ascends.0) a.1 ∙ ap (λ u. placed (dropped u) (empty ∷ ds)) is
        go false s q r =
            rw (a.0) (ap (λ es. e ∷ es) (r q) ∙ placed_after e (dropped d) (change_first (λ (u : Decision). same_txn u.txn txn) (λ u. empty) ds) s)

    pub acked_one : (ds : List Decision) → AreAwaited ds → AreAscending (λ (d : Decision). d.txn) ds → (d : Decision) → find (λ (e : Decision). same_txn e.txn txn) ds ≡ Some d → acknowledged txn site ds ≡ with_changed (dropped d) (change_first (λ (e : Decision). same_txn e.txn txn) (λ e. empty) ds)
    acked_one ds a ascends d f =
        acked ds a ascends d f ∙ ap (λ t. if is_empty (dropped d).waiting
        then filter (λ (e : Decision). not (same_txn e.txn t)) (change_first (λ (e : Decision). same_txn e.txn txn) (λ e. empty) ds)
        else change_first (λ (e : Decision). same_txn e.txn t) (λ e. dropped d) (change_first (λ (e : Decision). same_txn e.txn txn) (λ e. empty) ds)) (sym (found_of ds d f))

    pub acked_none : (ds : List Decision) → AreAwaited ds → find (λ (e : Decision). same_txn e.txn txn) ds ≡ None → acknowledged txn site ds ≡ change_first (λ (e : Decision). same_txn e.txn txn) (λ e. empty) ds
    acked_none [] a f = refl
    acked_none (e ∷ ds) a f = let waits = a.0 in let rest = acked_none ds a.1 in grind (arith, nat_tests, waits, f, rest)

    -- ---- whether a decision waits for the site

    none_waits : (ds : List Decision) → AreOthers ds → waits_for txn site ds ≡ false
    none_waits [] o = refl
    none_waits (d ∷ ds) o = rw (o.0) (none_waits ds o.1)

    pub waits_unless : (ds : List Decision) → find (λ (e : Decision). same_txn e.txn txn) ds ≡ None → waits_for txn site ds ≡ false
    waits_unless [] f = refl
    waits_unless (e ∷ ds) f = let rest = waits_unless ds in grind (arith, nat_tests, f, rest)

    pub waits_found : (ds : List Decision) → AreAscending (λ (d : Decision). d.txn) ds → (d : Decision) → find (λ (e : Decision). same_txn e.txn txn) ds ≡ Some d → waits_for txn site ds ≡ has d.waiting site
    waits_found [] ascends d f = absurd (cc)
    waits_found (e ∷ ds) ascends d f = go (same_txn e.txn txn) refl f (waits_found ds ascends.1 d)
      where
        or_false : (b c : Bool) → c ≡ false → (b || c) ≡ b
        or_false true c n = refl
        or_false false c n = n

        go : (b : Bool) → same_txn e.txn txn ≡ b → (if b then Some e else find (λ (u : Decision). same_txn u.txn txn) ds) ≡ Some d
            → (find (λ (u : Decision). same_txn u.txn txn) ds ≡ Some d → waits_for txn site ds ≡ has d.waiting site) → ((b && has e.waiting site) || waits_for txn site ds) ≡ has d.waiting site
        go true s q r =
            let is : e ≡ d = cc in
            or_false (has e.waiting site) (waits_for txn site ds) (none_waits ds (others_after e ds s ascends.0)) ∙ ap (λ (u : Decision). has u.waiting site) is
        go false s q r = r q
