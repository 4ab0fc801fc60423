-- The numbers of the live transactions ascend, whatever a row does to the list; so a number has only one place.
use Rattle.std.proofs.Common.{◌≡◌, ℕ, zero, suc, ◌+◌, ◌<◌, ◌≤◌, Bool, true, false, List, [], ◌∷◌, ◌++◌, length, get_or, map, cond, Option, Some, None, Result, Ok, Err, OnOk, OnErr, refl, sym, is_some, ap, ◌∙◌, subst, inl, inr, arith}
use Rattle.std.specs.Prelude.{slice_get}
use Rattle.std.specs.List.{AllByRecursion, position, position_or_len, remove, list_any}
use Rattle.std.specs.Option.{option_map_or}
use Rattle.std.specs.Bool.{then_some}
use Rattle.std.proofs.lemmas.Bool.{cases_lt, cases_order}
use Rattle.std.proofs.lemmas.Bool.Decides.{nat_tests}
use Rattle.std.proofs.lemmas.List.{get_or-map, length-map}
use Rattle.std.proofs.lemmas.List.Sums.{position_or_len_is}
use Rattle.std.proofs.lemmas.Option.{get_or_from_slice_get, slice_get_within, slice_get-get_or}
use Rattle.vp_model.specs.Types.{TxnId, Live}
use Rattle.vp_model.specs.Words.{same_txn, change_first, without_first}
use Rattle.vp_model.specs.Step.{mark}
use Rattle.vp_model.specs.Calls.{begun}
use Rattle.vp_base.specs.declared.ids.ViewId.{ViewId}
use Rattle.vp_lists.proofs.Found.{any_is_found, find_none, find_some, others_some}
use Rattle.vp_model.proofs.SameTxn.{same_txn-is}
use Rattle.vp_transactions.specs.Order.{numbers, AreRising, AreBelow, AreLive, IsPlace}
use Rattle.vp_transactions.specs.Waiting.{waits}
use Rattle.vp_transactions.proofs.Waiting.{all_wait_more, all_wait_change, all_wait_without, all_wait_marked}

-- of ascending numbers a later one is higher
later : (n : ℕ) (ns : List ℕ) → AllByRecursion (λ m. n < m) ns → (j : ℕ) → j < length ns → n < get_or ns j 0
later n [] h j l = absurd (omega arith)
later n (m ∷ ns) h zero l = h.0
later n (m ∷ ns) h (suc j) l = later n ns h.1 j (omega arith)

pub rises : (ns : List ℕ) → AreRising ns → (i j : ℕ) → i < j → j < length ns → get_or ns i 0 < get_or ns j 0
rises [] r i j l w = absurd (omega arith)
rises (n ∷ ns) r zero zero l w = absurd (omega arith)
rises (n ∷ ns) r zero (suc j) l w = later n ns r.0 j (omega arith)
rises (n ∷ ns) r (suc i) zero l w = absurd (omega arith)
rises (n ∷ ns) r (suc i) (suc j) l w = rises ns r.1 i j (omega arith) (omega arith)

-- one more number above all
more : (P : ℕ → Type 0) (ns : List ℕ) (n : ℕ) → AllByRecursion P ns → P n → AllByRecursion P (ns ++ n ∷ [])
more P [] n h p = (p, tt)
more P (m ∷ ns) n h p = (h.0, more P ns n h.1 p)

rising_more : (ns : List ℕ) (n : ℕ) → AreRising ns → AllByRecursion (λ m. m < n) ns → AreRising (ns ++ n ∷ [])
rising_more [] n r b = (tt, tt)
rising_more (m ∷ ns) n r b = (more (λ k. m < k) ns n r.0 b.0, rising_more ns n r.1 b.1)

numbers_more : (t : Live) (live : List Live) → numbers (live ++ t ∷ []) ≡ numbers live ++ t.txn.seq ∷ []
numbers_more t [] = refl
numbers_more t (u ∷ live) = ap (λ ns. u.txn.seq ∷ ns) (numbers_more t live)

pub live_more : (txn : TxnId) (view : ViewId) (live : List Live) → AreLive live → AreBelow txn.seq live → AreLive (live ++ begun txn view ∷ [])
live_more txn view live a b =
    record {
      waiting = all_wait_more (begun txn view) live refl a.waiting;
      rising = rw (numbers_more (begun txn view) live) (rising_more (numbers live) txn.seq a.rising b);
    }

-- the transaction of a name goes back to its place
same_seq : (a b : TxnId) → same_txn a b ≡ true → a.seq ≡ b.seq
same_seq a b h = ap (λ (t : TxnId). t.seq) (same_txn-is a b h)

changed_at : (txn : TxnId) (t u : Live) (ns : List ℕ) (live : List Live) (b : Bool) → same_txn u.txn txn ≡ b → t.txn ≡ txn → numbers (change_first (λ v. same_txn v.txn txn) (λ v. t) live) ≡ numbers live → numbers (cond b (t ∷ live) (u ∷ change_first (λ v. same_txn v.txn txn) (λ v. t) live)) ≡ u.txn.seq ∷ numbers live
changed_at txn t u ns live true h e rest = ap (λ n. n ∷ numbers live) (ap (λ (a : TxnId). a.seq) e ∙ sym (same_seq u.txn txn h))
changed_at txn t u ns live false h e rest = ap (λ ns. u.txn.seq ∷ ns) rest

pub numbers_changed : (txn : TxnId) (t : Live) (live : List Live) → t.txn ≡ txn → numbers (change_first (λ u. same_txn u.txn txn) (λ u. t) live) ≡ numbers live
numbers_changed txn t [] e = refl
numbers_changed txn t (u ∷ live) e = changed_at txn t u [] live (same_txn u.txn txn) refl e (numbers_changed txn t live e)

pub live_changed : (txn : TxnId) (t : Live) (live : List Live) → t.txn ≡ txn → waits t ≡ true → AreLive live → AreLive (change_first (λ u. same_txn u.txn txn) (λ u. t) live)
live_changed txn t live e w a =
    record {
      waiting = all_wait_change (λ (u : Live). same_txn u.txn txn) t live w a.waiting;
      rising = rw (numbers_changed txn t live e) a.rising;
    }

-- a transaction is removed
module _ (test : Live → Bool) (P : ℕ → Type 0) where
  fewer_at : (u : Live) (live : List Live) (b : Bool) → AllByRecursion P (numbers live) → P u.txn.seq → AllByRecursion P (numbers (without_first test live)) → AllByRecursion P (numbers (cond b live (u ∷ without_first test live)))
  fewer_at u live true h p rest = h
  fewer_at u live false h p rest = (p, rest)

  fewer : (live : List Live) → AllByRecursion P (numbers live) → AllByRecursion P (numbers (without_first test live))
  fewer [] h = tt
  fewer (u ∷ live) h = fewer_at u live (test u) h.1 h.0 (fewer live h.1)

module _ (test : Live → Bool) where
  rising_at : (u : Live) (live : List Live) (b : Bool) → AreRising (numbers (u ∷ live)) → AreRising (numbers (without_first test live)) → AreRising (numbers (cond b live (u ∷ without_first test live)))
  rising_at u live true r rest = r.1
  rising_at u live false r rest = (fewer test (λ m. u.txn.seq < m) live r.0, rest)

  rising_without : (live : List Live) → AreRising (numbers live) → AreRising (numbers (without_first test live))
  rising_without [] r = tt
  rising_without (u ∷ live) r = rising_at u live (test u) r (rising_without live r.1)

  pub live_without : (live : List Live) → AreLive live → AreLive (without_first test live)
  live_without live a = record { waiting = all_wait_without test live a.waiting; rising = rising_without live a.rising }

  pub below_without : (n : ℕ) (live : List Live) → AreBelow n live → AreBelow n (without_first test live)
  below_without n live b = fewer test (λ m. m < n) live b

pub live_after_first : (live : List Live) → AreLive live → AreLive (remove live 0)
live_after_first [] a = a
live_after_first (t ∷ live) a = record { waiting = let w = a.waiting in grind (arith, nat_tests, w); rising = a.rising.1 }

-- a tick changes no names
pub numbers_marked : (live : List Live) → numbers (map mark live) ≡ numbers live
numbers_marked [] = refl
numbers_marked (t ∷ live) = ap (λ ns. t.txn.seq ∷ ns) (numbers_marked live)

pub live_marked : (live : List Live) → AreLive live → AreLive (map mark live)
live_marked live a =
    record {
      waiting = all_wait_marked live ∙ a.waiting;
      rising = rw (numbers_marked live) a.rising;
    }

-- the number that all live transactions are below, where one is taken out, put back, or new
pub below_lifted : (n : ℕ) (old new : List Live) (r : Option Live) → option_map_or (λ t. change_first (λ u. same_txn u.txn t.txn) (λ u. t) new) r new ≡ old → AreBelow n old → AreBelow n new
below_lifted n old new None e b = rw e b
below_lifted n old new (Some t) e b =
    let same : numbers old ≡ numbers new = ap numbers (sym e) ∙ numbers_changed t.txn t new refl in
    subst (AllByRecursion (λ m. m < n)) same b

pub below_put : (n : ℕ) (t : Live) (live : List Live) → AreBelow n live → AreBelow n (change_first (λ u. same_txn u.txn t.txn) (λ u. t) live)
below_put n t live b = rw (numbers_changed t.txn t live refl) b

pub below_marked : (n : ℕ) (live : List Live) → AreBelow n live → AreBelow n (map mark live)
below_marked n live b = rw (numbers_marked live) b

below_next : (n : ℕ) (ns : List ℕ) → AllByRecursion (λ m. m < n) ns → AllByRecursion (λ m. m < n + 1) ns
below_next n [] h = tt
below_next n (m ∷ ns) h = (omega (arith, h.0), below_next n ns h.1)

pub below_more : (n : ℕ) (txn : TxnId) (view : ViewId) (live : List Live) → txn.seq ≡ n → AreBelow n live → AreBelow (n + 1) (live ++ begun txn view ∷ [])
below_more n txn view live e b =
    rw (numbers_more (begun txn view) live) (more (λ m. m < n + 1) (numbers live) txn.seq (below_next n (numbers live) b) (omega (arith, e)))

-- the number at a place
pub number_is : (live : List Live) (place : ℕ) → option_map_or (λ (t : Live). t.txn.seq) (slice_get live place) 0 ≡ get_or (numbers live) place 0
number_is [] place = refl
number_is (t ∷ live) zero = refl
number_is (t ∷ live) (suc place) = number_is live place

-- the two halves of a search by halving
module _ (ns : List ℕ) (r : AreRising ns) (number middle : ℕ) (within : middle < length ns) where
  pub lower_half : get_or ns middle 0 < number → (k : ℕ) → k < middle + 1 → get_or ns k 0 < number
  lower_half l k h =
      elim (cases_lt k middle) [
        | inl before ↦ omega (arith, l, rises ns r k middle before within)
        | inr last ↦ let same : k ≡ middle = omega arith in rw same l
      ]

  pub upper_half : number ≤ get_or ns middle 0 → (k : ℕ) → middle ≤ k → k < length ns → number ≤ get_or ns k 0
  upper_half l k h w =
      elim (cases_lt middle k) [
        | inl following ↦ omega (arith, l, rises ns r middle k following w)
        | inr first ↦ let same : k ≡ middle = omega arith in rw same l
      ]

none_passes : (test : Live → Bool) (xs : List Live) → ((k : ℕ) (d : Live) → k < length xs → test (get_or xs k d) ≡ false) → position test xs ≡ None
none_passes test [] h = refl
none_passes test (x ∷ xs) h =
    let e : position_or_len test (x ∷ xs) ≡ length (x ∷ xs) = position_or_len_is test (x ∷ xs) (length (x ∷ xs)) x (omega arith) (λ k l. h k x l) (λ l. absurd (omega arith)) in
    grind (arith, nat_tests, e)

-- a transaction that is found where its number leads is the first of its name; where it isn't found there, there is none
module _ (txn : TxnId) (live : List Live) (place : ℕ) (p : IsPlace txn.seq (numbers live) place) where
  test : Live → Bool
  test t = same_txn t.txn txn

  differs : (t : Live) → t.txn.seq < txn.seq → same_txn t.txn txn ≡ false
  differs t l = grind (arith, nat_tests, l)

  above_differs : (t : Live) → txn.seq < t.txn.seq → same_txn t.txn txn ≡ false
  above_differs t l = grind (arith, nat_tests, l)

  number_of : (k : ℕ) (d : Live) → k < length live → get_or (numbers live) k 0 ≡ (get_or live k d).txn.seq
  number_of k d l = get_or-map (λ (t : Live). t.txn.seq) live k d 0 l

  before_fails : (k : ℕ) (d : Live) → k < place → same_txn (get_or live k d).txn txn ≡ false
  before_fails k d l =
      let within : k < length live = omega (arith, l, p.within, length-map live (λ (t : Live). t.txn.seq)) in
      differs (get_or live k d) (rw (number_of k d within) at (p.below k l))

  pub found_at : (t : Live) → slice_get live place ≡ Some t → same_txn t.txn txn ≡ true → position (λ u. same_txn u.txn txn) live ≡ Some place
  found_at t e h =
      let within = slice_get_within live place t e in
      let here : get_or live place t ≡ t = get_or_from_slice_get live place t t e in
      let passes : same_txn (get_or live place t).txn txn ≡ true = rw here h in
      let first : position_or_len (λ (u : Live). same_txn u.txn txn) live ≡ place = position_or_len_is (λ (u : Live). same_txn u.txn txn) live place t (omega (arith, within)) (λ k l. before_fails k t l) (λ l. passes) in
      grind (arith, nat_tests, first, within)

  module _ (r : AreRising (numbers live)) (other : (t : Live) → slice_get live place ≡ Some t → same_txn t.txn txn ≡ false) where
    after_fails : (k : ℕ) (d : Live) → place < k → k < length live → same_txn (get_or live k d).txn txn ≡ false
    after_fails k d l within =
        let same = length-map live (λ (t : Live). t.txn.seq) in
        let least : txn.seq ≤ get_or (numbers live) place 0 = p.above place (omega arith) (omega (arith, l, within, same)) in
        let larger : get_or (numbers live) place 0 < get_or (numbers live) k 0 = rises (numbers live) r place k l (omega (arith, within, same)) in
        let above : txn.seq < get_or (numbers live) k 0 = omega (arith, least, larger) in
        above_differs (get_or live k d) (rw (number_of k d within) at above)

    fails : (k : ℕ) (d : Live) → k < length live → same_txn (get_or live k d).txn txn ≡ false
    fails k d within =
        elim (cases_order k place) [
          | inl same ↦ other (get_or live k d) (rw (← same) (slice_get-get_or live k d within))
          | inr apart ↦ elim apart [ inl l ↦ before_fails k d l | inr l ↦ after_fails k d l within ]
        ]

    pub missing_at : position (λ u. same_txn u.txn txn) live ≡ None
    missing_at = none_passes (λ (u : Live). same_txn u.txn txn) live fails

  -- the place of a name, where its number leads to this transaction
  place_by : (r : AreRising (numbers live)) (t : Live) (b : Bool) → same_txn t.txn txn ≡ b → slice_get live place ≡ Some t → then_some b place ≡ position (λ u. same_txn u.txn txn) live
  place_by r t true h e = sym (found_at t e h)
  place_by r t false h e = sym (missing_at r only)
    where
      only : (u : Live) → slice_get live place ≡ Some u → same_txn u.txn txn ≡ false
      only u f = let same : u ≡ t = let both = sym f ∙ e in cc in rw same h

  pub place_is : AreRising (numbers live) → (t : Live) → slice_get live place ≡ Some t → then_some (same_txn t.txn txn) place ≡ position (λ u. same_txn u.txn txn) live
  place_is r t e = place_by r t (same_txn t.txn txn) refl e

  pub nowhere : AreRising (numbers live) → slice_get live place ≡ None → None ≡ position (λ u. same_txn u.txn txn) live
  nowhere r e = sym (missing_at r (λ t f. let both : Some t ≡ None = sym f ∙ e in absurd (cc)))

-- the place of a transaction is the place of its number
pub place_of_one : (live : List Live) → AreRising (numbers live) → (place : ℕ) (t : Live) → slice_get live place ≡ Some t → IsPlace t.txn.seq (numbers live) place
place_of_one live r place t e =
    let within : place < length (numbers live) = omega (arith, slice_get_within live place t e, length-map live (λ (u : Live). u.txn.seq)) in
    let here : get_or (numbers live) place 0 ≡ t.txn.seq = sym (number_is live place) ∙ ap (λ o. option_map_or (λ (u : Live). u.txn.seq) o 0) e in
    record {
      within = omega (arith, within);
      below = λ k l. omega (arith, here, rises (numbers live) r k place l within);
      above = λ k l w. elim (cases_lt place k) [
        | inl following ↦ omega (arith, here, rises (numbers live) r place k following w)
        | inr before ↦ let same : k ≡ place = omega arith in rw (same, here) (omega arith)
      ];
    }

-- there is only one transaction of the name
pub only_at : (txn : TxnId) (live : List Live) → AreRising (numbers live) → (place : ℕ) → option_map_or (λ (t : Live). same_txn t.txn txn) (slice_get live place) false ≡ true → Some place ≡ position (λ u. same_txn u.txn txn) live
only_at txn live r place h = at_place (slice_get live place) refl h
  where
    at_place : (o : Option Live) → slice_get live place ≡ o → option_map_or (λ (t : Live). same_txn t.txn txn) o false ≡ true → Some place ≡ position (λ u. same_txn u.txn txn) live
    at_place None e h = absurd (cc)
    at_place (Some t) e h =
        let p = subst (λ n. IsPlace n (numbers live) place) (same_seq t.txn txn h) (place_of_one live r place t e) in
        sym (found_at txn live place p t e h)

-- a name that has a place is there
pub there : (test : Live → Bool) (live : List Live) (place : Option ℕ) → place ≡ position test live → is_some place ≡ list_any test live
there test live None e = sym (any_is_found test live ∙ ap is_some (find_none test live (sym e)))
there test [] (Some i) e = absurd (cc)
there test (t ∷ live) (Some i) e = sym (any_is_found test (t ∷ live) ∙ ap is_some (find_some test (t ∷ live) i t (sym e)))

-- a transaction is removed from its place
pub dropped_at : (test : Live → Bool) (live : List Live) (place : ℕ) → Some place ≡ position test live → remove live place ≡ without_first test live
dropped_at test [] place e = absurd (cc)
dropped_at test (t ∷ live) place e = sym (others_some test (t ∷ live) place t (sym e))

-- a transaction begins, or memory is lacking
pub live_begun : {A E : Type 0} (result : Result A E) (txn : TxnId) (view : ViewId) (old new : List Live) → OnOk result (new ≡ old ++ begun txn view ∷ []) → OnErr result (new ≡ old) → AreLive old → AreBelow txn.seq old → AreLive new
live_begun (Ok done) txn view old new made same a b = rw made (live_more txn view old a b)
live_begun (Err e) txn view old new made same a b = rw same a
