-- The number of the call of a transaction that was refused, or that a bar of another site ended: it is that of the first reply that says
-- so, and stays so.
use Rattle.std.proofs.Common.{◌≡◌, ◌∙◌, ◌≤◌, ap, ℕ, Bool, true, false, cond, List, [], ◌∷◌, ◌++◌, refl, append-nil, ⊎_elim}
use Rattle.std.specs.Prelude.{Option, Some, None, ◌&&◌, nat_le, filter, filter_map, flat_map}
use Rattle.std.specs.Option.{option_map_or}
use Rattle.std.proofs.lemmas.Bool.{le-leb}
use Rattle.std.proofs.lemmas.Grind.{flat_map-append}
use Rattle.std.proofs.lemmas.List.Elements.{filter-append, filter_map-append}
use Rattle.vp_model.specs.Types.{TxnId, Answer, Ending}
use Rattle.vp_base.specs.declared.site.Ending.TheVariants.{Inaccessible, Committed, Aborted, LockHeld, ViewChanged, TimedOut}
use Rattle.vp_model.specs.Words.{first, same_txn}
use Rattle.vp_model.specs.Transactions.{answer_of}
use Rattle.vp_model.specs.World.{Moment}
use Rattle.vp_model.specs.Told.{answers_in}
use Rattle.vp_model.specs.Justified.{refused_number, refused_in, barred_number, barred_in, is_delivery}
use Rattle.vp_laws.proofs.Lists.Members.{Has, has_none, has_first, has_more, has_cons}
use Rattle.vp_model.proofs.SameTxn.{same_txn-is}

-- the first of two lists
first_left : (xs ys : List ℕ) (n : ℕ) → first xs ≡ Some n → first (xs ++ ys) ≡ Some n
first_left [] ys n e = cc
first_left (x ∷ xs) ys n e = e

first_right : (xs ys : List ℕ) → first xs ≡ None → first (xs ++ ys) ≡ first ys
first_right [] ys e = refl
first_right (x ∷ xs) ys e = cc

-- `says` is the number that a reply names
module _ (says : Answer → Option ℕ) where
  numbers : List Moment → List ℕ
  numbers moments = filter_map says (flat_map (λ (m : Moment). answers_in m.line) moments)

  numbers_append : (moments more : List Moment) → numbers (moments ++ more) ≡ numbers moments ++ numbers more
  unfolding numbers
  numbers_append moments more =
      ap (filter_map says) (flat_map-append (λ (m : Moment). answers_in m.line) moments more)
      ∙ filter_map-append says (flat_map (λ (m : Moment). answers_in m.line) moments) (flat_map (λ (m : Moment). answers_in m.line) more)

  abbrev pub first_in : List Moment → Option ℕ
  first_in moments = first (filter_map says (flat_map (λ (m : Moment). answers_in m.line) moments))

  pub first_more : (moments more : List Moment) (n : ℕ) → first_in moments ≡ Some n → first_in (moments ++ more) ≡ Some n
  unfolding numbers
  first_more moments more n e = ap first (numbers_append moments more) ∙ first_left (numbers moments) (numbers more) n e

  -- no reply so far, and the first of the last moment
  pub first_last : (moments : List Moment) (m : Moment) → first_in moments ≡ None → first_in (moments ++ m ∷ []) ≡ first (filter_map says (answers_in m.line))
  unfolding numbers
  first_last moments m e =
      ap first (numbers_append moments (m ∷ []))
      ∙ first_right (numbers moments) (numbers (m ∷ [])) e
      ∙ ap (λ (answers : List Answer). first (filter_map says answers)) (append-nil (answers_in m.line))

  -- no reply speaks of it
  none_told : (answers : List Answer) → ((a : Answer) → Has answers a → (n : ℕ) → says a ≡ Some n → ⊥) → filter_map says answers ≡ []
  none_told [] none = refl
  none_told (a ∷ answers) none = go (says a) refl (none_told answers (λ b h. none b (has_more a answers b h)))
    where
      go : (o : Option ℕ) → says a ≡ o → filter_map says answers ≡ [] → filter_map says (a ∷ answers) ≡ []
      go None e rest = rw e rest
      go (Some n) e rest = absurd (none a (has_first a answers) n e)

  pub none_first : (moments : List Moment) → ((m : Moment) → Has moments m → (a : Answer) → Has (answers_in m.line) a → (n : ℕ) → says a ≡ Some n → ⊥) → first_in moments ≡ None
  unfolding numbers
  none_first moments none = ap first (go moments none)
    where
      go : (moments : List Moment) → ((m : Moment) → Has moments m → (a : Answer) → Has (answers_in m.line) a → (n : ℕ) → says a ≡ Some n → ⊥) → numbers moments ≡ []
      go [] none = refl
      go (m ∷ moments) none =
          filter_map-append says (answers_in m.line) (flat_map (λ (m : Moment). answers_in m.line) moments)
          ∙ ap (λ (ns : List ℕ). ns ++ numbers moments) (none_told (answers_in m.line) (none m (has_first m moments)))
          ∙ go moments (λ x h. none x (has_more m moments x h))

  -- where each reply that speaks of it has this number, so has the first
  pub first_told : (answers : List Answer) (n : ℕ) → ((a : Answer) → Has answers a → (k : ℕ) → says a ≡ Some k → k ≡ n) → (a : Answer) → Has answers a → says a ≡ Some n → first (filter_map says answers) ≡ Some n
  first_told [] n same a h e = absurd (has_none a h)
  first_told (b ∷ answers) n same a h e = go (says b) refl (λ more. first_told answers n (λ c k. same c (has_more b answers c k)) a more e)
    where
      go : (o : Option ℕ) → says b ≡ o → (Has answers a → first (filter_map says answers) ≡ Some n) → first (filter_map says (b ∷ answers)) ≡ Some n
      go None q rest = rw q (⊎_elim (λ (one : b ≡ a). absurd (let z = ap says one in cc)) (λ more. rest more) (has_cons b answers a h))
      go (Some k) q rest = rw q (ap (λ (n : ℕ). Some n) (same b (has_first b answers) k q))

pub refused_more : (txn : TxnId) (moments more : List Moment) (n : ℕ) → refused_in moments txn ≡ Some n → refused_in (moments ++ more) txn ≡ Some n
refused_more txn moments more n e = first_more (refused_number txn) moments more n e

pub barred_more : (txn : TxnId) (moments more : List Moment) (n : ℕ) → barred_in moments txn ≡ Some n → barred_in (moments ++ more) txn ≡ Some n
barred_more txn moments more n e =
    ap (first_in (barred_number txn)) (filter-append (λ (m : Moment). is_delivery m.line.event) moments more)
    ∙ first_more (barred_number txn) (filter (λ (m : Moment). is_delivery m.line.event) moments) (filter (λ (m : Moment). is_delivery m.line.event) more) n e

-- the refusal as a record: `first_one` is the number of the transaction's first reply that names one
pub record Refusal (first_one : Option ℕ) (number : ℕ) (Closed : ℕ → Type 0) : Type 0 where
  -- the number of the refused call
  pub refused : ℕ
  -- it is the first
  pub first : first_one ≡ Some refused
  -- the reply's number is not lower
  pub up_to : refused ≤ number
  -- the refusal closed the transaction
  pub closed : Closed refused

pub refusal_is : (first_one : Option ℕ) (number : ℕ) (Closed : ℕ → Type 0) (test : ℕ → Bool) → ((n : ℕ) → Closed n → test n ≡ true) → Refusal first_one number Closed → option_map_or (λ refused. nat_le refused number && test refused) first_one false ≡ true
refusal_is first_one number Closed test passes r = let z : nat_le r.refused number ≡ true = le-leb r.refused number r.up_to in rw (r.first, z) (passes r.refused r.closed)

pub refusal_more : (first_one later : Option ℕ) (number : ℕ) (Closed Later : ℕ → Type 0) → ((n : ℕ) → first_one ≡ Some n → later ≡ Some n) → ((n : ℕ) → Closed n → Later n) → Refusal first_one number Closed → Refusal later number Later
refusal_more first_one later number Closed Later stays lasts r = record {
  refused = r.refused;
  first = stays r.refused r.first;
  up_to = r.up_to;
  closed = lasts r.refused r.closed;
}

-- a reply that speaks of the transaction is its own, with its number
its_own : (t txn : TxnId) (number n : ℕ) → cond (same_txn t txn) (Some number) None ≡ Some n → t ≡ txn
its_own t txn number n e = go (same_txn t txn) refl e
  where
    go : (b : Bool) → same_txn t txn ≡ b → cond b (Some number) None ≡ Some n → t ≡ txn
    go true q e = same_txn-is t txn q
    go false q e = cc

its_number : (b : Bool) (number n : ℕ) → cond b (Some number) None ≡ Some n → number ≡ n
its_number true number n e = cc
its_number false number n e = cc

-- an end that speaks of a refused call
pub refused_of : (u txn : TxnId) (number : ℕ) (why : Ending) (n : ℕ) → refused_number txn (answer_of u number why) ≡ Some n → (u ≡ txn) × (number ≡ n)
refused_of u txn number Committed n e = cc
refused_of u txn number Aborted n e = cc
refused_of u txn number (LockHeld name at holder) n e = (its_own u txn number n e, its_number (same_txn u txn) number n e)
refused_of u txn number (ViewChanged at held now) n e = (its_own u txn number n e, its_number (same_txn u txn) number n e)
refused_of u txn number (TimedOut at) n e = cc
refused_of u txn number (Inaccessible name inside total) n e = cc

-- and one that speaks of a bar
pub barred_of : (u txn : TxnId) (number : ℕ) (why : Ending) (n : ℕ) → barred_number txn (answer_of u number why) ≡ Some n → (u ≡ txn) × (number ≡ n)
barred_of u txn number Committed n e = cc
barred_of u txn number Aborted n e = cc
barred_of u txn number (LockHeld name at holder) n e = cc
barred_of u txn number (ViewChanged at held now) n e = cc
barred_of u txn number (TimedOut at) n e = cc
barred_of u txn number (Inaccessible name inside total) n e = (its_own u txn number n e, its_number (same_txn u txn) number n e)
