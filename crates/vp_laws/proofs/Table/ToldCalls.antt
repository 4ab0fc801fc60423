-- What one more line adds to what the lines report of a live transaction, whose calls may wait for other sites.
use Rattle.std.proofs.Common.{◌≡◌, ◌∙◌, ap, sym, subst, ℕ, ◌+◌, ◌≤◌, ◌<◌, true, false, List, [], ◌∷◌, ◌++◌, refl, arith}
use Rattle.std.specs.Prelude.{Option, Some, None, is_some, ◌==◌, nat_lt, filter_map, find, option_and_then}
use Rattle.std.specs.List.{AllByRecursion}
use Rattle.std.proofs.lemmas.Bool.{ne_eqb, le-ltb}
use Rattle.std.proofs.lemmas.List.Elements.{filter_map-append}
use Rattle.vp_model.specs.Types.{TxnId, Op, Call, Line, Pending}
use Rattle.vp_model.specs.Words.{value_at, put_at}
use Rattle.vp_model.specs.Catalogue.{Catalogue}
use Rattle.vp_model.specs.Told.{put_first, reports, takes, taken_call, call_in, told_by}
use Rattle.vp_laws.proofs.Table.ToldLines.{Report, find_last, Tells, tells_on, IsUnheard, tell, all_taken, told_same, taken_on}
use Rattle.vp_text.proofs.Items.{all_push, all_each}

-- the last number that a call has taken
abbrev pub reach : ℕ → Option Pending → ℕ
reach last None = last
reach last (Some p) = last + 1

-- the lines tell of the transaction these operations, under numbers up to the last; its pending call has taken the next
-- number, and no call a later one
pub record TellsCall (catalogue : Catalogue) (lines : List Line) (u : TxnId) (last : ℕ) (pending : Option Pending) (ops : List Op) : Type 0 where
  pub so_far : Tells catalogue lines u ops
  pub below : AllByRecursion (λ (p : Report). p.0 ≤ last) (reports lines u)
  pub taken : (p : Pending) → pending ≡ Some p → taken_call lines u (last + 1) ≡ Some p.call
  pub untaken : (k : ℕ) → reach last pending < k → find (takes u k) lines ≡ None

-- of a transaction that they are silent of they tell no operation
pub begins : (catalogue : Catalogue) (lines : List Line) (u : TxnId) → IsUnheard lines u → TellsCall catalogue lines u 0 None []
begins catalogue lines u h = record {
  so_far = record { taken = rw h.unreported tt; tells = rw h.unreported refl };
  below = rw h.unreported tt;
  taken = λ p e. cc;
  untaken = λ k l. h.untaken k;
}

-- no call is pending before and after, or the same one
pub data SameCall (a b : Option Pending) : Type 0 where
  none : a ≡ None → b ≡ None → SameCall a b
  same : (p q : Pending) → a ≡ Some p → b ≡ Some q → p.call ≡ q.call → SameCall a b

call_is : (q r : Pending) → Some q ≡ Some r → q.call ≡ r.call
call_is q r e = let same : q ≡ r = cc in ap (λ (p : Pending). p.call) same

pub as_pending : (catalogue : Catalogue) (ls : List Line) (txn : TxnId) (last : ℕ) (ops : List Op) (p q : Option Pending) → SameCall p q → TellsCall catalogue ls txn last p ops → TellsCall catalogue ls txn last q ops
as_pending catalogue ls txn last ops p q (SameCall.none e f) h = subst (λ (o : Option Pending). TellsCall catalogue ls txn last o ops) (e ∙ sym f) h
as_pending catalogue ls txn last ops p q (SameCall.same a b e f g) h = subst (λ (o : Option Pending). TellsCall catalogue ls txn last o ops) (sym f) (going_on a b g (subst (λ (o : Option Pending). TellsCall catalogue ls txn last o ops) e h))
  where
    going_on : (a b : Pending) → a.call ≡ b.call → TellsCall catalogue ls txn last (Some a) ops → TellsCall catalogue ls txn last (Some b) ops
    going_on a b alike h = record {
      so_far = h.so_far;
      below = h.below;
      taken = λ r e. h.taken a refl ∙ ap (λ (c : Call). Some c) (alike ∙ call_is b r e);
      untaken = h.untaken;
    }

-- a number that is taken now, and one that is not
pub taken_now : (lines : List Line) (l : Line) (u : TxnId) (k : ℕ) (words : Call) → find (takes u k) lines ≡ None → takes u k l ≡ true → call_in l.event ≡ Some words → taken_call (lines ++ l ∷ []) u k ≡ Some words
taken_now lines l u k words before now call =
    let here : find (takes u k) (lines ++ l ∷ []) ≡ Some l = find_last (takes u k) lines l before ∙ rw now refl in
    ap (option_and_then (λ (line : Line). call_in line.event)) here ∙ call

pub untaken_on : (lines : List Line) (l : Line) (u : TxnId) (k : ℕ) → find (takes u k) lines ≡ None → takes u k l ≡ false → find (takes u k) (lines ++ l ∷ []) ≡ None
untaken_on lines l u k before free = find_last (takes u k) lines l before ∙ rw free refl

module _ (catalogue : Catalogue) (lines : List Line) (l : Line) (u : TxnId) (last : ℕ) (ops : List Op) where
  -- nothing is told of it
  pub call_on : (pending : Option Pending) → TellsCall catalogue lines u last pending ops → reports (lines ++ l ∷ []) u ≡ reports lines u → ((k : ℕ) → reach last pending < k → takes u k l ≡ false) → TellsCall catalogue (lines ++ l ∷ []) u last pending ops
  call_on pending h e n = record {
    so_far = tells_on catalogue lines l u ops h.so_far e;
    below = rw e h.below;
    taken = λ p q. taken_on lines l u (last + 1) p.call (h.taken p q);
    untaken = λ k q. find_last (takes u k) lines l (h.untaken k q) ∙ rw (n k q) refl;
  }

  -- the line is its next call, which is not answered yet
  pub call_taken : (p : Pending) → TellsCall catalogue lines u last None ops → reports (lines ++ l ∷ []) u ≡ reports lines u → call_in l.event ≡ Some p.call → takes u (last + 1) l ≡ true → ((k : ℕ) → last + 1 < k → takes u k l ≡ false) → TellsCall catalogue (lines ++ l ∷ []) u last (Some p) ops
  call_taken p h e call now n = record {
    so_far = tells_on catalogue lines l u ops h.so_far e;
    below = rw e h.below;
    taken = λ q same. taken_now lines l u (last + 1) p.call (h.untaken (last + 1) (omega arith)) now call ∙ ap (λ (c : Call). Some c) (call_is p q same);
    untaken = λ k q. find_last (takes u k) lines l (h.untaken k (omega arith)) ∙ rw (n k q) refl;
  }

-- a report under a number beyond all others
none_above : (n : ℕ) (rs : List Report) → AllByRecursion (λ (p : Report). p.0 ≤ n) rs → value_at (n + 1) rs ≡ None
none_above n [] h = refl
none_above n (r ∷ rs) h = let l = h.0 in let z : (r.0 == n + 1) ≡ false = ne_eqb r.0 (n + 1) (λ e. omega arith) in rw z (none_above n rs h.1)

put_above : (n : ℕ) (v : Option (Option (List ℕ))) (rs : List Report) → AllByRecursion (λ (p : Report). p.0 ≤ n) rs → put_at (n + 1) v rs ≡ rs ++ (n + 1, v) ∷ []
put_above n v [] h = refl
put_above n v (r ∷ rs) h =
    let l = h.0 in
    let y : (n + 1 == r.0) ≡ false = ne_eqb (n + 1) r.0 (λ e. omega arith) in
    let z : nat_lt (n + 1) r.0 ≡ false = le-ltb (n + 1) r.0 (omega arith) in
    rw (y, z) (ap (λ w. r ∷ w) (put_above n v rs h.1))

put_last : (n : ℕ) (v : Option (Option (List ℕ))) (rs : List Report) → AllByRecursion (λ (p : Report). p.0 ≤ n) rs → put_first (n + 1, v) rs ≡ rs ++ (n + 1, v) ∷ []
put_last n v rs h = rw (none_above n rs h) (put_above n v rs h)

one_more : (a n : ℕ) → a ≤ n → a ≤ n + 1
one_more a n h = omega arith

one_told : (f : Report → Option Op) (r : Report) (operation : Op) → f r ≡ Some operation → filter_map f (r ∷ []) ≡ operation ∷ []
one_told f r operation e = rw e refl

-- an operation is done: the line reports it under the next number, which a call has taken by then
pub record IsDoneNow (catalogue : Catalogue) (lines : List Line) (l : Line) (u : TxnId) (number : ℕ) (operation : Op) : Type 0 where
  pub report : Option (Option (List ℕ))
  pub words : Call
  -- it is reported under this number
  pub reports : reports (lines ++ l ∷ []) u ≡ put_first (number, report) (reports lines u)
  -- this call has taken the number
  pub taken : taken_call (lines ++ l ∷ []) u number ≡ Some words
  -- and none a later one
  pub untaken : (k : ℕ) → number < k → find (takes u k) (lines ++ l ∷ []) ≡ None
  -- with the call it says the operation
  pub tells : told_by catalogue report words ≡ Some operation

module _ (catalogue : Catalogue) (lines : List Line) (l : Line) (u : TxnId) where
  -- a call is done that is no operation: nothing is reported, and its number is taken
  pub silent_next : (last : ℕ) (pending : Option Pending) (ops : List Op) → TellsCall catalogue lines u last pending ops → reports (lines ++ l ∷ []) u ≡ reports lines u → ((k : ℕ) → last + 1 < k → find (takes u k) (lines ++ l ∷ []) ≡ None) → TellsCall catalogue (lines ++ l ∷ []) u (last + 1) None ops
  silent_next last pending ops h e free = record {
    so_far = tells_on catalogue lines l u ops h.so_far e;
    below = rw e (all_each (λ (p : Report). p.0 ≤ last) (λ (p : Report). p.0 ≤ last + 1) (λ p h. one_more p.0 last h) (reports lines u) h.below);
    taken = λ q e. cc;
    untaken = free;
  }

  pub done_next : (last : ℕ) (pending : Option Pending) (ops : List Op) (operation : Op) → TellsCall catalogue lines u last pending ops → IsDoneNow catalogue lines l u (last + 1) operation → TellsCall catalogue (lines ++ l ∷ []) u (last + 1) None (ops ++ operation ∷ [])
  unfolding tell
  done_next last pending ops operation h d =
      let now : reports (lines ++ l ∷ []) u ≡ reports lines u ++ (last + 1, d.report) ∷ [] = d.reports ∙ put_last last d.report (reports lines u) h.below in
      record {
        so_far = record {
          taken = rw now (all_push (λ (p : Report). is_some (taken_call (lines ++ l ∷ []) u p.0) ≡ true) (reports lines u) (last + 1, d.report) (all_taken catalogue lines l u (reports lines u) h.so_far.taken) (rw d.taken refl));
          tells =
              ap (filter_map (tell catalogue (lines ++ l ∷ []) u)) now
              ∙ filter_map-append (tell catalogue (lines ++ l ∷ []) u) (reports lines u) ((last + 1, d.report) ∷ [])
              ∙ ap (λ z. z ++ filter_map (tell catalogue (lines ++ l ∷ []) u) ((last + 1, d.report) ∷ [])) (told_same catalogue lines l u (reports lines u) h.so_far.taken ∙ h.so_far.tells)
              ∙ ap (λ z. ops ++ z) (one_told (tell catalogue (lines ++ l ∷ []) u) (last + 1, d.report) operation (ap (option_and_then (told_by catalogue d.report)) d.taken ∙ d.tells));
        };
        below = rw now (all_push (λ (p : Report). p.0 ≤ last + 1) (reports lines u) (last + 1, d.report) (all_each (λ (p : Report). p.0 ≤ last) (λ (p : Report). p.0 ≤ last + 1) (λ p h. one_more p.0 last h) (reports lines u) h.below) (omega arith));
        taken = λ q e. cc;
        untaken = d.untaken;
      }
