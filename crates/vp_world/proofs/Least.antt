-- The least head of the open pairs is the message that flows next.
use Rattle.std.proofs.Common.{◌≡◌, ◌≤◌, ◌<◌, ◌+◌, ◌/◌, ◌%◌, ◌==◌, ◌&&◌, ℕ, zero, suc, Bool, true, false, nat_lt, not, if◌then◌else◌, List, [], ◌∷◌, Option, Some, None, IfSome, refl, ◌∙◌, arith}
use Rattle.std.proofs.lemmas.Bool.Decides.{nat_tests}
use Rattle.vp_model.specs.Types.{Sent}
use Rattle.vp_model.specs.Words.{has, first}
use Rattle.vp_model.specs.World.{WorldState, is_flowing, flowing_from, flowing}
use Rattle.vp_mail.specs.Queues.{pair_of, waiting, AreSites, AreSited}
use Rattle.vp_mail.proofs.Waiting.{first_from}
use Rattle.vp_world.specs.Heads.{is_open, head_of, lesser, least_below}

least_same : (f g : ℕ → Option ℕ) (n : ℕ) → ((p : ℕ) → p < n → f p ≡ g p) → least_below f n ≡ least_below g n
least_same f g zero h = refl
least_same f g (suc n) h = rw (least_same f g n (λ p l. h p (omega arith)), h n (omega arith)) refl

least_none : (f : ℕ → Option ℕ) (n : ℕ) → ((p : ℕ) → p < n → f p ≡ None) → least_below f n ≡ None
least_none f zero h = refl
least_none f (suc n) h = rw (least_none f n (λ p l. h p (omega arith)), h n (omega arith)) refl

lesser_above : (k : ℕ) (a b : Option ℕ) → IfSome a (λ j. k < j) → IfSome b (λ j. k < j) → IfSome (lesser a b) (λ j. k < j)
lesser_above k None b h i = i
lesser_above k (Some a) None h i = h
lesser_above k (Some a) (Some b) h i =
    elim (nat_lt b a) as (λ t. IfSome (if t then Some b else Some a) (λ j. k < j)) [ true ↦ i | false ↦ h ]

least_above : (f : ℕ → Option ℕ) (k n : ℕ) → ((p : ℕ) → p < n → IfSome (f p) (λ j. k < j)) → IfSome (least_below f n) (λ j. k < j)
least_above f k zero h = tt
least_above f k (suc n) h = lesser_above k (least_below f n) (f n) (least_above f k n (λ p l. h p (omega arith))) (h n (omega arith))

lesser_right : (k : ℕ) (a : Option ℕ) → IfSome a (λ j. k < j) → lesser a (Some k) ≡ Some k
lesser_right k None h = refl
lesser_right k (Some a) h = grind (arith, nat_tests, h)

lesser_left : (k : ℕ) (b : Option ℕ) → IfSome b (λ j. k < j) → lesser (Some k) b ≡ Some k
lesser_left k None h = refl
lesser_left k (Some b) h = grind (arith, nat_tests, h)

-- one of the first n is k, and each other one is above it
module _ (f : ℕ → Option ℕ) (k at : ℕ) (here : f at ≡ Some k) where
  abbrev AreAbove : ℕ → Type 0
  AreAbove n = (p : ℕ) → p < n → (p == at) ≡ false → IfSome (f p) (λ j. k < j)

  at_cases : (n : ℕ) → at < suc n → AreAbove (suc n) → (at < n → least_below f n ≡ Some k) → (b : Bool) → (n == at) ≡ b → lesser (least_below f n) (f n) ≡ Some k
  at_cases n l h rest true e =
      let same : n ≡ at = grind (arith, nat_tests, e) in
      rw (same, here) (lesser_right k (least_below f at) (least_above f k at (λ p q. h p (omega arith) (grind (arith, nat_tests, q)))))
  at_cases n l h rest false e =
      let below : at < n = grind (arith, nat_tests, e, l) in
      rw (rest below) (lesser_left k (f n) (h n (omega arith) e))

  least_at : (n : ℕ) → at < n → AreAbove n → least_below f n ≡ Some k
  least_at zero l h = absurd (omega arith)
  least_at (suc n) l h = at_cases n l h (λ below. least_at n below (λ p q. h p (omega arith))) (n == at) refl

pair_within : (from to : ℕ) → AreSites from to → pair_of from to < 256
pair_within from to s = omega (arith, s.from_least, s.from_most, s.to_least, s.to_most)

pair_to : (from to : ℕ) → AreSites from to → pair_of from to % 16 + 1 ≡ to
pair_to from to s = omega (arith, s.from_least, s.from_most, s.to_least, s.to_most)

pair_from : (from to : ℕ) → AreSites from to → pair_of from to / 16 + 1 ≡ from
pair_from from to s = omega (arith, s.from_least, s.from_most, s.to_least, s.to_most)

module _ (w : WorldState) where
  head_from : ℕ → List Sent → ℕ → Option ℕ
  head_from k xs pair = if is_open w pair then first (waiting pair w.delivered k xs) else None

  flows : (k : ℕ) (s : Sent) → AreSites s.from s.to → is_flowing w k s ≡ (is_open w (pair_of s.from s.to) && not (has w.delivered k))
  flows k s sites = rw (pair_to s.from s.to sites, pair_from s.from s.to sites) refl

  -- a head that is not the first message is above it
  weaker : (k : ℕ) (o : Option ℕ) → IfSome o (λ j. k + 1 ≤ j) → IfSome o (λ j. k < j)
  weaker k None h = tt
  weaker k (Some j) h = omega arith

  open_cases : (k : ℕ) (b : Bool) (o : Option ℕ) → IfSome o (λ j. k < j) → IfSome (if b then o else None) (λ j. k < j)
  open_cases k true o h = h
  open_cases k false o h = tt

  later_head : (k : ℕ) (s : Sent) (xs : List Sent) (p : ℕ) → (pair_of s.from s.to == p) ≡ false → IfSome (head_from k (s ∷ xs) p) (λ j. k < j)
  unfolding head_from
  later_head k s xs p off =
      let rest = first (waiting p w.delivered (k + 1) xs) in
      rw off (open_cases k (is_open w p) rest (weaker k rest (first_from p w.delivered (k + 1) xs)))

  -- the message flows
  head_here : (k : ℕ) (s : Sent) (xs : List Sent) → is_open w (pair_of s.from s.to) ≡ true → has w.delivered k ≡ false → head_from k (s ∷ xs) (pair_of s.from s.to) ≡ Some k
  unfolding head_from
  head_here k s xs up fresh =
      let same : (pair_of s.from s.to == pair_of s.from s.to) ≡ true = grind (arith, nat_tests) in
      rw (up, same, fresh) refl

  flows_here : (k : ℕ) (s : Sent) (xs : List Sent) → AreSites s.from s.to → is_open w (pair_of s.from s.to) ≡ true → has w.delivered k ≡ false → least_below (head_from k (s ∷ xs)) 256 ≡ Some k
  flows_here k s xs sites up fresh =
      least_at (head_from k (s ∷ xs)) k (pair_of s.from s.to) (head_here k s xs up fresh) 256 (pair_within s.from s.to sites) (λ p l off. later_head k s xs p (grind (arith, nat_tests, off)))

  -- the message does not flow
  cut_cases : (k : ℕ) (w : List ℕ) (o d : Bool) → (o && d) ≡ false → (if o then first (if d then k ∷ w else w) else None) ≡ (if o then first w else None)
  cut_cases k w false d h = refl
  cut_cases k w true false h = refl
  cut_cases k w true true h = cc

  pass_cases : (k : ℕ) (s : Sent) (xs : List Sent) (p : ℕ) → (is_open w (pair_of s.from s.to) && not (has w.delivered k)) ≡ false → (b : Bool) → (pair_of s.from s.to == p) ≡ b → head_from k (s ∷ xs) p ≡ head_from (k + 1) xs p
  unfolding head_from
  pass_cases k s xs p off false e = rw e refl
  pass_cases k s xs p off true e =
      let same : pair_of s.from s.to ≡ p = grind (arith, nat_tests, e) in
      let off_here : (is_open w p && not (has w.delivered k)) ≡ false = rw (← same) off in
      rw e (cut_cases k (waiting p w.delivered (k + 1) xs) (is_open w p) (not (has w.delivered k)) off_here)

  passes : (k : ℕ) (s : Sent) (xs : List Sent) (p : ℕ) → (is_open w (pair_of s.from s.to) && not (has w.delivered k)) ≡ false → head_from k (s ∷ xs) p ≡ head_from (k + 1) xs p
  passes k s xs p off = pass_cases k s xs p off (pair_of s.from s.to == p) refl

  nothing : (b : Bool) (o : Option ℕ) → o ≡ None → (if b then o else None) ≡ None
  nothing true o e = e
  nothing false o e = refl

  nothing_waits : (p k : ℕ) → head_from k [] p ≡ None
  unfolding head_from
  nothing_waits p k = nothing (is_open w p) None refl

  least_cases : (k : ℕ) (s : Sent) (xs : List Sent) → AreSites s.from s.to → least_below (head_from (k + 1) xs) 256 ≡ flowing_from w (k + 1) xs → (o d : Bool) → is_open w (pair_of s.from s.to) ≡ o → has w.delivered k ≡ d → least_below (head_from k (s ∷ xs)) 256 ≡ (if o && not d then Some k else flowing_from w (k + 1) xs)
  least_cases k s xs sites rest true false up fresh = flows_here k s xs sites up fresh
  least_cases k s xs sites rest true true up old =
      least_same (head_from k (s ∷ xs)) (head_from (k + 1) xs) 256 (λ p l. passes k s xs p (rw (up, old) refl)) ∙ rest
  least_cases k s xs sites rest false d up old =
      least_same (head_from k (s ∷ xs)) (head_from (k + 1) xs) 256 (λ p l. passes k s xs p (rw up refl)) ∙ rest

  least_from : (k : ℕ) (xs : List Sent) → AreSited xs → least_below (head_from k xs) 256 ≡ flowing_from w k xs
  least_from k [] sited = least_none (head_from k []) 256 (λ p l. nothing_waits p k)
  least_from k (s ∷ xs) sited =
      rw (flows k s sited.0) (least_cases k s xs sited.0 (least_from (k + 1) xs sited.1) (is_open w (pair_of s.from s.to)) (has w.delivered k) refl refl)

  pub least_flows : AreSited w.sent → least_below (head_of w) 256 ≡ flowing w
  unfolding head_from
  least_flows sited = least_from 1 w.sent sited
