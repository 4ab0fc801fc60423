-- A queue in which messages are marked as delivered: what waits as they are marked and leave.
use Rattle.std.proofs.Common.{◌≡◌, ◌≤◌, ◌<◌, ◌+◌, ◌==◌, ℕ, zero, suc, Bool, true, false, if◌then◌else◌, List, [], ◌∷◌, ◌++◌, map, length, get_or, refl, sym, ap, ◌∙◌, subst, Option, Some, None, IfSome, option_to_list, Result, Ok, Err, Less, Equal, Greater, ⊎_elim, arith}
use Rattle.std.specs.List.{slice_set, slice_index_or}
use Rattle.std.specs.List.Sorted.{IsBinarySearchResult}
use Rattle.std.specs.Result.{result_ok}
use Rattle.std.specs.Ordering.{nat_cmp, ordering_index}
use Rattle.std.specs.Cmp.{nat_cmp_is}
use Rattle.std.proofs.lemmas.Bool.{cases_lt}
use Rattle.std.proofs.lemmas.Bool.Decides.{nat_tests}
use Rattle.std.proofs.lemmas.List.{append-nil, get_or-map}
use borrow.Author.Tests.{tests}
use Rattle.vp_mail.specs.declared.queue.Numbered.{Numbered}
use Rattle.vp_mail.specs.Queues.{without, undelivered_numbers, Rises, AreBelow, IsTrimmed}

abbrev pub numbers : List Numbered → List ℕ
numbers messages = map (λ m. m.number) messages

rises_less : (m n : ℕ) (xs : List ℕ) → m ≤ n → Rises n xs → Rises m xs
rises_less m n [] h r = tt
rises_less m n (x ∷ xs) h r = (omega (arith, h, r.0), r.1)

-- ---- one that leaves

pub first_leaves : (r : Option Numbered) (xs ys : List Numbered) → ys ≡ option_to_list r ++ xs → IfSome r (λ m. m.delivered ≡ true) → Rises 0 (numbers ys) → (undelivered_numbers xs ≡ undelivered_numbers ys) × Rises 0 (numbers xs)
first_leaves None xs ys is marked r = rw (← is) (refl, r)
first_leaves (Some m) xs ys is marked r =
    let rises : Rises 0 (numbers (m ∷ xs)) = subst (λ l. Rises 0 (numbers l)) is r in
    (rw (is, marked) refl, rises_less 0 (m.number + 1) (numbers xs) (omega arith) rises.1)

last_shown : (m : Numbered) (xs : List Numbered) → m.delivered ≡ true → undelivered_numbers xs ≡ undelivered_numbers (xs ++ m ∷ [])
last_shown m [] marked = rw marked refl
last_shown m (x ∷ xs) marked = rw (last_shown m xs marked) refl

rises_before : (n : ℕ) (m : Numbered) (xs : List Numbered) → Rises n (numbers (xs ++ m ∷ [])) → Rises n (numbers xs)
rises_before n m [] r = tt
rises_before n m (x ∷ xs) r = (r.0, rises_before (x.number + 1) m xs r.1)

pub last_leaves : (r : Option Numbered) (xs ys : List Numbered) → ys ≡ xs ++ option_to_list r → IfSome r (λ m. m.delivered ≡ true) → Rises 0 (numbers ys) → (undelivered_numbers xs ≡ undelivered_numbers ys) × Rises 0 (numbers xs)
last_leaves None xs ys is marked r = rw (← append-nil xs, ← is) (refl, r)
last_leaves (Some m) xs ys is marked r =
    (rw is (last_shown m xs marked), rises_before 0 m xs (subst (λ l. Rises 0 (numbers l)) is r))

-- the first message stays the first
pub first_stays : (r : Option Numbered) (xs ys : List Numbered) → ys ≡ xs ++ option_to_list r → ((m : Numbered) (rest : List Numbered) → ys ≡ m ∷ rest → m.delivered ≡ false) → (m : Numbered) (rest : List Numbered) → xs ≡ m ∷ rest → m.delivered ≡ false
first_stays r xs ys is h m rest e = h m (rest ++ option_to_list r) (is ∙ ap (λ l. l ++ option_to_list r) e)

-- ---- one that joins

-- those that are not delivered are below n, and so is the last of them
last_below : (n k : ℕ) (xs : List Numbered) → Rises k (numbers xs) → AreBelow n (undelivered_numbers xs) → ((m : Numbered) (before : List Numbered) → xs ≡ before ++ m ∷ [] → m.delivered ≡ false) → AreBelow n (numbers xs)
last_below n k [] r h last = tt
last_below n k (x ∷ []) r h last = alone (subst (λ b. AreBelow n (if b then [] else x.number ∷ [])) (last x [] refl) h)
  where
    alone : AreBelow n (x.number ∷ []) → AreBelow n (x.number ∷ [])
    alone below = below
last_below n k (x ∷ y ∷ xs) r h last =
    let rest : AreBelow n (numbers (y ∷ xs)) = last_below n (x.number + 1) (y ∷ xs) r.1 (following x.delivered h) (λ m before e. last m (x ∷ before) (ap (λ l. x ∷ l) e)) in
    (omega (arith, rest.0, r.1.0), rest)
  where
    following : (b : Bool) → AreBelow n (if b then undelivered_numbers (y ∷ xs) else x.number ∷ undelivered_numbers (y ∷ xs)) → AreBelow n (undelivered_numbers (y ∷ xs))
    following true below = below
    following false below = below.1

rises_more : (n k : ℕ) (xs : List ℕ) → k ≤ n → Rises k xs → AreBelow n xs → Rises k (xs ++ n ∷ [])
rises_more n k [] le r h = (le, tt)
rises_more n k (x ∷ xs) le r h = (r.0, rises_more n (x + 1) xs (omega (arith, h.0)) r.1 h.1)

numbers_more : (m : Numbered) (xs : List Numbered) → numbers (xs ++ m ∷ []) ≡ numbers xs ++ m.number ∷ []
numbers_more m [] = refl
numbers_more m (x ∷ xs) = rw (numbers_more m xs) refl

pub joins_shown : (m : Numbered) (xs : List Numbered) → m.delivered ≡ false → undelivered_numbers (xs ++ m ∷ []) ≡ undelivered_numbers xs ++ m.number ∷ []
joins_shown m [] fresh = rw fresh refl
joins_shown m (x ∷ xs) fresh = rw (joins_shown m xs fresh) (cases x.delivered)
  where
    cases : (b : Bool) → (if b then undelivered_numbers xs ++ m.number ∷ [] else x.number ∷ undelivered_numbers xs ++ m.number ∷ []) ≡ (if b then undelivered_numbers xs else x.number ∷ undelivered_numbers xs) ++ m.number ∷ []
    cases true = refl
    cases false = refl

pub joins_trimmed : (m : Numbered) (xs : List Numbered) → m.delivered ≡ false → AreBelow m.number (undelivered_numbers xs) → IsTrimmed xs → IsTrimmed (xs ++ m ∷ [])
joins_trimmed m xs fresh below inv =
    record {
      rises = rw (numbers_more m xs) (rises_more m.number 0 (numbers xs) (omega arith) inv.rises (last_below m.number 0 xs inv.rises below inv.last));
      first = at_front xs inv.first;
      last = λ k before e. rw (← last_same before xs k m (sym e)) fresh;
    }
  where
    at_front : (xs : List Numbered) → ((k : Numbered) (rest : List Numbered) → xs ≡ k ∷ rest → k.delivered ≡ false) → (k : Numbered) (rest : List Numbered) → xs ++ m ∷ [] ≡ k ∷ rest → k.delivered ≡ false
    at_front [] h k rest e = let same : m ≡ k = cc in rw (← same) fresh
    at_front (x ∷ xs) h k rest e = let same : x ≡ k = cc in h k xs (ap (λ y. y ∷ xs) same)

    last_same : (xs ys : List Numbered) (x y : Numbered) → xs ++ x ∷ [] ≡ ys ++ y ∷ [] → y ≡ x
    last_same [] [] x y e = cc
    last_same [] (b ∷ []) x y e = cc
    last_same [] (b ∷ c ∷ ys) x y e = cc
    last_same (a ∷ []) [] x y e = cc
    last_same (a ∷ c ∷ xs) [] x y e = cc
    last_same (a ∷ xs) (b ∷ ys) x y e = last_same xs ys x y cc

-- ---- one that is marked

is_other : (x k : ℕ) → (x ≡ k → ⊥) → (x == k) ≡ false
is_other x k ne = grind (arith, nat_tests, ne)

is_same : (k : ℕ) → (k == k) ≡ true
is_same k = grind (arith, nat_tests)

without_one : (b : Bool) (j k : ℕ) (ws : List ℕ) → (j == k) ≡ false → without k (if b then ws else j ∷ ws) ≡ (if b then without k ws else j ∷ without k ws)
without_one true j k ws other = refl
without_one false j k ws other = rw other refl

without_this : (b : Bool) (k : ℕ) (ws : List ℕ) → without k (if b then ws else k ∷ ws) ≡ without k ws
without_this true k ws = refl
without_this false k ws = rw (is_same k) refl

-- no message has the number
pub none_at : (k : ℕ) (xs : List Numbered) → ((i : ℕ) (d : Numbered) → i < length xs → (get_or xs i d).number ≡ k → ⊥) → without k (undelivered_numbers xs) ≡ undelivered_numbers xs
none_at k [] h = refl
none_at k (x ∷ xs) h =
    without_one x.delivered x.number k (undelivered_numbers xs) (is_other x.number k (h 0 x (omega arith)))
    ∙ ap (λ ws. if x.delivered then ws else x.number ∷ ws) (none_at k xs (λ i d l. h (suc i) d (omega (arith, l))))

number_at : (n i : ℕ) (xs : List Numbered) (d : Numbered) → Rises n (numbers xs) → i < length xs → n ≤ (get_or xs i d).number
number_at n i [] d r h = absurd (omega (arith, h))
number_at n zero (x ∷ xs) d r h = r.0
number_at n (suc i) (x ∷ xs) d r h = let more = number_at (x.number + 1) i xs d r.1 (omega (arith, h)) in omega (arith, more, r.0)

pub numbers_rise : (n i j : ℕ) (xs : List Numbered) (d : Numbered) → Rises n (numbers xs) → i ≤ j → j < length xs → (get_or xs i d).number ≤ (get_or xs j d).number
numbers_rise n i j [] d r le h = absurd (omega (arith, h))
numbers_rise n zero zero (x ∷ xs) d r le h = omega arith
numbers_rise n zero (suc j) (x ∷ xs) d r le h = let more = number_at (x.number + 1) j xs d r.1 (omega (arith, h)) in omega (arith, more)
numbers_rise n (suc i) zero (x ∷ xs) d r le h = absurd (omega (arith, le))
numbers_rise n (suc i) (suc j) (x ∷ xs) d r le h = numbers_rise (x.number + 1) i j xs d r.1 (omega (arith, le)) (omega (arith, h))

abbrev pub marked : Numbered → Numbered
marked m = record { number = m.number; delivered = true }

pub marked_numbers : (i : ℕ) (xs : List Numbered) (m : Numbered) → m ≡ get_or xs i m → numbers (slice_set xs i (marked m)) ≡ numbers xs
marked_numbers i [] m at = refl
marked_numbers zero (x ∷ xs) m at = rw at refl
marked_numbers (suc i) (x ∷ xs) m at = rw (marked_numbers i xs m at) refl

pub marked_shown : (n i : ℕ) (xs : List Numbered) (m : Numbered) → Rises n (numbers xs) → i < length xs → m ≡ get_or xs i m → undelivered_numbers (slice_set xs i (marked m)) ≡ without m.number (undelivered_numbers xs)
marked_shown n i [] m r h at = absurd (omega (arith, h))
marked_shown n zero (x ∷ xs) m r h at = here
  where
    following : without x.number (undelivered_numbers xs) ≡ undelivered_numbers xs
    following = none_at x.number xs (λ j d l e. let q = number_at (x.number + 1) j xs d r.1 l in omega (arith, q, e))

    here : undelivered_numbers (slice_set (x ∷ xs) 0 (marked m)) ≡ without m.number (undelivered_numbers (x ∷ xs))
    here = rw at (sym (without_this x.delivered x.number (undelivered_numbers xs) ∙ following))
marked_shown n (suc i) (x ∷ xs) m r h at =
    let q : x.number + 1 ≤ (get_or xs i m).number = number_at (x.number + 1) i xs m r.1 (omega (arith, h)) in
    let above : x.number + 1 ≤ m.number = subst (λ (y : Numbered). x.number + 1 ≤ y.number) (sym at) q in
    ap (λ ws. if x.delivered then ws else x.number ∷ ws) (marked_shown (x.number + 1) i xs m r.1 (omega (arith, h)) at)
    ∙ sym (without_one x.delivered x.number m.number (undelivered_numbers xs) (is_other x.number m.number (λ e. omega (arith, above, e))))

-- ---- what a search finds

equal : (k x : ℕ) → x ≡ k → nat_cmp x k ≡ Equal
equal k x e = sym (nat_cmp_is x k Equal e)

found : (k x : ℕ) → nat_cmp x k ≡ Equal → x ≡ k
found k x e = grind (arith, tests, e)

no_less : (k a b : ℕ) → a ≤ b → ordering_index (nat_cmp a k) ≤ ordering_index (nat_cmp b k)
no_less k a b le = grind (arith, tests)

not_found : (k i : ℕ) (xs : List Numbered) → Rises 0 (numbers xs) → IsBinarySearchResult (λ (m : Numbered). nat_cmp m.number k) xs (Err i) → without k (undelivered_numbers xs) ≡ undelivered_numbers xs
not_found k i xs r search =
    let parted = search (λ a b d le l. no_less k (get_or xs a d).number (get_or xs b d).number (numbers_rise 0 a b xs d r le l)) in
    none_at k xs (λ j d l e.
    let same : nat_cmp (get_or xs j d).number k ≡ Equal = equal k (get_or xs j d).number e in
    ⊎_elim (λ b. let less : nat_cmp (get_or xs j d).number k ≡ Less = parted.0 j d (omega arith) b in cc) (λ b. let more : nat_cmp (get_or xs j d).number k ≡ Greater = parted.1 j d b l in cc) (cases_lt j i))

pub found_at : (k : ℕ) (xs : List Numbered) (r : Result ℕ ℕ) → IsBinarySearchResult (λ (m : Numbered). nat_cmp m.number k) xs r → IfSome (result_ok r) (λ i. i < length xs) → IfSome (result_ok r) (λ i. slice_index_or (map (λ m. m.number) xs) i k ≡ k)
found_at k xs (Err i) search within = tt
found_at k xs (Ok i) search within =
    let d : Numbered = record { number = k; delivered = false } in
    get_or-map (λ (m : Numbered). m.number) xs i d k within ∙ found k (get_or xs i d).number (search d)

pub absent : (k : ℕ) (xs : List Numbered) (r : Result ℕ ℕ) → Rises 0 (numbers xs) → IsBinarySearchResult (λ (m : Numbered). nat_cmp m.number k) xs r → result_ok r ≡ None → without k (undelivered_numbers xs) ≡ undelivered_numbers xs
absent k xs (Ok i) rises search none = cc
absent k xs (Err i) rises search none = not_found k i xs rises search
