-- The calls of the live transactions wait for at least one site, whatever a row does to the list.
use Rattle.std.proofs.Common.{◌≡◌, ℕ, zero, suc, ◌+◌, ◌-◌, ◌<◌, Bool, if◌then◌else◌, filter, take, get_or, sym, subst, true, List, [], ◌∷◌, ◌++◌, find, map, length, slice_get, Option, Some, None, option_map, IfSome, refl, arith}
use Rattle.std.proofs.lemmas.Bool.Decides.{nat_tests}
use Rattle.std.proofs.lemmas.List.Elements.{filter_more}
use Rattle.std.proofs.lemmas.Option.{get_or_from_slice_get, slice_get_within}
use Rattle.vp_model.specs.Types.{Live, Pending}
use Rattle.vp_model.specs.Words.{change_first, without_first}
use Rattle.vp_model.specs.Step.{marked_call, mark}
use Rattle.vp_model.specs.Generated.{newest_of, newest}
use Rattle.vp_transactions.specs.Waiting.{waits, all_wait}

pub all_wait_more : (t : Live) (xs : List Live) → waits t ≡ true → all_wait xs ≡ true → all_wait (xs ++ t ∷ []) ≡ true
all_wait_more t [] w h = rw w refl
all_wait_more t (x ∷ xs) w h = let rest = all_wait_more t xs w in grind (arith, nat_tests, h, w, rest)

module _ (test : Live → Bool) where
  pub all_wait_change : (t : Live) (xs : List Live) → waits t ≡ true → all_wait xs ≡ true → all_wait (change_first test (λ u. t) xs) ≡ true
  all_wait_change t [] w h = refl
  all_wait_change t (x ∷ xs) w h = let rest = all_wait_change t xs w in grind (arith, nat_tests, h, w, rest)

  pub all_wait_without : (xs : List Live) → all_wait xs ≡ true → all_wait (without_first test xs) ≡ true
  all_wait_without [] h = refl
  all_wait_without (x ∷ xs) h = let rest = all_wait_without xs in grind (arith, nat_tests, h, rest)

  found : (xs : List Live) → all_wait xs ≡ true → IfSome (find test xs) (λ t. waits t ≡ true)
  found [] h = tt
  found (x ∷ xs) h = let rest = found xs in grind (arith, nat_tests, h, rest)

  pub found_waits : (xs : List Live) (r : Option Live) → r ≡ find test xs → all_wait xs ≡ true → IfSome r (λ t. waits t ≡ true)
  found_waits xs r e h = rw e (found xs h)

marked_waits : (q : Option Pending) (t : Live) → waits (record t { pending = marked_call q }) ≡ waits (record t { pending = q })
marked_waits None t = refl
marked_waits (Some p) t = refl

pub all_wait_marked : (xs : List Live) → all_wait (map mark xs) ≡ all_wait xs
all_wait_marked [] = refl
all_wait_marked (x ∷ xs) = rw (marked_waits x.pending x, all_wait_marked xs) refl

last_at : (x : Live) (xs : List Live) → newest (x ∷ xs) ≡ option_map newest_of (slice_get (x ∷ xs) (length xs))
last_at x [] = refl
last_at x (y ∷ xs) = last_at y xs

pub newest_is_last : (xs : List Live) → newest xs ≡ option_map newest_of (slice_get xs (length xs - 1))
newest_is_last [] = refl
newest_is_last (x ∷ xs) =
    let e : length (x ∷ xs) - 1 ≡ length xs = omega arith in
    rw e (last_at x xs)

-- one more transaction, which is late or isn't
pub late_more : (test : Live → Bool) (live : List Live) (place : ℕ) (t : Live) → Some t ≡ slice_get live place → filter test (take (place + 1) live) ≡ filter test (take place live) ++ (if test t then t ∷ [] else [])
late_more test live place t e =
    let here : get_or live place t ≡ t = get_or_from_slice_get live place t t (sym e) in
    let more = filter_more test live place t (slice_get_within live place t (sym e)) in
    subst (λ (u : Live). filter test (take (place + 1) live) ≡ filter test (take place live) ++ (if test u then u ∷ [] else [])) here more

pub late_past : (test : Live → Bool) (live : List Live) (place : ℕ) → place < length live → None ≡ slice_get live place → filter test (take (place + 1) live) ≡ filter test (take place live)
late_past test [] place l e = absurd (omega arith)
late_past test (t ∷ live) zero l e = absurd (cc)
late_past test (t ∷ live) (suc place) l e = let rest = late_past test live place (omega arith) e in grind (arith, rest)
