-- The queues of the pairs stay right, after one more message is sent or delivered.
use Rattle.std.proofs.Common.{◌≡◌, ◌≤◌, ◌<◌, ◌+◌, ◌-◌, ◌==◌, ℕ, Bool, true, false, if◌then◌else◌, List, [], ◌∷◌, ◌++◌, map, length, slice_get, Option, Some, None, is_none, refl, sym, ap, ◌∙◌, subst, arith}
use Rattle.std.proofs.Math.ListN.{set}
use Rattle.std.proofs.Math.Seq.{map-set_same}
use Rattle.std.specs.List.{slice_set, slice_index_or}
use Rattle.std.proofs.lemmas.Bool.Decides.{nat_tests}
use Rattle.std.proofs.lemmas.List.{get_or_read, get_or-map, get_or-set_same, get_or-set_other, length-set, map-set, append-nil, length-append}
use Rattle.std.proofs.lemmas.Option.{slice_get_within}
use Rattle.vp_model.specs.Types.{Sent}
use Rattle.vp_model.specs.Words.{has, first}
use Rattle.vp_mail.specs.Posted.{message_in}
use Rattle.vp_mail.specs.Queues.{pair_of, waiting, without, AreBelow, AreSites, AreSited, IsQueued}
use Rattle.vp_mail.proofs.Waiting.{waiting_below, has_other, sent_push, delivered_without, delivered_other}

sited_push : (sent : List Sent) (s : Sent) → AreSited sent → AreSites s.from s.to → AreSited (sent ++ s ∷ [])
sited_push [] s h at = (at, tt)
sited_push (x ∷ xs) s h at = (h.0, sited_push xs s h.1 at)

-- the first number of a queue that changes is written
pub first_set : (queues : List (List ℕ)) (firsts : List (Option ℕ)) (place : ℕ) (q : List ℕ) (o : Option ℕ) → firsts ≡ map first queues → o ≡ first q → slice_set firsts place o ≡ map first (slice_set queues place q)
first_set queues firsts place q o are is = rw (are, is) (sym (map-set first queues place q))

module _ (queues : List (List ℕ)) (sent : List Sent) (delivered : List ℕ) (inv : IsQueued queues sent delivered) (s : Sent) (place : ℕ) (is : place ≡ pair_of s.from s.to) (within : place < 256) (q : List ℕ) (read : q ≡ slice_index_or queues place q) where
  -- what is read
  pub queue_is : q ≡ waiting place delivered 1 sent
  queue_is = get_or_read queues place q (rw inv.count within) read [] ∙ inv.each place within

  -- the next number is above all that wait
  pub queue_below : AreBelow (length sent + 1) q
  queue_below =
      let next : 1 + length sent ≡ length sent + 1 = omega arith in
      rw queue_is (subst (λ n. AreBelow n (waiting place delivered 1 sent)) next (waiting_below place delivered 1 sent))

  -- the queue of another pair
  apart : (pair : ℕ) (x : List ℕ) → (place == pair) ≡ false → slice_index_or (slice_set queues place x) pair [] ≡ slice_index_or queues pair []
  apart pair x off = get_or-set_other queues place pair x [] (λ e. grind (arith, nat_tests, off, e))

  here : (pair : ℕ) (x : List ℕ) → (place == pair) ≡ true → slice_index_or (slice_set queues place x) pair [] ≡ x
  here pair x on =
      let same : place ≡ pair = grind (arith, nat_tests, on) in
      rw (← same) (get_or-set_same queues place x [] (rw inv.count within))

  module _ (sites : AreSites s.from s.to) (room : length sent < 2000000) where
    one_more : (pair : ℕ) (b : Bool) → (place == pair) ≡ b → pair < 256 → slice_index_or (slice_set queues place (q ++ (length sent + 1) ∷ [])) pair [] ≡ waiting pair delivered 1 (sent ++ s ∷ [])
    one_more pair true on l =
        let same : place ≡ pair = grind (arith, nat_tests, on) in
        let fresh : has delivered (1 + length sent) ≡ false = inv.later (1 + length sent) (omega arith) in
        let next : length sent + 1 ≡ 1 + length sent = omega arith in
        let test : (pair_of s.from s.to == pair) ≡ true = rw (← is) on in
        here pair (q ++ (length sent + 1) ∷ []) on
        ∙ ap (λ l. l ++ (length sent + 1) ∷ []) (queue_is ∙ ap (λ p. waiting p delivered 1 sent) same)
        ∙ sym (rw (sent_push pair delivered 1 sent s, test, fresh, next) refl)
    one_more pair false off l =
        let test : (pair_of s.from s.to == pair) ≡ false = rw (← is) off in
        apart pair (q ++ (length sent + 1) ∷ []) off
        ∙ inv.each pair l
        ∙ sym (rw (sent_push pair delivered 1 sent s, test) (append-nil (waiting pair delivered 1 sent)))

    sent_queued : IsQueued (slice_set queues place (q ++ (length sent + 1) ∷ [])) (sent ++ s ∷ []) delivered
    sent_queued =
        let longer : length (sent ++ s ∷ []) ≡ length sent + 1 = length-append sent (s ∷ []) in
        record {
          few = rw longer (omega arith);
          count = length-set queues place (q ++ (length sent + 1) ∷ []) ∙ inv.count;
          each = λ pair l. one_more pair (place == pair) refl l;
          later = λ k l. inv.later k (omega (arith, longer, l));
          sited = sited_push sent s inv.sited sites;
        }

    pub post_queued : (now : List Sent) (x : List ℕ) → now ≡ sent ++ s ∷ [] → x ≡ q ++ (length sent + 1) ∷ [] → IsQueued (slice_set queues place x) now delivered
    post_queued now x n e = rw (n, e) sent_queued

  -- a number that is appended leaves the first one as it is, where there is one
  pub first_stays : (firsts : List (Option ℕ)) (o : Option ℕ) (n : ℕ) (x : List ℕ) → firsts ≡ map first queues → o ≡ slice_index_or firsts place o → is_none o ≡ false → x ≡ q ++ n ∷ [] → firsts ≡ map first (slice_set queues place x)
  first_stays firsts o n x are at some more =
      let first_is : o ≡ first q = at ∙ rw are (get_or-map first queues place q o (rw inv.count within)) ∙ ap first (sym read) in
      let same : first (q ++ n ∷ []) ≡ first q = joined q (subst (λ (f : Option ℕ). is_none f ≡ false) first_is some) in
      rw (are, more) (sym (map-set_same first queues place (q ++ n ∷ []) q (same ∙ ap first read)))
    where
      joined : (q : List ℕ) → is_none (first q) ≡ false → first (q ++ n ∷ []) ≡ first q
      joined [] h = cc
      joined (k ∷ q) h = refl

  module _ (k : ℕ) (at : message_in k sent ≡ Some s) where
    abbrev IsAt : Bool → Type 0
    IsAt b = (if b then None else slice_get sent (k - 1)) ≡ Some s → (1 ≤ k) × (slice_get sent (k - 1) ≡ Some s)

    numbered : (b : Bool) → (k == 0) ≡ b → IsAt b
    numbered true e h = cc
    numbered false e h = (grind (arith, nat_tests, e), h)

    one_less : (pair : ℕ) (b : Bool) → (place == pair) ≡ b → pair < 256 → slice_index_or (slice_set queues place (without k q)) pair [] ≡ waiting pair (delivered ++ k ∷ []) 1 sent
    one_less pair true on l =
        let same : place ≡ pair = grind (arith, nat_tests, on) in
        here pair (without k q) on
        ∙ ap (without k) (queue_is ∙ ap (λ p. waiting p delivered 1 sent) same)
        ∙ sym (delivered_without pair delivered k 1 sent)
    one_less pair false off l =
        let n = numbered (k == 0) refl at in
        let least : 1 ≤ k = n.0 in
        let test : (pair_of s.from s.to == pair) ≡ false = rw (← is) off in
        apart pair (without k q) off
        ∙ inv.each pair l
        ∙ sym (delivered_other pair delivered k 1 (k - 1) sent s n.1 (omega arith) test)

    pub delivered_queued : (x : List ℕ) (now : List ℕ) → x ≡ without k q → now ≡ delivered ++ k ∷ [] → IsQueued (slice_set queues place x) sent now
    delivered_queued x now e d =
        let n = numbered (k == 0) refl at in
        let least : 1 ≤ k = n.0 in
        let inside : k - 1 < length sent = slice_get_within sent (k - 1) s n.1 in
        rw (e, d) (record {
          few = inv.few;
          count = length-set queues place (without k q) ∙ inv.count;
          each = λ pair l. one_less pair (place == pair) refl l;
          later = λ j l. has_other delivered k j (grind (arith, nat_tests, inside, l, least)) ∙ inv.later j l;
          sited = inv.sited;
        })
