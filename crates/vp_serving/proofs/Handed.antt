-- What a run hands over, turn by turn.
use Rattle.std.proofs.Common.{◌≡◌, ◌∙◌, ◌⊎◌, inl, inr, ℕ, zero, suc, ◌≤◌, Bool, true, false, cond, List, [], ◌∷◌, ◌++◌, length, take, drop, map, refl, sym, ap, subst, arith, append-nil}
use Rattle.std.proofs.Math.Seq.{take-length, take-append_seam, drop-append_seam}
use Rattle.std.proofs.lemmas.List.{take-append-le, take-map, map-append, length-map}
use Rattle.vp_model.specs.Types.{LogRecord}
use Rattle.vp_model.specs.Catalogue.{Catalogue}
use Rattle.vp_outside.specs.Causes.{count_after}
use Rattle.vp_outside.specs.Links.{LinkState, Hands, HandsNow, handed_after}
use Rattle.vp_outside.specs.declared.datagram.Datagram.{Datagram}
use Rattle.vp_outside.specs.declared.datagram.Dispatch.{Dispatch}
use Rattle.vp_outside.proofs.Passed.{hands_then, one_longer}
use Rattle.vp_runs.specs.Arrivals.{arrival}
use Rattle.vp_runs.specs.Turns.{turn_on}
use Rattle.vp_runs.specs.Runs.{NodeRun, with_turn, one_turn, node_run}
use Rattle.vp_runs.proofs.Runs.{runs_go_on}
use Rattle.vp_serving.specs.Handed.{datagrams_in, turn_after, handed_in}
use Rattle.vp_serving.specs.Serving.{IsPrefix}
use Rattle.vp_serving.specs.Laws.{RunsAreHandedOver}

-- a beginning of some datagrams is a beginning once they are handed over
pub prefix_handed : (given : ℕ) (xs ys : List Datagram) → IsPrefix xs ys → IsPrefix (handed_after given xs) (handed_after given ys)
prefix_handed given xs ys h =
    let f : Datagram → Dispatch = λ d. record { after = given; datagram = d } in
    ap (map f) h ∙ sym (take-map f (length xs) ys) ∙ ap (λ n. take n (map f ys)) (sym (length-map xs f))

-- one more of them, if none was given in between
pub hands_one_more : (link0 link1 link2 : LinkState) (ds : List Datagram) (d : Datagram) → HandsNow link0 link1 ds → link1.given ≡ link0.given → HandsNow link1 link2 (d ∷ [])
    → HandsNow link0 link2 (ds ++ d ∷ [])
hands_one_more link0 link1 link2 ds d before same now =
    let f : Datagram → Dispatch = λ x. record { after = link0.given; datagram = x } in
    let more : Hands link1.handed link2.handed (handed_after link0.given (d ∷ [])) = subst (λ n. Hands link1.handed link2.handed (handed_after n (d ∷ []))) same now in
    subst (Hands link0.handed link2.handed) (sym (map-append f ds (d ∷ [])))
    (hands_then link0.handed link1.handed link2.handed (handed_after link0.given ds) (handed_after link0.given (d ∷ [])) before more)

module _ (catalogue : Catalogue) (id : ℕ) (batches : List (List LogRecord)) where
  -- what comes later doesn't matter
  turn_of_front : (front rest : List Datagram) (n : ℕ) → suc n ≤ length front → turn_after catalogue id batches (front ++ rest) n ≡ turn_after catalogue id batches front n
  turn_of_front front rest n le =
      ap (λ (ds : List Datagram). drop (length (node_run catalogue id batches ds).datagrams) (node_run catalogue id batches (take (suc n) (front ++ rest))).datagrams) (take-append-le n front rest (omega (arith, le)))
      ∙ ap (λ (ds : List Datagram). drop (length (node_run catalogue id batches (take n front)).datagrams) (node_run catalogue id batches ds).datagrams) (take-append-le (suc n) front rest le)

  pub handed_of_front : (given : ℕ) (front rest : List Datagram) (n : ℕ) → n ≤ length front → handed_in catalogue id batches given (front ++ rest) n ≡ handed_in catalogue id batches given front n
  handed_of_front given front rest zero le = refl
  handed_of_front given front rest (suc n) le =
      ap (λ (hs : List Dispatch). hs ++ handed_after (count_after given (suc n)) (turn_after catalogue id batches (front ++ rest) n)) (handed_of_front given front rest n (omega (arith, le)))
      ∙ ap (λ (ds : List Datagram). handed_in catalogue id batches given front n ++ handed_after (count_after given (suc n)) ds) (turn_of_front front rest n le)

  -- one more turn hands over what it adds to the run
  pub handed_more : (given : ℕ) (front : List Datagram) (d : Datagram) (more : List Datagram)
      → (node_run catalogue id batches (front ++ d ∷ [])).datagrams ≡ (node_run catalogue id batches front).datagrams ++ more
      → handed_in catalogue id batches given (front ++ d ∷ []) (length (front ++ d ∷ []))
      ≡ handed_in catalogue id batches given front (length front) ++ handed_after (count_after given (length (front ++ d ∷ []))) more
  handed_more given front d more is =
      let all = front ++ d ∷ [] in
      let n = length front in
      let last : take (suc n) all ≡ all = ap (λ m. take m all) (sym (one_longer front d)) ∙ take-length all in
      let added : turn_after catalogue id batches all n ≡ more =
      ap (λ (ds : List Datagram). drop (length (node_run catalogue id batches ds).datagrams) (node_run catalogue id batches (take (suc n) all)).datagrams) (take-append_seam front (d ∷ []))
      ∙ ap (λ (ds : List Datagram). drop (length (node_run catalogue id batches front).datagrams) (node_run catalogue id batches ds).datagrams) last
      ∙ ap (drop (length (node_run catalogue id batches front).datagrams)) is ∙ drop-append_seam (node_run catalogue id batches front).datagrams more in
      subst (λ m. handed_in catalogue id batches given all m ≡ handed_in catalogue id batches given front n ++ handed_after (count_after given m) more) (sym (one_longer front d))
      (ap (λ (hs : List Dispatch). hs ++ handed_after (count_after given (suc n)) (turn_after catalogue id batches all n)) (handed_of_front given front (d ∷ []) n (omega arith))
      ∙ ap (λ (ds : List Datagram). handed_in catalogue id batches given front n ++ handed_after (count_after given (suc n)) ds) added)

  -- ---- the datagrams are those of the run

  one_grows : (d : Datagram) (run : NodeRun) → (more : List Datagram) × ((one_turn catalogue d run).datagrams ≡ run.datagrams ++ more)
  unfolding one_turn
  one_grows d run =
      let turn = turn_on catalogue run.node.site (arrival catalogue run.node.site.id d) in
      go run.stopped (with_turn d (arrival catalogue run.node.site.id d) turn run) turn.datagrams refl
    where
      go : (b : Bool) (after : NodeRun) (more : List Datagram) → after.datagrams ≡ run.datagrams ++ more → (all : List Datagram) × ((cond b run after).datagrams ≡ run.datagrams ++ all)
      go true after more e = ([], sym (append-nil run.datagrams))
      go false after more e = (more, e)

  -- one more is taken, or there is no more
  take_next : (n : ℕ) (ds : List Datagram) → (take (suc n) ds ≡ take n ds) ⊎ ((d : Datagram) × (take (suc n) ds ≡ take n ds ++ d ∷ []))
  take_next zero [] = inl refl
  take_next zero (d ∷ ds) = inr (d, refl)
  take_next (suc n) [] = inl refl
  take_next (suc n) (d ∷ ds) = go (take_next n ds)
    where
      go : (take (suc n) ds ≡ take n ds) ⊎ ((x : Datagram) × (take (suc n) ds ≡ take n ds ++ x ∷ [])) → (d ∷ take (suc n) ds ≡ d ∷ take n ds) ⊎ ((x : Datagram) × (d ∷ take (suc n) ds ≡ d ∷ take n ds ++ x ∷ []))
      go (inl e) = inl (ap (λ (l : List Datagram). d ∷ l) e)
      go (inr (x, e)) = inr (x, ap (λ (l : List Datagram). d ∷ l) e)

  next_grows : (arrived : List Datagram) (n : ℕ)
      → (more : List Datagram) × ((node_run catalogue id batches (take (suc n) arrived)).datagrams ≡ (node_run catalogue id batches (take n arrived)).datagrams ++ more)
  next_grows arrived n = go (take_next n arrived)
    where
      go : (take (suc n) arrived ≡ take n arrived) ⊎ ((d : Datagram) × (take (suc n) arrived ≡ take n arrived ++ d ∷ []))
          → (more : List Datagram) × ((node_run catalogue id batches (take (suc n) arrived)).datagrams ≡ (node_run catalogue id batches (take n arrived)).datagrams ++ more)
      go (inl e) = ([], ap (λ ds. (node_run catalogue id batches ds).datagrams) e ∙ sym (append-nil (node_run catalogue id batches (take n arrived)).datagrams))
      go (inr (d, e)) =
          let one = one_grows d (node_run catalogue id batches (take n arrived)) in
          (one.0, ap (λ ds. (node_run catalogue id batches ds).datagrams) e ∙ ap (λ (run : NodeRun). run.datagrams) (runs_go_on catalogue id batches (take n arrived) d) ∙ one.1)

  all_datagrams : (given : ℕ) (ds : List Datagram) → datagrams_in (handed_after given ds) ≡ ds
  all_datagrams given [] = refl
  all_datagrams given (d ∷ ds) = ap (λ (l : List Datagram). d ∷ l) (all_datagrams given ds)

  none_yet : (node_run catalogue id batches []).datagrams ≡ []
  unfolding node_run
  none_yet = refl

  pub handed_datagrams : (given : ℕ) (arrived : List Datagram) (n : ℕ)
      → datagrams_in (handed_in catalogue id batches given arrived n) ≡ (node_run catalogue id batches (take n arrived)).datagrams
  handed_datagrams given arrived zero = sym none_yet
  handed_datagrams given arrived (suc n) =
      let next = next_grows arrived n in
      let before = (node_run catalogue id batches (take n arrived)).datagrams in
      let added : turn_after catalogue id batches arrived n ≡ next.0 = ap (drop (length before)) next.1 ∙ drop-append_seam before next.0 in
      map-append (λ (h : Dispatch). h.datagram) (handed_in catalogue id batches given arrived n) (handed_after (count_after given (suc n)) (turn_after catalogue id batches arrived n))
      ∙ ap (λ (ds : List Datagram). ds ++ datagrams_in (handed_after (count_after given (suc n)) (turn_after catalogue id batches arrived n))) (handed_datagrams given arrived n)
      ∙ ap (λ (ds : List Datagram). before ++ ds) (all_datagrams (count_after given (suc n)) (turn_after catalogue id batches arrived n) ∙ added)
      ∙ sym next.1

pub runs_are_handed_over : RunsAreHandedOver
runs_are_handed_over catalogue id batches given arrived n = handed_datagrams catalogue id batches given arrived n
