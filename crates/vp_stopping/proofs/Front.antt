-- How far a run of single steps has come in a schedule.
use Rattle.std.proofs.Common.{◌≡◌, ◌∙◌, ap, sym, subst, inl, inr, ℕ, zero, suc, ◌+◌, ◌-◌, ◌≤◌, ◌<◌, Bool, true, false, cond, List, [], ◌∷◌, ◌++◌, length, drop, filter, refl, arith}
use Rattle.std.specs.Prelude.{Some, ◌⊎◌, ◌==◌, slice_get}
use Rattle.std.specs.Option.{option_map_or}
use Rattle.std.specs.List.{AllByRecursion}
use Rattle.std.proofs.lemmas.List.{drop-drop, length-append}
use Rattle.std.proofs.lemmas.List.Elements.{filter-append}
use Rattle.std.proofs.lemmas.Bool.Decides.{nat_tests}
use Rattle.vp_text.proofs.Items.{all_push}
use Rattle.vp_model.specs.Types.{Event}
use Rattle.vp_model.specs.Types.event
use Rattle.vp_model.specs.World.{WorldState, Run, Moment, Schedule, next, moment, one_step, run_of, start_run, start_world}
use Rattle.vp_runs.proofs.Through.{Follow, one_more}
use Rattle.vp_runs.specs.Stopped.{left_of_line, follow}
use Rattle.vp_runs.proofs.Delivered.{IsSingle}
use Rattle.vp_stopping.specs.Left.{next_single, left_then}
use Rattle.vp_stopping.proofs.Walking.{left_at, left_of, fresh_lines, ends, fresh_ends, walk, Goes}

-- ---- indices in lists

at_dropped : {A : Type 0} (n : ℕ) (xs : List A) (x : A) (rest : List A) → drop n xs ≡ x ∷ rest → (slice_get xs n ≡ Some x) × (drop (suc n) xs ≡ rest)
at_dropped zero [] x rest e = cc
at_dropped zero (y ∷ xs) x rest e = (cc, cc)
at_dropped (suc n) [] x rest e = cc
at_dropped (suc n) (y ∷ xs) x rest e = at_dropped n xs x rest e

-- how many of these moments are of the line
abbrev pub count : ℕ → List Moment → ℕ
count n ms = length (filter (λ (m : Moment). m.number == n) ms)

none_below : (n : ℕ) (ms : List Moment) → AllByRecursion (λ (m : Moment). m.number < n) ms → count n ms ≡ 0
none_below n [] h = refl
none_below n (m ∷ ms) h = go (m.number == n) refl (none_below n ms h.1)
  where
    go : (b : Bool) → (m.number == n) ≡ b → count n ms ≡ 0 → length (cond b (m ∷ filter (λ (m : Moment). m.number == n) ms) (filter (λ (m : Moment). m.number == n) ms)) ≡ 0
    go true e more = absurd (let lt = h.0 in grind (arith, nat_tests, e, lt))
    go false e more = more

one_counted : (n : ℕ) (ms : List Moment) (m : Moment) → m.number ≡ n → count n (ms ++ m ∷ []) ≡ suc (count n ms)
one_counted n ms m is =
    ap length (filter-append (λ (m : Moment). m.number == n) ms (m ∷ [])) ∙ length-append (filter (λ (m : Moment). m.number == n) ms) (filter (λ (m : Moment). m.number == n) (m ∷ []))
    ∙ go (m.number == n) refl
  where
    go : (b : Bool) → (m.number == n) ≡ b → count n ms + length (cond b (m ∷ []) []) ≡ suc (count n ms)
    go true e = omega arith
    go false e = absurd (grind (arith, nat_tests, e, is))

below_more : (n k : ℕ) (ms : List Moment) → n ≤ k → AllByRecursion (λ (m : Moment). m.number ≤ n) ms → AllByRecursion (λ (m : Moment). m.number ≤ k) ms
below_more n k [] le h = tt
below_more n k (m ∷ ms) le h = (let lt = h.0 in omega (arith, le, lt), below_more n k ms le h.1)

strictly : (n k : ℕ) (ms : List Moment) → n < k → AllByRecursion (λ (m : Moment). m.number ≤ n) ms → AllByRecursion (λ (m : Moment). m.number < k) ms
strictly n k [] lt h = tt
strictly n k (m ∷ ms) lt h = (let le = h.0 in omega (arith, lt, le), strictly n k ms lt h.1)

same_left : (done : ℕ) (line : Event) → left_of_line (suc done) line ≡ left_at (suc done) line
same_left done (event.Call s words) = refl
same_left done (event.Deliver k) = refl
same_left done (event.Flow count) = refl
same_left done (event.Tick s) = refl
same_left done (event.Probe s) = refl
same_left done (event.Cut a b) = refl
same_left done (event.Heal a b) = refl
same_left done (event.Crash s) = refl
same_left done (event.Restart s) = refl

-- ---- the front of a schedule's run

-- These are its first moments, and this is left of its events.
pub record Came (s : Schedule) (ms : List Moment) (w : WorldState) (left : List Event) : Type 0 where
  pub index : ℕ
  pub done : ℕ
  pub left_is : left ≡ left_of done (drop index s.events)
  pub goes : ends s.catalogue (index + 1) done (drop index s.events) (record { moments = ms; world = w }) ≡ run_of s
  pub done_is : done ≡ count (index + 1) ms
  pub below : AllByRecursion (λ (m : Moment). m.number ≤ index + 1) ms
  pub along : Follow s.catalogue (start_world s.catalogue) ms w

pub came_first : (s : Schedule) → Came s [] (start_world s.catalogue) s.events
unfolding run_of
came_first s = record {
  index = 0;
  done = 0;
  left_is = sym (fresh_lines s.events);
  goes = fresh_ends s.catalogue 1 s.events (start_run s.catalogue);
  done_is = refl;
  below = tt;
  along = refl;
}

module _ (s : Schedule) (ms : List Moment) (w : WorldState) (left : List Event) (h : Came s ms w left) where
  pub came_goes : Goes s.catalogue (run_of s) ms w left
  came_goes = record { n = h.index + 1; done = h.done; lines = drop h.index s.events; left_is = h.left_is; goes = h.goes }

  -- the next moment, with what is left after it
  pub record Next (e : Event) : Type 0 where
    pub number : ℕ
    pub came : Came s (ms ++ moment number w e (next s.catalogue e w) ∷ []) (next s.catalogue e w).world (left_then w left)
    pub left_is : left_then w left ≡ follow s.events (ms ++ moment number w e (next s.catalogue e w) ∷ []) (moment number w e (next s.catalogue e w))
    pub single : IsSingle e

  pub came_next : (e : Event) → next_single w left ≡ Some e → Next e
  unfolding one_step
  came_next e at =
      let run : Run = record { moments = ms; world = w } in
      let f = walk s.catalogue (h.index + 1) h.done (drop h.index s.events) run e (ap (next_single w) (sym h.left_is) ∙ at) in
      let i : ℕ = h.index + f.skipped in
      let n : ℕ = i + 1 in
      let n_is : (h.index + 1) + f.skipped ≡ n = omega arith in
      let m = moment n w e (next s.catalogue e w) in
      let lines : drop i s.events ≡ f.line ∷ f.rest = sym (drop-drop f.skipped h.index s.events) ∙ f.lines_are in
      let here = at_dropped i s.events f.line f.rest lines in
      let following : drop n s.events ≡ f.rest = ap (λ k. drop k s.events) (one_on i) ∙ here.1 in
      let goes = subst (λ n. ends s.catalogue (h.index + 1) h.done (drop h.index s.events) run ≡ ends s.catalogue n (suc f.steps) (f.line ∷ f.rest) (one_step s.catalogue n e run)) n_is f.goes in
      let steps_are : f.steps ≡ count n ms = before f.skipped f.steps f.steps_are in
      let counted : suc f.steps ≡ count n (ms ++ m ∷ []) = ap suc steps_are ∙ sym (one_counted n ms m refl) in
      let left_is : left_then w left ≡ left_of (suc f.steps) (f.line ∷ f.rest) = ap (left_then w) h.left_is ∙ f.left_is in
      record {
        number = n;
        came = record {
          index = i;
          done = suc f.steps;
          left_is = left_is ∙ ap (left_of (suc f.steps)) (sym lines);
          goes = ap (λ lines. ends s.catalogue n (suc f.steps) lines (one_step s.catalogue n e run)) lines ∙ sym goes ∙ h.goes;
          done_is = counted;
          below = all_push (λ (m : Moment). m.number ≤ n) ms m (below_more (h.index + 1) n ms (omega arith) h.below) (omega arith);
          along = one_more s.catalogue n e ms (start_world s.catalogue) w h.along;
        };
        left_is =
            left_is ∙ ap (λ front. front ++ f.rest) (sym (same_left f.steps f.line))
            ∙ ap (λ d. left_of_line d f.line ++ f.rest) counted
            ∙ ap (λ o. option_map_or (left_of_line (count n (ms ++ m ∷ []))) o [] ++ f.rest) (sym (here.0))
            ∙ ap (λ j. option_map_or (left_of_line (count n (ms ++ m ∷ []))) (slice_get s.events j) [] ++ f.rest) (less i)
            ∙ ap (λ rest. option_map_or (left_of_line (count n (ms ++ m ∷ []))) (slice_get s.events (n - 1)) [] ++ rest) (sym following);
        single = f.single;
      }
    where
      before : (skipped steps : ℕ) → ((skipped ≡ 0) × (steps ≡ h.done)) ⊎ ((1 ≤ skipped) × (steps ≡ 0)) → steps ≡ count ((h.index + skipped) + 1) ms
      before skipped steps (inl e) = e.1 ∙ h.done_is ∙ ap (λ k. count k ms) (let z = e.0 in omega (arith, z))
      before skipped steps (inr e) = e.1 ∙ sym (none_below ((h.index + skipped) + 1) ms (strictly (h.index + 1) ((h.index + skipped) + 1) ms (let le = e.0 in omega (arith, le)) h.below))

      one_on : (i : ℕ) → i + 1 ≡ suc i
      one_on i = omega arith

      less : (i : ℕ) → i ≡ (i + 1) - 1
      less i = omega arith
