-- One single step after the other through the events of a schedule.
use Rattle.std.proofs.Common.{◌≡◌, ◌∙◌, ap, sym, subst, inl, inr, ℕ, zero, suc, ◌+◌, ◌-◌, ◌≤◌, List, [], ◌∷◌, ◌++◌, drop, refl, arith}
use Rattle.std.specs.Prelude.{Option, Some, None, ◌⊎◌}
use Rattle.std.specs.Option.{option_map_or}
use Rattle.vp_model.specs.Types.{Event}
use Rattle.vp_model.specs.Types.event
use Rattle.vp_model.specs.Words.{for_some}
use Rattle.vp_model.specs.Catalogue.{Catalogue}
use Rattle.vp_model.specs.World.{WorldState, Run, Moment, next, moment, flowing, one_step, flow, one_event, run_from}
use Rattle.vp_playing.proofs.Turns.{run_grows}
use Rattle.vp_runs.proofs.Delivered.{IsSingle}
use Rattle.vp_stopping.specs.Left.{next_single, left_then}

-- ---- how far a schedule is done

-- what is left of a line of which so many steps were done
abbrev pub left_at : ℕ → Event → List Event
left_at done (event.Flow count) = event.Flow (count - done) ∷ []
left_at zero e = e ∷ []
left_at (suc done) e = []

-- what is left of these lines, where so many steps of the first were done
abbrev pub left_of : ℕ → List Event → List Event
left_of done [] = []
left_of done (line ∷ rest) = left_at done line ++ rest

pub fresh_line : (line : Event) → left_at zero line ≡ line ∷ []
fresh_line (event.Call s words) = refl
fresh_line (event.Deliver k) = refl
fresh_line (event.Flow count) = ap (λ n. event.Flow n ∷ []) (less count)
  where
    less : (n : ℕ) → n - 0 ≡ n
    less n = omega arith
fresh_line (event.Tick s) = refl
fresh_line (event.Probe s) = refl
fresh_line (event.Cut a b) = refl
fresh_line (event.Heal a b) = refl
fresh_line (event.Crash s) = refl
fresh_line (event.Restart s) = refl

pub fresh_lines : (lines : List Event) → left_of zero lines ≡ lines
fresh_lines [] = refl
fresh_lines (line ∷ rest) = ap (λ (front : List Event). front ++ rest) (fresh_line line)

module _ (catalogue : Catalogue) where
  -- the run at the end of such a line, and of such lines
  abbrev finish : ℕ → ℕ → Event → Run → Run
  finish n done (event.Flow count) run = flow catalogue n (count - done) run
  finish n zero e run = one_step catalogue n e run
  finish n (suc done) e run = run

  abbrev pub ends : ℕ → ℕ → List Event → Run → Run
  ends n done [] run = run
  ends n done (line ∷ rest) run = run_from catalogue (n + 1) rest (finish n done line run)

  fresh_finish : (n : ℕ) (line : Event) (run : Run) → finish n zero line run ≡ one_event catalogue n line run
  unfolding one_event
  fresh_finish n (event.Call s words) run = refl
  fresh_finish n (event.Deliver k) run = refl
  fresh_finish n (event.Flow count) run = ap (λ m. flow catalogue n m run) (less count)
    where
      less : (n : ℕ) → n - 0 ≡ n
      less n = omega arith
  fresh_finish n (event.Tick s) run = refl
  fresh_finish n (event.Probe s) run = refl
  fresh_finish n (event.Cut a b) run = refl
  fresh_finish n (event.Heal a b) run = refl
  fresh_finish n (event.Crash s) run = refl
  fresh_finish n (event.Restart s) run = refl

  pub fresh_ends : (n : ℕ) (lines : List Event) (run : Run) → ends n zero lines run ≡ run_from catalogue n lines run
  unfolding run_from
  fresh_ends n [] run = refl
  fresh_ends n (line ∷ rest) run = ap (run_from catalogue (n + 1) rest) (fresh_finish n line run)

  -- ---- the next step

  -- it is of this line, and this is left after it
  pub record Found (n done : ℕ) (lines : List Event) (run : Run) (e : Event) : Type 0 where
    pub skipped : ℕ
    pub steps : ℕ
    pub line : Event
    pub rest : List Event
    pub lines_are : drop skipped lines ≡ line ∷ rest
    pub steps_are : ((skipped ≡ 0) × (steps ≡ done)) ⊎ ((1 ≤ skipped) × (steps ≡ 0))
    pub left_is : left_then run.world (left_of done lines) ≡ left_of (suc steps) (line ∷ rest)
    pub goes : ends n done lines run ≡ ends (n + skipped) (suc steps) (line ∷ rest) (one_step catalogue (n + skipped) e run)
    pub single : IsSingle e

  -- the line has no step left, so it is one of the next lines
  module _ (n done : ℕ) (line : Event) (rest : List Event) (run : Run) (e : Event) where
    abbrev Idle : Type 0
    Idle = (left_then run.world (left_of done (line ∷ rest)) ≡ left_then run.world rest) × (finish n done line run ≡ run)

    later : Idle → Found (n + 1) zero rest run e → Found n done (line ∷ rest) run e
    later idle f = record {
      skipped = suc f.skipped;
      steps = f.steps;
      line = f.line;
      rest = f.rest;
      lines_are = f.lines_are;
      steps_are = inr (omega arith, none f.steps_are);
      left_is = idle.0 ∙ ap (left_then run.world) (sym (fresh_lines rest)) ∙ f.left_is;
      goes =
          ap (run_from catalogue (n + 1) rest) idle.1
          ∙ sym (fresh_ends (n + 1) rest run)
          ∙ subst (λ m. ends (n + 1) zero rest run ≡ ends m (suc f.steps) (f.line ∷ f.rest) (one_step catalogue m e run)) (more n f.skipped) f.goes;
      single = f.single;
    }
      where
        none : ((f.skipped ≡ 0) × (f.steps ≡ 0)) ⊎ ((1 ≤ f.skipped) × (f.steps ≡ 0)) → f.steps ≡ 0
        none (inl h) = h.1
        none (inr h) = h.1

        more : (n m : ℕ) → (n + 1) + m ≡ n + suc m
        more n m = omega arith

  -- a line of one step
  pub record Plain (line : Event) : Type 0 where
    pub single : IsSingle line
    pub gone : (done : ℕ) → left_at (suc done) line ≡ []
    pub first : (w : WorldState) (rest : List Event) → next_single w (line ∷ rest) ≡ Some line
    pub following : (w : WorldState) (rest : List Event) → left_then w (line ∷ rest) ≡ rest
    pub does : (n : ℕ) (run : Run) → finish n zero line run ≡ one_step catalogue n line run
    pub ended : (n done : ℕ) (run : Run) → finish n (suc done) line run ≡ run

  plain : (line : Event) → IsSingle line → Plain line
  plain (event.Call s words) h = record { single = h; gone = λ d. refl; first = λ w r. refl; following = λ w r. refl; does = λ n r. refl; ended = λ n d r. refl }
  plain (event.Deliver k) h = record { single = h; gone = λ d. refl; first = λ w r. refl; following = λ w r. refl; does = λ n r. refl; ended = λ n d r. refl }
  plain (event.Flow count) h = absurd h
  plain (event.Tick s) h = record { single = h; gone = λ d. refl; first = λ w r. refl; following = λ w r. refl; does = λ n r. refl; ended = λ n d r. refl }
  plain (event.Probe s) h = record { single = h; gone = λ d. refl; first = λ w r. refl; following = λ w r. refl; does = λ n r. refl; ended = λ n d r. refl }
  plain (event.Cut a b) h = record { single = h; gone = λ d. refl; first = λ w r. refl; following = λ w r. refl; does = λ n r. refl; ended = λ n d r. refl }
  plain (event.Heal a b) h = record { single = h; gone = λ d. refl; first = λ w r. refl; following = λ w r. refl; does = λ n r. refl; ended = λ n d r. refl }
  plain (event.Crash s) h = record { single = h; gone = λ d. refl; first = λ w r. refl; following = λ w r. refl; does = λ n r. refl; ended = λ n d r. refl }
  plain (event.Restart s) h = record { single = h; gone = λ d. refl; first = λ w r. refl; following = λ w r. refl; does = λ n r. refl; ended = λ n d r. refl }

  no_more : (n : ℕ) → n ≡ n + 0
  no_more n = omega arith

  one_line : (n done : ℕ) (line : Event) (rest : List Event) (run : Run) (e : Event) → Plain line → (next_single run.world rest ≡ Some e → Found (n + 1) zero rest run e) → next_single run.world (left_of done (line ∷ rest)) ≡ Some e
      → Found n done (line ∷ rest) run e
  one_line n zero line rest run e p more at =
      let fresh = fresh_line line in
      let same : line ≡ e = (let z = sym (p.first run.world rest) ∙ ap (λ (front : List Event). next_single run.world (front ++ rest)) (sym fresh) ∙ at in cc) in
      record {
        skipped = 0;
        steps = 0;
        line = line;
        rest = rest;
        lines_are = refl;
        steps_are = inl (refl, refl);
        left_is = ap (λ (front : List Event). left_then run.world (front ++ rest)) fresh ∙ p.following run.world rest ∙ ap (λ (front : List Event). front ++ rest) (sym (p.gone 0));
        goes =
            subst (λ m. run_from catalogue (n + 1) rest (finish n zero line run) ≡ run_from catalogue (m + 1) rest (finish m 1 line (one_step catalogue m e run))) (no_more n)
            (ap (run_from catalogue (n + 1) rest) (p.does n run ∙ ap (λ (e : Event). one_step catalogue n e run) same ∙ sym (p.ended n 0 (one_step catalogue n e run))));
        single = subst IsSingle same p.single;
      }
  one_line n (suc d) line rest run e p more at =
      later n (suc d) line rest run e (ap (λ (front : List Event). left_then run.world (front ++ rest)) (p.gone d), p.ended n d run)
      (more (ap (λ (front : List Event). next_single run.world (front ++ rest)) (sym (p.gone d)) ∙ at))

  -- a line of a flow
  one_less : (count done x : ℕ) → count - done ≡ suc x → count - suc done ≡ x
  one_less count done x e = omega (arith, e)

  flow_line : (n done count : ℕ) (rest : List Event) (run : Run) (e : Event) → (next_single run.world rest ≡ Some e → Found (n + 1) zero rest run e) → next_single run.world (left_of done (event.Flow count ∷ rest)) ≡ Some e
      → Found n done (event.Flow count ∷ rest) run e
  unfolding flow
  flow_line n done count rest run e more at = go (count - done) refl at
    where
      go : (x : ℕ) → count - done ≡ x → next_single run.world (event.Flow x ∷ rest) ≡ Some e → Found n done (event.Flow count ∷ rest) run e
      go zero none at = later n done (event.Flow count) rest run e (ap (λ x. left_then run.world (event.Flow x ∷ rest)) none, ap (λ x. flow catalogue n x run) none) (more at)
      go (suc x) some at = by (flowing run.world) refl at
        where
          by : (o : Option ℕ) → flowing run.world ≡ o → option_map_or (λ k. Some (event.Deliver k)) o (next_single run.world rest) ≡ Some e → Found n done (event.Flow count ∷ rest) run e
          by None idle at =
              later n done (event.Flow count) rest run e (
                ap (λ x. left_then run.world (event.Flow x ∷ rest)) some ∙ ap (λ o. option_map_or (λ k. event.Flow x ∷ rest) o (left_then run.world rest)) idle,
                ap (λ x. flow catalogue n x run) some ∙ ap (λ o. for_some o (λ k run. flow catalogue n x (one_step catalogue n (event.Deliver k) run)) run) idle,
              )
              (more at)
          by (Some k) goes at =
              let same : event.Deliver k ≡ e = cc in
              let less = one_less count done x some in
              record {
                skipped = 0;
                steps = done;
                line = event.Flow count;
                rest = rest;
                lines_are = refl;
                steps_are = inl (refl, refl);
                left_is =
                    ap (λ x. left_then run.world (event.Flow x ∷ rest)) some ∙ ap (λ o. option_map_or (λ k. event.Flow x ∷ rest) o (left_then run.world rest)) goes
                    ∙ ap (λ x. event.Flow x ∷ rest) (sym less);
                goes =
                    subst (λ m. run_from catalogue (n + 1) rest (flow catalogue n (count - done) run) ≡ run_from catalogue (m + 1) rest (flow catalogue m (count - suc done) (one_step catalogue m e run))) (no_more n)
                    (ap (run_from catalogue (n + 1) rest)
                    (ap (λ x. flow catalogue n x run) some
                    ∙ ap (λ o. for_some o (λ k run. flow catalogue n x (one_step catalogue n (event.Deliver k) run)) run) goes
                    ∙ ap (λ (e : Event). flow catalogue n x (one_step catalogue n e run)) same
                    ∙ ap (λ x. flow catalogue n x (one_step catalogue n e run)) (sym less)));
                single = subst IsSingle same tt;
              }

  any_line : (n done : ℕ) (line : Event) (rest : List Event) (run : Run) (e : Event) → (next_single run.world rest ≡ Some e → Found (n + 1) zero rest run e) → next_single run.world (left_of done (line ∷ rest)) ≡ Some e
      → Found n done (line ∷ rest) run e
  any_line n done (event.Flow count) rest run e more at = flow_line n done count rest run e more at
  any_line n done (event.Call s words) rest run e more at = one_line n done (event.Call s words) rest run e (plain (event.Call s words) tt) more at
  any_line n done (event.Deliver k) rest run e more at = one_line n done (event.Deliver k) rest run e (plain (event.Deliver k) tt) more at
  any_line n done (event.Tick s) rest run e more at = one_line n done (event.Tick s) rest run e (plain (event.Tick s) tt) more at
  any_line n done (event.Probe s) rest run e more at = one_line n done (event.Probe s) rest run e (plain (event.Probe s) tt) more at
  any_line n done (event.Cut a b) rest run e more at = one_line n done (event.Cut a b) rest run e (plain (event.Cut a b) tt) more at
  any_line n done (event.Heal a b) rest run e more at = one_line n done (event.Heal a b) rest run e (plain (event.Heal a b) tt) more at
  any_line n done (event.Crash s) rest run e more at = one_line n done (event.Crash s) rest run e (plain (event.Crash s) tt) more at
  any_line n done (event.Restart s) rest run e more at = one_line n done (event.Restart s) rest run e (plain (event.Restart s) tt) more at

  pub walk : (n done : ℕ) (lines : List Event) (run : Run) (e : Event) → next_single run.world (left_of done lines) ≡ Some e → Found n done lines run e
  walk n done [] run e at = cc
  walk n done (line ∷ rest) run e at = any_line n done line rest run e (λ at. walk (n + 1) zero rest run e (ap (next_single run.world) (fresh_lines rest) ∙ at)) at

  -- ---- no step is left

  abbrev AtEnd : ℕ → ℕ → List Event → Run → Type 0
  AtEnd n done lines run = ends n done lines run ≡ run

  one_over : (n done : ℕ) (line : Event) (rest : List Event) (run : Run) → Plain line → (next_single run.world rest ≡ None → AtEnd (n + 1) zero rest run) → next_single run.world (left_of done (line ∷ rest)) ≡ None
      → AtEnd n done (line ∷ rest) run
  one_over n zero line rest run p more at =
      let z = sym (p.first run.world rest) ∙ ap (λ (front : List Event). next_single run.world (front ++ rest)) (sym (fresh_line line)) ∙ at in cc
  one_over n (suc d) line rest run p more at =
      ap (run_from catalogue (n + 1) rest) (p.ended n d run) ∙ sym (fresh_ends (n + 1) rest run)
      ∙ more (ap (λ (front : List Event). next_single run.world (front ++ rest)) (sym (p.gone d)) ∙ at)

  flow_over : (n done count : ℕ) (rest : List Event) (run : Run) → (next_single run.world rest ≡ None → AtEnd (n + 1) zero rest run) → next_single run.world (left_of done (event.Flow count ∷ rest)) ≡ None
      → AtEnd n done (event.Flow count ∷ rest) run
  unfolding flow
  flow_over n done count rest run more at = go (count - done) refl at
    where
      idle : flow catalogue n (count - done) run ≡ run → next_single run.world rest ≡ None → AtEnd n done (event.Flow count ∷ rest) run
      idle same at = ap (run_from catalogue (n + 1) rest) same ∙ sym (fresh_ends (n + 1) rest run) ∙ more at

      go : (x : ℕ) → count - done ≡ x → next_single run.world (event.Flow x ∷ rest) ≡ None → AtEnd n done (event.Flow count ∷ rest) run
      go zero none at = idle (ap (λ x. flow catalogue n x run) none) at
      go (suc x) some at = by (flowing run.world) refl at
        where
          by : (o : Option ℕ) → flowing run.world ≡ o → option_map_or (λ k. Some (event.Deliver k)) o (next_single run.world rest) ≡ None → AtEnd n done (event.Flow count ∷ rest) run
          by None rests at = idle (ap (λ x. flow catalogue n x run) some ∙ ap (λ o. for_some o (λ k run. flow catalogue n x (one_step catalogue n (event.Deliver k) run)) run) rests) at
          by (Some k) goes at = cc

  any_over : (n done : ℕ) (line : Event) (rest : List Event) (run : Run) → (next_single run.world rest ≡ None → AtEnd (n + 1) zero rest run) → next_single run.world (left_of done (line ∷ rest)) ≡ None → AtEnd n done (line ∷ rest) run
  any_over n done (event.Flow count) rest run more at = flow_over n done count rest run more at
  any_over n done (event.Call s words) rest run more at = one_over n done (event.Call s words) rest run (plain (event.Call s words) tt) more at
  any_over n done (event.Deliver k) rest run more at = one_over n done (event.Deliver k) rest run (plain (event.Deliver k) tt) more at
  any_over n done (event.Tick s) rest run more at = one_over n done (event.Tick s) rest run (plain (event.Tick s) tt) more at
  any_over n done (event.Probe s) rest run more at = one_over n done (event.Probe s) rest run (plain (event.Probe s) tt) more at
  any_over n done (event.Cut a b) rest run more at = one_over n done (event.Cut a b) rest run (plain (event.Cut a b) tt) more at
  any_over n done (event.Heal a b) rest run more at = one_over n done (event.Heal a b) rest run (plain (event.Heal a b) tt) more at
  any_over n done (event.Crash s) rest run more at = one_over n done (event.Crash s) rest run (plain (event.Crash s) tt) more at
  any_over n done (event.Restart s) rest run more at = one_over n done (event.Restart s) rest run (plain (event.Restart s) tt) more at

  pub over : (n done : ℕ) (lines : List Event) (run : Run) → next_single run.world (left_of done lines) ≡ None → AtEnd n done lines run
  over n done [] run at = refl
  over n done (line ∷ rest) run at = any_over n done line rest run (λ at. over (n + 1) zero rest run (ap (next_single run.world) (fresh_lines rest) ∙ at)) at

  -- ---- what is left is a run of what is left

  pub runs_on : (n done : ℕ) (lines : List Event) (run : Run) → (m : ℕ) × (ends n done lines run ≡ run_from catalogue m (left_of done lines) run)
  unfolding run_from one_event
  runs_on n done [] run = (n, refl)
  runs_on n done (line ∷ rest) run = go line done
    where
      on : (line : Event) → Plain line → (done : ℕ) → (m : ℕ) × (ends n done (line ∷ rest) run ≡ run_from catalogue m (left_of done (line ∷ rest)) run)
      on line p zero = (n, fresh_ends n (line ∷ rest) run ∙ ap (λ lines. run_from catalogue n lines run) (sym (fresh_lines (line ∷ rest))))
      on line p (suc d) = (n + 1, ap (run_from catalogue (n + 1) rest) (p.ended n d run) ∙ ap (λ front. run_from catalogue (n + 1) (front ++ rest) run) (sym (p.gone d)))

      go : (line : Event) (done : ℕ) → (m : ℕ) × (ends n done (line ∷ rest) run ≡ run_from catalogue m (left_of done (line ∷ rest)) run)
      go (event.Flow count) done = (n, refl)
      go (event.Call s words) done = on (event.Call s words) (plain (event.Call s words) tt) done
      go (event.Deliver k) done = on (event.Deliver k) (plain (event.Deliver k) tt) done
      go (event.Tick s) done = on (event.Tick s) (plain (event.Tick s) tt) done
      go (event.Probe s) done = on (event.Probe s) (plain (event.Probe s) tt) done
      go (event.Cut a b) done = on (event.Cut a b) (plain (event.Cut a b) tt) done
      go (event.Heal a b) done = on (event.Heal a b) (plain (event.Heal a b) tt) done
      go (event.Crash s) done = on (event.Crash s) (plain (event.Crash s) tt) done
      go (event.Restart s) done = on (event.Restart s) (plain (event.Restart s) tt) done

-- ---- a run in progress

-- These moments came, and this is left, so that the whole run comes in the end.
pub record Goes (catalogue : Catalogue) (whole : Run) (ms : List Moment) (w : WorldState) (left : List Event) : Type 0 where
  pub n : ℕ
  pub done : ℕ
  pub lines : List Event
  pub left_is : left ≡ left_of done lines
  pub goes : ends catalogue n done lines (record { moments = ms; world = w }) ≡ whole

module _ (catalogue : Catalogue) (whole : Run) (ms : List Moment) (w : WorldState) (left : List Event) (h : Goes catalogue whole ms w left) where
  -- there are more moments
  pub goes_grows : (more : List Moment) × (whole.moments ≡ ms ++ more)
  goes_grows =
      let run : Run = record { moments = ms; world = w } in
      let on = runs_on catalogue h.n h.done h.lines run in
      let more = run_grows catalogue on.0 (left_of h.done h.lines) run in
      (more.0, ap (λ (r : Run). r.moments) (sym h.goes ∙ on.1) ∙ more.1)

  -- the next one, with some number
  pub goes_step : (e : Event) → next_single w left ≡ Some e → IsSingle e × ((number : ℕ) × Goes catalogue whole (ms ++ moment number w e (next catalogue e w) ∷ []) (next catalogue e w).world (left_then w left))
  unfolding one_step
  goes_step e at =
      let run : Run = record { moments = ms; world = w } in
      let f = walk catalogue h.n h.done h.lines run e (ap (next_single w) (sym h.left_is) ∙ at) in (
        f.single,
        (
          h.n + f.skipped,
          record {
            n = h.n + f.skipped;
            done = suc f.steps;
            lines = f.line ∷ f.rest;
            left_is = ap (left_then w) h.left_is ∙ f.left_is;
            goes = sym f.goes ∙ h.goes;
          },
        ),
      )

  pub goes_over : next_single w left ≡ None → record { moments = ms; world = w } ≡ whole
  goes_over at = sym (over catalogue h.n h.done h.lines (record { moments = ms; world = w }) (ap (next_single w) (sym h.left_is) ∙ at)) ∙ h.goes

-- a run that begins
pub goes_first : (catalogue : Catalogue) (n : ℕ) (events : List Event) (run : Run) → Goes catalogue (run_from catalogue n events run) run.moments run.world events
goes_first catalogue n events run = record { n = n; done = 0; lines = events; left_is = sym (fresh_lines events); goes = fresh_ends catalogue n events run }
