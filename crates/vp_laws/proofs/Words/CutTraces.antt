-- What a limit leaves of a trace are its first lines, and all of them where no limit is reached.
use Rattle.std.proofs.Common.{◌≡◌, ◌∙◌, ap, sym, ℕ, zero, suc, ◌+◌, Bool, true, false, cond, List, [], ◌∷◌, ◌++◌, map, refl, arith, length, drop, append_assoc, append-nil}
use Rattle.std.proofs.lemmas.List.{map-append}
use Rattle.std.specs.Prelude.{Option, Some, None, is_some, not, ◌||◌, find, take, option_and_then}
use Rattle.std.specs.List.{list_any, before_first, position_or_len}
use Rattle.vp_model.specs.Types.{Event, Line, Counted}
use Rattle.vp_model.specs.Types.event
use Rattle.vp_model.specs.Words.{for_some}
use Rattle.vp_model.specs.Catalogue.{Catalogue}
use Rattle.vp_model.specs.World.{Moment, Run, flowing, one_step, flow, one_event, run_from, run_of, start_run, moments_of}
use Rattle.vp_model.specs.Texts.Trace.{own_line, printed_from}
use Rattle.vp_model.specs.Limits.{Limits, exceeded, is_over, first_over, limit_in, lines_within_from}
use Rattle.vp_model.specs.Generated.{generating, made, made_within}
use Rattle.vp_laws.specs.LimitedTraces.{LimitsCutTraces}
use Rattle.vp_laws.proofs.Lists.Members.{either_false}

abbrev Lines : Type 0
Lines = List (ℕ × Line)

abbrev line_of : Moment → ℕ × Line
line_of m = (m.number, m.line)

one_more : {X : Type 0} (n : ℕ) (x : X) (xs : List X) → take (1 + n) (x ∷ xs) ≡ x ∷ take n xs
one_more n x xs = ap (λ k. take k (x ∷ xs)) (follows n)
  where
    follows : (n : ℕ) → 1 + n ≡ suc n
    follows n = omega arith

-- the front of a list up to what passes the test
front : {X : Type 0} (p : X → Bool) (xs : List X) → (rest : List X) × (xs ≡ before_first p xs ++ rest)
front p [] = ([], refl)
front {X} p (x ∷ xs) = go (p x) (front p xs)
  where
    go : (b : Bool) → (rest : List X) × (xs ≡ before_first p xs ++ rest) → (rest : List X) × (x ∷ xs ≡ take (cond (not b) (1 + position_or_len p xs) 0) (x ∷ xs) ++ rest)
    go true q = (x ∷ xs, refl)
    go false q = (q.0, ap (λ ys. x ∷ ys) q.1 ∙ ap (λ ys. ys ++ q.0) (sym (one_more (position_or_len p xs) x xs)))

none_before : {X : Type 0} (p : X → Bool) (xs : List X) → list_any p xs ≡ false → before_first p xs ≡ xs
none_before p [] e = refl
none_before p (x ∷ xs) e = let q = either_false (p x) (list_any p xs) e in rw q.0 (one_more (position_or_len p xs) x xs ∙ ap (λ ys. x ∷ ys) (none_before p xs q.1))

any_more : {X : Type 0} (p : X → Bool) (xs ys : List X) → list_any p (xs ++ ys) ≡ false → list_any p xs ≡ false
any_more p [] ys e = refl
any_more p (x ∷ xs) ys e = let q = either_false (p x) (list_any p (xs ++ ys)) e in rw q.0 (any_more p xs ys q.1)

any_dropped : {X : Type 0} (p : X → Bool) (n : ℕ) (xs : List X) → list_any p xs ≡ false → list_any p (drop n xs) ≡ false
any_dropped p zero xs e = e
any_dropped p (suc n) [] e = refl
any_dropped p (suc n) (x ∷ xs) e = any_dropped p n xs (either_false (p x) (list_any p xs) e).1

find_none_any : {X : Type 0} (p : X → Bool) (xs : List X) → find p xs ≡ None → list_any p xs ≡ false
find_none_any p [] e = refl
find_none_any {X} p (x ∷ xs) e = go (p x) e (find_none_any p xs)
  where
    go : (b : Bool) → cond b (Some x) (find p xs) ≡ None → (find p xs ≡ None → list_any p xs ≡ false) → (b || list_any p xs) ≡ false
    go true q rest = cc
    go false q rest = rest q

ended_split : {X : Type 0} (a b c d : List X) → (a ++ (b ++ c)) ++ d ≡ (a ++ (b ++ [])) ++ (c ++ d)
ended_split a b c d =
    append_assoc a (b ++ c) d ∙ ap (λ z. a ++ z) (append_assoc b c d) ∙ ap (λ z. a ++ (z ++ (c ++ d))) (sym (append-nil b)) ∙ sym (append_assoc a (b ++ []) (c ++ d))

going_split : {X : Type 0} (a b c d : List X) → (a ++ b) ++ (c ++ d) ≡ (a ++ (b ++ c)) ++ d
going_split a b c d = append_assoc a b (c ++ d) ∙ ap (λ z. a ++ z) (sym (append_assoc b c d)) ∙ sym (append_assoc a (b ++ c) d)

module _ (limits : Limits) where
  abbrev over : Moment → Bool
  over = is_over limits

  -- the lines of one event, and what follows them
  under : (own : Lines) (steps : List Moment) (after within : Lines) (b : Bool) → list_any over steps ≡ b → (rest : Lines) × (after ≡ within ++ rest) → (rest : Lines) × ((own ++ map line_of steps) ++ after ≡ (own ++ (map line_of (before_first over steps) ++ cond b [] within)) ++ rest)
  under own steps after within true is q =
      let f = front over steps in
      let lines = map line_of (before_first over steps) in
      let cut = map line_of f.0 in (
        cut ++ after,
        ap (λ z. (own ++ z) ++ after) (ap (map line_of) f.1 ∙ map-append line_of (before_first over steps) f.0) ∙ ended_split own lines cut after,
      )
  under own steps after within false is q =
      (q.0, ap (λ z. (own ++ map line_of steps) ++ z) q.1 ∙ going_split own (map line_of steps) within q.0 ∙ ap (λ (ms : List Moment). (own ++ (map line_of ms ++ within)) ++ q.0) (sym (none_before over steps is)))

  cut_from : (catalogue : Catalogue) (number : ℕ) (events : List Event) (run : Run) → (rest : Lines) × (printed_from catalogue number events run ≡ lines_within_from limits catalogue number events run ++ rest)
  unfolding printed_from lines_within_from
  cut_from catalogue number [] run = ([], refl)
  cut_from catalogue number (e ∷ events) run =
      let after = one_event catalogue number e run in
      let steps = drop (length run.moments) after.moments in
      under (own_line number e) steps (printed_from catalogue (number + 1) events after) (lines_within_from limits catalogue (number + 1) events after) (list_any over steps) refl (cut_from catalogue (number + 1) events after)

  -- moments are only added
  abbrev Within : Run → Type 0
  Within run = list_any over run.moments ≡ false

  step_within : (catalogue : Catalogue) (number : ℕ) (e : Event) (run : Run) → Within (one_step catalogue number e run) → Within run
  unfolding one_step
  step_within catalogue number e run h = any_more over run.moments _ h

  flow_within : (catalogue : Catalogue) (number count : ℕ) (run : Run) → Within (flow catalogue number count run) → Within run
  unfolding flow
  flow_within catalogue number zero run h = h
  flow_within catalogue number (suc count) run h = go (flowing run.world) h (λ k. flow_within catalogue number count (one_step catalogue number (event.Deliver k) run))
    where
      go : (o : Option ℕ) → Within (for_some o (λ k run. flow catalogue number count (one_step catalogue number (event.Deliver k) run)) run) → ((k : ℕ) → Within (flow catalogue number count (one_step catalogue number (event.Deliver k) run)) → Within (one_step catalogue number (event.Deliver k) run)) → Within run
      go None h rest = h
      go (Some k) h rest = step_within catalogue number (event.Deliver k) run (rest k h)

  event_within : (catalogue : Catalogue) (number : ℕ) (e : Event) (run : Run) → Within (one_event catalogue number e run) → Within run
  unfolding one_event
  event_within catalogue number (event.Flow count) run h = flow_within catalogue number count run h
  event_within catalogue number e run h = step_within catalogue number e run h

  run_within : (catalogue : Catalogue) (number : ℕ) (events : List Event) (run : Run) → Within (run_from catalogue number events run) → Within run
  unfolding run_from
  run_within catalogue number [] run h = h
  run_within catalogue number (e ∷ events) run h = event_within catalogue number e run (run_within catalogue (number + 1) events (one_event catalogue number e run) h)

  whole_from : (catalogue : Catalogue) (number : ℕ) (events : List Event) (run : Run) → Within (run_from catalogue number events run) → lines_within_from limits catalogue number events run ≡ printed_from catalogue number events run
  unfolding printed_from lines_within_from run_from
  whole_from catalogue number [] run h = refl
  whole_from catalogue number (e ∷ events) run h =
      let after = one_event catalogue number e run in
      let steps = drop (length run.moments) after.moments in
      let none = any_dropped over (length run.moments) after.moments (run_within catalogue (number + 1) events after h) in
      let within = lines_within_from limits catalogue (number + 1) events after in
      ap (λ (b : Bool). own_line number e ++ (map line_of (before_first over steps) ++ cond b [] within)) none
      ∙ ap (λ (ms : List Moment). own_line number e ++ (map line_of ms ++ within)) (none_before over steps none)
      ∙ ap (λ z. own_line number e ++ (map line_of steps ++ z)) (whole_from catalogue (number + 1) events after h)
      ∙ sym (append_assoc (own_line number e) (map line_of steps) (printed_from catalogue (number + 1) events after))

  -- no limit is reached: no moment exceeds one
  none_over : (ms : List Moment) → limit_in limits ms ≡ None → first_over limits ms ≡ None
  none_over [] e = refl
  none_over (m ∷ ms) e = go (exceeded limits m.after) refl e (none_over ms)
    where
      go : (o : Option Counted) → exceeded limits m.after ≡ o → option_and_then (λ (m : Moment). exceeded limits m.after) (cond (is_some o) (Some m) (first_over limits ms)) ≡ None → (limit_in limits ms ≡ None → first_over limits ms ≡ None) → cond (is_some o) (Some m) (first_over limits ms) ≡ None
      go None is q rest = rest q
      go (Some counted) is q rest = let z = is in cc

pub limits_cut_traces : LimitsCutTraces
unfolding run_of
limits_cut_traces = record {
  front = λ limits s. cut_from limits s.catalogue 1 s.events (start_run s.catalogue);
  whole = λ limits s none. whole_from limits s.catalogue 1 s.events (start_run s.catalogue) (find_none_any (is_over limits) (moments_of s) (none_over limits (moments_of s) none));
  generated = λ limits seed count none. made_whole limits seed count (none_over limits (generating seed count).run.moments none);
}
  where
    made_whole : (limits : Limits) (seed count : ℕ) → first_over limits (generating seed count).run.moments ≡ None → made_within limits seed count ≡ made seed count
    made_whole limits seed count e = rw e refl
