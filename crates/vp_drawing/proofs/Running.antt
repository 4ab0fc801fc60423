-- The steps of a run, and the limits on them.
use Rattle.std.proofs.Common.{◌≡◌, ◌∙◌, ℕ, ◌+◌, Bool, true, false, cond, List, [], ◌∷◌, ◌++◌, refl, sym, ap, append_assoc, append-nil}
use Rattle.std.specs.Prelude.{◌-◌, ◌||◌, is_some, find, Option, Some, None, option_and_then}
use Rattle.std.specs.Option.{option_or}
use Rattle.std.specs.List.{list_any}
use Rattle.std.proofs.lemmas.List.Folds.{list_any-append, find-append}
use Rattle.std.proofs.lemmas.List.Sums.{fold-append}
use Rattle.vp_model.specs.Types.{Counted, Event}
use Rattle.vp_model.specs.Catalogue.{Catalogue}
use Rattle.vp_model.specs.Limits.{exceeded, is_over, limit_in}
use Rattle.vp_model.specs.World.{Moment, Run, flow, moment, next, one_step, run_from}
use Rattle.vp_pictures.specs.declared.sheet.Sheet.{Sheet}
use Rattle.vp_drawing.specs.Limits.{picture_limits}
use Rattle.vp_drawing.specs.Moments.{draw_moment, draw_moments}
use Rattle.vp_drawing.proofs.Runs.{flow_keeps, run_keeps}

-- ---- limits

abbrev over : Moment → Bool
over = is_over picture_limits

none_found : (ms : List Moment) → list_any over ms ≡ false → find over ms ≡ None
none_found [] e = refl
none_found (m ∷ ms) e = go (over m) e (none_found ms)
  where
    go : (b : Bool) → (b || list_any over ms) ≡ false → (list_any over ms ≡ false → find over ms ≡ None) → cond b (Some m) (find over ms) ≡ None
    go true q rest = cc
    go false q rest = rest q

pub none_reached : (ms : List Moment) → list_any over ms ≡ false → limit_in picture_limits ms ≡ None
none_reached ms e = ap (option_and_then (λ (m : Moment). exceeded picture_limits m.after)) (none_found ms e)

-- the limit that ends some moments ends them whatever comes next
pub limit_grows : (ms rest : List Moment) (what : Counted) → limit_in picture_limits ms ≡ Some what → limit_in picture_limits (ms ++ rest) ≡ Some what
limit_grows ms rest what some = ap (option_and_then (λ (m : Moment). exceeded picture_limits m.after)) (find-append over ms rest) ∙ go (find over ms) some
  where
    go : (o : Option Moment) → option_and_then (λ (m : Moment). exceeded picture_limits m.after) o ≡ Some what → option_and_then (λ (m : Moment). exceeded picture_limits m.after) (option_or o (find over rest)) ≡ Some what
    go None q = cc
    go (Some m) q = q

over_at : (o : Option Counted) (what : Counted) → o ≡ Some what → is_some o ≡ true
over_at (Some x) what e = refl
over_at None what e = cc

-- the next moment exceeds one, or doesn't
pub limit_at : (ms : List Moment) (m : Moment) (what : Counted) → list_any over ms ≡ false → exceeded picture_limits m.after ≡ Some what → limit_in picture_limits (ms ++ m ∷ []) ≡ Some what
limit_at ms m what none some =
    let first : find over (m ∷ []) ≡ Some m = rw (over_at (exceeded picture_limits m.after) what some) refl in
    ap (option_and_then (λ (m : Moment). exceeded picture_limits m.after)) (find-append over ms (m ∷ []) ∙ ap (λ o. option_or o (find over (m ∷ []))) (none_found ms none) ∙ first) ∙ some

pub within_more : (ms : List Moment) (m : Moment) → list_any over ms ≡ false → exceeded picture_limits m.after ≡ None → list_any over (ms ++ m ∷ []) ≡ false
within_more ms m none few = list_any-append over ms (m ∷ []) ∙ rw (none, few) refl

-- ---- runs

pub drawn_more : (catalogue : Catalogue) (ms : List Moment) (m : Moment) (base : Sheet) → draw_moments catalogue (ms ++ m ∷ []) base ≡ draw_moment catalogue m (draw_moments catalogue ms base)
drawn_more catalogue ms m base = fold-append (λ sheet m. draw_moment catalogue m sheet) base ms (m ∷ [])

-- a run only gets more moments
abbrev Grows : Run → Run → Type 0
Grows run after = (rest : List Moment) × (after.moments ≡ run.moments ++ rest)

grows_on : (a b c : Run) → Grows a b → Grows b c → Grows a c
grows_on a b c first later = (first.0 ++ later.0, later.1 ∙ ap (λ (ms : List Moment). ms ++ later.0) first.1 ∙ append_assoc a.moments first.0 later.0)

step_grows : (catalogue : Catalogue) (n : ℕ) (e : Event) (run : Run) → Grows run (one_step catalogue n e run)
unfolding one_step
step_grows catalogue n e run = (moment n run.world e (next catalogue e run.world) ∷ [], refl)

grows_more : (catalogue : Catalogue) (run : Run) (n : ℕ) (e : Event) (after : Run) → Grows run after → Grows run (one_step catalogue n e after)
grows_more catalogue run n e after grows = grows_on run after (one_step catalogue n e after) grows (step_grows catalogue n e after)

grows_none : (run : Run) → Grows run run
grows_none run = ([], sym (append-nil run.moments))

limit_kept : (a b : Run) (what : Counted) → Grows a b → limit_in picture_limits a.moments ≡ Some what → limit_in picture_limits b.moments ≡ Some what
limit_kept a b what more some = rw more.1 (limit_grows a.moments more.0 what some)

-- what ends a step ends the flow and the schedule
pub flow_limited : (catalogue : Catalogue) (n count : ℕ) (run : Run) (what : Counted) → limit_in picture_limits run.moments ≡ Some what → limit_in picture_limits (flow catalogue n count run).moments ≡ Some what
flow_limited catalogue n count run what some = limit_kept run (flow catalogue n count run) what (flow_keeps catalogue (Grows run) (grows_more catalogue run) n count run (grows_none run)) some

pub run_limited : (catalogue : Catalogue) (n : ℕ) (events : List Event) (run : Run) (what : Counted) → limit_in picture_limits run.moments ≡ Some what → limit_in picture_limits (run_from catalogue n events run).moments ≡ Some what
run_limited catalogue n events run what some = limit_kept run (run_from catalogue n events run) what (run_keeps catalogue (Grows run) (grows_more catalogue run) n events run (grows_none run)) some
