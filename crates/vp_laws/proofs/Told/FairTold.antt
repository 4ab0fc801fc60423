-- The refusals that clients are answered are justified, in every schedule.
use Rattle.std.proofs.Common.{◌≡◌, ap, sym, subst, ℕ, true, false, List, [], ◌∷◌, ◌++◌, map, refl, append_assoc}
use Rattle.std.specs.Prelude.{Some}
use Rattle.vp_model.specs.Types.{Event, Input, Line, Answer, Reply}
use Rattle.vp_model.specs.Catalogue.{Catalogue, start_copies}
use Rattle.vp_model.specs.Durable.{empty_durable}
use Rattle.vp_model.specs.Site.{SiteState}
use Rattle.vp_model.specs.Step.{step}
use Rattle.vp_model.specs.Told.{is_step, answers_in}
use Rattle.vp_model.specs.Justified.{justified, all_justified}
use Rattle.vp_model.specs.Headline.{RefusalsAreJustified}
use Rattle.vp_model.specs.World.{WorldState, Moved, Moment, Run, Schedule, moment, next, one_step, site_of, site_step, start_world}
use Rattle.vp_laws.proofs.Lists.Members.{Has, has_none, has_one_is}
use Rattle.vp_laws.proofs.Lists.Changes.{all_from}
use Rattle.vp_laws.proofs.Worlds.Scenes.{Scene, scene_of, acted}
use Rattle.vp_laws.proofs.Worlds.Events.{Arrives, crashed, restarted}
use Rattle.vp_laws.proofs.Worlds.Sites.{crash_quiet, restart_quiet, started, start_sent, no_finished, started_idle}
use Rattle.vp_laws.proofs.Worlds.Occurs.{no_replies, Gives, Occurs, occurs, run-keeps}
use Rattle.vp_laws.proofs.Replies.FairStep.{IsStep}
use Rattle.vp_laws.proofs.Replies.Fair.{Untold}
use Rattle.vp_laws.proofs.Replies.FairAt.{FairAt}
use Rattle.vp_laws.proofs.Replies.FairMoves.{Silent, step_fair, replies_justified, quiet_fair, same_fair}
use Rattle.std.proofs.lemmas.Bool.{and_parts}
use Rattle.std.specs.List.{list_all}
use Rattle.vp_laws.proofs.Order.Invariant.{invariant_last, invariant_crashes, invariant_restarts}
use Rattle.vp_laws.specs.Catalogues.{IsWhole}
use Rattle.vp_laws.proofs.Table.ToldLines.{lines_in, lines_last}
use Rattle.vp_laws.proofs.Told.At.{ToldAt}
use Rattle.vp_laws.proofs.Told.Runs.{RunTold, start_told, one_step-told, is_step_of}
use Rattle.vp_laws.proofs.Told.Tables.{WeighsAt, start_weighs, one_step-weighs}
use Rattle.vp_laws.proofs.Told.Untold.{UntoldAt, silent_untold, quiet_untold, step_untold, replies_untold}

-- a moment is judged by what came before it
all_justified-last : (catalogue : Catalogue) (past moments : List Moment) (m : Moment) → all_justified catalogue past moments ≡ true → list_all (justified catalogue (past ++ (moments ++ m ∷ [])) m) (answers_in m.line) ≡ true → all_justified catalogue past (moments ++ m ∷ []) ≡ true
all_justified-last catalogue past [] m h e = rw e refl
all_justified-last catalogue past (x ∷ moments) m h e =
    let p = and_parts (list_all (justified catalogue (past ++ x ∷ []) x) (answers_in x.line)) (all_justified catalogue (past ++ x ∷ []) moments) h in
    rw p.0 (all_justified-last catalogue (past ++ x ∷ []) moments m p.1 (rw (append_assoc past (x ∷ []) (moments ++ m ∷ [])) e))

-- one more moment: what is refused is justified by then, and so are its answers
pub record Justifies (catalogue : Catalogue) (past : List Moment) (m : Moment) (new : Scene) : Type 0 where
  pub at : FairAt catalogue new (past ++ m ∷ [])
  pub untold : UntoldAt new (lines_in (past ++ m ∷ []))
  pub answers : (a : Answer) → Has (answers_in m.line) a → justified catalogue (past ++ m ∷ []) m a ≡ true

no_answer : (m : Moment) → is_step m.line.shown ≡ false → (a : Answer) → Has (answers_in m.line) a → ⊥
no_answer m none a h = has_none a (rw (ap (map (λ (r : Reply). r.answer)) (no_replies m.line.shown none)) at h)

none_in : (m : Moment) → is_step m.line.shown ≡ false → Silent (m ∷ [])
none_in m none x h = subst (λ (m : Moment). (a : Answer) → Has (answers_in m.line) a → ⊥) (has_one_is m x h) (no_answer m none)

-- a moment with no answer
silent : (catalogue : Catalogue) (past : List Moment) (m : Moment) (new : Scene) → is_step m.line.shown ≡ false → UntoldAt new (lines_in past) → FairAt catalogue new (past ++ m ∷ []) → Justifies catalogue past m new
silent catalogue past m new none untold at = record {
  at = at;
  untold = subst (UntoldAt new) (sym (lines_last past m)) (silent_untold new (lines_in past) m.line (ap (map (λ (r : Reply). r.answer)) (no_replies m.line.shown none)) untold);
  answers = λ a h. absurd (no_answer m none a h);
}

-- the moment of a step
stepped : (catalogue : Catalogue) (past : List Moment) (number : ℕ) (e : Event) (w v : WorldState) (s : ℕ) (x : SiteState) (given : Input) → scene_of v ≡ scene_of w → site_of w s ≡ Some x → Arrives (scene_of w) s given → Gives e w s given → ToldAt catalogue (scene_of w) (lines_in past) → WeighsAt catalogue (scene_of w) (lines_in past) → UntoldAt (scene_of w) (lines_in past) → FairAt catalogue (scene_of w) past → Justifies catalogue past (moment number w e (site_step catalogue s x given v)) (scene_of (site_step catalogue s x given v).world)
unfolding site_step
stepped catalogue past number e w v s x given same up arrives gives told weighs untold fair =
    subst (λ (z : Scene). Justifies catalogue past m0 (acted z s x (step catalogue x given))) (sym same) (record {
      at = step_fair catalogue w past m0 s x given up arrives is fair;
      untold = subst (UntoldAt (acted (scene_of w) s x (step catalogue x given))) (sym (lines_last past m0)) (step_untold catalogue w (lines_in past) m0 s x given up arrives is told weighs untold);
      answers = replies_justified catalogue w past m0 s x given up arrives is fair
          (λ a h. subst (λ (lines : List Line). Untold lines a) (sym (lines_last past m0)) (replies_untold catalogue w (lines_in past) m0 s x given up arrives is told weighs untold a h));
    })
  where
    m0 : Moment
    m0 = moment number w e (site_step catalogue s x given v)

    is : IsStep m0 w s x given (step catalogue x given)
    is = is_step_of catalogue (lines_in past) number e w v s x given same up arrives gives told

justifies : (catalogue : Catalogue) (past : List Moment) (number : ℕ) (e : Event) (w : WorldState) (m : Moved) → ToldAt catalogue (scene_of w) (lines_in past) → WeighsAt catalogue (scene_of w) (lines_in past) → UntoldAt (scene_of w) (lines_in past) → FairAt catalogue (scene_of w) past → Occurs catalogue e w m → Justifies catalogue past (moment number w e m) (scene_of m.world)
justifies catalogue past number e w m told weighs untold fair (Occurs.stands same none) =
    let m0 = moment number w e m in
    subst (Justifies catalogue past m0) (sym same) (silent catalogue past m0 (scene_of w) none untold (same_fair catalogue (scene_of w) past (m0 ∷ []) (none_in m0 none) fair))
justifies catalogue past number e w m told weighs untold fair (Occurs.crashes s same none) =
    let m0 = moment number w e m in
    let q = crash_quiet catalogue (scene_of w) s in
    let down = crashed (scene_of w) s in
    subst (Justifies catalogue past m0) (sym same)
    (silent catalogue past m0 down none (quiet_untold catalogue (scene_of w) down (lines_in past) s q untold) (quiet_fair catalogue (scene_of w) down past (m0 ∷ []) s q (invariant_crashes catalogue (scene_of w) s fair.inv) (none_in m0 none) fair))
justifies catalogue past number e w m told weighs untold fair (Occurs.restarts s place at down id same none) =
    let m0 = moment number w e m in
    let q = restart_quiet catalogue (scene_of w) s place at id in
    let up = restarted catalogue (scene_of w) s in
    subst (Justifies catalogue past m0) (sym same)
    (silent catalogue past m0 up none (quiet_untold catalogue (scene_of w) up (lines_in past) s q untold) (quiet_fair catalogue (scene_of w) up past (m0 ∷ []) s q (invariant_restarts catalogue (scene_of w) s place at down id fair.inv) (none_in m0 none) fair))
justifies catalogue past number e w m told weighs untold fair (Occurs.acts s x given v same up arrives gives is) =
    subst (λ (m : Moved). Justifies catalogue past (moment number w e m) (scene_of m.world)) (sym is) (stepped catalogue past number e w v s x given same up arrives gives told weighs untold fair)

-- of a run so far
pub record FairHold (catalogue : Catalogue) (run : Run) : Type 0 where
  pub at : FairAt catalogue (scene_of run.world) run.moments
  pub told : RunTold catalogue run
  pub weighs : WeighsAt catalogue (scene_of run.world) (lines_in run.moments)
  pub untold : UntoldAt (scene_of run.world) (lines_in run.moments)
  pub justified : all_justified catalogue [] run.moments ≡ true

one_step-fair : (catalogue : Catalogue) (number : ℕ) (e : Event) (run : Run) → FairHold catalogue run → FairHold catalogue (one_step catalogue number e run)
unfolding one_step
one_step-fair catalogue number e run h =
    let moved = next catalogue e run.world in
    let m0 = moment number run.world e moved in
    let j = justifies catalogue run.moments number e run.world moved h.told h.weighs h.untold h.at (occurs catalogue e run.world) in
    record {
      at = j.at;
      told = one_step-told catalogue number e run h.told;
      weighs = one_step-weighs catalogue number e run (h.told, h.weighs);
      untold = j.untold;
      justified = all_justified-last catalogue [] run.moments m0 h.justified (all_from (justified catalogue (run.moments ++ m0 ∷ []) m0) (answers_in m0.line) j.answers);
    }

start_fair : (catalogue : Catalogue) → IsWhole catalogue → FairAt catalogue (scene_of (start_world catalogue)) []
start_fair catalogue whole = record {
  inv = (invariant_last catalogue whole).starts;
  told = λ m h. absurd (has_none m h);
  barred = λ m h. absurd (has_none m h);
  sent = λ m h. absurd (start_sent catalogue m h);
  live = λ s x t h k. absurd (started_idle catalogue s x t h k);
  finished = λ s x f h k. absurd (no_finished catalogue s (empty_durable (start_copies catalogue s)) f (subst (λ (x : SiteState). Has x.finished f) (sym (started catalogue s x h)) k));
}

start_untold : (catalogue : Catalogue) → UntoldAt (scene_of (start_world catalogue)) []
start_untold catalogue s x f h k = absurd (no_finished catalogue s (empty_durable (start_copies catalogue s)) f (subst (λ (x : SiteState). Has x.finished f) (sym (started catalogue s x h)) k))

pub refusals_justified : (s : Schedule) → IsWhole s.catalogue → RefusalsAreJustified s
refusals_justified s whole = (run-keeps s.catalogue (FairHold s.catalogue) (record {
  starts = record {
    at = start_fair s.catalogue whole;
    told = start_told s.catalogue;
    weighs = start_weighs s.catalogue;
    untold = start_untold s.catalogue;
    justified = refl;
  };
  steps = λ number e run h. one_step-fair s.catalogue number e run h;
}) s.events).justified
