-- In every schedule each report fits the call that took its number.
use Rattle.std.proofs.Common.{◌≡◌, ◌∙◌, ap, sym, subst, ℕ, ◌+◌, true, false, List, [], ◌∷◌, ◌++◌, map, length, refl, ⊎_elim}
use Rattle.std.specs.Prelude.{Option, Some, None, if◌then◌else◌}
use Rattle.std.specs.List.{list_all}
use Rattle.std.specs.Option.{option_map_or}
use Rattle.vp_model.specs.Transactions.{deed_answer, Deed}
use Rattle.vp_model.specs.Types.{TxnId, Call, Answer, Event, Input, Line, Reply, Pending, Live}
use Rattle.vp_model.specs.Types.answer
use Rattle.vp_model.specs.Types.op
use Rattle.vp_model.specs.Words.{same_txn}
use Rattle.vp_model.specs.Headline.{ReportsFit}
use Rattle.vp_model.proofs.SameTxn.{same_txn-self}
use Rattle.vp_model.specs.Catalogue.{Catalogue, start_copies}
use Rattle.vp_model.specs.Durable.{empty_durable}
use Rattle.vp_model.specs.Site.{SiteState, Lent}
use Rattle.vp_model.specs.Step.{step}
use Rattle.vp_model.specs.Told.{is_step, answers_in, replies_in, report_of, is_reported, taken_call, fits_call}
use Rattle.vp_model.specs.World.{WorldState, Moved, Moment, Run, Schedule, moment, next, one_step, site_step, start_world, lines_of}
use Rattle.vp_laws.proofs.Table.ToldLines.{lines_in, lines_last, taken_on}
use Rattle.vp_laws.proofs.Table.Heard.{Heard, heard}
use Rattle.vp_laws.proofs.Lists.Members.{Has, has_none, has_cases, has_one_is, map_has}
use Rattle.vp_laws.proofs.Lists.Changes.{all_from}
use Rattle.vp_laws.proofs.Worlds.Scenes.{Scene, scene_of, plain_at, kept_at, acted}
use Rattle.vp_laws.proofs.Worlds.Events.{Arrives, crashed, restarted}
use Rattle.vp_laws.proofs.Worlds.Sites.{Quiet, QuietIs, quiet_is, crash_quiet, restart_quiet, NowIs, now_is, started}
use Rattle.vp_laws.proofs.Worlds.Occurs.{no_replies, Occurs, occurs, RunLasts, run-keeps}
use Rattle.vp_laws.proofs.Replies.FairStep.{IsStep}
use Rattle.vp_laws.proofs.Moves.Reasons.{IsDone}
use Rattle.vp_laws.proofs.Moves.Table.{Completes}
use Rattle.vp_laws.proofs.Table.Told.{completed_says, IsKept, AreLate}
use Rattle.vp_laws.proofs.Table.Reports.{Cause, causes-step}
use Rattle.vp_laws.proofs.Told.At.{ToldAt}
use Rattle.vp_laws.proofs.Told.Moves.{done_number, done_call, kept_here}
use Rattle.vp_laws.proofs.Told.Runs.{RunTold, start_told, one_step-told, starts_none, is_step_of}
use Rattle.vp_laws.proofs.Keeping.Does.{Does, does}

abbrev Fits : Catalogue → List Line → Answer → Type 0
Fits catalogue lines a = fits_call catalogue lines a ≡ true

fits_on : (catalogue : Catalogue) (lines : List Line) (l : Line) (a : Answer) → Fits catalogue lines a → Fits catalogue (lines ++ l ∷ []) a
fits_on catalogue lines l a = go (report_of a)
  where
    taken : (u : TxnId) (n : ℕ) (o : Option Call) → taken_call lines u n ≡ o → option_map_or (is_reported catalogue a) o false ≡ true → option_map_or (is_reported catalogue a) (taken_call (lines ++ l ∷ []) u n) false ≡ true
    taken u n None e h = cc
    taken u n (Some words) e h = rw (taken_on lines l u n words e) h

    go : (o : Option (TxnId × ℕ)) → option_map_or (λ (call : TxnId × ℕ). option_map_or (is_reported catalogue a) (taken_call lines call.0 call.1) false) o true ≡ true → option_map_or (λ (call : TxnId × ℕ). option_map_or (is_reported catalogue a) (taken_call (lines ++ l ∷ []) call.0 call.1) false) o true ≡ true
    go None h = refl
    go (Some call) h = taken call.0 call.1 (taken_call lines call.0 call.1) refl h

unsaid : (t : TxnId) (h : Heard) → (if same_txn t t then Some h else None) ≡ None → ⊥
unsaid t h e = let self = same_txn-self t in let z = (rw self at e) in cc

-- whose call a deed's answer reports
deed_of : (txn : TxnId) (number : ℕ) (deed : Deed) → report_of (deed_answer txn number deed) ≡ Some (txn, number)
deed_of txn number (Deed.operates (op.Read rec None)) = refl
deed_of txn number (Deed.operates (op.Read rec (Some value))) = refl
deed_of txn number (Deed.operates (op.Write rec None)) = refl
deed_of txn number (Deed.operates (op.Write rec (Some value))) = refl
deed_of txn number (Deed.weighs rec table) = refl

-- an answer that says of no transaction that a call is done
silent_fits : (catalogue : Catalogue) (lines : List Line) (a : Answer) → ((u : TxnId) → heard u a ≡ None) → Fits catalogue lines a
silent_fits catalogue lines (answer.Value t n value) none = absurd (unsaid t (n, Some (Some (Some value))) (none t))
silent_fits catalogue lines (answer.Absent t n) none = absurd (unsaid t (n, Some (Some None)) (none t))
silent_fits catalogue lines (answer.Written t n) none = absurd (unsaid t (n, Some None) (none t))
silent_fits catalogue lines (answer.Deleted t n) none = absurd (unsaid t (n, Some None) (none t))
silent_fits catalogue lines (answer.Weighed t n) none = absurd (unsaid t (n, None) (none t))
silent_fits catalogue lines _ none = refl

-- what was answered, and what a site may answer again, fits the call of its number
record FitsAt (catalogue : Catalogue) (w : Scene) (lines : List Line) : Type 0 where
  -- each answer of the lines
  given : (l : Line) → Has lines l → (a : Answer) → Has (answers_in l) a → Fits catalogue lines a
  -- each answer that a site keeps
  kept : (s : ℕ) (x : SiteState) (a : Answer) → plain_at w s ≡ Some x → IsKept x a → Fits catalogue lines a

given_on : (catalogue : Catalogue) (w : Scene) (lines : List Line) (line : Line) → FitsAt catalogue w lines → ((a : Answer) → Has (answers_in line) a → Fits catalogue (lines ++ line ∷ []) a) → (l : Line) → Has (lines ++ line ∷ []) l → (a : Answer) → Has (answers_in l) a → Fits catalogue (lines ++ line ∷ []) a
given_on catalogue w lines line h new l there a said = ⊎_elim (λ old. fits_on catalogue lines line a (h.given l old a said)) (λ now. new a (subst (λ (l : Line). Has (answers_in l) a) (sym (has_one_is line l now)) said)) (has_cases lines (line ∷ []) l there)

-- a line that shows no step
no_answers : (line : Line) (a : Answer) → is_step line.shown ≡ false → Has (answers_in line) a → ⊥
no_answers line a none h = has_none a (rw (ap (map (λ (r : Reply). r.answer)) (no_replies line.shown none)) at h)

same_fits : (catalogue : Catalogue) (w : Scene) (lines : List Line) (line : Line) → is_step line.shown ≡ false → FitsAt catalogue w lines → FitsAt catalogue w (lines ++ line ∷ [])
same_fits catalogue w lines line none h = record {
  given = given_on catalogue w lines line h (λ a said. absurd (no_answers line a none said));
  kept = λ s x a up k. fits_on catalogue lines line a (h.kept s x a up k);
}

quiet_fits : (catalogue : Catalogue) (w new : Scene) (lines : List Line) (line : Line) (s : ℕ) → is_step line.shown ≡ false → Quiet catalogue w new s → FitsAt catalogue w lines → FitsAt catalogue new (lines ++ line ∷ [])
quiet_fits catalogue w new lines line s none q h = record {
  given = given_on catalogue w lines line h (λ a said. absurd (no_answers line a none said));
  kept = λ j y a up k. kept_at_site j y a k (quiet_is catalogue w new s q j y up);
}
  where
    kept_at_site : (j : ℕ) (y : SiteState) (a : Answer) → IsKept y a → QuietIs catalogue w s j y → Fits catalogue (lines ++ line ∷ []) a
    kept_at_site j y a k (QuietIs.other n old) = fits_on catalogue lines line a (h.kept j y a old k)
    kept_at_site j y a k (QuietIs.here e same) = absurd (starts_none catalogue s (kept_at w s) a (subst (λ (y : SiteState). IsKept y a) (sym same) k))

-- one step
module _ (catalogue : Catalogue) (world : WorldState) (lines : List Line) (m0 : Moment) (s : ℕ) (x : SiteState) (given : Input) (up : plain_at (scene_of world) s ≡ Some x) (arrives : Arrives (scene_of world) s given) (is : IsStep m0 world s x given (step catalogue x given)) (told : ToldAt catalogue (scene_of world) lines) (h : FitsAt catalogue (scene_of world) lines) where
  abbrev more : List Line
  more = lines ++ m0.line ∷ []

  d : Does catalogue (scene_of world) (acted (scene_of world) s x (step catalogue x given)) s x given (step catalogue x given)
  d = does catalogue (scene_of world) s x given up arrives told.known

  old_fits : (a : Answer) → IsKept x a → Fits catalogue more a
  old_fits a k = fits_on catalogue lines m0.line a (h.kept s x a up k)

  done_fits : (t : Live) (p : Pending) (deed : Deed) (l : Lent) → Has x.live t → IsDone x given t p → Completes catalogue x given t p deed l → AreLate (step catalogue x given).effects.replies → Fits catalogue more (deed_answer t.txn p.number deed)
  done_fits t p deed l here how c late =
      let took : taken_call more t.txn p.number ≡ Some p.call = ap (taken_call more t.txn) number ∙ done_call catalogue world lines m0 s x given up arrives is told t p here how late in
      rw (deed_of t.txn p.number deed, took) (completed_says catalogue x given t p deed l c).fits
    where
      number : p.number ≡ length t.answers + 1
      number = done_number catalogue world lines m0 s x given up arrives is told t p here how

  caused : (a : Answer) → Cause catalogue x given (step catalogue x given).effects.replies a → Fits catalogue more a
  caused a (Cause.nothing none) = silent_fits catalogue more a none
  caused a (Cause.kept k) = old_fits a k
  caused _ (Cause.done t p deed l here how c late) = done_fits t p deed l here how c late

  answers_now : (a : Answer) → Has (answers_in m0.line) a → Fits catalogue more a
  answers_now a said =
      let said_here : Has (map (λ (r : Reply). r.answer) (step catalogue x given).effects.replies) a = subst (λ (rs : List Reply). Has (map (λ (r : Reply). r.answer) rs) a) (ap replies_in is.shown) said in
      let q = map_has (λ (r : Reply). r.answer) (step catalogue x given).effects.replies a said_here in
      subst (Fits catalogue more) q.2 (caused q.0.answer (causes-step catalogue x given q.0 q.1))

  kept_now : (j : ℕ) (y : SiteState) (a : Answer) → IsKept y a → NowIs (scene_of world) s (step catalogue x given).site j y → Fits catalogue more a
  kept_now j y a k (NowIs.other away old) = fits_on catalogue lines m0.line a (h.kept j y a old k)
  kept_now j y a k (NowIs.here here same) =
      kept_here catalogue world lines m0 s x given up arrives is told (Fits catalogue more) old_fits (λ a none. silent_fits catalogue more a none) (λ t p deed l here how c one late. done_fits t p deed l here how c late) a (subst (λ (y : SiteState). IsKept y a) (sym same) k)

  step_fits : FitsAt catalogue (acted (scene_of world) s x (step catalogue x given)) more
  step_fits = record {
    given = given_on catalogue (scene_of world) lines m0.line h answers_now;
    kept = λ j y a at k. kept_now j y a k (now_is (scene_of world) (acted (scene_of world) s x (step catalogue x given)) s x (step catalogue x given) d.st j y at);
  }

occurred : (catalogue : Catalogue) (lines : List Line) (number : ℕ) (e : Event) (w : WorldState) (m : Moved) → ToldAt catalogue (scene_of w) lines → FitsAt catalogue (scene_of w) lines → Occurs catalogue e w m → FitsAt catalogue (scene_of m.world) (lines ++ (moment number w e m).line ∷ [])
unfolding site_step
occurred catalogue lines number e w m told h (Occurs.stands same none) = rw same (same_fits catalogue (scene_of w) lines (moment number w e m).line none h)
occurred catalogue lines number e w m told h (Occurs.crashes s same none) = rw same (quiet_fits catalogue (scene_of w) (crashed (scene_of w) s) lines (moment number w e m).line s none (crash_quiet catalogue (scene_of w) s) h)
occurred catalogue lines number e w m told h (Occurs.restarts s place at down id same none) =
    rw same (quiet_fits catalogue (scene_of w) (restarted catalogue (scene_of w) s) lines (moment number w e m).line s none (restart_quiet catalogue (scene_of w) s place at id) h)
occurred catalogue lines number e w m told h (Occurs.acts s x given v same up arrives gives is) =
    subst (λ (m : Moved). FitsAt catalogue (scene_of m.world) (lines ++ (moment number w e m).line ∷ [])) (sym is)
    (subst (λ (z : Scene). FitsAt catalogue (acted z s x (step catalogue x given)) (lines ++ (moment number w e (site_step catalogue s x given v)).line ∷ [])) (sym same)
    (step_fits catalogue w lines (moment number w e (site_step catalogue s x given v)) s x given up arrives (is_step_of catalogue lines number e w v s x given same up arrives gives told) told h))

abbrev RunFits : Catalogue → Run → Type 0
RunFits catalogue run = RunTold catalogue run × FitsAt catalogue (scene_of run.world) (lines_in run.moments)

one_step-fits : (catalogue : Catalogue) (number : ℕ) (e : Event) (run : Run) → RunFits catalogue run → FitsAt catalogue (scene_of (one_step catalogue number e run).world) (lines_in (one_step catalogue number e run).moments)
unfolding one_step
one_step-fits catalogue number e run h =
    let moved = next catalogue e run.world in
    let m0 = moment number run.world e moved in
    subst (FitsAt catalogue (scene_of moved.world)) (sym (lines_last run.moments m0)) (occurred catalogue (lines_in run.moments) number e run.world moved h.0 h.1 (occurs catalogue e run.world))

start_fits : (catalogue : Catalogue) → FitsAt catalogue (scene_of (start_world catalogue)) []
start_fits catalogue = record {
  given = λ l h a said. absurd (has_none l h);
  kept = λ s x a up k. absurd (starts_none catalogue s (empty_durable (start_copies catalogue s)) a (subst (λ (x : SiteState). IsKept x a) (sym (started catalogue s x up)) k));
}

pub reports_fit : (s : Schedule) → ReportsFit s
reports_fit s =
    let lasts : RunLasts s.catalogue (RunFits s.catalogue) = record { starts = (start_told s.catalogue, start_fits s.catalogue); steps = λ number e run h. (one_step-told s.catalogue number e run h.0, one_step-fits s.catalogue number e run h) } in
    let h = (run-keeps s.catalogue (RunFits s.catalogue) lasts s.events).1 in
    all_from (λ (line : Line). list_all (fits_call s.catalogue (lines_of s)) (answers_in line)) (lines_of s)
    (λ line there. all_from (fits_call s.catalogue (lines_of s)) (answers_in line) (h.given line there))
