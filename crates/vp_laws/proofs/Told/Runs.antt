-- In every schedule each transaction is committed with the operations that its client was answered.
use Rattle.std.proofs.Common.{◌≡◌, ap, sym, subst, ℕ, false, List, [], ◌∷◌, ◌++◌, map, length, refl}
use Rattle.std.specs.Prelude.{Some, All}
use Rattle.std.proofs.lemmas.List.Elements.{All-from_recursion}
use Rattle.vp_model.specs.Types.{TxnId, Answer, Commit, Event, Input, Line, Reply, Live}
use Rattle.vp_model.specs.Catalogue.{Catalogue, start_copies}
use Rattle.vp_model.specs.Durable.{DurableState, empty_durable}
use Rattle.vp_model.specs.Site.{SiteState}
use Rattle.vp_model.specs.Step.{start, step}
use Rattle.vp_model.specs.Told.{is_step, reports, told}
use Rattle.vp_model.specs.World.{WorldState, Moved, Run, Schedule, moment, next, one_step, site_of, site_step, start_world, lines_of, journal_of}
use Rattle.vp_laws.proofs.Table.ToldLines.{reports-silent, reported_lasts, IsReported, tells_on, IsUnheard, unheard_on, lines_in, lines_last}
use Rattle.vp_laws.proofs.Lists.Members.{Has, all_of}
use Rattle.vp_laws.proofs.Worlds.Scenes.{Scene, scene_of, plain_at, kept_at, acted}
use Rattle.vp_laws.proofs.Worlds.Events.{Arrives, crashed, restarted}
use Rattle.vp_laws.proofs.Worlds.Sites.{Quiet, QuietIs, quiet_is, crash_quiet, restart_quiet, started, start_entered, no_live, no_finished, started_idle, live_still}
use Rattle.vp_laws.proofs.Invariant.Names.{UsedTxn}
use Rattle.vp_laws.proofs.Worlds.Occurs.{no_replies, Gives, Occurs, occurs, run-keeps}
use Rattle.vp_laws.proofs.Replies.FairStep.{IsStep}
use Rattle.vp_laws.proofs.Table.Told.{IsKept}
use Rattle.vp_laws.proofs.Table.ToldCalls.{TellsCall, call_on}
use Rattle.vp_laws.proofs.Told.At.{ToldAt, unstepped}
use Rattle.vp_laws.proofs.Told.Moves.{step_told}
use Rattle.vp_laws.proofs.Keeping.Does.{Does, does}
use Rattle.vp_laws.proofs.Keeping.Names.{used_lasts, quiet_grows}
use Rattle.vp_laws.proofs.Invariant.Known.{Known}
use Rattle.vp_laws.proofs.Keeping.Known.{known_last, known_starts}

-- a site that starts keeps no answer
pub starts_none : (catalogue : Catalogue) (s : ℕ) (d : DurableState) (a : Answer) → IsKept (start catalogue s d) a → ⊥
starts_none catalogue s d a (IsKept.live t h there) = no_live catalogue s d t h
starts_none catalogue s d a (IsKept.finished f h there) = no_finished catalogue s d f h

-- a line that shows no step
module _ (catalogue : Catalogue) (w new : Scene) (lines : List Line) (l : Line) (none : is_step l.shown ≡ false) (told_so_far : ToldAt catalogue w lines) where
  abbrev more : List Line
  more = lines ++ l ∷ []

  silent : (u : TxnId) → reports more u ≡ reports lines u
  silent u = reports-silent lines l u (ap (map (λ (r : Reply). r.answer)) (no_replies l.shown none))

  still_told : (s : ℕ) (x : SiteState) (t : Live) → plain_at w s ≡ Some x → Has x.live t → TellsCall catalogue more t.txn (length t.answers) t.pending t.ops
  still_told s x t up h = call_on catalogue lines l t.txn (length t.answers) t.ops t.pending (told_so_far.live s x t up h) (silent t.txn) (λ k above. unstepped t.txn k l none)

  still_unheard : (u : TxnId) → (UsedTxn w u → ⊥) → IsUnheard more u
  still_unheard u unused = unheard_on catalogue lines l u (told_so_far.fresh u unused) (silent u) (λ k. unstepped u k l none)

  still_kept : (s : ℕ) (x : SiteState) (a : Answer) → plain_at w s ≡ Some x → IsKept x a → IsReported more a
  still_kept s x a up h = reported_lasts lines l a (told_so_far.kept s x a up h)

  same_told : ToldAt catalogue w more
  same_told = record {
    known = told_so_far.known;
    live = still_told;
    entries = λ e h. tells_on catalogue lines l e.txn e.ops (told_so_far.entries e h) (silent e.txn);
    fresh = still_unheard;
    kept = still_kept;
  }

  -- a site goes down or starts again
  quiet_told : (s : ℕ) → Quiet catalogue w new s → Known catalogue new → ToldAt catalogue new more
  quiet_told s q n = record {
    known = n;
    live = λ j y t up h. still_told j y t (live_still catalogue w s j y t h (quiet_is catalogue w new s q j y up)) h;
    entries = λ e h. tells_on catalogue lines l e.txn e.ops (told_so_far.entries e (rw q.journal at h)) (silent e.txn);
    fresh = λ u unused. still_unheard u (λ used. unused (used_lasts w new s q.moved (quiet_grows catalogue w new s q) u used));
    kept = λ j y a up h. kept_at_site j y a h (quiet_is catalogue w new s q j y up);
  }
    where
      kept_at_site : (j : ℕ) (y : SiteState) (a : Answer) → IsKept y a → QuietIs catalogue w s j y → IsReported more a
      kept_at_site j y a h (QuietIs.other n old) = still_kept j y a old h
      kept_at_site j y a h (QuietIs.here e same) = absurd (starts_none catalogue s (kept_at w s) a (subst (λ (y : SiteState). IsKept y a) (sym same) h))

-- the moment of a step
pub is_step_of : (catalogue : Catalogue) (lines : List Line) (number : ℕ) (e : Event) (w v : WorldState) (s : ℕ) (x : SiteState) (given : Input) → scene_of v ≡ scene_of w → site_of w s ≡ Some x → Arrives (scene_of w) s given → Gives e w s given → ToldAt catalogue (scene_of w) lines → IsStep (moment number w e (site_step catalogue s x given v)) w s x given (step catalogue x given)
unfolding site_step
is_step_of catalogue lines number e w v s x given same up arrives gives told_so_far = record {
  before = refl;
  first = _;
  shown = refl;
  gives = gives;
  up = up;
  after = subst (λ (z : Scene). plain_at (acted z s x (step catalogue x given)) s ≡ Some (step catalogue x given).site) (sym same) d.st.now;
}
  where
    d : Does catalogue (scene_of w) (acted (scene_of w) s x (step catalogue x given)) s x given (step catalogue x given)
    d = does catalogue (scene_of w) s x given up arrives told_so_far.known

stepped : (catalogue : Catalogue) (lines : List Line) (number : ℕ) (e : Event) (w v : WorldState) (s : ℕ) (x : SiteState) (given : Input) → scene_of v ≡ scene_of w → site_of w s ≡ Some x → Arrives (scene_of w) s given → Gives e w s given → ToldAt catalogue (scene_of w) lines → ToldAt catalogue (scene_of (site_step catalogue s x given v).world) (lines ++ (moment number w e (site_step catalogue s x given v)).line ∷ [])
unfolding site_step
stepped catalogue lines number e w v s x given same up arrives gives told_so_far =
    let m0 = moment number w e (site_step catalogue s x given v) in
    subst (λ (z : Scene). ToldAt catalogue (acted z s x (step catalogue x given)) (lines ++ m0.line ∷ [])) (sym same) (step_told catalogue w lines m0 s x given up arrives (is_step_of catalogue lines number e w v s x given same up arrives gives told_so_far) told_so_far)

occurred : (catalogue : Catalogue) (lines : List Line) (number : ℕ) (e : Event) (w : WorldState) (m : Moved) → ToldAt catalogue (scene_of w) lines → Occurs catalogue e w m → ToldAt catalogue (scene_of m.world) (lines ++ (moment number w e m).line ∷ [])
occurred catalogue lines number e w m told_so_far (Occurs.stands same none) =
    rw same (same_told catalogue (scene_of w) (scene_of w) lines (moment number w e m).line none told_so_far)
occurred catalogue lines number e w m told_so_far (Occurs.crashes s same none) =
    rw same (quiet_told catalogue (scene_of w) (crashed (scene_of w) s) lines (moment number w e m).line none told_so_far s (crash_quiet catalogue (scene_of w) s) ((known_last catalogue).crashes (scene_of w) s told_so_far.known))
occurred catalogue lines number e w m told_so_far (Occurs.restarts s place at down id same none) =
    rw same (quiet_told catalogue (scene_of w) (restarted catalogue (scene_of w) s) lines (moment number w e m).line none told_so_far s (restart_quiet catalogue (scene_of w) s place at id) ((known_last catalogue).restarts (scene_of w) s place at down id told_so_far.known))
occurred catalogue lines number e w m told_so_far (Occurs.acts s x given v same up arrives gives is) =
    subst (λ (m : Moved). ToldAt catalogue (scene_of m.world) (lines ++ (moment number w e m).line ∷ [])) (sym is) (stepped catalogue lines number e w v s x given same up arrives gives told_so_far)

-- of a run so far
abbrev pub RunTold : Catalogue → Run → Type 0
RunTold catalogue run = ToldAt catalogue (scene_of run.world) (lines_in run.moments)

pub one_step-told : (catalogue : Catalogue) (number : ℕ) (e : Event) (run : Run) → RunTold catalogue run → RunTold catalogue (one_step catalogue number e run)
unfolding one_step
one_step-told catalogue number e run h =
    let moved = next catalogue e run.world in
    let m0 = moment number run.world e moved in
    subst (ToldAt catalogue (scene_of moved.world)) (sym (lines_last run.moments m0)) (occurred catalogue (lines_in run.moments) number e run.world moved h (occurs catalogue e run.world))

pub start_told : (catalogue : Catalogue) → ToldAt catalogue (scene_of (start_world catalogue)) []
start_told catalogue = record {
  known = known_starts catalogue;
  live = λ s x t h k. absurd (started_idle catalogue s x t h k);
  entries = λ e h. absurd (start_entered catalogue e h);
  fresh = λ u unused. record { unreported = refl; untaken = λ k. refl };
  kept = λ s x a h k. absurd (starts_none catalogue s (empty_durable (start_copies catalogue s)) a (subst (λ (x : SiteState). IsKept x a) (sym (started catalogue s x h)) k));
}

pub operations_told : (s : Schedule) → All (λ (commit : Commit). commit.ops ≡ told s.catalogue (lines_of s) commit.txn) (journal_of s)
operations_told s =
    let h = run-keeps s.catalogue (RunTold s.catalogue) (record { starts = start_told s.catalogue; steps = λ number e run h. one_step-told s.catalogue number e run h }) s.events in
    All-from_recursion _ (journal_of s) (all_of (λ (e : Commit). e.ops ≡ told s.catalogue (lines_of s) e.txn) (journal_of s) (λ e there. sym (h.entries e there).tells))
