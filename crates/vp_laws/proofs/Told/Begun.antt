-- Each committed transaction is of the view that its client was told as it began, and that its coordinator held.
use Rattle.std.proofs.Common.{◌≡◌, ◌≢◌, ◌⊎◌, ◌∙◌, ◌≤◌, ◌+◌, ap, sym, subst, ℕ, true, false, List, [], ◌∷◌, ◌++◌, refl, arith, ⊎_elim, append-nil}
use Rattle.std.specs.Prelude.{Some, filter_map, flat_map}
use Rattle.std.specs.List.{list_all}
use Rattle.std.proofs.lemmas.List.Elements.{All-from_recursion, filter_map-append}
use Rattle.vp_model.specs.Types.{TxnId, ViewId, Commit, Event, Input, Line, Reply, Live}
use Rattle.vp_model.specs.Catalogue.{Catalogue}
use Rattle.vp_model.specs.Durable.{DurableState}
use Rattle.vp_model.specs.Headline.{view_begun, views_told, is_of, is_in_its_view, commits_in, ViewsAreTrue}
use Rattle.vp_model.specs.Site.{SiteState, Stepped}
use Rattle.vp_model.specs.Step.{step}
use Rattle.vp_model.specs.Told.{is_step, answers_in, replies_in}
use Rattle.vp_model.specs.World.{WorldState, Moved, Moment, Run, Schedule, moment, next, one_step, site_step, start_world, site_of, lines_of, moments_of, journal_of}
use Rattle.vp_laws.proofs.Lists.Members.{Has, has_none, all_of, any_of}
use Rattle.vp_laws.proofs.Lists.Changes.{all_from}
use Rattle.vp_laws.proofs.Lists.Views.{same_from}
use Rattle.vp_laws.proofs.Moves.Table.{next_name}
use Rattle.vp_laws.proofs.Table.Begun.{Begins, LiveBegun, BegunNow, begun_among, none_among, one_among, others_among, begun-step}
use Rattle.vp_laws.proofs.Table.ToldLines.{flat_last, lines_in, lines_last}
use Rattle.vp_laws.proofs.Worlds.Scenes.{Scene, scene_of, plain_at, kept_at, acted}
use Rattle.vp_laws.proofs.Worlds.Events.{Arrives, crashed, restarted, in_each}
use Rattle.vp_laws.proofs.Worlds.Sites.{Quiet, crash_quiet, restart_quiet, NowIs, now_is, start_entered, started_idle, live_still, quiet_is}
use Rattle.vp_laws.proofs.Worlds.Occurs.{no_replies, Occurs, occurs, RunLasts, run-keeps}
use Rattle.vp_laws.proofs.Worlds.Moments.{MomentOf, moment_of}
use Rattle.vp_laws.proofs.Invariant.Names.{UsedTxn}
use Rattle.vp_laws.proofs.Invariant.Known.{Known}
use Rattle.vp_laws.proofs.Keeping.Does.{Does, does}
use Rattle.vp_laws.proofs.Keeping.Endings.{fresh}
use Rattle.vp_laws.proofs.Keeping.Known.{known_last, known_starts, known_acts}
use Rattle.vp_laws.proofs.Keeping.Names.{used_lasts, own_used, quiet_grows}
use Rattle.vp_laws.proofs.Keeping.NewEntries.{entering, entering_agreed}

-- the next name has no entry
pub next_not_entered : (catalogue : Catalogue) (w : Scene) (s : ℕ) (x : SiteState) → Known catalogue w → plain_at w s ≡ Some x → (c : Commit) → Has w.journal c → c.txn ≢ next_name x
next_not_entered catalogue w s x k up c h = fresh w s x up (k.views.site s x up).id c.txn (k.names.entry c h).0

told_last : (lines : List Line) (l : Line) (u : TxnId) → views_told (lines ++ l ∷ []) u ≡ views_told lines u ++ filter_map (view_begun u) (answers_in l)
told_last lines l u = ap (filter_map (view_begun u)) (flat_last answers_in lines l) ∙ filter_map-append (view_begun u) (flat_map answers_in lines) (answers_in l)

pub record ViewsAt (w : Scene) (lines : List Line) : Type 0 where
  -- of each live transaction its client was told one view, and it is in that
  pub live : (s : ℕ) (x : SiteState) (t : Live) → plain_at w s ≡ Some x → Has x.live t → views_told lines t.txn ≡ t.view ∷ []
  -- so of each entry
  pub entries : (e : Commit) → Has w.journal e → views_told lines e.txn ≡ e.view ∷ []
  -- of a name that was not used none was told
  pub fresh : (u : TxnId) → (UsedTxn w u → ⊥) → views_told lines u ≡ []

module _ (catalogue : Catalogue) (w : Scene) (lines : List Line) (l : Line) (s : ℕ) (x : SiteState) (given : Input) (up : plain_at w s ≡ Some x) (arrives : Arrives w s given) (k : Known catalogue w) (shown : replies_in l.shown ≡ (step catalogue x given).effects.replies) (h : ViewsAt w lines) where
  abbrev o : Stepped
  o = step catalogue x given

  abbrev new : Scene
  new = acted w s x o

  abbrev more : List Line
  more = lines ++ l ∷ []

  d : Does catalogue w new s x given o
  d = does catalogue w s x given up arrives k

  b : BegunNow x o.site.coordinator o.effects.replies
  b = begun-step catalogue x given (k.repeated.site s x up) (k.votes.site s x up)

  told_now : (u : TxnId) → views_told more u ≡ views_told lines u ++ begun_among u o.effects.replies
  told_now u = told_last lines l u ∙ ap (λ (rs : List Reply). views_told lines u ++ begun_among u rs) shown

  same_told : (u : TxnId) → begun_among u o.effects.replies ≡ [] → views_told more u ≡ views_told lines u
  same_told u none = told_now u ∙ ap (λ (vs : List ViewId). views_told lines u ++ vs) none ∙ append-nil (views_told lines u)

  others : (u : TxnId) → next_name x ≢ u → views_told more u ≡ views_told lines u
  others u n = same_told u (go b.replies)
    where
      go : Begins x o.site.coordinator o.effects.replies → begun_among u o.effects.replies ≡ []
      go (Begins.none_now same none) = none_among u o.effects.replies none
      go (Begins.next_now port view rest same is none) = ap (begun_among u) is ∙ others_among u (next_name x) view port rest n none

  named_not : (t : Live) → Has x.live t → next_name x ≢ t.txn
  named_not t there e = fresh w s x up d.here.id t.txn (own_used w s x up d.here.id (ap (λ (d : DurableState). d.life) (sym d.here.kept)) d.led t there) (sym e)

  here_told : (t : Live) → LiveBegun x o.effects.replies t → views_told more t.txn ≡ t.view ∷ []
  here_told t (LiveBegun.was u there named viewed) =
      subst (λ (n : TxnId). views_told more n ≡ t.view ∷ []) named
      (others u.txn (named_not u there) ∙ h.live s x u up there ∙ ap (λ (v : ViewId). v ∷ []) viewed)
  here_told t (LiveBegun.begins port rest named is none) =
      let next = next_name x in
      let unused : views_told lines next ≡ [] = h.fresh next (λ used. fresh w s x up d.here.id next used refl) in
      subst (λ (n : TxnId). views_told more n ≡ t.view ∷ []) (sym named)
      (told_now next ∙ ap (λ (vs : List ViewId). vs ++ begun_among next o.effects.replies) unused ∙ ap (begun_among next) is ∙ one_among next t.view port rest none)

  live_told : (j : ℕ) (y : SiteState) (t : Live) → Has y.live t → NowIs w s o.site j y → views_told more t.txn ≡ t.view ∷ []
  live_told j y t there (NowIs.here e same) = here_told t (b.live t (subst (λ (y : SiteState). Has y.live t) (sym same) there))
  live_told j y t there (NowIs.other away old) =
      let site : t.txn.site ≡ j = ((k.led.site j y old).names t there).0 ∙ (k.views.site j y old).id in
      others t.txn (λ e. away (sym site ∙ ap (λ (n : TxnId). n.site) (sym e) ∙ d.here.id)) ∙ h.live j y t old there

  entry_told : (e : Commit) → Has w.journal e ⊎ Has o.effects.commits e → views_told more e.txn ≡ e.view ∷ []
  entry_told e = ⊎_elim
      (λ old. others e.txn (λ named. next_not_entered catalogue w s x k up e old (sym named)) ∙ h.entries e old)
      (λ added.
      let f = entering catalogue w new s x given o k (known_acts catalogue w s x given up arrives k) d e added in
      subst (λ (n : TxnId). views_told more n ≡ e.view ∷ []) f.named
      (others f.was.txn (named_not f.was f.live) ∙ h.live s x f.was up f.live ∙ ap (λ (v : ViewId). v ∷ []) f.viewed))

  used_now : (u : TxnId) → UsedTxn w u → UsedTxn new u
  used_now u used = used_lasts w new s d.st.moved d.grows u used

  fresh_told : (u : TxnId) → (UsedTxn new u → ⊥) → views_told more u ≡ []
  fresh_told u unused = go b.replies ∙ h.fresh u (λ used. unused (used_now u used))
    where
      go : Begins x o.site.coordinator o.effects.replies → views_told more u ≡ views_told lines u
      go (Begins.none_now same none) = same_told u (none_among u o.effects.replies none)
      go (Begins.next_now port view rest same is none) = others u (λ (e : next_name x ≡ u). unused (subst (UsedTxn new) e begins_used))
        where
          life_now : x.life ≤ (kept_at new x.id).life
          life_now = subst (λ (j : ℕ). x.life ≤ (kept_at new j).life) (sym d.here.id) (subst (λ (n : ℕ). n ≤ (kept_at new s).life) (ap (λ (d : DurableState). d.life) (sym d.here.kept)) d.grows.life)

          rises : x.seq + 1 ≤ o.site.seq
          rises = omega (arith, same)

          given_now : (y : SiteState) → plain_at new x.id ≡ Some y → x.seq + 1 ≤ y.seq
          given_now y at = let there : plain_at new s ≡ Some y = subst (λ (j : ℕ). plain_at new j ≡ Some y) d.here.id at in let now = d.st.now in let is : o.site ≡ y = cc in subst (λ (y : SiteState). x.seq + 1 ≤ y.seq) is rises

          begins_used : UsedTxn new (next_name x)
          begins_used = record { life = life_now; seq = λ y at lives. given_now y at }

  step_told : ViewsAt new more
  step_told = record {
    live = λ j y t at there. live_told j y t there (now_is w new s x o d.st j y at);
    entries = λ e there. entry_told e (d.st.entered e there);
    fresh = fresh_told;
  }

-- a line that shows no step
module _ (catalogue : Catalogue) (w : Scene) (lines : List Line) (l : Line) (none : is_step l.shown ≡ false) (h : ViewsAt w lines) where
  silent : (u : TxnId) → views_told (lines ++ l ∷ []) u ≡ views_told lines u
  silent u = told_last lines l u ∙ ap (λ (rs : List Reply). views_told lines u ++ begun_among u rs) (no_replies l.shown none) ∙ append-nil (views_told lines u)

  same_at : ViewsAt w (lines ++ l ∷ [])
  same_at = record {
    live = λ s x t up there. silent t.txn ∙ h.live s x t up there;
    entries = λ e there. silent e.txn ∙ h.entries e there;
    fresh = λ u unused. silent u ∙ h.fresh u unused;
  }

  -- a site goes down or starts again
  quiet_at : (new : Scene) (s : ℕ) → Quiet catalogue w new s → ViewsAt new (lines ++ l ∷ [])
  quiet_at new s q = record {
    live = λ j y t up there. silent t.txn ∙ h.live j y t (live_still catalogue w s j y t there (quiet_is catalogue w new s q j y up)) there;
    entries = λ e there. silent e.txn ∙ h.entries e (rw q.journal at there);
    fresh = λ u unused. silent u ∙ h.fresh u (λ used. unused (used_lasts w new s q.moved (quiet_grows catalogue w new s q) u used));
  }

abbrev KnownViews : Catalogue → Scene → List Line → Type 0
KnownViews catalogue w lines = Known catalogue w × ViewsAt w lines

stepped : (catalogue : Catalogue) (lines : List Line) (number : ℕ) (e : Event) (w v : WorldState) (s : ℕ) (x : SiteState) (given : Input) → scene_of v ≡ scene_of w → site_of w s ≡ Some x → Arrives (scene_of w) s given → KnownViews catalogue (scene_of w) lines → KnownViews catalogue (scene_of (site_step catalogue s x given v).world) (lines ++ (moment number w e (site_step catalogue s x given v)).line ∷ [])
unfolding site_step
stepped catalogue lines number e w v s x given same up arrives h =
    subst (λ (z : Scene). KnownViews catalogue (acted z s x (step catalogue x given)) (lines ++ (moment number w e (site_step catalogue s x given v)).line ∷ [])) (sym same)
    (known_acts catalogue (scene_of w) s x given up arrives h.0, step_told catalogue (scene_of w) lines (moment number w e (site_step catalogue s x given v)).line s x given up arrives h.0 refl h.1)

occurred : (catalogue : Catalogue) (lines : List Line) (number : ℕ) (e : Event) (w : WorldState) (m : Moved) → KnownViews catalogue (scene_of w) lines → Occurs catalogue e w m → KnownViews catalogue (scene_of m.world) (lines ++ (moment number w e m).line ∷ [])
occurred catalogue lines number e w m h (Occurs.stands same none) = rw same (h.0, same_at catalogue (scene_of w) lines (moment number w e m).line none h.1)
occurred catalogue lines number e w m h (Occurs.crashes s same none) =
    rw same ((known_last catalogue).crashes (scene_of w) s h.0, quiet_at catalogue (scene_of w) lines (moment number w e m).line none h.1 (crashed (scene_of w) s) s (crash_quiet catalogue (scene_of w) s))
occurred catalogue lines number e w m h (Occurs.restarts s place at down id same none) =
    rw same ((known_last catalogue).restarts (scene_of w) s place at down id h.0, quiet_at catalogue (scene_of w) lines (moment number w e m).line none h.1 (restarted catalogue (scene_of w) s) s (restart_quiet catalogue (scene_of w) s place at id))
occurred catalogue lines number e w m h (Occurs.acts s x given v same up arrives gives is) =
    subst (λ (m : Moved). KnownViews catalogue (scene_of m.world) (lines ++ (moment number w e m).line ∷ [])) (sym is) (stepped catalogue lines number e w v s x given same up arrives h)

one_step-views : (catalogue : Catalogue) (number : ℕ) (e : Event) (run : Run) → KnownViews catalogue (scene_of run.world) (lines_in run.moments) → KnownViews catalogue (scene_of (one_step catalogue number e run).world) (lines_in (one_step catalogue number e run).moments)
unfolding one_step
one_step-views catalogue number e run h =
    let moved = next catalogue e run.world in
    let m0 = moment number run.world e moved in
    subst (KnownViews catalogue (scene_of moved.world)) (sym (lines_last run.moments m0)) (occurred catalogue (lines_in run.moments) number e run.world moved h (occurs catalogue e run.world))

start_views : (catalogue : Catalogue) → ViewsAt (scene_of (start_world catalogue)) []
start_views catalogue = record { live = λ s x t up there. absurd (started_idle catalogue s x t up there); entries = λ e there. absurd (start_entered catalogue e there); fresh = λ u unused. refl }

views_last : (catalogue : Catalogue) → RunLasts catalogue (λ run. KnownViews catalogue (scene_of run.world) (lines_in run.moments))
views_last catalogue = record { starts = (known_starts catalogue, start_views catalogue); steps = λ number e run h. one_step-views catalogue number e run h }

-- the coordinator of a new entry holds its view, and that is agreed
held_at : (s : Schedule) (m : Moment) → Has (moments_of s) m → (e : Commit) → Has (commits_in m.line.shown) e → is_in_its_view m.before e ≡ true
held_at s m there e h = go (moment_of s.catalogue (Known s.catalogue) (known_last s.catalogue) (λ w. Unit {0}) (λ w what new is a b u. tt) s.events m there)
  where
    known : Known s.catalogue (scene_of m.before)
    known = (in_each s.catalogue (Known s.catalogue) (known_last s.catalogue) s.events m there).0

    go : MomentOf s.catalogue (scene_of m.before) m.line.shown (scene_of m.after) → is_in_its_view m.before e ≡ true
    go (MomentOf.same is r c) = absurd (has_none e (subst (λ (cs : List Commit). Has cs e) c h))
    go (MomentOf.quiet j q r c) = absurd (has_none e (subst (λ (cs : List Commit). Has cs e) c h))
    go (MomentOf.steps j x given first up r is after) =
        let w = scene_of m.before in
        let o = step s.catalogue x given in
        let f = entering s.catalogue w (acted w j x o) j x given o known (known_acts s.catalogue w j x given up r known) (does s.catalogue w j x given up r known) e (subst (λ (cs : List Commit). Has cs e) (ap commits_in is) h) in
        let agreed = entering_agreed s.catalogue w (acted w j x o) j x given o known (known_acts s.catalogue w j x given up r known) (does s.catalogue w j x given up r known) e f in
        let viewed : is_of e f.view ≡ true = same_from f.view.id e.view f.is in
        let site : site_of m.before e.txn.site ≡ Some x = ap (site_of m.before) f.site ∙ up in
        let any = any_of (is_of e) m.before.agreed f.view agreed.0 viewed in
        let held = f.held in
        rw (site, held, viewed) any

pub views_true : (s : Schedule) → ViewsAreTrue s
views_true s =
    let h = (run-keeps s.catalogue (λ run. KnownViews s.catalogue (scene_of run.world) (lines_in run.moments)) (views_last s.catalogue) s.events).1 in
    record {
      told = All-from_recursion _ (journal_of s) (all_of (λ (e : Commit). views_told (lines_of s) e.txn ≡ e.view ∷ []) (journal_of s) h.entries);
      held = all_from (λ (m : Moment). list_all (is_in_its_view m.before) (commits_in m.line.shown)) (moments_of s) (λ m there. all_from (is_in_its_view m.before) (commits_in m.line.shown) (held_at s m there));
    }
