-- In every schedule each transaction is committed with the tables that its client was told.
use Rattle.std.proofs.Common.{◌≡◌, ◌≢◌, ◌⊎◌, ◌∙◌, ap, sym, subst, ℕ, ◌+◌, List, [], ◌∷◌, ◌++◌, map, refl, ⊎_elim, length, length-append}
use Rattle.std.specs.Prelude.{Some, All, false, nat_eq, nat_lt, filter_map}
use Rattle.std.proofs.lemmas.List.Elements.{All-from_recursion}
use Rattle.vp_model.specs.Types.{TxnId, Answer, Commit, Event, Input, Line, Live, Pending, Reply}
use Rattle.vp_model.specs.Words.{put_number, for_each}
use Rattle.vp_model.specs.Catalogue.{Catalogue, Table, start_copies}
use Rattle.vp_model.specs.Durable.{DurableState, empty_durable}
use Rattle.vp_model.specs.Site.{SiteState, Lent, Stepped}
use Rattle.vp_model.specs.Transactions.{Deed, deed_answer, with_table}
use Rattle.vp_model.specs.Step.{step}
use Rattle.vp_model.specs.Told.{is_step, answers_in, weighed, weighed_in, told_tables}
use Rattle.vp_model.specs.World.{WorldState, Moved, Moment, Run, Schedule, moment, next, one_step, site_step, start_world, lines_of, journal_of}
use Rattle.vp_model.proofs.SameTxn.{same_txn-self}
use Rattle.vp_laws.proofs.Lists.Members.{Has, all_of}
use Rattle.vp_laws.proofs.Lists.Changes.{put_new}
use Rattle.vp_laws.proofs.Moves.Table.{next_name, Completes}
use Rattle.vp_laws.proofs.Moves.Reasons.{IsDone, told_to}
use Rattle.vp_laws.proofs.Table.Led.{Led}
use Rattle.vp_laws.proofs.Table.Endings.{NotLive}
use Rattle.vp_laws.proofs.Table.ToldLines.{lines_in, lines_last}
use Rattle.vp_laws.proofs.Table.Heard.{unheard_weigh, same_weighs}
use Rattle.vp_laws.proofs.Table.Told.{SaysDone, completed_says, heard_of, IsKept, Repeats, AreLate, LiveTold, ToldNow, told-step}
use Rattle.vp_laws.proofs.Table.Weighs.{gathered, numbers-last, numbers_rise, numbers-silent, gathered_same, TellsTables, no_tables, tables_wider, tables_on, tables_next, IsWeighed, weighed_lasts, weigh_asked, no_weigh}
use Rattle.vp_laws.proofs.Worlds.Scenes.{Scene, scene_of, plain_at, kept_at, acted}
use Rattle.vp_laws.proofs.Worlds.Events.{Arrives, crashed, restarted}
use Rattle.vp_laws.proofs.Worlds.Sites.{Quiet, QuietIs, quiet_is, crash_quiet, restart_quiet, NowIs, now_is, started, start_entered, started_idle, live_still}
use Rattle.vp_laws.proofs.Worlds.Occurs.{no_replies, Occurs, occurs, RunLasts, run-keeps}
use Rattle.vp_laws.proofs.Invariant.Views.{SiteOk}
use Rattle.vp_laws.proofs.Invariant.Names.{UsedTxn}
use Rattle.vp_laws.proofs.Invariant.Known.{Known}
use Rattle.vp_laws.proofs.Replies.FairStep.{IsStep}
use Rattle.vp_laws.proofs.Keeping.Does.{Does, does}
use Rattle.vp_laws.proofs.Keeping.Endings.{fresh}
use Rattle.vp_laws.proofs.Keeping.Names.{used_lasts, own_used, quiet_grows}
use Rattle.vp_laws.proofs.Told.At.{ToldAt}
use Rattle.vp_laws.proofs.Told.Moves.{same_or_not, done_number, done_call, kept_here}
use Rattle.vp_laws.proofs.Told.Runs.{RunTold, start_told, one_step-told, starts_none, is_step_of}

pub record WeighsAt (catalogue : Catalogue) (w : Scene) (lines : List Line) : Type 0 where
  -- the lines tell each live transaction's tables
  pub live : (s : ℕ) (x : SiteState) (t : Live) → plain_at w s ≡ Some x → Has x.live t → TellsTables catalogue lines t.txn (length t.answers) t.tables
  -- and each entry's
  pub entries : (e : Commit) → Has w.journal e → (last : ℕ) × TellsTables catalogue lines e.txn last e.tables
  -- of a transaction whose name was not used they tell none
  pub fresh : (u : TxnId) → (UsedTxn w u → ⊥) → weighed_in lines u ≡ []
  -- an answer that a site keeps was given
  pub kept : (s : ℕ) (x : SiteState) (a : Answer) → plain_at w s ≡ Some x → IsKept x a → IsWeighed lines a

-- the same transaction by its fields
moved_tells : (catalogue : Catalogue) (ls : List Line) (txn named : TxnId) (tables gave : List (ℕ × Table)) (answers told : List Answer) → txn ≡ named → tables ≡ gave → answers ≡ told → TellsTables catalogue ls txn (length answers) tables → TellsTables catalogue ls named (length told) gave
moved_tells catalogue ls txn named tables gave answers told a b c h = rw (← a, ← b, ← c) h

module _ (catalogue : Catalogue) (world : WorldState) (lines : List Line) (m0 : Moment) (s : ℕ) (x : SiteState) (given : Input) (up : plain_at (scene_of world) s ≡ Some x) (arrives : Arrives (scene_of world) s given) (is : IsStep m0 world s x given (step catalogue x given)) (told : ToldAt catalogue (scene_of world) lines) (h : WeighsAt catalogue (scene_of world) lines) where
  abbrev w : Scene
  w = scene_of world

  abbrev o : Stepped
  o = step catalogue x given

  abbrev new : Scene
  new = acted w s x o

  abbrev more : List Line
  more = lines ++ m0.line ∷ []

  abbrev answers : List Answer
  answers = map (λ (r : Reply). r.answer) o.effects.replies

  k : Known catalogue w
  k = told.known

  d : Does catalogue w new s x given o
  d = does catalogue w s x given up arrives k

  t : ToldNow catalogue x given o.site.coordinator o.effects.replies o.effects.commits
  t = told-step catalogue x given (k.votes.site s x up)

  ok : SiteOk w s x
  ok = k.views.site s x up

  led : Led x
  led = k.led.site s x up

  answered : answers_in m0.line ≡ answers
  answered = rw is.shown refl

  numbers_now : (u : TxnId) → weighed_in more u ≡ gathered u answers (weighed_in lines u)
  numbers_now u = numbers-last lines m0.line u ∙ ap (λ (z : List Answer). gathered u z (weighed_in lines u)) answered

  pub same_numbers : (u : TxnId) → Repeats x u o.effects.replies → weighed_in more u ≡ weighed_in lines u
  same_numbers u repeats = numbers_now u ∙ gathered_same u o.effects.replies (weighed_in lines u) (numbers_rise lines u) (λ r there n e. ⊎_elim
      (λ none. absurd (let z = unheard_weigh u r.answer none in cc))
      (λ kept. h.kept s x r.answer up kept u n e)
      (repeats r there))

  -- what is heard of a call that is done
  done_numbers : (u : Live) (p : Pending) (deed : Deed) → heard_of u.txn o.effects.replies ≡ heard_of u.txn (told_to p.port (deed_answer u.txn p.number deed) ∷ []) → weighed_in more u.txn ≡ for_each (filter_map (weighed u.txn) (deed_answer u.txn p.number deed ∷ [])) put_number (weighed_in lines u.txn)
  done_numbers u p deed one = numbers_now u.txn ∙ ap (λ (ns : List ℕ). for_each ns put_number (weighed_in lines u.txn)) (same_weighs u.txn answers (deed_answer u.txn p.number deed ∷ []) one)

  done_tables : (u : Live) (p : Pending) (deed : Deed) (l : Lent) → Has x.live u → IsDone x given u p → Completes catalogue x given u p deed l → heard_of u.txn o.effects.replies ≡ heard_of u.txn (told_to p.port (deed_answer u.txn p.number deed) ∷ []) → AreLate o.effects.replies
      → TellsTables catalogue more u.txn (length u.answers + 1) (with_table deed u.tables)
  done_tables u p (Deed.operates operation) l here how c one late =
      tables_wider catalogue more u.txn (length u.answers) u.tables
      (tables_on catalogue lines m0.line u.txn (length u.answers) u.tables (h.live s x u up here)
      (done_numbers u p (Deed.operates operation) one ∙ ap (λ (ns : List ℕ). for_each ns put_number (weighed_in lines u.txn)) (no_weigh u.txn p.number operation)))
  done_tables u p (Deed.weighs rec table) l here how c one late =
      tables_next catalogue lines m0.line u.txn (length u.answers) u.tables p.call rec table (h.live s x u up here)
      (done_numbers u p (Deed.weighs rec table) one ∙ ap (λ (ns : List ℕ). for_each ns put_number (weighed_in lines u.txn)) its_own)
      (done_call catalogue world lines m0 s x given up arrives is told u p here how late)
      (weigh_asked catalogue x given u p rec table l c)
    where
      number : p.number ≡ length u.answers + 1
      number = done_number catalogue world lines m0 s x given up arrives is told u p here how

      its_own : filter_map (weighed u.txn) (deed_answer u.txn p.number (Deed.weighs rec table) ∷ []) ≡ (length u.answers + 1) ∷ []
      its_own = let self = same_txn-self u.txn in rw (self, number) refl

  live_tables : (a : Live) → LiveTold catalogue x given o.effects.replies a → TellsTables catalogue more a.txn (length a.answers) a.tables
  live_tables a (LiveTold.was u here named did gave same pending repeats) =
      let r : Repeats x u.txn o.effects.replies = subst (λ (txn : TxnId). Repeats x txn o.effects.replies) (sym named) repeats in
      let was = h.live s x u up here in
      moved_tells catalogue more u.txn a.txn u.tables a.tables u.answers a.answers named gave same (tables_on catalogue lines m0.line u.txn (length u.answers) u.tables was (same_numbers u.txn r))
  live_tables a (LiveTold.goes u p q at named did gave same pending alike repeats late) =
      let r : Repeats x u.txn o.effects.replies = subst (λ (txn : TxnId). Repeats x txn o.effects.replies) (sym named) repeats in
      let was = h.live s x u up at.live in
      moved_tells catalogue more u.txn a.txn u.tables a.tables u.answers a.answers named gave same (tables_on catalogue lines m0.line u.txn (length u.answers) u.tables was (same_numbers u.txn r))
  live_tables a (LiveTold.completed u p deed l here how c made one late) =
      subst (λ (a : Live). TellsTables catalogue more a.txn (length a.answers) a.tables) made
      (subst (λ (n : ℕ). TellsTables catalogue more u.txn n (with_table deed u.tables)) (sym (length-append u.answers (deed_answer u.txn p.number deed ∷ []))) (done_tables u p deed l here how c one late))
  live_tables a (LiveTold.begins port view c made repeats) =
      let name = next_name x in
      let none : weighed_in lines name ≡ [] = h.fresh name (λ used. fresh w s x up ok.id name used refl) in
      let r : Repeats x name o.effects.replies = subst (λ (txn : TxnId). Repeats x txn o.effects.replies) (sym (ap (λ (t : Live). t.txn) made)) repeats in
      subst (λ (a : Live). TellsTables catalogue more a.txn (length a.answers) a.tables) made (no_tables catalogue more name (same_numbers name r ∙ none))

  own_site : (u : Live) → Has x.live u → u.txn.site ≡ s
  own_site u here = (led.names u here).0 ∙ ok.id

  elsewhere : (j : ℕ) (y : SiteState) (a : Live) → j ≢ s → plain_at w j ≡ Some y → Has y.live a → TellsTables catalogue more a.txn (length a.answers) a.tables
  elsewhere j y a away at here =
      let site : a.txn.site ≡ j = ((k.led.site j y at).names a here).0 ∙ (k.views.site j y at).id in
      let gone : NotLive x.live a.txn = (λ v q e. away (sym site ∙ ap (λ (t : TxnId). t.site) (sym e) ∙ own_site v q)) in
      let was = h.live j y a at here in
      tables_on catalogue lines m0.line a.txn (length a.answers) a.tables was (same_numbers a.txn (t.others a.txn gone))

  live_now : (j : ℕ) (y : SiteState) (a : Live) → Has y.live a → NowIs w s o.site j y → TellsTables catalogue more a.txn (length a.answers) a.tables
  live_now j y a here (NowIs.other away old) = elsewhere j y a away old here
  live_now j y a here (NowIs.here at same) = live_tables a (t.live a (subst (λ (y : SiteState). Has y.live a) (sym same) here))

  entry_now : (e : Commit) → Has w.journal e ⊎ Has o.effects.commits e → (last : ℕ) × TellsTables catalogue more e.txn last e.tables
  entry_now e = ⊎_elim
      (λ old.
      let gone : NotLive x.live e.txn = (λ v q same. k.ends.entry e old x (rw (ap (λ (t : TxnId). t.site) (sym same) ∙ own_site v q) up) v q same) in
      let was = h.entries e old in
      (was.0, tables_on catalogue lines m0.line e.txn was.0 e.tables was.1 (same_numbers e.txn (t.others e.txn gone))))
      (λ added.
      let q = d.steps.entered e added in
      let u = q.handled.was in
      let txn : u.txn ≡ e.txn = sym (ap (λ (t : Live). t.txn) q.handled.same) ∙ ap (λ (c : Commit). c.txn) q.is in
      let tables : u.tables ≡ e.tables = sym (ap (λ (t : Live). t.tables) q.handled.same) ∙ ap (λ (c : Commit). c.tables) q.is in
      let was : TellsTables catalogue lines e.txn (length u.answers) e.tables = subst (λ (n : TxnId). TellsTables catalogue lines n (length u.answers) e.tables) txn (subst (λ (ts : List (ℕ × Table)). TellsTables catalogue lines u.txn (length u.answers) ts) tables (h.live s x u up q.handled.live)) in
      (length u.answers, tables_on catalogue lines m0.line e.txn (length u.answers) e.tables was (same_numbers e.txn (t.entered e added))))

  life_was : (kept_at w s).life ≡ x.life
  life_was = ap (λ (d : DurableState). d.life) (sym ok.kept)

  used_now : (u : TxnId) → UsedTxn w u → UsedTxn new u
  used_now u used = used_lasts w new s d.st.moved d.grows u used

  fresh_now : (u : TxnId) → (UsedTxn new u → ⊥) → weighed_in more u ≡ []
  fresh_now u unused =
      let gone : NotLive x.live u = (λ v here e. unused (used_now u (subst (UsedTxn w) e (own_used w s x up ok.id life_was led v here)))) in
      let none : weighed_in lines u ≡ [] = h.fresh u (λ used. unused (used_now u used)) in
      same_numbers u (t.others u gone) ∙ none

  done_weighed : (u : Live) (p : Pending) (deed : Deed) → SaysDone catalogue u.txn p deed → heard_of u.txn o.effects.replies ≡ heard_of u.txn (told_to p.port (deed_answer u.txn p.number deed) ∷ []) → IsWeighed more (deed_answer u.txn p.number deed)
  done_weighed u p deed says one v n e = ⊎_elim
      (λ (mine : u.txn ≡ v). subst (λ (v : TxnId). Has (weighed_in more v) n) mine (its_own (ap (λ (v : TxnId). weighed v (deed_answer u.txn p.number deed)) mine ∙ e)))
      (λ (other : u.txn ≢ v). absurd (let z = unheard_weigh v _ (says.others v other) in cc))
      (same_or_not u.txn v)
    where
      its_own : weighed u.txn (deed_answer u.txn p.number deed) ≡ Some n → Has (weighed_in more u.txn) n
      its_own same =
          let only : filter_map (weighed u.txn) (deed_answer u.txn p.number deed ∷ []) ≡ n ∷ [] = rw same refl in
          let now : weighed_in more u.txn ≡ put_number n (weighed_in lines u.txn) = done_numbers u p deed one ∙ ap (λ (ns : List ℕ). for_each ns put_number (weighed_in lines u.txn)) only in
          rw now (put_new nat_eq nat_lt n (weighed_in lines u.txn))

  kept_now : (j : ℕ) (y : SiteState) (a : Answer) → IsKept y a → NowIs w s o.site j y → IsWeighed more a
  kept_now j y a keeps (NowIs.other away old) = weighed_lasts lines m0.line a (h.kept j y a old keeps)
  kept_now j y a keeps (NowIs.here at same) =
      kept_here catalogue world lines m0 s x given up arrives is told (IsWeighed more)
      (λ a keeps. weighed_lasts lines m0.line a (h.kept s x a up keeps))
      (λ a none u n e. absurd (let z = unheard_weigh u a (none u) in cc))
      (λ u p deed l here how c one late. done_weighed u p deed (completed_says catalogue x given u p deed l c) one)
      a (subst (λ (y : SiteState). IsKept y a) (sym same) keeps)

  step_weighs : WeighsAt catalogue new more
  step_weighs = record {
    live = λ j y a at here. live_now j y a here (now_is w new s x o d.st j y at);
    entries = λ e here. entry_now e (d.st.entered e here);
    fresh = fresh_now;
    kept = λ j y a at keeps. kept_now j y a keeps (now_is w new s x o d.st j y at);
  }

-- a line that shows no step
module _ (catalogue : Catalogue) (w : Scene) (lines : List Line) (l : Line) (none : is_step l.shown ≡ false) (h : WeighsAt catalogue w lines) where
  silent : (u : TxnId) → weighed_in (lines ++ l ∷ []) u ≡ weighed_in lines u
  silent u = numbers-silent lines l u (ap (map (λ (r : Reply). r.answer)) (no_replies l.shown none))

  still : (s : ℕ) (x : SiteState) (t : Live) → plain_at w s ≡ Some x → Has x.live t → TellsTables catalogue (lines ++ l ∷ []) t.txn (length t.answers) t.tables
  still s x t up here = tables_on catalogue lines l t.txn (length t.answers) t.tables (h.live s x t up here) (silent t.txn)

  entries_still : (e : Commit) → Has w.journal e → (last : ℕ) × TellsTables catalogue (lines ++ l ∷ []) e.txn last e.tables
  entries_still e here = let was = h.entries e here in (was.0, tables_on catalogue lines l e.txn was.0 e.tables was.1 (silent e.txn))

  same_at : WeighsAt catalogue w (lines ++ l ∷ [])
  same_at = record {
    live = still;
    entries = entries_still;
    fresh = λ u unused. silent u ∙ h.fresh u unused;
    kept = λ s x a up keeps. weighed_lasts lines l a (h.kept s x a up keeps);
  }

  -- a site goes down or starts again
  quiet_at : (new : Scene) (s : ℕ) → Quiet catalogue w new s → WeighsAt catalogue new (lines ++ l ∷ [])
  quiet_at new s q = record {
    live = λ j y t up here. still j y t (live_still catalogue w s j y t here (quiet_is catalogue w new s q j y up)) here;
    entries = λ e here. entries_still e (rw q.journal at here);
    fresh = λ u unused. silent u ∙ h.fresh u (λ used. unused (used_lasts w new s q.moved (quiet_grows catalogue w new s q) u used));
    kept = λ j y a up keeps. kept_at_site j y a keeps (quiet_is catalogue w new s q j y up);
  }
    where
      kept_at_site : (j : ℕ) (y : SiteState) (a : Answer) → IsKept y a → QuietIs catalogue w s j y → IsWeighed (lines ++ l ∷ []) a
      kept_at_site j y a keeps (QuietIs.other n old) = weighed_lasts lines l a (h.kept j y a old keeps)
      kept_at_site j y a keeps (QuietIs.here e same) = absurd (starts_none catalogue s (kept_at w s) a (subst (λ (y : SiteState). IsKept y a) (sym same) keeps))

occurred : (catalogue : Catalogue) (lines : List Line) (number : ℕ) (e : Event) (w : WorldState) (m : Moved) → ToldAt catalogue (scene_of w) lines → WeighsAt catalogue (scene_of w) lines → Occurs catalogue e w m → WeighsAt catalogue (scene_of m.world) (lines ++ (moment number w e m).line ∷ [])
unfolding site_step
occurred catalogue lines number e w m told h (Occurs.stands same none) = rw same (same_at catalogue (scene_of w) lines (moment number w e m).line none h)
occurred catalogue lines number e w m told h (Occurs.crashes s same none) = rw same (quiet_at catalogue (scene_of w) lines (moment number w e m).line none h (crashed (scene_of w) s) s (crash_quiet catalogue (scene_of w) s))
occurred catalogue lines number e w m told h (Occurs.restarts s place at down id same none) =
    rw same (quiet_at catalogue (scene_of w) lines (moment number w e m).line none h (restarted catalogue (scene_of w) s) s (restart_quiet catalogue (scene_of w) s place at id))
occurred catalogue lines number e w m told h (Occurs.acts s x given v same up arrives gives is) =
    subst (λ (m : Moved). WeighsAt catalogue (scene_of m.world) (lines ++ (moment number w e m).line ∷ [])) (sym is)
    (subst (λ (z : Scene). WeighsAt catalogue (acted z s x (step catalogue x given)) (lines ++ (moment number w e (site_step catalogue s x given v)).line ∷ [])) (sym same)
    (step_weighs catalogue w lines (moment number w e (site_step catalogue s x given v)) s x given up arrives (is_step_of catalogue lines number e w v s x given same up arrives gives told) told h))

abbrev RunWeighs : Catalogue → Run → Type 0
RunWeighs catalogue run = RunTold catalogue run × WeighsAt catalogue (scene_of run.world) (lines_in run.moments)

pub one_step-weighs : (catalogue : Catalogue) (number : ℕ) (e : Event) (run : Run) → RunWeighs catalogue run → WeighsAt catalogue (scene_of (one_step catalogue number e run).world) (lines_in (one_step catalogue number e run).moments)
unfolding one_step
one_step-weighs catalogue number e run h =
    let moved = next catalogue e run.world in
    let m0 = moment number run.world e moved in
    subst (WeighsAt catalogue (scene_of moved.world)) (sym (lines_last run.moments m0)) (occurred catalogue (lines_in run.moments) number e run.world moved h.0 h.1 (occurs catalogue e run.world))

pub start_weighs : (catalogue : Catalogue) → WeighsAt catalogue (scene_of (start_world catalogue)) []
start_weighs catalogue = record {
  live = λ s x t up here. absurd (started_idle catalogue s x t up here);
  entries = λ e here. absurd (start_entered catalogue e here);
  fresh = λ u unused. refl;
  kept = λ s x a up keeps. absurd (starts_none catalogue s (empty_durable (start_copies catalogue s)) a (subst (λ (x : SiteState). IsKept x a) (sym (started catalogue s x up)) keeps));
}

pub tables_told : (s : Schedule) → All (λ (commit : Commit). commit.tables ≡ told_tables s.catalogue (lines_of s) commit.txn) (journal_of s)
tables_told s =
    let lasts : RunLasts s.catalogue (RunWeighs s.catalogue) = record { starts = (start_told s.catalogue, start_weighs s.catalogue); steps = λ number e run h. (one_step-told s.catalogue number e run h.0, one_step-weighs s.catalogue number e run h) } in
    let h = (run-keeps s.catalogue (RunWeighs s.catalogue) lasts s.events).1 in
    All-from_recursion _ (journal_of s) (all_of (λ (e : Commit). e.tables ≡ told_tables s.catalogue (lines_of s) e.txn) (journal_of s) (λ e there. sym (h.entries e there).1.tells))
