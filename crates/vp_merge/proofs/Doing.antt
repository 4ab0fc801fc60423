-- What the events of a turn do, as the definition of a merge does them.
use Rattle.std.proofs.Common.{◌≡◌, ◌∙◌, ap, sym, subst, Bool, ℕ, zero, suc, ◌+◌, ◌<◌, List, [], ◌∷◌, ◌++◌, Some, None, Err, refl, arith, append-nil}
use Rattle.std.specs.Prelude.{◌-◌}
use Rattle.vp_model.specs.Types.{Event, Shown, Counted, Sent}
use Rattle.vp_model.specs.Types.event
use Rattle.vp_model.specs.Types.shown
use Rattle.vp_model.specs.Catalogue.{Catalogue}
use Rattle.vp_model.specs.Limits.{world_limits, refused}
use Rattle.vp_model.specs.World.{WorldState, next}
use Rattle.vp_world.specs.Known.{Known}
use Rattle.vp_fitting.specs.Fitting.{frames_in}
use Rattle.vp_fitting.specs.Merged.{Done, done_from, done_with, restarts_then, tells}
use Rattle.vp_merge.specs.Lives.{Lives, StartsLives, Takes}
use Rattle.vp_merge.specs.Numbers.{IsIndex, HaveSame}
use Rattle.vp_merge.specs.Played.{Goes, IsPlayed, IsReached, done_at}
use Rattle.vp_merge.specs.Telling.{NotesShown}
use Rattle.vp_merge.specs.declared.fault.MergeFault.{MergeFault}
use Rattle.vp_merge.specs.declared.fault.MergeFault.TheVariants as faults
use Rattle.vp_merge.specs.declared.numbers.FrameNumbers.{FrameNumbers}
use Rattle.vp_merge.specs.declared.played.Played.{Played}
use Rattle.vp_merge.specs.declared.played.PlayedStep.{PlayedStep}
use Rattle.vp_merge.proofs.Reached.{IsQuiet, quiet_event, Sends}

-- ---- one event of several

module _ (catalogue : Catalogue) (site : ℕ) (e : Event) (events : List Event) (done : Done) where
  done_one : refused world_limits catalogue e done.world ≡ None → done_from world_limits catalogue site (e ∷ events) done ≡ done_from world_limits catalogue site events (done_with catalogue site e done)
  done_one free = rw free refl

  done_over : (what : Counted) → refused world_limits catalogue e done.world ≡ Some what → done_from world_limits catalogue site (e ∷ events) done ≡ Err what
  done_over what over = rw over refl

same_done : (w v : WorldState) (es fs : List Event) (ms ns : List (List ℕ)) → w ≡ v → es ≡ fs → ms ≡ ns
    → record { world = w; events = es; made = ms } ≡ (let d : Done = record { world = v; events = fs; made = ns } in d)
same_done w v es fs ms ns a b c = rw (a, b, c) refl

-- an event was done, and the next state is this
module _ (site : ℕ) (e : Event) (old : Played) (r : PlayedStep) (new : Played) (goes : Goes e old r) (into : (new.world ≡ r.step.0) × (new.events ≡ r.events)) where
  now_at : new.world ≡ record { catalogue = old.world.catalogue; world = (next old.world.catalogue e old.world.world).world }
  now_at = into.0 ∙ goes.world

  pub same_catalogue : new.world.catalogue ≡ old.world.catalogue
  same_catalogue = ap (λ (k : Known). k.catalogue) now_at

  pub new_world : new.world.world ≡ (next old.world.catalogue e old.world.world).world
  new_world = ap (λ (k : Known). k.world) now_at

  pub new_played : IsPlayed new
  new_played = subst (λ (k : Known). IsReached k.catalogue k.world new.events) (sym into.0) (subst (IsReached r.step.0.catalogue r.step.0.world) (sym into.1) goes.reached)

  done_now : (made : List (List ℕ)) → done_with old.world.catalogue site e (done_at old made) ≡ done_at new (made ++ frames_in site (next old.world.catalogue e old.world.world).shown)
  done_now made = same_done _ _ _ _ _ _ (sym new_world) (sym (into.1 ∙ goes.events)) refl

  pub one_done : (events : List Event) (made : List (List ℕ)) → refused world_limits old.world.catalogue e old.world.world ≡ None
      → done_from world_limits old.world.catalogue site (e ∷ events) (done_at old made) ≡ done_from world_limits old.world.catalogue site events (done_at new (made ++ frames_in site (next old.world.catalogue e old.world.world).shown))
  one_done events made free = done_one old.world.catalogue site e events (done_at old made) free ∙ ap (done_from world_limits old.world.catalogue site events) (done_now made)

-- ---- crashes and restarts

pub record Quiet (site : ℕ) (e : Event) (old new : Played) : Type 0 where
  pub played : IsPlayed new
  pub catalogue : new.world.catalogue ≡ old.world.catalogue
  pub sent : new.world.world.sent ≡ old.world.world.sent
  pub on : (events : List Event) (made : List (List ℕ)) → done_from world_limits old.world.catalogue site (e ∷ events) (done_at old made) ≡ done_from world_limits old.world.catalogue site events (done_at new made)

pub quiet_goes : (site : ℕ) (e : Event) → IsQuiet e → (old : Played) (r : PlayedStep) (new : Played) → Goes e old r → (new.world ≡ r.step.0) × (new.events ≡ r.events)
    → refused world_limits old.world.catalogue e old.world.world ≡ None → Quiet site e old new
quiet_goes site e quiet old r new goes into free =
    let q = quiet_event old.world.catalogue e old.world.world site quiet in
    record {
      played = new_played site e old r new goes into;
      catalogue = same_catalogue site e old r new goes into;
      sent = ap (λ (w : WorldState). w.sent) (new_world site e old r new goes into) ∙ q.0;
      on = λ events made.
          one_done site e old r new goes into events made free
          ∙ ap (λ (frames : List (List ℕ)). done_from world_limits old.world.catalogue site events (done_at new (made ++ frames))) q.1
          ∙ ap (λ (all : List (List ℕ)). done_from world_limits old.world.catalogue site events (done_at new all)) (append-nil made);
    }

module _ (site : ℕ) (old mid new : Played) where
  pub two_quiet : Quiet site (event.Crash site) old mid → Quiet site (event.Restart site) mid new → Lives site 1 old new
  two_quiet a b =
      record {
        played = b.played;
        catalogue = b.catalogue ∙ a.catalogue;
        sent = b.sent ∙ a.sent;
        on = λ own made.
            a.on (event.Restart site ∷ own) made
            ∙ subst (λ (k : Catalogue). done_from world_limits k site (event.Restart site ∷ own) (done_at mid made) ≡ done_from world_limits k site own (done_at new made)) a.catalogue (b.on own made);
      }

-- ---- several times

restarts_add : (site n m : ℕ) (own : List Event) → restarts_then site (n + m) own ≡ restarts_then site n (restarts_then site m own)
restarts_add site zero m own = let e : 0 + m ≡ m = omega arith in ap (λ k. restarts_then site k own) e
restarts_add site (suc n) m own =
    let e : suc n + m ≡ suc (n + m) = omega arith in
    ap (λ k. restarts_then site k own) e ∙ ap (λ (events : List Event). event.Crash site ∷ event.Restart site ∷ events) (restarts_add site n m own)

pub lives_none : (site : ℕ) (p : Played) → IsPlayed p → Lives site 0 p p
lives_none site p h = record { played = h; catalogue = refl; sent = refl; on = λ own made. refl }

pub lives_more : (site n : ℕ) (old mid new : Played) → Lives site n old mid → Lives site 1 mid new → Lives site (n + 1) old new
lives_more site n old mid new a b =
    record {
      played = b.played;
      catalogue = b.catalogue ∙ a.catalogue;
      sent = b.sent ∙ a.sent;
      on = λ own made.
          ap (λ (events : List Event). done_from world_limits old.world.catalogue site events (done_at old made)) (restarts_add site n 1 own)
          ∙ a.on (restarts_then site 1 own) made
          ∙ subst (λ (k : Catalogue). done_from world_limits k site (restarts_then site 1 own) (done_at mid made) ≡ done_from world_limits k site own (done_at new made)) a.catalogue (b.on own made);
    }

pub lives_stop : (site n lives : ℕ) (old mid : Played) (fault : MergeFault) → Lives site n old mid → n < lives → StartsLives site 1 mid (Err fault) → StartsLives site lives old (Err fault)
lives_stop site n lives old mid (faults.Limit what limit) a lt h =
    let left = lives - (n + 1) in
    let e : lives ≡ n + (1 + left) = omega (arith, lt) in (
      λ own made.
          ap (λ k. done_from world_limits old.world.catalogue site (restarts_then site k own) (done_at old made)) e
          ∙ ap (λ (events : List Event). done_from world_limits old.world.catalogue site events (done_at old made)) (restarts_add site n (1 + left) own)
          ∙ a.on (restarts_then site (1 + left) own) made
          ∙ ap (λ (events : List Event). done_from world_limits old.world.catalogue site events (done_at mid made)) (restarts_add site 1 left own)
          ∙ subst (λ (k : Catalogue). done_from world_limits k site (restarts_then site 1 (restarts_then site left own)) (done_at mid made) ≡ Err what) a.catalogue (h.0 (restarts_then site left own) made),
      h.1,
    )
lives_stop site n lives old mid (faults.Unsent s turn) a lt h = h
lives_stop site n lives old mid (faults.Differs s turn) a lt h = h
lives_stop site n lives old mid faults.NoMemory a lt h = tt

-- ---- the event of a turn

still : (before after : FrameNumbers) (old new : List Sent) → after ≡ before → new ≡ old → (IsIndex before old → IsIndex after new) × HaveSame before after
still before after old new n s = (λ index. subst (IsIndex after) (sym s) (subst (λ (n : FrameNumbers). IsIndex n old) (sym n) index), subst (HaveSame before) (sym n) (λ bytes. refl))

noted_index : (what : Shown) (before after : FrameNumbers) (old new : List Sent) → NotesShown what before after → Sends what old new → (IsIndex before old → IsIndex after new) × HaveSame before after
noted_index (shown.Step commits first messages replies) before after old new n s = (λ index. subst (IsIndex after) (sym s.1) (n.index old (sym s.0) index), n.same)
noted_index shown.Nothing before after old new n s = still before after old new n s
noted_index shown.NoMessage before after old new n s = still before after old new n s
noted_index (shown.Down x) before after old new n s = still before after old new n s
noted_index (shown.Parted from to) before after old new n s = still before after old new n s
noted_index (shown.Up x) before after old new n s = still before after old new n s
noted_index (shown.Life life) before after old new n s = still before after old new n s
noted_index (shown.LivesSpent life) before after old new n s = still before after old new n s

pub takes_some : (site : ℕ) (e : Event) (short : Bool) (outs : List (List ℕ)) (old : Played) (r : PlayedStep) (new : Played) (told : Bool) (before after : FrameNumbers) → Goes e old r → (new.world ≡ r.step.0) × (new.events ≡ r.events)
    → refused world_limits old.world.catalogue e old.world.world ≡ None → told ≡ tells short outs (frames_in site r.step.1) → NotesShown r.step.1 before after
    → Sends (next old.world.catalogue e old.world.world).shown old.world.world.sent (next old.world.catalogue e old.world.world).world.sent → Takes site (Some e) short outs old new told before after
takes_some site e short outs old r new told before after goes into free is notes sends =
    let n = noted_index (next old.world.catalogue e old.world.world).shown before after old.world.world.sent (next old.world.catalogue e old.world.world).world.sent (subst (λ (what : Shown). NotesShown what before after) goes.shown notes) sends in
    record {
      played = new_played site e old r new goes into;
      catalogue = same_catalogue site e old r new goes into;
      made = frames_in site (next old.world.catalogue e old.world.world).shown;
      on = one_done site e old r new goes into [] [] free;
      told_is = is ∙ ap (λ (what : Shown). tells short outs (frames_in site what)) goes.shown;
      index = λ index. subst (λ (w : WorldState). IsIndex after w.sent) (sym (new_world site e old r new goes into)) (n.0 index);
      same = n.1;
    }
