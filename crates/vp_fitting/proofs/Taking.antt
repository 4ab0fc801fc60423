-- The state of a merge: its world is where its events lead, and each site has come so far in what its recordings ask.
use Rattle.std.proofs.Common.{◌≡◌, ◌≢◌, ◌∙◌, ap, sym, subst, ℕ, ◌+◌, ◌-◌, ◌<◌, ◌^◌, zero, suc, List, ◌∷◌, [], ◌++◌, length, refl, arith, append-nil, ⊎_elim}
use Rattle.std.specs.Prelude.{Option, Some, None, ◌==◌, option_and_then, option_map, Result, Ok}
use Rattle.std.specs.List.{list_any}
use Rattle.std.specs.Option.{option_map_or}
use Rattle.std.proofs.lemmas.Bool.{eqb-true, false≢true}
use Rattle.vp_model.specs.Types.{Event, Input, Message, Sent, Counted}
use Rattle.vp_model.specs.Types.event
use Rattle.vp_model.specs.Types.input
use Rattle.vp_model.specs.Types.shown
use Rattle.vp_model.specs.Catalogue.{Catalogue, sites_of}
use Rattle.vp_model.specs.Limits.{Limits, refused}
use Rattle.vp_model.specs.Durable.{DurableState}
use Rattle.vp_model.specs.Site.{SiteState}
use Rattle.vp_model.specs.Step.{step, start}
use Rattle.vp_model.specs.World.{Place, WorldState, Moved, Moment, place_of, site_of, message_at, is_cut, same_pair, change_place, site_step, at_site, deliver, crash, restart, restart_place, restart_from, happens, next, shows, moment}
use Rattle.vp_wire.specs.Grammar.{IsFrame}
use Rattle.vp_laws.specs.ShapeLaws.{IsEvent, message_frame}
use Rattle.vp_laws.proofs.Invariant.Known.{Known}
use Rattle.vp_laws.proofs.Keeping.Known.{known_last}
use Rattle.vp_laws.proofs.Lists.Keeps.{by_option, by_test}
use Rattle.vp_laws.proofs.Lists.Members.{Has}
use Rattle.vp_laws.proofs.Lists.Numbers.{eq_self, eq_not}
use Rattle.vp_laws.proofs.Lists.Views.{same_site}
use Rattle.vp_laws.proofs.Moves.LocalViews.{letter}
use Rattle.vp_laws.proofs.Table.Led.{led-step}
use Rattle.vp_laws.proofs.Worlds.Events.{Arrives, in_last}
use Rattle.vp_laws.proofs.Worlds.Occurs.{Gives, counted}
use Rattle.vp_laws.proofs.Worlds.Scenes.{scene_of, kept_in, place-id, up-place, message_at-has}
use Rattle.vp_recording.specs.declared.recording.Recording.{Recording}
use Rattle.vp_fitting.specs.Asked.{Due}
use Rattle.vp_fitting.specs.Fitting.{Deed, IsSingle, deeds_at, deeds_of, given_at, given_by, frames_in}
use Rattle.vp_fitting.specs.Merged.{Track, with_track, lowest, event_of, Done, done_with, unless, done_from, restarts_then}
use Rattle.vp_fitting.proofs.Deeds.{done_by, stepped_by, put_down, frames_of, Does, step_does, crash_does, restart_does}
use Rattle.vp_fitting.proofs.Alone.{deeds-more, given_by-more}
use Rattle.vp_fitting.proofs.Runs.{Runs, run_in, moment_in, moments_more, runs_more}
use Rattle.vp_fitting.proofs.Messages.{AskedBy, lowest_is}
use Rattle.vp_fitting.proofs.Follows.{Follows, follows_again, follows_same}

-- ---- what an event comes to, where the site is up

module _ (catalogue : Catalogue) where
  crash_next : (s : ℕ) (w : WorldState) (x : SiteState) → site_of w s ≡ Some x → next catalogue (event.Crash s) w ≡ shows (record (counted w) { places = change_place s put_down w.places }) shown.Nothing
  unfolding happens crash
  crash_next s w x up =
      ap (λ (o : Option SiteState). option_map_or (λ (site : SiteState). shows (record (counted w) { places = change_place s put_down w.places }) shown.Nothing) o (shows (counted w) (shown.Down s))) up

  restarts_next : (s : ℕ) (w : WorldState) (p : Place) → p.up ≡ None → p.durable.life ≢ 2 ^ 32 - 1 → p.id ≡ s
      → restart_from catalogue p (counted w) ≡ shows (record (counted w) { places = change_place s (restart_place catalogue) w.places }) (shown.Life (p.durable.life + 1))
  restarts_next s w p down left is =
      rw (down, is) (by_test (λ (m : Moved). m ≡ shows (record (counted w) { places = change_place s (restart_place catalogue) w.places }) (shown.Life (p.durable.life + 1)))
      (p.durable.life == 2 ^ 32 - 1) (shows (counted w) (shown.LivesSpent (2 ^ 32 - 1)))
      (shows (record (counted w) { places = change_place s (restart_place catalogue) w.places }) (shown.Life (p.durable.life + 1)))
      (λ t. absurd (left (eqb-true p.durable.life (2 ^ 32 - 1) t))) (λ t. refl))

  restart_next : (s : ℕ) (w : WorldState) (p : Place) → place_of s w.places ≡ Some p → p.up ≡ None → p.durable.life ≢ 2 ^ 32 - 1
      → next catalogue (event.Restart s) w ≡ shows (record (counted w) { places = change_place s (restart_place catalogue) w.places }) (shown.Life (p.durable.life + 1))
  unfolding happens restart
  restart_next s w p at down left =
      ap (λ (o : Option Place). option_map_or (λ (place : Place). restart_from catalogue place (counted w)) o (shows (counted w) shown.Nothing)) at
      ∙ restarts_next s w p down left (place-id s w.places p at)

  -- the site steps on the input
  pub record Steps (e : Event) (w : WorldState) (s : ℕ) (x : SiteState) (given : Input) : Type 0 where
    pub delivered : List ℕ
    pub next_is : next catalogue e w ≡ site_step catalogue s x given (record (counted w) { delivered = delivered })
    pub gives : Gives e w s given
    pub arrives : Arrives (scene_of w) s given
    pub single : IsSingle e
    pub call : IsEvent e

  at_site_next : (s : ℕ) (w : WorldState) (x : SiteState) (given : Input) → site_of w s ≡ Some x → at_site catalogue s given (counted w) ≡ site_step catalogue s x given (record (counted w) { delivered = w.delivered })
  unfolding at_site
  at_site_next s w x given up = ap (λ (o : Option SiteState). option_map_or (λ (site : SiteState). site_step catalogue s site given (counted w)) o (shows (counted w) (shown.Down s))) up

  abbrev goes : ℕ → ℕ → ℕ → Message → WorldState → SiteState → Moved
  goes s k from m w x = site_step catalogue s x (input.Message from m) (record (counted w) { delivered = w.delivered ++ k ∷ [] })

  deliver_next : (s k from : ℕ) (m : Message) (w : WorldState) (x : SiteState) → site_of w s ≡ Some x → w.cuts ≡ []
      → deliver catalogue k (letter from s m) (counted w) ≡ goes s k from m w x
  unfolding deliver
  deliver_next s k from m w x up cuts =
      by_option (λ (r : Moved). r ≡ goes s k from m w x) _ (site_of w s) (shows (counted w) (shown.Down s))
      (λ (y : SiteState) here. by_test (λ (r : Moved). r ≡ goes s k from m w x) (is_cut w from s) (shows (counted w) (shown.Parted from s)) (goes s k from m w y)
      (λ parted. absurd (false≢true (sym (ap (list_any (same_pair from s)) cuts) ∙ parted)))
      (λ joined. ap (goes s k from m w) (one y here)))
      (λ down. absurd (none down))
    where
      one : (y : SiteState) → site_of w s ≡ Some y → y ≡ x
      one y here = let z = sym here ∙ up in cc

      none : site_of w s ≡ None → ⊥
      none down = let z = sym down ∙ up in cc

  pub steps_on : (s : ℕ) (w : WorldState) (x : SiteState) (given : Input) (bytes : List ℕ) (e : Event) → site_of w s ≡ Some x → w.cuts ≡ [] → ((m : Sent) → Has w.sent m → IsFrame (message_frame m))
      → AskedBy s bytes given → event_of w.sent s given ≡ Some e → Steps e w s x given
  unfolding happens
  steps_on s w x _ bytes e up cuts frames (AskedBy.called words call) is =
      let same : event.Call s words ≡ e = cc in
      subst (λ (e : Event). Steps e w s x (input.Call 0 words)) same (record { delivered = w.delivered; next_is = at_site_next s w x (input.Call 0 words) up; gives = Gives.called words refl; arrives = tt; single = tt; call = call })
  steps_on s w x _ bytes e up cuts frames AskedBy.ticked is =
      let same : event.Tick s ≡ e = cc in
      subst (λ (e : Event). Steps e w s x input.Tick) same (record { delivered = w.delivered; next_is = at_site_next s w x input.Tick up; gives = Gives.ticked refl; arrives = tt; single = tt; call = tt })
  steps_on s w x _ bytes e up cuts frames AskedBy.probed is =
      let same : event.Probe s ≡ e = cc in
      subst (λ (e : Event). Steps e w s x input.Probe) same (record { delivered = w.delivered; next_is = at_site_next s w x input.Probe up; gives = Gives.probed refl; arrives = tt; single = tt; call = tt })
  steps_on s w x _ bytes e up cuts frames (AskedBy.sent from m frame) is = go (lowest (letter from s m) w.sent) refl is
    where
      at : (k : ℕ) → lowest (letter from s m) w.sent ≡ Some k → message_at w k ≡ Some (letter from s m)
      at k found = lowest_is (letter from s m) w k found frame (λ x here. frames x (message_at-has w k x here))

      delivers : (k : ℕ) → message_at w k ≡ Some (letter from s m) → Steps (event.Deliver k) w s x (input.Message from m)
      delivers k here =
          record {
            delivered = w.delivered ++ k ∷ [];
            next_is = ap (λ (o : Option Sent). option_map_or (λ (sent : Sent). deliver catalogue k sent (counted w)) o (shows (counted w) shown.NoMessage)) here ∙ deliver_next s k from m w x up cuts;
            gives = Gives.came k (letter from s m) refl here refl;
            arrives = message_at-has w k (letter from s m) here;
            single = tt;
            call = tt;
          }

      go : (o : Option ℕ) → lowest (letter from s m) w.sent ≡ o → option_map event.Deliver o ≡ Some e → Steps e w s x (input.Message from m)
      go None found q = absurd cc
      go (Some k) found q = let same : event.Deliver k ≡ e = cc in subst (λ (e : Event). Steps e w s x (input.Message from m)) same (delivers k (at k found))

-- ---- the state of a merge

module _ (limits : Limits) (catalogue : Catalogue) (recordings : List Recording) where
  abbrev pub deeds_in : List Event → ℕ → List Deed
  deeds_in events id = deeds_of id (run_in catalogue events).moments

  abbrev pub given_in : List Event → ℕ → List (List (List ℕ))
  given_in events id = given_by id (run_in catalogue events).moments

  -- the site is up, in this life
  pub record UpIn (w : WorldState) (id life : ℕ) : Type 0 where
    pub x : SiteState
    pub up : site_of w id ≡ Some x
    pub life_is : x.life ≡ life

  pub record TakingSite (w : WorldState) (events : List Event) (id : ℕ) (track : Track) : Type 0 where
    pub up : UpIn w id track.life
    pub follows : Follows recordings id (deeds_in events id) (given_in events id) track.life track.dues

  pub record Taking (w : WorldState) (events : List Event) (left : ℕ → Track) : Type 0 where
    pub runs : Runs limits catalogue w events
    pub sites : (id : ℕ) → Has (sites_of catalogue) id → TakingSite w events id (left id)

  -- what holds of each world holds of this one
  known_in : (w : WorldState) (events : List Event) → Runs limits catalogue w events → Known catalogue (scene_of w)
  known_in w events h = subst (λ (w : WorldState). Known catalogue (scene_of w)) h.world (in_last catalogue (Known catalogue) (known_last catalogue) events)

  -- what a site keeps of its life is the life that it is in
  kept_life : (w : WorldState) (events : List Event) (s : ℕ) (x : SiteState) (p : Place) → Runs limits catalogue w events → site_of w s ≡ Some x → place_of s w.places ≡ Some p → p.durable.life ≡ x.life
  kept_life w events s x p h up at =
      let k = known_in w events h in
      let kept = (k.views.site s x up).kept in
      sym (ap (λ (o : Option Place). (kept_in o).life) at) ∙ sym (ap (λ (d : DurableState). d.life) kept)

  -- ---- one more event

  module _ (w : WorldState) (events : List Event) (h : Runs limits catalogue w events) (e : Event) (single : IsSingle e) where
    abbrev m : Moment
    m = moment_in catalogue events e w

    more_deeds : (id : ℕ) → deeds_in (events ++ e ∷ []) id ≡ deeds_in events id ++ deeds_at id m
    more_deeds id = ap (deeds_of id) (moments_more limits catalogue w events h e single) ∙ deeds-more id (run_in catalogue events).moments m

    more_given : (id : ℕ) → given_in (events ++ e ∷ []) id ≡ given_in events id ++ given_at id m
    more_given id = ap (given_by id) (moments_more limits catalogue w events h e single) ∙ given_by-more id (run_in catalogue events).moments m

    module _ (s : ℕ) (old : Place) (d : Deed) (it : Does catalogue m s old d) where
      own_deeds : deeds_in (events ++ e ∷ []) s ≡ deeds_in events s ++ d ∷ []
      own_deeds = more_deeds s ∙ ap (λ (more : List Deed). deeds_in events s ++ more) it.only.deeds

      own_given : given_in (events ++ e ∷ []) s ≡ given_in events s ++ (done_by catalogue s d old).given
      own_given = more_given s ∙ ap (λ (more : List (List (List ℕ))). given_in events s ++ more) it.only.made

      other_site : (id : ℕ) → id ≢ s → (track : Track) → TakingSite w events id track → TakingSite (next catalogue e w).world (events ++ e ∷ []) id track
      other_site id n track t =
          record {
            up = record { x = t.up.x; up = ap (option_and_then (λ (p : Place). p.up)) (it.others id n) ∙ t.up.up; life_is = t.up.life_is };
            follows = follows_same recordings id (deeds_in events id) (deeds_in (events ++ e ∷ []) id) (given_in events id) (given_in (events ++ e ∷ []) id) track.life track.dues
                (more_deeds id ∙ ap (λ (more : List Deed). deeds_in events id ++ more) (it.only.others id n).0 ∙ append-nil (deeds_in events id))
                (more_given id ∙ ap (λ (more : List (List (List ℕ))). given_in events id ++ more) (it.only.others id n).1 ∙ append-nil (given_in events id)) t.follows;
          }

  -- ---- a site in its turn

  -- the site has come so far, and the others have this left
  pub record TakingAt (w : WorldState) (events : List Event) (s life : ℕ) (dues : List Due) (left : ℕ → Track) : Type 0 where
    pub runs : Runs limits catalogue w events
    pub up : UpIn w s life
    pub follows : Follows recordings s (deeds_in events s) (given_in events s) life dues
    pub others : (id : ℕ) → Has (sites_of catalogue) id → id ≢ s → TakingSite w events id (left id)

  pub its_turn : (w : WorldState) (events : List Event) (left : ℕ → Track) (s : ℕ) → Has (sites_of catalogue) s → Taking w events left → TakingAt w events s (left s).life (left s).dues left
  its_turn w events left s listed h =
      let own = h.sites s listed in
      record { runs = h.runs; up = own.up; follows = own.follows; others = λ id l n. h.sites id l }

  pub after_turn : (w : WorldState) (events : List Event) (left : ℕ → Track) (s life : ℕ) (dues : List Due) → TakingAt w events s life dues left → Taking w events (with_track s (record { life = life; dues = dues }) left)
  after_turn w events left s life dues h =
      record {
        runs = h.runs;
        sites = λ id listed. ⊎_elim
            (λ (same : id ≡ s). rw (same, eq_self s) (record { up = h.up; follows = h.follows }))
            (λ (n : id ≢ s). rw (eq_not id s n) (h.others id listed n))
            (same_site id s);
      }

  pub start_life : (id : ℕ) (d : DurableState) → (start catalogue id d).life ≡ d.life + 1
  unfolding start
  start_life id d = refl

  not_last : (a b n : ℕ) → a < b → b < 2 ^ 32 → n ≡ a → n ≢ 2 ^ 32 - 1
  not_last a b n up fits is last = omega (arith, up, fits, is, last)

  -- ---- it starts again

  module _ (w : WorldState) (events : List Event) (s life : ℕ) (d : Due) (dues : List Due) (left : ℕ → Track) (h : TakingAt w events s life (d ∷ dues) left) (up : life < d.life)
      (free : refused limits catalogue (event.Crash s) w ≡ None) where
    abbrev crash_of : Event
    crash_of = event.Crash s

    abbrev start_of : Event
    start_of = event.Restart s

    abbrev down_in : WorldState
    down_in = (next catalogue crash_of w).world

    abbrev again_in : WorldState
    again_in = (next catalogue start_of down_in).world

    down_next : next catalogue crash_of w ≡ shows (record (counted w) { places = change_place s put_down w.places }) shown.Nothing
    down_next = crash_next catalogue s w h.up.x h.up.up

    old : (p : Place) × (place_of s w.places ≡ Some p)
    old = up-place (place_of s w.places) h.up.x h.up.up

    old_life : old.0.durable.life ≡ life
    old_life = kept_life w events s h.up.x old.0 h.runs h.up.up old.1 ∙ h.up.life_is

    goes_down : Does catalogue (moment_in catalogue events crash_of w) s old.0 Deed.crashes
    goes_down = subst (λ (m : Moved). Does catalogue (moment (1 + length events) w crash_of m) s old.0 Deed.crashes) (sym down_next) (crash_does catalogue (1 + length events) w s old.0 old.1)

    runs_down : Runs limits catalogue down_in (events ++ crash_of ∷ [])
    runs_down = runs_more limits catalogue w events h.runs crash_of tt tt free (ap (λ (m : Moved). m.world.cuts) down_next ∙ h.runs.cuts)

    up_next : next catalogue start_of down_in ≡ shows (record (counted down_in) { places = change_place s (restart_place catalogue) down_in.places }) (shown.Life ((put_down old.0).durable.life + 1))
    up_next = restart_next catalogue s down_in (put_down old.0) goes_down.now refl (not_last life d.life old.0.durable.life up h.follows.due.1 old_life)

    comes_up : Does catalogue (moment_in catalogue (events ++ crash_of ∷ []) start_of down_in) s (put_down old.0) Deed.restarts
    comes_up =
        subst (λ (m : Moved). Does catalogue (moment (1 + length (events ++ crash_of ∷ [])) down_in start_of m) s (put_down old.0) Deed.restarts) (sym up_next)
        (restart_does catalogue (1 + length (events ++ crash_of ∷ [])) down_in s (put_down old.0) ((put_down old.0).durable.life + 1) goes_down.now)

    pub again_sent : again_in.sent ≡ w.sent
    again_sent = comes_up.sent ∙ append-nil down_in.sent ∙ goes_down.sent ∙ append-nil w.sent

    pub again_made : (made : List (List ℕ)) → (made ++ frames_in s (next catalogue crash_of w).shown) ++ frames_in s (next catalogue start_of down_in).shown ≡ made
    again_made made =
        ap (λ (m : Moved). (made ++ frames_in s (next catalogue crash_of w).shown) ++ frames_in s m.shown) up_next
        ∙ append-nil (made ++ frames_in s (next catalogue crash_of w).shown)
        ∙ ap (λ (m : Moved). made ++ frames_in s m.shown) down_next
        ∙ append-nil made

    pub taking_again : refused limits catalogue start_of down_in ≡ None → TakingAt again_in ((events ++ crash_of ∷ []) ++ start_of ∷ []) s (life + 1) (d ∷ dues) left
    taking_again free_too =
        let runs = runs_more limits catalogue down_in (events ++ crash_of ∷ []) runs_down start_of tt tt free_too (ap (λ (m : Moved). m.world.cuts) up_next ∙ runs_down.cuts) in
        record {
          runs = runs;
          up = record {
            x = start catalogue old.0.id old.0.durable;
            up = ap (option_and_then (λ (p : Place). p.up)) comes_up.now;
            life_is = start_life old.0.id old.0.durable ∙ ap (λ (n : ℕ). n + 1) old_life;
          };
          follows = follows_same recordings s _ _ _ _ (life + 1) (d ∷ dues)
              (own_deeds down_in (events ++ crash_of ∷ []) runs_down start_of tt s (put_down old.0) Deed.restarts comes_up ∙ ap (λ (ds : List Deed). ds ++ Deed.restarts ∷ []) (own_deeds w events h.runs crash_of tt s old.0 Deed.crashes goes_down))
              (own_given down_in (events ++ crash_of ∷ []) runs_down start_of tt s (put_down old.0) Deed.restarts comes_up ∙ append-nil (given_in (events ++ crash_of ∷ []) s)
              ∙ own_given w events h.runs crash_of tt s old.0 Deed.crashes goes_down ∙ append-nil (given_in events s))
              (follows_again recordings s (deeds_in events s) (given_in events s) d dues life up h.follows);
          others = λ id l n.
              other_site down_in (events ++ crash_of ∷ []) runs_down start_of tt s (put_down old.0) Deed.restarts comes_up id n (left id)
              (other_site w events h.runs crash_of tt s old.0 Deed.crashes goes_down id n (left id) (h.others id l n));
        }

  pub unless_ok : (o : Option Counted) (r : Result Done Counted) (final : Done) → unless o r ≡ Ok final → (o ≡ None) × (r ≡ Ok final)
  unless_ok None r final e = (refl, e)
  unless_ok (Some what) r final e = absurd cc

  -- the site is in the life of its turn, and nothing else was done
  pub record InLife (s : ℕ) (d : Due) (dues : List Due) (left : ℕ → Track) (own : List Event) (done final : Done) : Type 0 where
    pub mid : Done
    pub taking : TakingAt mid.world mid.events s d.life (d ∷ dues) left
    pub sent : mid.world.sent ≡ done.world.sent
    pub made : mid.made ≡ done.made
    pub rest : done_from limits catalogue s own mid ≡ Ok final

  pub to_life : (s : ℕ) (d : Due) (dues : List Due) (left : ℕ → Track) (own : List Event) (n life : ℕ) → life + n ≡ d.life → (done final : Done) → TakingAt done.world done.events s life (d ∷ dues) left
      → done_from limits catalogue s (restarts_then s n own) done ≡ Ok final → InLife s d dues left own done final
  to_life s d dues left own zero life is done final h e =
      let same : life ≡ d.life = omega (arith, is) in
      record { mid = done; taking = subst (λ (life : ℕ). TakingAt done.world done.events s life (d ∷ dues) left) same h; sent = refl; made = refl; rest = e }
  to_life s d dues left own (suc n) life is done final h e =
      let up : life < d.life = omega (arith, is) in
      let first = unless_ok _ _ final e in
      let second = unless_ok _ _ final first.1 in
      let after = done_with catalogue s (event.Restart s) (done_with catalogue s (event.Crash s) done) in
      let r = to_life s d dues left own n (life + 1) (omega (arith, is)) after final (taking_again done.world done.events s life d dues left h up first.0 second.0) second.1 in
      record {
        mid = r.mid;
        taking = r.taking;
        sent = r.sent ∙ again_sent done.world done.events s life d dues left h up first.0;
        made = r.made ∙ again_made done.world done.events s life d dues left h up first.0 done.made;
        rest = r.rest;
      }

  -- ---- its input

  -- the site has taken the turn's input, and this came of it
  pub record Took (s : ℕ) (d : Due) (dues : List Due) (left : ℕ → Track) (given : Input) (before after : List Event) (new : WorldState) (made : List (List ℕ)) : Type 0 where
    pub runs : Runs limits catalogue new after
    pub up : UpIn new s d.life
    pub deeds : deeds_in after s ≡ deeds_in before s ++ Deed.takes given ∷ []
    pub made_is : given_in after s ≡ given_in before s ++ made ∷ []
    pub others : (id : ℕ) → Has (sites_of catalogue) id → id ≢ s → TakingSite new after id (left id)

  step_made : (s : ℕ) (x : SiteState) (given : Input) (w : WorldState) → frames_in s (site_step catalogue s x given w).shown ≡ frames_of s (step catalogue x given)
  unfolding site_step
  step_made s x given w = refl

  step_cuts : (s : ℕ) (x : SiteState) (given : Input) (w : WorldState) → (site_step catalogue s x given w).world.cuts ≡ w.cuts
  unfolding site_step
  step_cuts s x given w = refl

  module _ (s : ℕ) (d : Due) (dues : List Due) (left : ℕ → Track) (given : Input) (w : WorldState) (events : List Event) (h : TakingAt w events s d.life (d ∷ dues) left) (e : Event)
      (it : Steps catalogue e w s h.up.x given) (free : refused limits catalogue e w ≡ None) where
    abbrev x : SiteState
    x = h.up.x

    was : (p : Place) × (place_of s w.places ≡ Some p)
    was = up-place (place_of s w.places) x h.up.up

    was_up : was.0.up ≡ Some x
    was_up = sym (ap (option_and_then (λ (p : Place). p.up)) was.1) ∙ h.up.up

    steps_here : Does catalogue (moment_in catalogue events e w) s was.0 (Deed.takes given)
    steps_here =
        subst (λ (m : Moved). Does catalogue (moment (1 + length events) w e m) s was.0 (Deed.takes given)) (sym it.next_is)
        (step_does catalogue (1 + length events) e w s x given it.delivered was.0 was.1 was_up h.up.up it.gives it.arrives)

    same_life : (step catalogue x given).site.life ≡ x.life
    same_life = let k = known_in w events h.runs in (led-step catalogue x given (k.views.site s x h.up.up).tidy (k.led.site s x h.up.up)).life

    pub took : Took s d dues left given events (events ++ e ∷ []) (next catalogue e w).world (frames_of s (step catalogue x given))
    took =
        record {
          runs = runs_more limits catalogue w events h.runs e it.single it.call free (ap (λ (m : Moved). m.world.cuts) it.next_is ∙ step_cuts s x given (record (counted w) { delivered = it.delivered }) ∙ h.runs.cuts);
          up = record {
            x = (step catalogue x given).site;
            up = ap (option_and_then (λ (p : Place). p.up)) (steps_here.now ∙ ap (λ (o : Option SiteState). Some (stepped_by catalogue s given was.0 o).place) was_up);
            life_is = same_life ∙ h.up.life_is;
          };
          deeds = own_deeds w events h.runs e it.single s was.0 (Deed.takes given) steps_here;
          made_is = own_given w events h.runs e it.single s was.0 (Deed.takes given) steps_here ∙ ap (λ (o : Option SiteState). given_in events s ++ (stepped_by catalogue s given was.0 o).given) was_up;
          others = λ id l n. other_site w events h.runs e it.single s was.0 (Deed.takes given) steps_here id n (left id) (h.others id l n);
        }

    pub took_made : frames_in s (next catalogue e w).shown ≡ frames_of s (step catalogue x given)
    took_made = ap (λ (m : Moved). frames_in s m.shown) it.next_is ∙ step_made s x given (record (counted w) { delivered = it.delivered })
