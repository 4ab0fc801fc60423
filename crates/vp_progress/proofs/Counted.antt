-- Every number in a world is at most the count of the steps so far: a step begins one life, one view or one transaction at most.
use Rattle.std.proofs.Common.{◌≡◌, ◌≢◌, ◌∙◌, ap, sym, subst, ℕ, ◌+◌, ◌-◌, ◌^◌, ◌<◌, ◌≤◌, List, [], ◌∷◌, length, refl, arith, ⊎_elim}
use Rattle.std.proofs.Common.{length-append}
use Rattle.std.specs.Prelude.{Option, Some, None, map, option_map}
use Rattle.vp_model.specs.Types.{ViewId, Event, Input}
use Rattle.vp_model.specs.Types.message
use Rattle.vp_model.specs.Catalogue.{Catalogue, sites_of, start_copies}
use Rattle.vp_model.specs.Durable.{DurableState, empty_durable, doubt_of, apply}
use Rattle.vp_model.specs.Site.{ViewState, ParticipantState, CoordinatorState, SiteState, Stepped}
use Rattle.vp_model.specs.Refresh.{start_refresh}
use Rattle.vp_model.specs.Views.{drop_view, start_inviting, hold}
use Rattle.vp_model.specs.Messages.{accept, on_accept, on_stale, grant}
use Rattle.vp_model.specs.Step.{fix, step, start, start_record, resend_one, durable_of}
use Rattle.vp_model.specs.World.{Place, WorldState, Moved, Run, moment, next, Schedule, place_of, start_place, restart_place, site_step, one_step, start_world, moments_of}
use Rattle.vp_laws.proofs.Lists.Views.{AtMost, same_site}
use Rattle.vp_laws.proofs.Moves.Table.{Table, OfCoordinator, Back, Comes}
use Rattle.vp_laws.proofs.Moves.Rows.{step-keeps}
use Rattle.vp_laws.proofs.Table.Led.{led-step}
use Rattle.vp_laws.proofs.Table.Views.{local-step}
use Rattle.vp_laws.proofs.Worlds.Scenes.{Scene, scene_of, kept_in, kept_at, plain_at, acted, stepping, place-same}
use Rattle.vp_laws.proofs.Worlds.Sites.{KeptIs, kept_is, NowIs, now_is, Quiet, QuietIs, quiet_is, quiet_kept, crash_quiet, restart_quiet, start_at, started}
use Rattle.vp_laws.proofs.Worlds.Events.{Arrives, came_in, crashed, restarted, happens-good}
use Rattle.vp_laws.proofs.Worlds.Occurs.{Occurs, occurs, counted, RunLasts, run-keeps}
use Rattle.vp_laws.proofs.Invariant.Known.{Known}
use Rattle.vp_laws.proofs.Keeping.Known.{known_last}
use Rattle.vp_progress.specs.Whole.{AreUnspent, HasNameLeft, life_in, promised_number}
use Rattle.vp_progress.specs.Gathering.{HaveViewsLeft}
use Rattle.vp_progress.specs.Progress.{world_of}
use Rattle.vp_progress.proofs.Invited.{promised_is}
use Rattle.vp_progress.proofs.Refreshed.{ends}
use Rattle.vp_progress.proofs.Certain.{ended_front}
use Rattle.vp_progress.proofs.Named.{named-step}

-- ---- a step

module _ (catalogue : Catalogue) (x : SiteState) (given : Input) (n : ℕ) (seen : x.seen ≤ n) (promised : x.promise.number ≤ n) (invited : (from : ℕ) (id : ViewId) → Comes given from (message.Invite id) → id.number ≤ n) (told : (from : ℕ) (id promise : ViewId) → Comes given from (message.Stale id promise) → promise.number ≤ n) where
  abbrev AreLow : ViewState → Type 0
  AreLow v = (v.seen ≤ n) × (v.promise.number ≤ n + 1)

  abbrev P : Stepped → Type 0
  P o = AreLow o.site.views

  same : AreLow x.views
  same = (seen, omega (arith, promised))

  of_coordinator : OfCoordinator catalogue x given (Back x P)
  of_coordinator = record {
    begin = λ port view h c s. same;
    answers = λ words port r s. same;
    take_lock = λ t rec exclusive stored h i a v c. same;
    complete = λ t p deed l h c n e q. q;
    read_at = λ t p rec q h n r a w c o y. same;
    write_at = λ t p rec deed l h n w a v o y f e q. q;
    prepare_parts = λ t p h n c e. same;
    still_waits = λ t p from h e m f c. same;
    decide = λ t h d. same;
    close = λ t why l h a e c q. q;
    mark_calls = λ l c d q. q;
    acknowledge = λ from txn c w. same;
  }

  table : Table catalogue x given P
  unfolding drop_view start_inviting accept on_accept on_stale hold fix start_refresh grant resend_one
  table = record {
    sends_back = λ from m t. same;
    asks_again = λ o ms a p. p;
    drop_view = λ l e c p. p;
    start_inviting = λ o s l p. (p.0, omega (arith, seen, promised));
    accept = λ from id o c v l p. (p.0, let k = invited from id c in omega (arith, k));
    accepted = λ from id c. same;
    seen = λ from id promise c. (let k = told from id promise c in omega (arith, seen, k), same.1);
    hold = λ from id members c e. same;
    heard = λ from view c h. same;
    fix = λ view c e. same;
    without_wait = λ id c i w. same;
    probe = λ view c h. same;
    answers_inviting = λ port c e p. p;
    start_refresh = λ view rec o j h p. p;
    end_refresh = λ rec r own o e u d v p. subst AreLow (sym (ap (λ (z : ViewState × ParticipantState × CoordinatorState). z.0) (ends catalogue r own o).front)) p;
    keep_answer = λ from view rec stored r c h f u. same;
    grant_read = λ from txn view number rec stored c h n v f u. same;
    grant_write = λ from txn view number rec stored c h n v f u. same;
    vote_reading = λ from txn view number reads writes part c h n d f v l e. same;
    vote_writing = λ from txn view number reads writes part c h n d f v l e. same;
    end_here = λ from txn commit c. subst AreLow (sym (ap (λ (z : ViewState × ParticipantState × CoordinatorState). z.0) (ended_front x from txn commit (doubt_of txn x.doubts)))) same;
    coordinator = of_coordinator;
    resend_one = λ d o c h p. p;
  }

  low-step : AreLow (step catalogue x given).site.views
  low-step = step-keeps catalogue x given P table same

-- ---- worlds

record Counted (n : ℕ) (w : Scene) : Type 0 where
  promised : (s : ℕ) → (kept_at w s).promise.number ≤ n
  life : (s : ℕ) → (kept_at w s).life ≤ n + 1
  seen : (s : ℕ) (x : SiteState) → plain_at w s ≡ Some x → x.seen ≤ n
  named : (s : ℕ) (x : SiteState) → plain_at w s ≡ Some x → x.seq ≤ n

one_more : (a b n : ℕ) → a ≡ b → b ≤ n → a ≤ n + 1
one_more a b n e h = omega (arith, e, h)

counted_more : (n : ℕ) (w : Scene) → Counted n w → Counted (n + 1) w
counted_more n w c = record {
  promised = λ s. one_more _ _ n refl (c.promised s);
  life = λ s. one_more _ _ (n + 1) refl (c.life s);
  seen = λ s x up. one_more _ _ n refl (c.seen s x up);
  named = λ s x up. one_more _ _ n refl (c.named s x up);
}

counted_acts : (catalogue : Catalogue) (w : Scene) (s : ℕ) (x : SiteState) (given : Input) (n : ℕ) → plain_at w s ≡ Some x → Arrives w s given → Known catalogue w → Counted n w → Counted (n + 1) (acted w s x (step catalogue x given))
counted_acts catalogue w s x given n up r k c =
    let ok = k.views.site s x up in
    let o = step catalogue x given in
    let new = acted w s x o in
    let st = stepping catalogue w s x given up ok.kept (local-step catalogue x given ok.tidy) in
    let life : o.site.life ≡ (kept_at w s).life = (led-step catalogue x given ok.tidy (k.led.site s x up)).life ∙ ap (λ (d : DurableState). d.life) ok.kept in
    let low = low-step catalogue x given n (c.seen s x up)
    (subst (λ (d : DurableState). d.promise.number ≤ n) (sym ok.kept) (c.promised s))
    (λ from id came. within id (k.views.told _ (came_in w s given r from (message.Invite id) came)))
    (λ from id promise came. within promise (k.views.told _ (came_in w s given r from (message.Stale id promise) came)).1) in
    record {
      promised = λ q. kept_low new o low.1 q (kept_is w new s x o st q);
      life = λ q. life_low new o life q (kept_is w new s x o st q);
      seen = λ q y there. seen_low o low.0 q y (now_is w new s x o st q y there);
      named = λ q y there. named_low o (named-step catalogue x given (n + 1) (one_more _ _ n refl (c.named s x up)) (λ port begins. let low = c.named s x up in omega (arith, low))) q y (now_is w new s x o st q y there);
    }
  where
    within : (i : ViewId) → AtMost i (kept_at w i.site).promise → i.number ≤ n
    within i u = let h = c.promised i.site in omega (arith, h, u.number)

    kept_low : (new : Scene) (o : Stepped) → o.site.promise.number ≤ n + 1 → (q : ℕ) → KeptIs w new s (durable_of o.site) q → (kept_at new q).promise.number ≤ n + 1
    kept_low new o low q (KeptIs.here e now) = subst (λ (d : DurableState). d.promise.number ≤ n + 1) (sym now) low
    kept_low new o low q (KeptIs.other e now) = one_more _ _ n (ap (λ (d : DurableState). d.promise.number) now) (c.promised q)

    life_low : (new : Scene) (o : Stepped) → o.site.life ≡ (kept_at w s).life → (q : ℕ) → KeptIs w new s (durable_of o.site) q → (kept_at new q).life ≤ (n + 1) + 1
    life_low new o life q (KeptIs.here e now) = one_more _ _ (n + 1) (ap (λ (d : DurableState). d.life) now ∙ life) (c.life s)
    life_low new o life q (KeptIs.other e now) = one_more _ _ (n + 1) (ap (λ (d : DurableState). d.life) now) (c.life q)

    seen_low : (o : Stepped) → o.site.seen ≤ n → (q : ℕ) (y : SiteState) → NowIs w s o.site q y → y.seen ≤ n + 1
    seen_low o low q y (NowIs.here e same) = one_more _ _ n (ap (λ (y : SiteState). y.seen) (sym same)) low
    seen_low o low q y (NowIs.other e old) = one_more _ _ n refl (c.seen q y old)

    named_low : (o : Stepped) → o.site.seq ≤ n + 1 → (q : ℕ) (y : SiteState) → NowIs w s o.site q y → y.seq ≤ n + 1
    named_low o low q y (NowIs.here e same) = subst (λ (y : SiteState). y.seq ≤ n + 1) same low
    named_low o low q y (NowIs.other e old) = one_more _ _ n refl (c.named q y old)

pub start_seen : (catalogue : Catalogue) (s : ℕ) (d : DurableState) → (start catalogue s d).seen ≡ 0
unfolding start
start_seen catalogue s d = refl

pub start_seq : (catalogue : Catalogue) (s : ℕ) (d : DurableState) → (start catalogue s d).seq ≡ 0
unfolding start
start_seq catalogue s d = refl

counted_quiet : (catalogue : Catalogue) (w new : Scene) (s n : ℕ) → Quiet catalogue w new s → (kept_at new s).life ≤ (kept_at w s).life + 1 → Counted n w → Counted (n + 1) new
counted_quiet catalogue w new s n q lived c = record {
  promised = λ k. one_more _ _ n (ap (λ (i : ViewId). i.number) (quiet_kept catalogue w new s q (λ (d : DurableState). d.promise) q.promise k)) (c.promised k);
  life = λ k. ⊎_elim
      (λ (e : k ≡ s). let h = c.life s in rw e (omega (arith, h, lived)))
      (λ (e : k ≢ s). one_more _ _ (n + 1) (ap (λ o. (kept_in o).life) (q.moved.others k e)) (c.life k))
      (same_site k s);
  seen = λ k y there. seen_low k y (quiet_is catalogue w new s q k y there);
  named = λ k y there. named_low k y (quiet_is catalogue w new s q k y there);
}
  where
    seen_low : (k : ℕ) (y : SiteState) → QuietIs catalogue w s k y → y.seen ≤ n + 1
    seen_low k y (QuietIs.here e now) = let z = ap (λ (y : SiteState). y.seen) (sym now) ∙ start_seen catalogue s (kept_at w s) in omega (arith, z)
    seen_low k y (QuietIs.other e old) = one_more _ _ n refl (c.seen k y old)

    named_low : (k : ℕ) (y : SiteState) → QuietIs catalogue w s k y → y.seq ≤ n + 1
    named_low k y (QuietIs.here e now) = let z = ap (λ (y : SiteState). y.seq) (sym now) ∙ start_seq catalogue s (kept_at w s) in omega (arith, z)
    named_low k y (QuietIs.other e old) = one_more _ _ n refl (c.named k y old)

crash_lives : (o : Option Place) → (kept_in (option_map (λ (p : Place). record p { up = None }) o)).life ≤ (kept_in o).life + 1
crash_lives None = omega arith
crash_lives (Some p) = omega arith

restart_lives : (catalogue : Catalogue) (o : Option Place) → (kept_in (option_map (restart_place catalogue) o)).life ≤ (kept_in o).life + 1
unfolding apply
restart_lives catalogue None = omega arith
restart_lives catalogue (Some p) = omega arith

counted_starts : (catalogue : Catalogue) → Counted 0 (scene_of (start_world catalogue))
unfolding start_world apply
counted_starts catalogue = record {
  promised = λ s. promised s (place_of s (map (start_place catalogue) (sites_of catalogue))) refl;
  life = λ s. life s (place_of s (map (start_place catalogue) (sites_of catalogue))) refl;
  seen = λ s x up. let z = ap (λ (y : SiteState). y.seen) (sym (started catalogue s x up)) ∙ start_seen catalogue s (empty_durable (start_copies catalogue s)) in omega (arith, z);
  named = λ s x up. let z = ap (λ (y : SiteState). y.seq) (sym (started catalogue s x up)) ∙ start_seq catalogue s (empty_durable (start_copies catalogue s)) in omega (arith, z);
}
  where
    first : (s : ℕ) (p : Place) → place_of s (map (start_place catalogue) (sites_of catalogue)) ≡ Some p → p.durable ≡ apply (start_record (empty_durable (start_copies catalogue s))) (empty_durable (start_copies catalogue s))
    first s p e = ap (λ (p : Place). p.durable) (sym (start_at catalogue s (sites_of catalogue) p e).1)

    promised : (s : ℕ) (o : Option Place) → place_of s (map (start_place catalogue) (sites_of catalogue)) ≡ o → (kept_in (place_of s (map (start_place catalogue) (sites_of catalogue)))).promise.number ≤ 0
    promised s None e = rw e (omega arith)
    promised s (Some p) e = rw (e, first s p e) (omega arith)

    life : (s : ℕ) (o : Option Place) → place_of s (map (start_place catalogue) (sites_of catalogue)) ≡ o → (kept_in (place_of s (map (start_place catalogue) (sites_of catalogue)))).life ≤ 1
    life s None e = rw e (omega arith)
    life s (Some p) e = rw (e, first s p e) (omega arith)

-- ---- runs

record Counting (catalogue : Catalogue) (run : Run) : Type 0 where
  known : Known catalogue (scene_of run.world)
  counted : Counted (length run.moments) (scene_of run.world)

pub stepped_scene : (catalogue : Catalogue) (s : ℕ) (x : SiteState) (given : Input) (v : WorldState) → scene_of (site_step catalogue s x given v).world ≡ acted (scene_of v) s x (step catalogue x given)
unfolding site_step
stepped_scene catalogue s x given v = refl

counted_occurs : (catalogue : Catalogue) (e : Event) (w : WorldState) (m : Moved) (n : ℕ) → Known catalogue (scene_of w) → Counted n (scene_of w) → Occurs catalogue e w m → Counted (n + 1) (scene_of m.world)
counted_occurs catalogue e w m n k c (Occurs.acts s x given v same up arrives gives is) =
    subst (Counted (n + 1)) (sym (ap (λ (m : Moved). scene_of m.world) is ∙ stepped_scene catalogue s x given v ∙ ap (λ (z : Scene). acted z s x (step catalogue x given)) same))
    (counted_acts catalogue (scene_of w) s x given n up arrives k c)
counted_occurs catalogue e w m n k c (Occurs.stands same shown) = subst (Counted (n + 1)) (sym same) (counted_more n (scene_of w) c)
counted_occurs catalogue e w m n k c (Occurs.crashes s same shown) =
    subst (Counted (n + 1)) (sym same)
    (counted_quiet catalogue (scene_of w) (crashed (scene_of w) s) s n (crash_quiet catalogue (scene_of w) s)
    (rw (place-same s (λ (p : Place). record p { up = None }) w.places (λ p. refl)) (crash_lives (place_of s w.places))) c)
counted_occurs catalogue e w m n k c (Occurs.restarts s place at up id same shown) =
    subst (Counted (n + 1)) (sym same)
    (counted_quiet catalogue (scene_of w) (restarted catalogue (scene_of w) s) s n (restart_quiet catalogue (scene_of w) s place at id)
    (rw (place-same s (restart_place catalogue) w.places (λ p. refl)) (restart_lives catalogue (place_of s w.places))) c)

counting : (catalogue : Catalogue) → RunLasts catalogue (Counting catalogue)
unfolding one_step
counting catalogue = record {
  starts = record { known = (known_last catalogue).starts; counted = counted_starts catalogue };
  steps = λ number e run h. record {
    known = happens-good catalogue (Known catalogue) (known_last catalogue) e (counted run.world) h.known;
    counted = subst (λ (n : ℕ). Counted n (scene_of (next catalogue e run.world).world)) (sym (length-append run.moments (moment number run.world e (next catalogue e run.world) ∷ [])))
        (counted_occurs catalogue e run.world (next catalogue e run.world) (length run.moments) h.known h.counted (occurs catalogue e run.world));
  };
}

counted_last : (s : Schedule) → Counted (length (moments_of s)) (scene_of (world_of s))
counted_last s = (run-keeps s.catalogue (Counting s.catalogue) (counting s.catalogue) s.events).counted

-- ---- no number is spent

life_is : (o : Option Place) → life_in o ≡ (kept_in o).life
life_is None = refl
life_is (Some p) = refl

life_left : (n k a : ℕ) → n < a - 2 → k ≤ n + 1 → k ≢ a - 1
life_left n k a h g e = omega (arith, h, g, e)

number_left : (n k a b : ℕ) → a ≤ b → n < a - 2 → k ≤ n → k < b - 1
number_left n k a b le h g = omega (arith, le, h, g)

pub unspent : (s : Schedule) (ns : List ℕ) → length (moments_of s) < 2 ^ 32 - 2 → AreUnspent ns (world_of s)
unspent s ns few =
    let c = counted_last s in
    let n = length (moments_of s) in
    let most : 2 ^ 32 ≤ 2 ^ 64 = omega arith in
    record {
      lives = λ q here down. life_left n (life_in (place_of q (world_of s).places)) (2 ^ 32) few (rw (life_is (place_of q (world_of s).places)) (c.life q));
      promised = λ q here. number_left n (promised_number (place_of q (world_of s).places)) (2 ^ 32) (2 ^ 64) most few (rw (promised_is (place_of q (world_of s).places)) (c.promised q));
      seen = λ q x here up. number_left n x.seen (2 ^ 32) (2 ^ 64) most few (c.seen q x up);
    }

-- and each site has a name left
pub names_left : (s : Schedule) (q : ℕ) → length (moments_of s) < 2 ^ 32 - 2 → HasNameLeft q (world_of s)
names_left s q few x up = let low = (counted_last s).named q x up in omega (arith, few, low)

-- and each site two numbers of views
pub views_left : (s : Schedule) (ns : List ℕ) → length (moments_of s) < 2 ^ 32 - 2 → HaveViewsLeft ns (world_of s)
views_left s ns few =
    let c = counted_last s in
    record {
      unspent = unspent s ns few;
      promised = λ q here. let low = c.promised q in let is = promised_is (place_of q (world_of s).places) in omega (arith, few, low, is);
      seen = λ q x here up. let low = c.seen q x up in omega (arith, few, low);
    }
