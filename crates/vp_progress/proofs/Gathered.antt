-- One site regroups, hears of the promises that are above its own, and regroups again: now its invitation is above all, and each accepts it.
use Rattle.std.proofs.Common.{◌≡◌, ◌≢◌, ◌∙◌, ap, sym, subst, ℕ, ◌+◌, ◌-◌, ◌<◌, ◌≤◌, ◌^◌, Bool, true, false, List, [], ◌∷◌, ◌++◌, length, refl, arith, ⊎_elim}
use Rattle.std.specs.Prelude.{Some, ◌==◌, ◌&&◌, nat_lt, not, max}
use Rattle.std.specs.List.{AllByRecursion}
use Rattle.std.proofs.lemmas.Bool.Decides.{nat_tests}
use Rattle.vp_model.specs.Types.{ViewId, Event}
use Rattle.vp_model.specs.Types.call
use Rattle.vp_model.specs.Types.event
use Rattle.vp_model.specs.Types.input
use Rattle.vp_model.specs.Types.message
use Rattle.vp_model.specs.Words.{has, view_before}
use Rattle.vp_model.specs.Catalogue.{Catalogue, sites_of}
use Rattle.vp_model.specs.Durable.{DurableState}
use Rattle.vp_model.specs.Site.{ViewState, SiteState, Stepped}
use Rattle.vp_model.specs.Views.{highest, is_spent}
use Rattle.vp_model.specs.Step.{step}
use Rattle.vp_model.specs.World.{WorldState, Schedule, next, place_of, site_of, message_at, moments_of}
use Rattle.vp_laws.proofs.Lists.Members.{Has, has_none, has_one, has_cons, has_test, has_from_test, filter_keeps, both_true}
use Rattle.vp_laws.proofs.Lists.Views.{same_site}
use Rattle.vp_laws.proofs.Lists.Numbers.{eq_self}
use Rattle.vp_laws.proofs.Moves.Table.{next_view}
use Rattle.vp_laws.proofs.Moves.LocalViews.{letter}
use Rattle.vp_laws.proofs.Worlds.Scenes.{scene_of, kept_in, promise_at}
use Rattle.vp_laws.proofs.Worlds.Events.{in_last}
use Rattle.vp_laws.proofs.Invariant.Known.{Known}
use Rattle.vp_laws.proofs.Keeping.Known.{known_last}
use Rattle.vp_progress.specs.Going.{world_after, EachPasses, IsFresh, is_within}
use Rattle.vp_progress.specs.Progress.{world_of}
use Rattle.vp_progress.specs.Gathering.{gathers, calls_in, IsAwaited, CanGather, HaveViewsLeft}
use Rattle.vp_progress.proofs.Going.{world_goes_on, passing_flows_not}
use Rattle.vp_progress.proofs.Calm.{is_calm, opens, carries, open_carries, carry_calm, calm_fresh, each_fresh, both_fresh}
use Rattle.vp_progress.proofs.Can.{Can, can_now, can_then, can_by, Each, one_by_one, after_both, pass_both, pass_by}
use Rattle.vp_progress.proofs.Acts.{Did, Since, sends_since, stays_since, by_carried, after_call, stays_known}
use Rattle.vp_progress.proofs.Started.{IsUp, Past, past_of, Fit, Started, starts_all}
use Rattle.vp_progress.proofs.Based.{Based, moves_on, other_as}
use Rattle.vp_progress.proofs.Rows.{invites, regroup_commits, regroup_sends, refuses, notes}
use Rattle.vp_progress.proofs.Invited.{promised_is, not_spent, below, unlike, Accepted, Invited, regrouped, accepts_all}
use Rattle.vp_progress.proofs.Mended.{Places, places_last}
use Rattle.vp_progress.proofs.Counted.{views_left}
use Rattle.vp_progress.proofs.Opened.{opened_all}

-- ---- how many calls there are among the events

carry_gathers : (told leader : ℕ) (ns : List ℕ) (w : WorldState) (e : Event) → carries told ns w e ≡ true → gathers leader ns w e ≡ true
carry_gathers told leader ns w (event.Deliver k) e = (both_true (is_within ns (message_at w k)) (is_calm (message_at w k)) (both_true (nat_lt told k) (is_within ns (message_at w k) && is_calm (message_at w k)) e).1).0
carry_gathers told leader ns w (event.Call site words) e = cc
carry_gathers told leader ns w (event.Flow count) e = cc
carry_gathers told leader ns w (event.Tick site) e = cc
carry_gathers told leader ns w (event.Probe site) e = cc
carry_gathers told leader ns w (event.Cut a b) e = cc
carry_gathers told leader ns w (event.Heal a b) e = e
carry_gathers told leader ns w (event.Crash site) e = cc
carry_gathers told leader ns w (event.Restart site) e = e

carried_calls : (catalogue : Catalogue) (told : ℕ) (ns : List ℕ) (events : List Event) (w : WorldState) → EachPasses catalogue (carries told ns) w events → calls_in events ≡ 0
carried_calls catalogue told ns [] w p = refl
carried_calls catalogue told ns (event.Call site words ∷ more) w p = let z = p.0 in cc
carried_calls catalogue told ns (event.Deliver k ∷ more) w p = carried_calls catalogue told ns more (next catalogue (event.Deliver k) w).world p.1
carried_calls catalogue told ns (event.Heal a b ∷ more) w p = carried_calls catalogue told ns more (next catalogue (event.Heal a b) w).world p.1
carried_calls catalogue told ns (event.Restart site ∷ more) w p = carried_calls catalogue told ns more (next catalogue (event.Restart site) w).world p.1
carried_calls catalogue told ns (event.Flow count ∷ more) w p = let z = p.0 in cc
carried_calls catalogue told ns (event.Tick site ∷ more) w p = let z = p.0 in cc
carried_calls catalogue told ns (event.Probe site ∷ more) w p = let z = p.0 in cc
carried_calls catalogue told ns (event.Cut a b ∷ more) w p = let z = p.0 in cc
carried_calls catalogue told ns (event.Crash site ∷ more) w p = let z = p.0 in cc

both_calls : (front back : List Event) → calls_in (front ++ back) ≡ calls_in front + calls_in back
both_calls [] back = omega arith
both_calls (event.Call site words ∷ front) back = let z = both_calls front back in omega (arith, z)
both_calls (event.Deliver k ∷ front) back = both_calls front back
both_calls (event.Heal a b ∷ front) back = both_calls front back
both_calls (event.Restart site ∷ front) back = both_calls front back
both_calls (event.Flow count ∷ front) back = both_calls front back
both_calls (event.Tick site ∷ front) back = both_calls front back
both_calls (event.Probe site ∷ front) back = both_calls front back
both_calls (event.Cut a b ∷ front) back = both_calls front back
both_calls (event.Crash site ∷ front) back = both_calls front back

promise_as : (catalogue : Catalogue) (w new : WorldState) (s : ℕ) (x : SiteState) (o : Stepped) → Known catalogue (scene_of w) → site_of w s ≡ Some x → Did w new s x o → o.site.promise ≡ x.promise → (c : ℕ) → promise_at (scene_of new) c ≡ promise_at (scene_of w) c
promise_as catalogue w new s x o k up d e c = ⊎_elim
    (λ (here : c ≡ s). rw here (ap (λ (d : DurableState). d.promise) d.acted.kept_now ∙ e ∙ ap (λ (d : DurableState). d.promise) (k.views.site s x up).kept))
    (λ (other : c ≢ s). ap (λ o. (kept_in o).promise) (d.acted.moved.others c other))
    (same_site c s)

still_up : {w new : WorldState} {s : ℕ} {x : SiteState} {o : Stepped} → Did w new s x o → (c : ℕ) → IsUp c w → IsUp c new
still_up {s = s} {o = o} d c u = ⊎_elim (λ (here : c ≡ s). (o.site, rw here d.acted.now)) (λ (n : c ≢ s). (u.0, other_as d c n ∙ u.1)) (same_site c s)

module _ (catalogue : Catalogue) (ns : List ℕ) (past : Past) (r : ℕ) (lead : Has ns r) (sub : (q : ℕ) → Has ns q → Has (sites_of catalogue) q) where
  -- ---- events with so many calls

  record Gathers (calls : ℕ) (w : WorldState) (Q : WorldState → Type 0) : Type 0 where
    events : List Event
    passing : EachPasses catalogue (gathers r ns) w events
    count : calls_in events ≡ calls
    fresh : AllByRecursion (IsFresh past.told) events
    so : Q (world_after catalogue events w)

  carried : (Q : WorldState → Type 0) (w : WorldState) → Can catalogue (carries past.told ns) w Q → Gathers 0 w Q
  carried Q w c = record { events = c.events; passing = pass_by catalogue (carries past.told ns) (gathers r ns) (carry_gathers past.told r ns) c.events w c.passing; fresh = each_fresh catalogue (carries past.told ns) past.told (λ w e p. calm_fresh past.told ns w e (carry_calm past.told ns w e p)) c.events w c.passing; count = carried_calls catalogue past.told ns c.events w c.passing; so = c.so }

  then_gathers : (a b : ℕ) (Q R : WorldState → Type 0) (w : WorldState) → Gathers a w Q → ((new : WorldState) → Q new → Gathers b new R) → Gathers (a + b) w R
  then_gathers a b Q R w g f =
      let h = f (world_after catalogue g.events w) g.so in
      let sum = both_calls g.events h.events in
      let front = g.count in
      let back = h.count in
      record {
        events = g.events ++ h.events;
        passing = pass_both catalogue (gathers r ns) g.events h.events w g.passing h.passing;
        count = omega (arith, sum, front, back);
        fresh = both_fresh past.told g.events h.events g.fresh h.fresh;
        so = subst R (sym (after_both catalogue g.events h.events w)) h.so;
      }

  called : (Q : WorldState → Type 0) (w : WorldState) → Q (next catalogue (event.Call r call.Regroup) w).world → Gathers 1 w Q
  called Q w q = record { events = event.Call r call.Regroup ∷ []; passing = (rw (eq_self r) refl, tt); count = refl; fresh = (tt, tt); so = q }

  -- ---- the first invitation, and what is heard of

  -- each of these sites has been sent the invitation
  record Learning (id : ViewId) (w : WorldState) : Type 0 where
    base : Based catalogue ns past w
    sent : (q : ℕ) → Has ns q → q ≢ r → Since past.told w (letter r q (message.Invite id))
    up : (q : ℕ) → Has ns q → IsUp q w
    leader : SiteState
    led : site_of w r ≡ Some leader
    own : leader.promise.number ≡ id.number
    number : id.number < 2 ^ 64 - 1
    seen : leader.seen < 2 ^ 64 - 1
    room : (q : ℕ) → Has ns q → (promise_at (scene_of w) q).number < 2 ^ 64 - 1

  -- the leader's next invitation is above that site's promise
  abbrev Learned : ℕ → WorldState → Type 0
  Learned q w = (x : SiteState) → site_of w r ≡ Some x → (promise_at (scene_of w) q).number ≤ highest x.views

  one_leader : (w : WorldState) (x y : SiteState) → site_of w r ≡ Some x → site_of w r ≡ Some y → x ≡ y
  one_leader w x y a b = let z = sym a ∙ b in grind (arith, z)

  learned_now : (id : ViewId) (w : WorldState) (f : Learning id w) (q : ℕ) → (promise_at (scene_of w) q).number ≤ highest f.leader.views → Learned q w
  learned_now id w f q low x up = subst (λ (x : SiteState). (promise_at (scene_of w) q).number ≤ highest x.views) (one_leader w f.leader x f.led up) low

  hears : (id : ViewId) (q : ℕ) (w : WorldState) → Has ns q → Learning id w → id.number < (promise_at (scene_of w) q).number → Can catalogue (carries past.told ns) w (Each (Learning id) Learned (q ∷ []) w)
  hears id q w here f above =
      let u = f.up q here in
      let y = u.0 in
      let ok = f.base.known.views.site q y u.1 in
      let led = f.base.known.views.site r f.leader f.led in
      let promise : y.promise ≡ promise_at (scene_of w) q = ap (λ (d : DurableState). d.promise) ok.kept in
      let higher : id.number < y.promise.number = rw (ap (λ (i : ViewId). i.number) promise) above in
      let other : q ≢ r = λ (same : q ≡ r). (let mine : f.leader.promise.number ≡ (promise_at (scene_of w) q).number = rw same (ap (λ (d : DurableState). d.promise.number) led.kept) in let own = f.own in omega (arith, above, mine, own)) in
      let turned : r ≢ q = λ (same : r ≡ q). other (sym same) in
      let is = refuses catalogue y r id (not_above y.promise id higher) (below id y.promise higher) in
      by_carried catalogue past.told ns _ w q y f.base.known here u.1 r (message.Invite id) refl (f.sent q here other) lead (f.base.joined r q lead here)
      λ mid k d.
      let base1 = moves_on catalogue ns past w mid q y _ f.base k d (ap (λ (o : Stepped). o.effects.commits) is) in
      let stale = sends_since past.told f.base.grown d _ (subst (λ (s : ℕ). Has (step catalogue y (input.Message r (message.Invite id))).effects.messages (letter s r (message.Stale id y.promise))) ok.id (rw is (has_one _))) in
      let promise1 = promise_as catalogue w mid q y _ f.base.known u.1 d (ap (λ (o : Stepped). o.site.promise) is) in
      let led1 = other_as d r turned ∙ f.led in
      by_carried catalogue past.told ns _ mid r f.leader k lead led1 q (message.Stale id y.promise) refl stale here (base1.joined q r here lead)
      λ new k2 e.
      let noted = notes catalogue f.leader q id y.promise in
      let promise2 = promise_as catalogue mid new r f.leader _ k led1 e (ap (λ (o : Stepped). o.site.promise) noted) in
      let promises : (c : ℕ) → promise_at (scene_of new) c ≡ promise_at (scene_of w) c = λ c. promise2 c ∙ promise1 c in
      let seen : (step catalogue f.leader (input.Message q (message.Stale id y.promise))).site.seen ≡ max f.leader.seen y.promise.number = ap (λ (o : Stepped). o.site.seen) noted in
      let own : (step catalogue f.leader (input.Message q (message.Stale id y.promise))).site.promise ≡ f.leader.promise = ap (λ (o : Stepped). o.site.promise) noted in
      let still : Learning id new = record {
        base = moves_on catalogue ns past mid new r f.leader _ base1 k2 e (ap (λ (o : Stepped). o.effects.commits) noted);
        sent = λ c h n. stays_since past.told e _ (stays_since past.told d _ (f.sent c h n));
        up = λ c h. still_up e c (still_up d c (f.up c h));
        leader = (step catalogue f.leader (input.Message q (message.Stale id y.promise))).site;
        led = e.acted.now;
        own = ap (λ (i : ViewId). i.number) own ∙ f.own;
        number = f.number;
        seen = rw seen (most_below f.leader.seen y.promise.number (2 ^ 64 - 1) f.seen (rw (ap (λ (i : ViewId). i.number) promise) (f.room q here)));
        room = λ c h. rw (promises c) (f.room c h);
      } in
      let grows : (n : ℕ) → n ≤ highest f.leader.views → n ≤ highest still.leader.views = λ n h. rw (own, seen) (keeps_most n f.leader.promise.number f.leader.seen y.promise.number h) in
      let done : Learned q new = learned_now id new still q (rw (promises q, own, seen) (rw (ap (λ (i : ViewId). i.number) (sym promise)) (last_most f.leader.promise.number f.leader.seen y.promise.number))) in
      can_now catalogue (carries past.told ns) _ new (record {
        still = still;
        done = λ c h. ⊎_elim (λ (one : q ≡ c). subst (λ (c : ℕ). Learned c new) one done) (λ more. absurd (has_none c more)) (has_cons q [] c h);
        stays = λ c l. learned_now id new still c (grows _ (rw (promises c) (l f.leader f.led)));
      })
    where
      not_above : (a b : ViewId) → b.number < a.number → view_before a b ≡ false
      not_above a b h = grind (arith, nat_tests, h)

      most_below : (a b n : ℕ) → a < n → b < n → max a b < n
      most_below a b n h g = omega (arith, h, g)

      keeps_most : (n promise seen more : ℕ) → n ≤ max promise seen → n ≤ max promise (max seen more)
      keeps_most n promise seen more h = omega (arith, h)

      last_most : (promise seen more : ℕ) → more ≤ max promise (max seen more)
      last_most promise seen more = omega arith

  learns_one : (id : ViewId) (q : ℕ) (w : WorldState) → Has ns q → Learning id w → Can catalogue (carries past.told ns) w (Each (Learning id) Learned (q ∷ []) w)
  learns_one id q w here f = go (nat_lt id.number (promise_at (scene_of w) q).number) refl
    where
      go : (b : Bool) → nat_lt id.number (promise_at (scene_of w) q).number ≡ b → Can catalogue (carries past.told ns) w (Each (Learning id) Learned (q ∷ []) w)
      go true e = hears id q w here f (grind (arith, nat_tests, e))
      go false e =
          let low : (promise_at (scene_of w) q).number ≤ f.leader.promise.number = (let own = f.own in grind (arith, nat_tests, e, own)) in
          can_now catalogue (carries past.told ns) _ w (record {
            still = f;
            done = λ c h. ⊎_elim (λ (one : q ≡ c). subst (λ (c : ℕ). Learned c w) one (learned_now id w f q (omega (arith, low)))) (λ more. absurd (has_none c more)) (has_cons q [] c h);
            stays = λ c l. l;
          })

  invited_first : (w : WorldState) → Started catalogue ns past w → HaveViewsLeft ns w → (x : SiteState) → site_of w r ≡ Some x → Learning (next_view x) (next catalogue (event.Call r call.Regroup) w).world
  invited_first w f left x mine =
      let known = f.fit.known in
      let new = (next catalogue (event.Call r call.Regroup) w).world in
      let o = step catalogue x (input.Call 0 call.Regroup) in
      let ok = known.views.site r x mine in
      let own : x.promise ≡ promise_at (scene_of w) r = ap (λ (d : DurableState). d.promise) ok.kept in
      let promised : (q : ℕ) → Has ns q → (promise_at (scene_of w) q).number < 2 ^ 64 - 2 = λ q h. rw (← (promised_is (place_of q w.places))) (left.promised q (has_test ns q h)) in
      let low : x.promise.number < 2 ^ 64 - 2 = rw (ap (λ (i : ViewId). i.number) own) (promised r lead) in
      let heard : x.seen < 2 ^ 64 - 2 = left.seen r x (has_test ns r lead) mine in
      let free : is_spent x.views ≡ false = not_spent x.promise.number x.seen (2 ^ 64 - 1) (less low) (less heard) in
      let d = after_call catalogue (λ w e. true) (λ w. Unit {0}) w r x known mine call.Regroup in
      let now = invites catalogue x 0 free in
      record {
        base = moves_on catalogue ns past w new r x o (record { known = known; joined = f.joined; same = f.fit.same; grown = f.fit.grown }) (stays_known catalogue (event.Call r call.Regroup) w known) d (regroup_commits catalogue x 0 free);
        sent = λ q h n. sends_since past.told f.fit.grown d _ (subst (λ (s : ℕ). Has o.effects.messages (letter s q (message.Invite (next_view x)))) ok.id (regroup_sends catalogue x 0 q free (filter_keeps (λ q. not (q == x.id)) (sites_of catalogue) q (sub q h) (unlike q x.id (rw ok.id n)))));
        up = λ q h. still_up d q (f.up q h);
        leader = o.site;
        led = d.acted.now;
        own = ap (λ (v : ViewState). v.promise.number) now;
        number = above x.promise.number x.seen low heard;
        seen = rw (ap (λ (v : ViewState). v.seen) now) (less heard);
        room = λ q h. ⊎_elim
            (λ (here : q ≡ r). rw here (rw (ap (λ (d : DurableState). d.promise.number) d.acted.kept_now ∙ ap (λ (v : ViewState). v.promise.number) now) (above x.promise.number x.seen low heard)))
            (λ (other : q ≢ r). rw (ap (λ o. (kept_in o).promise.number) (d.acted.moved.others q other)) (less (promised q h)))
            (same_site q r);
      }
    where
      less : {n : ℕ} → n < 2 ^ 64 - 2 → n < 2 ^ 64 - 1
      less h = omega (arith, h)

      above : (promise seen : ℕ) → promise < 2 ^ 64 - 2 → seen < 2 ^ 64 - 2 → max promise seen + 1 < 2 ^ 64 - 1
      above promise seen h g = omega (arith, h, g)

  learns_all : (id : ViewId) (w : WorldState) → Learning id w → Can catalogue (carries past.told ns) w (Each (Learning id) Learned ns w)
  learns_all id w f = one_by_one catalogue (carries past.told ns) (Learning id) Learned ns (learns_one id) ns (λ a h. h) w f

  -- ---- the second invitation, which all accept

  invited_again : (id : ViewId) (w : WorldState) → (f : Learning id w) → ((q : ℕ) → Has ns q → Learned q w) → Invited catalogue ns past (next_view f.leader) r (next catalogue (event.Call r call.Regroup) w).world
  invited_again id w f all =
      let x = f.leader in
      let free : is_spent x.views ≡ false = not_spent x.promise.number x.seen (2 ^ 64 - 1) (rw f.own f.number) f.seen in
      regrouped catalogue ns past w (next catalogue (event.Call r call.Regroup) w).world r x sub f.base f.up lead f.led free (λ q h. all q h x f.led)
      (stays_known catalogue (event.Call r call.Regroup) w f.base.known) (after_call catalogue (λ w e. true) (λ w. Unit {0}) w r x f.base.known f.led call.Regroup)

  abbrev All_accepted : ViewId → WorldState → Type 0
  All_accepted id w = Invited catalogue ns past id r w × ((q : ℕ) → Has ns q → q ≢ r → Accepted id r q w)

  accepted_all : (id : ViewId) (w : WorldState) → Invited catalogue ns past id r w → Can catalogue (carries past.told ns) w (All_accepted id)
  accepted_all id w f =
      can_then catalogue (carries past.told ns) _ (All_accepted id) w (accepts_all catalogue ns past id r lead w f)
      λ new a. can_now catalogue (carries past.told ns) (All_accepted id) new (a.still, (λ q h n. a.done q h n))

  abbrev Open : WorldState → Type 0
  Open w = Started catalogue ns past w × HaveViewsLeft ns w

  abbrev Gathered : WorldState → Type 0
  Gathered w = (id : ViewId) × All_accepted id w

  opens_all : (w : WorldState) → Fit catalogue ns past w → HaveViewsLeft ns w → Can catalogue (opens ns) w Open
  opens_all w f left =
      let c = starts_all catalogue ns past w f in
      let o = opened_all catalogue ns c.events w c.passing in
      record {
        events = c.events;
        passing = c.passing;
        so = (
          c.so,
          record {
            unspent = c.so.fit.unspent;
            promised = λ q h. rw (promised_is (place_of q (world_after catalogue c.events w).places), o.promise q, ← (promised_is (place_of q w.places))) (left.promised q h);
            seen = λ q x h up. ⊎_elim (λ none. rw none (omega arith)) (λ old. left.seen q x h old) (o.seen q x up);
          },
        );
      }

  gathers_all : (w : WorldState) → Fit catalogue ns past w → HaveViewsLeft ns w → Gathers 2 w Gathered
  gathers_all w f left =
      then_gathers 0 2 Open Gathered w (carried Open w (can_by catalogue (opens ns) (carries past.told ns) (open_carries past.told ns) Open w (opens_all w f left)))
      λ w1 s. then_gathers 1 1 (λ new. (id : ViewId) × Learning id new) Gathered w1 (called _ w1 (let x = s.0.up r lead in (next_view x.0, invited_first w1 s.0 s.1 x.0 x.1)))
      λ w2 l. then_gathers 0 1 (Each (Learning l.0) Learned ns w2) Gathered w2 (carried _ w2 (learns_all l.0 w2 l.1))
      λ w3 e. then_gathers 1 0 (λ new. (id : ViewId) × Invited catalogue ns past id r new) Gathered w3 (called _ w3 (next_view e.still.leader, invited_again l.0 w3 e.still e.done))
      λ w4 i. carried Gathered w4 (can_then catalogue (carries past.told ns) (All_accepted i.0) Gathered w4 (accepted_all i.0 w4 i.1) λ new a. can_now catalogue (carries past.told ns) Gathered new (i.0, a))

  awaited : (w : WorldState) → Gathered w → IsAwaited ns r w
  awaited w g =
      let f = g.1.0 in
      record {
        id = g.0;
        accepted = f.accepted;
        inviting = (f.leader, f.up, f.inviting);
        all = λ q h.
            let here = has_from_test ns q h in
            has_test f.accepted q (⊎_elim (λ (same : q ≡ r). rw same f.own) (λ (n : q ≢ r). rw f.inviting at ((g.1.1 q here n).counted f.leader f.up)) (same_site q r));
        waiting = λ q h n. let a = g.1.1 q (has_from_test ns q h) n in (a.at, a.up, a.waiting);
      }

pub gather : (s : Schedule) (sites : List ℕ) (leader : ℕ) → ((q : ℕ) → has sites q ≡ true → has (sites_of s.catalogue) q ≡ true) → has sites leader ≡ true → HaveViewsLeft sites (world_of s) → CanGather s sites leader
gather s sites leader sub here left =
    let lead = has_from_test sites leader here in
    let inside : (q : ℕ) → Has sites q → Has (sites_of s.catalogue) q = (λ q h. has_from_test (sites_of s.catalogue) q (sub q (has_test sites q h))) in
    let fit : Fit s.catalogue sites (past_of (world_of s)) (world_of s) = record {
      known = in_last s.catalogue (Known s.catalogue) (known_last s.catalogue) s.events;
      unspent = left.unspent;
      there = λ q h. in_last s.catalogue (Places s.catalogue) (places_last s.catalogue) s.events q (inside q h);
      same = refl;
      grown = omega arith;
    } in
    let g = gathers_all s.catalogue sites (past_of (world_of s)) leader lead inside (world_of s) fit left in
    let is = world_goes_on s g.events (passing_flows_not s.catalogue (gathers leader sites) (λ w count. refl) g.events (world_of s) g.passing) in
    record {
      more = g.events;
      gathering = g.passing;
      fresh = g.fresh;
      twice = (let two = g.count in omega (arith, two));
      awaited = subst (IsAwaited sites leader) (sym is) (awaited s.catalogue sites (past_of (world_of s)) leader lead inside _ g.so);
    }

pub gather_shortly : (s : Schedule) (sites : List ℕ) (leader : ℕ) → ((q : ℕ) → has sites q ≡ true → has (sites_of s.catalogue) q ≡ true) → has sites leader ≡ true → length (moments_of s) < 2 ^ 32 - 2 → CanGather s sites leader
gather_shortly s sites leader sub here few = gather s sites leader sub here (views_left s sites few)
