-- The laws of views and votes in the words of the contracts.
use Rattle.std.proofs.Common.{◌≡◌, ◌∙◌, ap, ℕ, refl}
use Rattle.std.specs.Prelude.{Option, Some, None}
use Rattle.std.specs.List.{Contains}
use Rattle.vp_model.specs.Types.{View, Shown}
use Rattle.vp_model.specs.Catalogue.{Catalogue}
use Rattle.vp_model.specs.Durable.{DurableState}
use Rattle.vp_model.specs.Step.{step}
use Rattle.vp_model.specs.World.{Place, WorldState, Moment, Schedule, place_of, run_of, moments_of}
use Rattle.vp_laws.specs.Agreement.{ViewsAgree, ViewsGoOn, promise_in}
use Rattle.vp_model.specs.Types.message
use Rattle.vp_laws.specs.Votes.{VotesAreAwaited}
use Rattle.vp_laws.proofs.Invariant.Votes.{voted_pending}
use Rattle.vp_laws.proofs.Lists.Members.{Has, contains, has_of}
use Rattle.vp_laws.proofs.Lists.Views.{AtMost, AtMost-refl, AtMost-trans, AtMost-along, not_before}
use Rattle.vp_laws.proofs.Worlds.Scenes.{Scene, scene_of, kept_in, promise_at, acted, stepping}
use Rattle.vp_laws.proofs.Table.Views.{local-step}
use Rattle.vp_laws.proofs.Invariant.Views.{InvViews}
use Rattle.vp_laws.proofs.Worlds.Events.{in_last, in_each}
use Rattle.vp_laws.proofs.Worlds.Moments.{MomentOf, moment_of, later_on}
use Rattle.vp_laws.proofs.Keeping.Views.{rises_at, views_last}
use Rattle.vp_laws.proofs.Invariant.Known.{Known}
use Rattle.vp_laws.proofs.Keeping.Known.{known_last}

promise_same : (o : Option Place) → promise_in o ≡ (kept_in o).promise
promise_same None = refl
promise_same (Some p) = refl

agree : (catalogue : Catalogue) (w : WorldState) → InvViews catalogue (scene_of w) → ViewsAgree w
agree catalogue w inv = record {
  members = λ a b x y u v p q h k e. ap (λ (z : View). z.members) (inv.unique u v ((inv.site a x p).held u h) ((inv.site b y q).held v k) e);
  self = λ a x v p h. let ok = inv.site a x p in contains v.members a (rw ok.id at (ok.tidy.held v h).3);
  held = λ a x v p h. contains w.agreed v ((inv.site a x p).held v h);
  unique = λ u v h k e. ap (λ (z : View). z.members) (inv.unique u v (has_of w.agreed u h) (has_of w.agreed v k) e);
  promised = λ v a h c. rw promise_same (not_before _ v.id ((inv.view v (has_of w.agreed v h)).members a (has_of v.members a c)));
  below = λ v u a x h c p held.
      let ok = inv.site a x p in
      let same : u.id ≡ promise_at (scene_of w) a = (ok.tidy.held u held).0 ∙ ap (λ (d : DurableState). d.promise) ok.kept in
      not_before u.id v.id (AtMost-along ((inv.view v (has_of w.agreed v h)).members a (has_of v.members a c)) refl same);
}

pub last : (s : Schedule) → ViewsAgree (run_of s).world
last s = agree s.catalogue (run_of s).world (in_last s.catalogue (InvViews s.catalogue) (views_last s.catalogue) s.events)

pub each : (s : Schedule) (m : Moment) → Contains (moments_of s) m → ViewsAgree m.before × ViewsAgree m.after
each s m c =
    let h = in_each s.catalogue (InvViews s.catalogue) (views_last s.catalogue) s.events m (has_of (moments_of s) m c) in
    (agree s.catalogue m.before h.0, agree s.catalogue m.after h.1)

-- nothing goes back
record GoesOn (w new : Scene) : Type 0 where
  agreed : (v : View) → Has w.agreed v → Has new.agreed v
  promised : (a : ℕ) → AtMost (promise_at w a) (promise_at new a)

goes_on : (catalogue : Catalogue) (w : Scene) (what : Shown) (new : Scene) → MomentOf catalogue w what new → InvViews catalogue w → GoesOn w new
goes_on catalogue w what new (MomentOf.same e rs cs) inv = rw e (record { agreed = λ v h. h; promised = λ a. AtMost-refl (promise_at w a) })
goes_on catalogue w what new (MomentOf.quiet s q rs cs) inv = record { agreed = q.moved.agreed; promised = rises_at catalogue w new s q.moved }
goes_on catalogue w what new (MomentOf.steps s x given first up r is e) inv =
    let ok = inv.site s x up in
    let moved = (stepping catalogue w s x given up ok.kept (local-step catalogue x given ok.tidy)).moved in
    rw e (record { agreed = moved.agreed; promised = rises_at catalogue w (acted w s x (step catalogue x given)) s moved })

views_go_on : (before after : WorldState) → ((v : View) → Has before.agreed v → Has after.agreed v) → ((a : ℕ) → AtMost (promise_at (scene_of before) a) (promise_at (scene_of after) a)) → ViewsGoOn before after
views_go_on before after agreed promised = record {
  agreed = λ v h. contains after.agreed v (agreed v (has_of before.agreed v h));
  promised = λ a. rw (promise_same (place_of a after.places), promise_same (place_of a before.places)) (not_before (promise_at (scene_of after) a) (promise_at (scene_of before) a) (promised a));
}

pub onward : (s : Schedule) (m : Moment) → Contains (moments_of s) m → ViewsGoOn m.before m.after × ViewsGoOn m.after (run_of s).world
onward s m c =
    let there = has_of (moments_of s) m c in
    let I : Scene → Type 0 = InvViews s.catalogue in
    let lasts = views_last s.catalogue in
    let inv = in_each s.catalogue I lasts s.events m there in
    let what = moment_of s.catalogue I lasts (λ w. Unit {0}) (λ w what new is a b u. tt) s.events m there in
    let step = goes_on s.catalogue (scene_of m.before) m.line.shown (scene_of m.after) what inv.0 in (
      views_go_on m.before m.after step.agreed step.promised,
      views_go_on m.after (run_of s).world
          (λ v h. later_on s.catalogue I lasts (λ w. Has w.agreed v) (λ w what new is a b k. (goes_on s.catalogue w what new is a).agreed v k) s.events m there h)
          (λ a. later_on s.catalogue I lasts (λ w. AtMost (promise_at (scene_of m.after) a) (promise_at w a)) (λ w what new is i j k. AtMost-trans _ _ _ k ((goes_on s.catalogue w what new is i).promised a)) s.events m there (AtMost-refl (promise_at (scene_of m.after) a))),
    )

pub awaited : (s : Schedule) → VotesAreAwaited (run_of s).world
awaited s from to txn x t sent up live same =
    let known = in_last s.catalogue (Known s.catalogue) (known_last s.catalogue) s.events in
    voted_pending s.catalogue (scene_of (run_of s).world) known.votes from to txn (has_of (run_of s).world.sent (record { from = from; to = to; message = message.Vote txn }) sent) x t up (has_of x.live t live) same
