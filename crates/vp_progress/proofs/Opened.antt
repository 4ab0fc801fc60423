-- Pairs that are healed and sites that start leave each promise, and what each site has heard of or nothing.
use Rattle.std.proofs.Common.{◌≡◌, ◌⊎◌, ◌∙◌, ap, sym, subst, ℕ, true, List, [], ◌∷◌, refl, inl, inr, ⊎_elim}
use Rattle.std.specs.Prelude.{Some}
use Rattle.vp_model.specs.Types.{Event, Input}
use Rattle.vp_model.specs.Catalogue.{Catalogue}
use Rattle.vp_model.specs.Durable.{DurableState}
use Rattle.vp_model.specs.Site.{SiteState}
use Rattle.vp_model.specs.World.{WorldState, Moved, next}
use Rattle.vp_laws.proofs.Worlds.Scenes.{Scene, scene_of, kept_at, plain_at, promise_at}
use Rattle.vp_laws.proofs.Worlds.Sites.{Quiet, QuietIs, quiet_is, quiet_kept, crash_quiet, restart_quiet}
use Rattle.vp_laws.proofs.Worlds.Events.{crashed, restarted}
use Rattle.vp_laws.proofs.Worlds.Occurs.{Gives, Occurs, occurs}
use Rattle.vp_progress.specs.Going.{world_after, EachPasses}
use Rattle.vp_progress.proofs.Calm.{opens}
use Rattle.vp_progress.proofs.Counted.{start_seen}

pub record Opened (w new : Scene) : Type 0 where
  pub promise : (q : ℕ) → (promise_at new q).number ≡ (promise_at w q).number
  pub seen : (q : ℕ) (x : SiteState) → plain_at new q ≡ Some x → (x.seen ≡ 0) ⊎ (plain_at w q ≡ Some x)

opened_along : (a b c : Scene) → Opened a b → Opened b c → Opened a c
opened_along a b c p q = record { promise = λ s. q.promise s ∙ p.promise s; seen = λ s x up. ⊎_elim (λ none. inl none) (λ old. p.seen s x old) (q.seen s x up) }

opened_same : (w : Scene) → Opened w w
opened_same w = record { promise = λ q. refl; seen = λ q x up. inr up }

module _ (catalogue : Catalogue) (ns : List ℕ) where
  opened_quiet : (w new : Scene) (s : ℕ) → Quiet catalogue w new s → Opened w new
  opened_quiet w new s u = record { promise = λ q. quiet_kept catalogue w new s u (λ (d : DurableState). d.promise.number) (ap (λ i. i.number) u.promise) q; seen = λ q x up. go q x (quiet_is catalogue w new s u q x up) }
    where
      go : (q : ℕ) (x : SiteState) → QuietIs catalogue w s q x → (x.seen ≡ 0) ⊎ (plain_at w q ≡ Some x)
      go q x (QuietIs.here here same) = inl (ap (λ (y : SiteState). y.seen) (sym same) ∙ start_seen catalogue s (kept_at w s))
      go q x (QuietIs.other n old) = inr old

  none_acts : (e : Event) (w : WorldState) (s : ℕ) (given : Input) → opens ns w e ≡ true → Gives e w s given → ⊥
  none_acts e w s _ pass (Gives.called words is) = let z = subst (λ (e : Event). opens ns w e ≡ true) is pass in cc
  none_acts e w s _ pass (Gives.came k m is at to) = let z = subst (λ (e : Event). opens ns w e ≡ true) is pass in cc
  none_acts e w s _ pass (Gives.ticked is) = let z = subst (λ (e : Event). opens ns w e ≡ true) is pass in cc
  none_acts e w s _ pass (Gives.probed is) = let z = subst (λ (e : Event). opens ns w e ≡ true) is pass in cc

  opened_by : (e : Event) (w : WorldState) (m : Moved) → opens ns w e ≡ true → Occurs catalogue e w m → Opened (scene_of w) (scene_of m.world)
  opened_by e w m pass (Occurs.acts s x given v same up arrives gives is) = absurd (none_acts e w s given pass gives)
  opened_by e w m pass (Occurs.stands same shown) = subst (Opened (scene_of w)) (sym same) (opened_same (scene_of w))
  opened_by e w m pass (Occurs.crashes s same shown) = subst (Opened (scene_of w)) (sym same) (opened_quiet (scene_of w) (crashed (scene_of w) s) s (crash_quiet catalogue (scene_of w) s))
  opened_by e w m pass (Occurs.restarts s place at up id same shown) = subst (Opened (scene_of w)) (sym same) (opened_quiet (scene_of w) (restarted catalogue (scene_of w) s) s (restart_quiet catalogue (scene_of w) s place at id))

  pub opened_all : (events : List Event) (w : WorldState) → EachPasses catalogue (opens ns) w events → Opened (scene_of w) (scene_of (world_after catalogue events w))
  opened_all [] w p = opened_same (scene_of w)
  opened_all (e ∷ events) w p = opened_along (scene_of w) (scene_of (next catalogue e w).world) _ (opened_by e w (next catalogue e w) p.0 (occurs catalogue e w)) (opened_all events (next catalogue e w).world p.1)
