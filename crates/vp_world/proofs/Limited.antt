-- What the limits say of a step.
use Rattle.std.proofs.Common.{◌≡◌, ◌≤◌, ◌+◌, ℕ, Bool, true, false, nat_lt, if◌then◌else◌, List, length, Option, Some, None, Result, Ok, Err, IfOk, refl, ap, ◌∙◌, arith}
use Rattle.std.proofs.lemmas.Bool.Decides.{nat_tests}
use Rattle.vp_model.specs.Types.{Sent, Counted, Event, Shown}
use Rattle.vp_model.specs.Types.counted
use Rattle.vp_model.specs.Catalogue.{Catalogue}
use Rattle.vp_model.specs.Limits.{world_limits, refused}
use Rattle.vp_model.specs.World.{WorldState, Moved, next}
use Rattle.vp_model.proofs.CountedSteps.{happens_steps, next_counts}
use Rattle.vp_world.specs.declared.end.WorldEnd.{WorldEnd}
use Rattle.vp_world.specs.declared.end.WorldEnd.TheVariants as end
use Rattle.vp_world.specs.Limits.{Ends, Does, too_many, too_many_steps, with_line}
use Rattle.vp_world.specs.Known.{IsWithinLimits}

few_steps : (n : ℕ) → too_many_steps n ≡ None → n ≤ 100000
few_steps n h = grind (arith, nat_tests, h)

few_messages : (sent : List Sent) → too_many sent ≡ None → length sent ≤ 2000000
few_messages sent h = grind (arith, nat_tests, h)

module _ (catalogue : Catalogue) (e : Event) (w : WorldState) where
  -- the limits are tested one after the other
  abbrev by_steps : Bool → Option Counted
  by_steps b = if b then Some counted.Steps else too_many (next catalogue e w).world.sent

  refused_is : refused world_limits catalogue e w ≡ by_steps (nat_lt 100000 (w.steps + 1))
  refused_is = rw (happens_steps catalogue (record w { steps = w.steps + 1 }) e) refl

  steps_first : (b : Bool) (what : Counted) → (if b then Some counted.Steps else None) ≡ Some what → by_steps b ≡ Some what
  steps_first true what h = h
  steps_first false what h = cc

  not_steps : (b : Bool) → (if b then Some counted.Steps else None) ≡ None → by_steps b ≡ too_many (next catalogue e w).world.sent
  not_steps true h = cc
  not_steps false h = refl

  -- too many steps
  pub steps_end : (r : Result Shown WorldEnd) (why : WorldEnd) → r ≡ Err why → Ends {A = Unit {0}} (too_many_steps (w.steps + 1)) (Err why) → Ends (refused world_limits catalogue e w) r
  steps_end r end.NoMemory is h = rw is tt
  steps_end r (end.Limit what limit) is h = rw is (refused_is ∙ steps_first (nat_lt 100000 (w.steps + 1)) what h.0, h.1)

  module _ (few : too_many_steps (w.steps + 1) ≡ None) (new : WorldState) where
    -- too many messages, or neither
    pub happens_end : (r : Result Shown WorldEnd) → Does (next catalogue e w) new r → Ends (refused world_limits catalogue e w) r
    happens_end (Ok line) h = refused_is ∙ not_steps (nat_lt 100000 (w.steps + 1)) few ∙ h.1
    happens_end (Err end.NoMemory) h = tt
    happens_end (Err (end.Limit what limit)) h = (refused_is ∙ not_steps (nat_lt 100000 (w.steps + 1)) few ∙ h.0, h.1)

    pub happens_within : (r : Result Shown WorldEnd) → Does (next catalogue e w) new r → IfOk r (λ line. IsWithinLimits (with_line line new))
    happens_within (Ok line) h =
        let moved : with_line line new ≡ (next catalogue e w).world = ap (λ (m : Moved). m.world) h.0 in
        let counted : (next catalogue e w).world.steps ≡ w.steps + 1 = next_counts catalogue e w in
        rw moved (record { steps = rw counted (few_steps (w.steps + 1) few); messages = few_messages (next catalogue e w).world.sent h.1 })
    happens_within (Err why) h = tt
