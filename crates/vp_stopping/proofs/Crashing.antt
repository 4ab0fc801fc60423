-- What is done if the site that does a step stops in it.
use Rattle.std.proofs.Common.{◌≡◌, ◌∙◌, ap, sym, subst, ℕ, ◌+◌, ◌-◌, ◌≤◌, Bool, true, false, List, [], ◌∷◌, ◌++◌, length, arith, append_assoc}
use Rattle.std.specs.Prelude.{Option, Some, None, IfSome, IsSome, Result, Err, option_to_list}
use Rattle.std.specs.List.{range_with_len}
use Rattle.vp_model.specs.Types.{Event, Counted}
use Rattle.vp_model.specs.Types.event
use Rattle.vp_model.specs.Catalogue.{Catalogue}
use Rattle.vp_model.specs.World.{WorldState, message_at, next}
use Rattle.vp_model.specs.Limits.{world_limits, limit_in, refused}
use Rattle.vp_runs.specs.Stopped.{stop_at, message_taken, pass_over, stopped_world}
use Rattle.vp_runs.proofs.Delivered.{IsSingle}
use Rattle.vp_world.specs.Known.{Known}
use Rattle.vp_world.specs.Limits.{Ends}
use Rattle.vp_world.specs.Steps.{taker, passed_over}
use Rattle.vp_world.specs.declared.end.WorldEnd.{WorldEnd}
use Rattle.vp_world.specs.declared.end.WorldEnd.TheVariants as end
use Rattle.vp_stopping.specs.declared.stopped.Steps.{Steps}
use Rattle.vp_stopping.specs.Singles.{HaveDone, moment_in, run_in_place}
use Rattle.vp_stopping.proofs.InPlace.{kept_limit_first, kept_limit_then, lose_more, lost_limit, place_grows, place_sends, place_stopped, place_world, still_there, taken_single, taken_there}

-- ---- messages that nobody gets

-- one more of those after the first so many
pub one_lost : (catalogue : Catalogue) (w : WorldState) (done : List Event) (before i : ℕ) (steps : Steps) (now : Known) → before ≤ i
    → HaveDone catalogue done (pass_over (range_with_len (before + 1) (i - before)) w) steps
    → now ≡ record steps.world { world = passed_over (i + 1) steps.world.world }
    → now ≡ record { catalogue = catalogue; world = pass_over (range_with_len (before + 1) ((i + 1) - before)) w }
one_lost catalogue w done before i steps now le h is =
    is ∙ ap (λ (k : Known). record k { world = passed_over (i + 1) k.world }) h.0
    ∙ ap (λ (v : WorldState). record { catalogue = catalogue; world = v }) (lose_more before i w le)

-- ---- the crash

module _ (self : Steps) (site : ℕ) (e : Event) (takes : taker self.world.catalogue e self.world.world ≡ Some site) where
  abbrev c : Catalogue
  c = self.world.catalogue

  abbrev w : WorldState
  w = self.world.world

  single : IsSingle e
  single = taken_single c w site e takes

  abbrev crash_event : Event
  crash_event = event.Crash site

  abbrev Crashed : Bool → Steps → Type 0
  Crashed kept after = HaveDone c (self.done ++ stop_at kept site e) (run_in_place c kept site e w).world after

  abbrev limit : Bool → Option Counted
  limit kept = limit_in world_limits (run_in_place c kept site e w).moments

  -- without the step
  pub lost_done : (kept : Bool) (after : Steps) → kept ≡ false → HaveDone c (self.done ++ crash_event ∷ []) (next c crash_event w).world after → Crashed kept after
  lost_done true after lost_is h = cc
  lost_done false after lost_is h = subst (λ v. HaveDone c (self.done ++ crash_event ∷ []) v after) (sym (place_world c false site e w single)) h

  pub lost_ends : (kept : Bool) (r : Result Steps WorldEnd) → kept ≡ false → Ends (refused world_limits c crash_event w) r → Ends (limit kept) r
  lost_ends true r lost_is h = cc
  lost_ends false r lost_is h = subst (λ (o : Option Counted). Ends o r) (sym (lost_limit c site e w single)) h

  -- a limit ends the step
  pub kept_ends_first : {B : Type 0} (kept : Bool) (why : WorldEnd) (r : Result B WorldEnd) → kept ≡ true → Ends {A = Steps} (refused world_limits c e w) (Err why) → r ≡ Err why → Ends (limit kept) r
  kept_ends_first false why r kept_is h is = cc
  kept_ends_first true (end.Limit what much) r kept_is h is = rw is (kept_limit_first c site e w single what h.0, h.1)
  kept_ends_first true end.NoMemory r kept_is h is = rw is tt

  -- the step is done
  module _ (kept : Bool) (kept_is : kept ≡ true) (first : Steps) (did : HaveDone c (self.done ++ e ∷ []) (next c e w).world first) (none : refused world_limits c e w ≡ None) where
    abbrev refused_then : Option Counted
    refused_then = refused world_limits first.world.catalogue crash_event first.world.world

    then_is : refused_then ≡ limit kept
    then_is =
        ap (λ (k : Known). refused world_limits k.catalogue crash_event k.world) did.0
        ∙ sym (kept_limit_then c site e w single none) ∙ ap limit (sym kept_is)

    pub kept_ends : (r : Result Steps WorldEnd) → Ends refused_then r → Ends (limit kept) r
    kept_ends r h = subst (λ (o : Option Counted). Ends o r) then_is h

    pub kept_done : (after : Steps) → HaveDone first.world.catalogue (first.done ++ crash_event ∷ []) (next first.world.catalogue crash_event first.world.world).world after → Crashed kept after
    kept_done after h =
        subst (λ kept. Crashed kept after) (sym kept_is) (
          h.0 ∙ ap (λ (k : Known). record { catalogue = k.catalogue; world = (next k.catalogue crash_event k.world).world }) did.0
              ∙ ap (λ (v : WorldState). record { catalogue = c; world = v }) (sym (place_world c true site e w single)),
          h.1 ∙ ap (λ (d : List Event). d ++ crash_event ∷ []) did.1 ∙ append_assoc self.done (e ∷ []) (crash_event ∷ []),
        )

  -- ---- after the crash

  module _ (kept : Bool) (taken : Option ℕ) (taken_is : option_to_list taken ≡ message_taken e) (crashed : Steps) (did : Crashed kept crashed) where
    there : (o : Option ℕ) (e : Event) → option_to_list o ≡ message_taken e → taker c e w ≡ Some site → IfSome o (λ k. IsSome (message_at w k))
    there None e is takes = tt
    there (Some k) (event.Deliver j) is takes =
        let same : k ≡ j = cc in
        subst (λ k. IsSome (message_at w k)) (sym same) (taken_there c w site j takes)
    there (Some k) (event.Call s words) is takes = cc
    there (Some k) (event.Flow count) is takes = cc
    there (Some k) (event.Tick s) is takes = cc
    there (Some k) (event.Probe s) is takes = cc
    there (Some k) (event.Cut a b) is takes = cc
    there (Some k) (event.Heal a b) is takes = cc
    there (Some k) (event.Crash s) is takes = cc
    there (Some k) (event.Restart s) is takes = cc

    world_is : crashed.world.world ≡ (run_in_place c kept site e w).world
    world_is = ap (λ (k : Known). k.world) did.0

    still : (o : Option ℕ) → IfSome o (λ k. IsSome (message_at w k)) → IfSome o (λ k. IsSome (message_at crashed.world.world k))
    still None h = tt
    still (Some k) h =
        let sends = place_sends c kept site e w single in
        still_there crashed.world.world w sends.0 k (ap (λ (v : WorldState). v.sent) world_is ∙ sends.1) h

    -- the message that the step took was sent
    pub taken_sent : IfSome taken (λ k. IsSome (message_at crashed.world.world k))
    taken_sent = still taken (there taken e taken_is takes)

    -- and it counts as delivered
    module _ (passed : Steps) (then_ : HaveDone crashed.world.catalogue crashed.done (pass_over (option_to_list taken) crashed.world.world) passed) where
      same_sent : passed.world.world.sent ≡ (run_in_place c kept site e w).world.sent
      same_sent = ap (λ (k : Known). k.world.sent) then_.0 ∙ ap (λ (v : WorldState). v.sent) world_is

      pub sent_more : (before : ℕ) → before ≡ length w.sent → before ≤ length passed.world.world.sent
      sent_more before is =
          let grows = place_grows c kept site e w single in
          let long = ap length same_sent in
          omega (arith, grows, long, is)

      pub stop_done : (before : ℕ) → before ≡ length w.sent → (after : Steps)
          → HaveDone passed.world.catalogue passed.done (pass_over (range_with_len (before + 1) (length passed.world.world.sent - before)) passed.world.world) after
          → HaveDone c (self.done ++ stop_at kept site e) (stopped_world c kept site (moment_in c e w)) after
      stop_done before is after h = (
        h.0
            ∙ ap (λ (n : ℕ). record { catalogue = passed.world.catalogue; world = pass_over (range_with_len (n + 1) (length passed.world.world.sent - n)) passed.world.world }) is
            ∙ ap (λ (k : Known). record { catalogue = k.catalogue; world = pass_over (range_with_len (length w.sent + 1) (length k.world.sent - length w.sent)) k.world }) then_.0
            ∙ ap (λ (k : Known). record { catalogue = k.catalogue; world = pass_over (range_with_len (length w.sent + 1) (length k.world.sent - length w.sent)) (pass_over (option_to_list taken) k.world) }) did.0
            ∙ ap (λ (v : WorldState). record { catalogue = c; world = v }) (place_stopped c kept site e w single (option_to_list taken) taken_is),
        h.1 ∙ then_.1 ∙ did.1,
      )
