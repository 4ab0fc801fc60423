-- What mends takes no name: so a client whose site has one left is served in the whole world that is reached.
use Rattle.std.proofs.Common.{◌≡◌, ◌∙◌, ap, sym, subst, ℕ, ◌-◌, ◌^◌, ◌<◌, ◌≤◌, true, List, [], ◌∷◌, length, refl, arith}
use Rattle.std.specs.Prelude.{Some, is_some}
use Rattle.std.specs.List.{AllByRecursion}
use Rattle.vp_catalog.specs.Document.{IsCatalogue}
use Rattle.vp_model.specs.Types.{Call, Event, Input}
use Rattle.vp_model.specs.Types.call
use Rattle.vp_model.specs.Types.input
use Rattle.vp_model.specs.Words.{has}
use Rattle.vp_model.specs.Catalogue.{Catalogue, sites_of, find_record}
use Rattle.vp_model.specs.Site.{SiteState}
use Rattle.vp_model.specs.Step.{step}
use Rattle.vp_model.specs.World.{WorldState, Moved, Schedule, next, moments_of}
use Rattle.vp_laws.proofs.Lists.Members.{both_true}
use Rattle.vp_laws.proofs.Table.Views.{local-step}
use Rattle.vp_laws.proofs.Worlds.Scenes.{Scene, scene_of, kept_at, plain_at, acted, stepping}
use Rattle.vp_laws.proofs.Worlds.Sites.{NowIs, now_is, Quiet, QuietIs, quiet_is, crash_quiet, restart_quiet}
use Rattle.vp_laws.proofs.Worlds.Events.{crashed, restarted, in_last}
use Rattle.vp_laws.proofs.Worlds.Occurs.{Gives, Occurs, occurs}
use Rattle.vp_laws.proofs.Invariant.Known.{Known}
use Rattle.vp_laws.proofs.Keeping.Known.{known_last}
use Rattle.vp_progress.specs.Going.{goes_on, world_after, EachPasses, is_regroup, mends}
use Rattle.vp_progress.specs.Whole.{AreUnspent, HasNameLeft}
use Rattle.vp_progress.specs.Progress.{world_of}
use Rattle.vp_progress.specs.Clients.{Wish, name_in, FitATransaction, MayGive}
use Rattle.vp_progress.specs.NeverStuck.{CanBeServed}
use Rattle.vp_progress.proofs.Going.{world_goes_on, passing_flows_not}
use Rattle.vp_progress.proofs.Acts.{stays_known}
use Rattle.vp_progress.proofs.Named.{named-step}
use Rattle.vp_progress.proofs.Counted.{stepped_scene, start_seq, names_left, unspent}
use Rattle.vp_progress.proofs.Mended.{can_be_whole}
use Rattle.vp_progress.proofs.Serving.Served.{served}

module _ (catalogue : Catalogue) (ns : List ℕ) (q : ℕ) where
  abbrev Left : Scene → Type 0
  Left w = (x : SiteState) → plain_at w q ≡ Some x → x.seq < 2 ^ 32 - 1

  -- no transaction is begun by what mends
  no_begin : (e : Event) (w : WorldState) (s : ℕ) (given : Input) → mends ns w e ≡ true → Gives e w s given → (port : ℕ) → given ≡ input.Call port call.Begin → ⊥
  no_begin e w s _ pass (Gives.called words is) port c =
      let same : words ≡ call.Begin = (let z = c in cc) in
      let regroups : is_regroup words ≡ true = (both_true (has ns s) (is_regroup words) (subst (λ (e : Event). mends ns w e ≡ true) is pass)).1 in
      let z : is_regroup call.Begin ≡ true = subst (λ (words : Call). is_regroup words ≡ true) same regroups in cc
  no_begin e w s _ pass (Gives.came k m is at to) port c = let z = c in cc
  no_begin e w s _ pass (Gives.ticked is) port c = let z = c in cc
  no_begin e w s _ pass (Gives.probed is) port c = let z = c in cc

  left_acts : (w : Scene) (s : ℕ) (x : SiteState) (given : Input) → plain_at w s ≡ Some x → ((port : ℕ) → given ≡ input.Call port call.Begin → ⊥) → Known catalogue w → Left w → Left (acted w s x (step catalogue x given))
  left_acts w s x given up none k h y now =
      let ok = k.views.site s x up in
      let st = stepping catalogue w s x given up ok.kept (local-step catalogue x given ok.tidy) in
      go (now_is w (acted w s x (step catalogue x given)) s x (step catalogue x given) st q y now)
    where
      go : NowIs w s (step catalogue x given).site q y → y.seq < 2 ^ 32 - 1
      go (NowIs.here here same) =
          let few : x.seq < 2 ^ 32 - 1 = h x (rw here up) in
          let low : (step catalogue x given).site.seq ≤ x.seq = named-step catalogue x given x.seq (omega arith) (λ port c. absurd (none port c)) in
          let is = ap (λ (y : SiteState). y.seq) same in
          omega (arith, few, low, is)
      go (NowIs.other n old) = h y old

  left_quiet : (w new : Scene) (s : ℕ) → Quiet catalogue w new s → Left w → Left new
  left_quiet w new s u h y now = go (quiet_is catalogue w new s u q y now)
    where
      go : QuietIs catalogue w s q y → y.seq < 2 ^ 32 - 1
      go (QuietIs.here here same) = let z = ap (λ (y : SiteState). y.seq) (sym same) ∙ start_seq catalogue s (kept_at w s) in omega (arith, z)
      go (QuietIs.other n old) = h y old

  left_by : (e : Event) (w : WorldState) (m : Moved) → Known catalogue (scene_of w) → mends ns w e ≡ true → Occurs catalogue e w m → Left (scene_of w) → Left (scene_of m.world)
  left_by e w m k pass (Occurs.acts s x given v same up arrives gives is) h =
      let scene : scene_of m.world ≡ acted (scene_of w) s x (step catalogue x given) = ap (λ (m : Moved). scene_of m.world) is ∙ stepped_scene catalogue s x given v ∙ ap (λ (z : Scene). acted z s x (step catalogue x given)) same in
      subst Left (sym scene) (left_acts (scene_of w) s x given up (no_begin e w s given pass gives) k h)
  left_by e w m k pass (Occurs.stands same shown) h = subst Left (sym same) h
  left_by e w m k pass (Occurs.crashes s same shown) h = subst Left (sym same) (left_quiet (scene_of w) (crashed (scene_of w) s) s (crash_quiet catalogue (scene_of w) s) h)
  left_by e w m k pass (Occurs.restarts s place at up id same shown) h = subst Left (sym same) (left_quiet (scene_of w) (restarted catalogue (scene_of w) s) s (restart_quiet catalogue (scene_of w) s place at id) h)

  pub left_after : (more : List Event) (w : WorldState) → Known catalogue (scene_of w) → EachPasses catalogue (mends ns) w more → Left (scene_of w) → Left (scene_of (world_after catalogue more w))
  left_after [] w k pass h = h
  left_after (e ∷ more) w k pass h = left_after more (next catalogue e w).world (stays_known catalogue e w k) pass.1 (left_by e w (next catalogue e w) k pass.0 (occurs catalogue e w) h)

-- ---- from every schedule

pub can_be_served : (s : Schedule) (q : ℕ) (wishes : List Wish) → IsCatalogue s.catalogue → AreUnspent (sites_of s.catalogue) (world_of s) → has (sites_of s.catalogue) q ≡ true → HasNameLeft q (world_of s) → FitATransaction wishes → AllByRecursion (λ wish. is_some (find_record s.catalogue (name_in wish)) ≡ true) wishes → AllByRecursion (MayGive s.catalogue (sites_of s.catalogue)) wishes → CanBeServed s q wishes
can_be_served s q wishes catalogue room here left fits named gives =
    let c = can_be_whole s room in
    let ns = sites_of s.catalogue in
    let is = world_goes_on s c.more (passing_flows_not s.catalogue (mends ns) (λ w count. refl) c.more (world_of s) c.mending) in
    let known = in_last s.catalogue (Known s.catalogue) (known_last s.catalogue) s.events in
    let after : HasNameLeft q (world_of (goes_on s c.more)) = subst (HasNameLeft q) (sym is) (left_after s.catalogue ns q c.more (world_of s) known c.mending left) in
    let x = c.whole.sites q here in
    record {
      more = c.more;
      mending = c.mending;
      fresh = c.fresh;
      journal = c.journal;
      served = served (goes_on s c.more) q catalogue c.whole here x.0 wishes x.1 (after x.0 x.1) fits named gives;
    }

pub short_served : (s : Schedule) (q : ℕ) (wishes : List Wish) → IsCatalogue s.catalogue → length (moments_of s) < 2 ^ 32 - 2 → has (sites_of s.catalogue) q ≡ true → FitATransaction wishes → AllByRecursion (λ wish. is_some (find_record s.catalogue (name_in wish)) ≡ true) wishes → AllByRecursion (MayGive s.catalogue (sites_of s.catalogue)) wishes → CanBeServed s q wishes
short_served s q wishes catalogue short here fits named gives = can_be_served s q wishes catalogue (unspent s (sites_of s.catalogue) short) here (names_left s q short) fits named gives
