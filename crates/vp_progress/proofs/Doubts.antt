-- A doubt stays until its coordinator says the outcome: no other site ever does.
use Rattle.std.proofs.Common.{◌≡◌, ◌∙◌, ap, sym, subst, ℕ, ◌+◌, true, false, List, [], ◌∷◌, refl, ⊎_elim}
use Rattle.std.specs.Prelude.{Option, Some, None}
use Rattle.std.specs.List.{Contains}
use Rattle.vp_model.specs.Types.{Sent, Commit, Message, Input, Event, Live, Doubt}
use Rattle.vp_model.specs.Types.input
use Rattle.vp_model.specs.Types.message
use Rattle.vp_model.specs.Words.{has}
use Rattle.vp_model.specs.Catalogue.{Catalogue}
use Rattle.vp_model.specs.Durable.{DurableState}
use Rattle.vp_model.specs.Site.{SiteState}
use Rattle.vp_model.specs.Step.{step}
use Rattle.vp_model.specs.World.{Place, WorldState, Moved, Schedule, place_of, next}
use Rattle.vp_laws.proofs.Lists.Members.{Has, contains, has_of, both_true}
use Rattle.vp_laws.proofs.Table.Endings.{Says}
use Rattle.vp_laws.proofs.Table.Shares.{OutcomeComes}
use Rattle.vp_laws.proofs.Worlds.Scenes.{Scene, scene_of, kept_in, kept_at, plain_at, acted}
use Rattle.vp_laws.proofs.Worlds.Sites.{quiet_kept, crash_quiet, restart_quiet, start_sent, With, with_last}
use Rattle.vp_laws.proofs.Worlds.Events.{Arrives, crashed, restarted, Lasts, in_last, came_in, happens-good}
use Rattle.vp_laws.proofs.Worlds.Occurs.{Gives, Occurs, occurs}
use Rattle.vp_laws.proofs.Invariant.Known.{Known}
use Rattle.vp_laws.proofs.Keeping.Known.{known_last}
use Rattle.vp_laws.proofs.Keeping.Does.{does}
use Rattle.vp_laws.proofs.Keeping.NewEntries.{doubt_stays}
use Rattle.vp_progress.specs.Going.{goes_on, world_after, EachPasses, is_within, mends}
use Rattle.vp_progress.specs.Progress.{world_of}
use Rattle.vp_progress.specs.Doubts.{doubts_in, doubts_of}
use Rattle.vp_progress.proofs.Going.{world_goes_on, passing_flows_not}
use Rattle.vp_progress.proofs.Counted.{stepped_scene}

-- ---- an outcome is sent by the site of its transaction

abbrev IsOwnEnd : ℕ → Message → Type 0
IsOwnEnd from (message.Outcome txn commit) = txn.site ≡ from
IsOwnEnd from m = Unit {0}

pub record InvToldBy (w : Scene) : Type 0 where
  pub own : (m : Sent) → Has w.sent m → IsOwnEnd m.from m.message

said_by : (x : SiteState) (given : Input) (live : List Live) (cs : List Commit) (from to : ℕ) (m : Message) → from ≡ x.id → Says x given live cs to m → IsOwnEnd from m
said_by x given live cs from to (message.Outcome txn true) e h = h.0 ∙ sym e
said_by x given live cs from to (message.Outcome txn false) e h = h.0 ∙ sym e
said_by x given live cs from to m e h = tt

told_acts : (catalogue : Catalogue) (w : Scene) (s : ℕ) (x : SiteState) (given : Input) → plain_at w s ≡ Some x → Arrives w s given → Known catalogue w → InvToldBy w → InvToldBy (acted w s x (step catalogue x given))
told_acts catalogue w s x given up r k inv =
    let d = does catalogue w s x given up r k in
    record { own = λ m h. ⊎_elim (λ old. inv.own m old) (λ new. said_by x given _ _ m.from m.to m.message (d.local.sent m new).0 (d.endings.says m new)) (d.st.sent m h) }

pub told_last : (catalogue : Catalogue) → Lasts catalogue (With (Known catalogue) InvToldBy)
told_last catalogue = with_last catalogue (Known catalogue) InvToldBy (known_last catalogue) (record {
  starts = record { own = λ m h. absurd (start_sent catalogue m h) };
  acts = λ w s x given up r k inv. told_acts catalogue w s x given up r k inv;
  quiet = λ w new s q k inv. record { own = λ m h. inv.own m (subst (λ (ms : List Sent). Has ms m) q.sent h) };
})

-- ---- what mends leaves such a doubt

module _ (catalogue : Catalogue) (ns : List ℕ) (q : ℕ) (d : Doubt) (outside : has ns d.txn.site ≡ false) where
  abbrev Doubted : Scene → Type 0
  Doubted w = Has (kept_at w q).doubts d

  -- an outcome that comes from one of these sites is of one of them
  no_outcome : (e : Event) (w : WorldState) (s : ℕ) (given : Input) → InvToldBy (scene_of w) → Arrives (scene_of w) s given → mends ns w e ≡ true → Gives e w s given → OutcomeComes given d.txn → ⊥
  no_outcome e w s _ inv r pass (Gives.called words is) o = let z = o.2 in cc
  no_outcome e w s _ inv r pass (Gives.ticked is) o = let z = o.2 in cc
  no_outcome e w s _ inv r pass (Gives.probed is) o = let z = o.2 in cc
  no_outcome e w s _ inv r pass (Gives.came k m is at to) o =
      let from : d.txn.site ≡ o.0 = inv.own _ (came_in (scene_of w) s (input.Message m.from m.message) r o.0 (message.Outcome d.txn o.1) o.2) in
      let same : m.from ≡ o.0 = (let z = o.2 in cc) in
      let within : is_within ns (Some m) ≡ true = subst (λ (a : Option Sent). is_within ns a ≡ true) at (subst (λ (e : Event). mends ns w e ≡ true) is pass) in
      let there : has ns d.txn.site ≡ true = subst (λ (s : ℕ). has ns s ≡ true) (same ∙ sym from) (both_true (has ns m.from) (has ns m.to) within).0 in
      let z = sym there ∙ outside in cc

  stays_by : (e : Event) (w : WorldState) (m : Moved) → With (Known catalogue) InvToldBy (scene_of w) → Known catalogue (scene_of m.world) → mends ns w e ≡ true → Occurs catalogue e w m → Doubted (scene_of w) → Doubted (scene_of m.world)
  stays_by e w m k n pass (Occurs.acts s x given v same up arrives gives is) h =
      let scene : scene_of m.world ≡ acted (scene_of w) s x (step catalogue x given) = ap (λ (m : Moved). scene_of m.world) is ∙ stepped_scene catalogue s x given v ∙ ap (λ (z : Scene). acted z s x (step catalogue x given)) same in
      let now = subst (Known catalogue) scene n in
      subst Doubted (sym scene) (⊎_elim (λ still. still) (λ over. absurd (no_outcome e w s given k.more arrives pass gives over.1))
      (doubt_stays catalogue (scene_of w) (acted (scene_of w) s x (step catalogue x given)) s x given (step catalogue x given) k.base now (does catalogue (scene_of w) s x given up arrives k.base) q d h))
  stays_by e w m k n pass (Occurs.stands same shown) h = subst Doubted (sym same) h
  stays_by e w m k n pass (Occurs.crashes s same shown) h = subst Doubted (sym same) (subst (λ (ds : List Doubt). Has ds d) (sym (quiet_kept catalogue (scene_of w) (crashed (scene_of w) s) s (crash_quiet catalogue (scene_of w) s) (λ (k : DurableState). k.doubts) (crash_quiet catalogue (scene_of w) s).doubts q)) h)
  stays_by e w m k n pass (Occurs.restarts s place at up id same shown) h =
      let quiet = restart_quiet catalogue (scene_of w) s place at id in
      subst Doubted (sym same) (subst (λ (ds : List Doubt). Has ds d) (sym (quiet_kept catalogue (scene_of w) (restarted catalogue (scene_of w) s) s quiet (λ (k : DurableState). k.doubts) quiet.doubts q)) h)

  stays_all : (more : List Event) (w : WorldState) → With (Known catalogue) InvToldBy (scene_of w) → EachPasses catalogue (mends ns) w more → Doubted (scene_of w) → Doubted (scene_of (world_after catalogue more w))
  stays_all [] w k pass h = h
  stays_all (e ∷ more) w k pass h =
      let new = happens-good catalogue (With (Known catalogue) InvToldBy) (told_last catalogue) e (record w { steps = w.steps + 1 }) k in
      stays_all more (next catalogue e w).world new pass.1 (stays_by e w (next catalogue e w) k new.base pass.0 (occurs catalogue e w) h)

-- ---- from every schedule

pub doubts_kept : (o : Option Place) → doubts_in o ≡ (kept_in o).doubts
doubts_kept None = refl
doubts_kept (Some p) = refl

pub stay : (s : Schedule) (ns : List ℕ) (q : ℕ) (d : Doubt) (more : List Event) → has ns d.txn.site ≡ false → Contains (doubts_of (world_of s) q) d → EachPasses s.catalogue (mends ns) (world_of s) more → Contains (doubts_of (world_of (goes_on s more)) q) d
stay s ns q d more outside there pass =
    let is = world_goes_on s more (passing_flows_not s.catalogue (mends ns) (λ w count. refl) more (world_of s) pass) in
    let good = in_last s.catalogue (With (Known s.catalogue) InvToldBy) (told_last s.catalogue) s.events in
    let h = subst (λ (ds : List Doubt). Has ds d) (doubts_kept (place_of q (world_of s).places)) (has_of _ d there) in
    let after = stays_all s.catalogue ns q d outside more (world_of s) good pass h in
    contains _ d (subst (λ (ds : List Doubt). Has ds d) (sym (doubts_kept (place_of q (world_of (goes_on s more)).places))) (subst (λ (w : WorldState). Has (kept_at (scene_of w) q).doubts d) (sym is) after))
