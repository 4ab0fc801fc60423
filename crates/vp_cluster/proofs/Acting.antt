-- The letter that brings a step to its site, and the host that it comes to.
use Rattle.std.proofs.Common.{◌≡◌, ◌∙◌, ap, sym, subst, ℕ, List, cond, refl}
use Rattle.std.specs.Prelude.{◌==◌, Option, Some, None, IfSome, is_some, option_map, option_and_then}
use Rattle.vp_catalog.specs.Document.{IsCatalogue}
use Rattle.vp_wire.specs.Grammar.{IsFrame}
use Rattle.vp_model.specs.Types.{Event, Sent, Effects}
use Rattle.vp_model.specs.Words.{value_at}
use Rattle.vp_model.specs.Catalogue.{Catalogue, sites_of}
use Rattle.vp_model.specs.Site.{SiteState}
use Rattle.vp_model.specs.Step.{step, durable_of}
use Rattle.vp_model.specs.Told.{is_step}
use Rattle.vp_model.specs.World.{Place, WorldState, Moment, place_of, site_of, next, moment}
use Rattle.vp_laws.specs.Shapes.{IsShaped}
use Rattle.vp_laws.specs.ShapeLaws.{IsEvent, IsPlace, IsWorld, message_frame}
use Rattle.vp_laws.proofs.Lists.Items.{all_at}
use Rattle.vp_laws.proofs.Lists.Members.{Has, find_has}
use Rattle.vp_laws.proofs.Shapes.Moves.{some_at}
use Rattle.vp_laws.proofs.Worlds.Scenes.{scene_of, kept_in, place-id, up-place}
use Rattle.vp_laws.proofs.Invariant.Views.{InvViews}
use Rattle.vp_runs.specs.declared.arrival.Arrival.TheVariants as arrives
use Rattle.vp_runs.specs.Arrivals.{arrival}
use Rattle.vp_runs.specs.Keeping.{durable_in}
use Rattle.vp_runs.specs.Turns.{Turn, turn_on, step_turn}
use Rattle.vp_world.specs.Asked.{Asked, life_start, restart_asked}
use Rattle.vp_world.specs.Steps.{asked_of, IsReady}
use Rattle.vp_runs.specs.Kept.{kept_in as batches_in}
use Rattle.vp_runs.proofs.Happened.{Acts, Effect}
use Rattle.vp_runs.proofs.Datagrams.{has_port}
use Rattle.vp_cluster.specs.Letter.{Letter, as_received}
use Rattle.vp_cluster.specs.Letters.{letter_of}
use Rattle.vp_cluster.specs.Hosts.{IsAt, Lends, turn_at}
use Rattle.vp_cluster.specs.Ports.{LendsAt}
use Rattle.vp_cluster.specs.Nodes.{NodesValue, MayStep, MayRestart, MayDo}
use Rattle.vp_cluster.specs.Clusters.{HasSite, AreTied}
use Rattle.vp_cluster.proofs.Lent.{none_lent, site_lent}
use Rattle.vp_cluster.proofs.TiedLetters.{Brings, brought}

-- what is known of a moment of a schedule
pub record Facts (catalogue : Catalogue) (m : Moment) : Type 0 where
  pub event_is : IsEvent m.line.event
  pub next_is : m ≡ moment m.number m.before m.line.event (next catalogue m.line.event m.before)
  pub views : InvViews catalogue (scene_of m.before)
  pub shaped : (id : ℕ) (x : SiteState) → site_of m.before id ≡ Some x → IsShaped catalogue x
  pub sent : (sent : Sent) → Has m.before.sent sent → IsFrame (message_frame sent) × Has (sites_of catalogue) sent.from
  pub routed : (sent : Sent) → Has m.after.sent sent → Has (sites_of catalogue) sent.to

-- a site that is up in a well-formed world is well formed
pub site_shaped : (catalogue : Catalogue) (w : WorldState) (id : ℕ) (x : SiteState) → IsWorld catalogue w → site_of w id ≡ Some x → IsShaped catalogue x
site_shaped catalogue w id x world up =
    let p = up-place (place_of id w.places) x up in
    let here : p.0.up ≡ Some x = ap (option_and_then (λ (place : Place). place.up)) (sym p.1) ∙ up in
    (some_at (λ (site : SiteState). (site.id ≡ p.0.id) × IsShaped catalogue site) p.0.up x (all_at (IsPlace catalogue) w.places world.places_are p.0 (find_has (λ (place : Place). place.id == id) w.places p.0 p.1)).up_is here).1

-- the durable part of each site is what its log folds to
abbrev pub Folds : Catalogue → List Moment → WorldState → Type 0
Folds catalogue moments w = (id : ℕ) (place : Place) → place_of id w.places ≡ Some place → Has (sites_of catalogue) id → durable_in catalogue id (batches_in catalogue id moments) ≡ place.durable

-- a step of a site, over nodes that are tied to what came before
module _ (catalogue : Catalogue) (k : IsCatalogue catalogue) (m : Moment) (moments : List Moment) (old : NodesValue) (facts : Facts catalogue m) (tied : AreTied catalogue moments m.before old) (s : ℕ) (a : Acts catalogue m s) where
  abbrev pub effects : Effects
  effects = (step catalogue a.x a.given).effects

  abbrev pub taken : Turn
  taken = step_turn catalogue a.x.id (step catalogue a.x a.given)

  pub known : Has (sites_of catalogue) s
  known = let p = up-place (place_of s m.before.places) a.x a.up in facts.views.known s p.0 p.1

  pub letter : (letter : Letter) × (letter_of catalogue old.letters m.line.event ≡ Some letter) × Brings catalogue k s a.given letter
  letter =
      subst (λ (letters : List Letter). (letter : Letter) × (letter_of catalogue letters m.line.event ≡ Some letter) × Brings catalogue k s a.given letter) (sym tied.letters)
      (brought catalogue k m.line.event m.before s a.given facts.event_is facts.sent known a.gives)

  pub own : HasSite catalogue moments m.before old s letter.0.to
  own = tied.sites s letter.0.to letter.2.to_is

  pub up_is : own.place.up ≡ Some a.x
  up_is = ap (option_and_then (λ (place : Place). place.up)) (sym own.place_is) ∙ a.up

  pub is_id : a.x.id ≡ s
  is_id = (facts.views.site s a.x a.up).id

  pub durable_is : own.place.durable ≡ durable_of a.x
  durable_is = sym ((facts.views.site s a.x a.up).kept ∙ ap kept_in own.place_is)

  pub turn_is : turn_at old.catalogue a.x (as_received letter.0) ≡ taken
  unfolding turn_on
  turn_is =
      ap (λ (c : Catalogue). turn_at c a.x (as_received letter.0)) tied.catalogue_is
      ∙ ap (turn_on catalogue a.x) (ap (λ (id : ℕ). arrival catalogue id (as_received letter.0)) is_id ∙ letter.2.comes)

  pub lent : asked_of catalogue m.line.event m.before ≡ Some (Asked.steps m.line.event a.x a.given)
  lent = site_lent catalogue m.before m.line.event s a.x a.given a.gives a.up (ap (λ (n : Moment). is_step n.line.shown) (sym facts.next_is) ∙ ap is_step a.shown_is)

  pub comes : arrival old.catalogue a.x.id (as_received letter.0) ≡ arrives.Gives a.given
  comes = ap (λ (c : Catalogue). arrival c a.x.id (as_received letter.0)) tied.catalogue_is ∙ ap (λ (id : ℕ). arrival catalogue id (as_received letter.0)) is_id ∙ letter.2.comes

  module _ (folds : Folds catalogue moments m.before) where
    lends : Lends catalogue a.x own.host
    lends = record {
      catalogue_is = k;
      site_is = facts.shaped s a.x a.up;
      same_id = is_id ∙ sym own.id_is;
      batches = batches_in catalogue s moments;
      at = subst (λ (up : Option SiteState). IsAt (batches_in catalogue s moments) up own.host) up_is own.at;
      folds = ap (λ (id : ℕ). durable_in catalogue id (batches_in catalogue s moments)) is_id ∙ folds s own.place own.place_is known ∙ durable_is;
    }

    -- the site can be lent to the host that the letter comes to
    pub lends_at : LendsAt old.catalogue a.x letter.0.to old.hosts
    lends_at = (own.host, own.host_is, subst (λ (c : Catalogue). Lends c a.x own.host) (sym tied.catalogue_is) lends)

    may_step : MayStep catalogue m.line.event a.x a.given old
    may_step = record {
      formed = facts.event_is;
      letter = letter.0;
      letter_is = ap (λ (c : Catalogue). letter_of c old.letters m.line.event) tied.catalogue_is ∙ letter.1;
      comes = comes;
      lent = lends_at;
      same_catalogue = tied.catalogue_is;
    }

-- ---- any event

abbrev IfAsked : Catalogue → NodesValue → Option Asked → Type 0
IfAsked catalogue nodes o = IfSome o (λ a. MayDo catalogue a nodes)

crash_ready : (catalogue : Catalogue) (nodes : NodesValue) (s : ℕ) (o : Option SiteState) → IfAsked catalogue nodes (option_map (λ _. Asked.crashes s) o)
crash_ready catalogue nodes s None = tt
crash_ready catalogue nodes s (Some x) = tt

module _ (catalogue : Catalogue) (m : Moment) (moments : List Moment) (old : NodesValue) (facts : Facts catalogue m) (tied : AreTied catalogue moments m.before old) (folds : Folds catalogue moments m.before) (s : ℕ) where
  may_restart : (place : Place) → place_of s m.before.places ≡ Some place → place.up ≡ None → MayRestart catalogue place.id (life_start catalogue place.id place.durable) old
  may_restart place at down =
      let known = facts.views.known s place at in
      let p = has_port catalogue.sites s known in
      let h = tied.sites s p.0 p.1 in
      let same : h.place ≡ place = (let z = sym h.place_is ∙ at in cc) in
      let id : place.id ≡ s = place-id s m.before.places place at in
      record {
        port = p.0;
        host = h.host;
        port_is = ap (λ (c : Catalogue). value_at place.id c.sites) tied.catalogue_is ∙ ap (λ (id : ℕ). value_at id catalogue.sites) id ∙ p.1;
        host_is = h.host_is;
        id_is = h.id_is ∙ sym id;
        batches = batches_in catalogue s moments;
        down = subst (λ (up : Option SiteState). IsAt (batches_in catalogue s moments) up h.host) (ap (λ (place : Place). place.up) same ∙ down) h.at;
        site_is =
            sym (ap (λ (c : Catalogue). life_start c place.id (durable_in c place.id (batches_in catalogue s moments))) tied.catalogue_is
            ∙ ap (λ (id : ℕ). life_start catalogue place.id (durable_in catalogue id (batches_in catalogue s moments))) id
            ∙ ap (life_start catalogue place.id) (folds s place at known));
        same_catalogue = tied.catalogue_is;
      }

  restart_ready : (found : Option Place) → place_of s m.before.places ≡ found → IfAsked catalogue old (option_and_then (restart_asked catalogue) found)
  restart_ready None at = tt
  restart_ready (Some place) at = go place.up refl
    where
      go : (up : Option SiteState) → place.up ≡ up → IfAsked catalogue old (cond (is_some up) None (Some (Asked.restarts place.id (life_start catalogue place.id place.durable))))
      go None down = may_restart place at down
      go (Some x) up = tt

-- nodes that are tied to what came before may do what the next event asks
pub ready_on : (catalogue : Catalogue) (k : IsCatalogue catalogue) (m : Moment) (moments : List Moment) (old : NodesValue) → Facts catalogue m → AreTied catalogue moments m.before old → Folds catalogue moments m.before → Effect catalogue m
    → IsReady MayDo catalogue m.line.event m.before old
ready_on catalogue k m moments old facts tied folds (Effect.acts s a others) = subst (IfAsked catalogue old) (sym (lent catalogue k m moments old facts tied s a)) (may_step catalogue k m moments old facts tied s a folds)
ready_on catalogue k m moments old facts tied folds (Effect.crashes s is sent here others) = subst (λ (e : Event). IsReady MayDo catalogue e m.before old) (sym is) (crash_ready catalogue old s (site_of m.before s))
ready_on catalogue k m moments old facts tied folds (Effect.restarts s is sent here others) =
    subst (λ (e : Event). IsReady MayDo catalogue e m.before old) (sym is) (restart_ready catalogue m moments old facts tied folds s (place_of s m.before.places) refl)
ready_on catalogue k m moments old facts tied folds (Effect.stands plain none sent all) =
    subst (IfAsked catalogue old) (sym (none_lent catalogue m.before m.line.event plain (ap (λ (n : Moment). is_step n.line.shown) (sym facts.next_is) ∙ none))) tt
