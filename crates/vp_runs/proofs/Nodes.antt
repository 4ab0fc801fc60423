-- Each site of a schedule is a node on its log.
use Rattle.std.proofs.Common.{◌≡◌, ◌∙◌, ap, sym, ℕ, ◌+◌, false, List, ◌∷◌, [], ◌++◌, refl}
use Rattle.std.specs.Prelude.{Some, ◌==◌}
use Rattle.std.specs.List.{AllByRecursion}
use Rattle.std.proofs.lemmas.List.Sums.{fold-append}
use Rattle.vp_catalog.specs.Document.{IsCatalogue}
use Rattle.vp_wire.specs.Grammar.{IsFrame}
use Rattle.vp_model.specs.Types.{LogRecord, Input, Sent}
use Rattle.vp_model.specs.Catalogue.{Catalogue, sites_of}
use Rattle.vp_model.specs.Durable.{DurableState, apply_all}
use Rattle.vp_model.specs.Site.{SiteState}
use Rattle.vp_model.specs.Step.{step, start, durable_of}
use Rattle.vp_model.specs.World.{Place, WorldState, Moment, Schedule, place_of, start_place, after_step, restart_place, moments_of}
use Rattle.vp_laws.specs.ShapeLaws.{IsEvent, IsPlace, IsWorld, message_frame}
use Rattle.vp_laws.proofs.Lists.Members.{Has, contains, find_has}
use Rattle.vp_laws.proofs.Worlds.Scenes.{place-id}
use Rattle.vp_laws.proofs.Worlds.Events.{in_each, in_last}
use Rattle.vp_laws.proofs.Worlds.Sites.{With}
use Rattle.vp_laws.proofs.Invariant.Views.{InvViews}
use Rattle.vp_laws.proofs.Invariant.Known.{Known}
use Rattle.vp_laws.proofs.Keeping.Views.{views_last}
use Rattle.vp_laws.proofs.Table.Durable.{step-folds}
use Rattle.vp_laws.proofs.Routes.InvRoutes.{InvRoutes, routes_last}
use Rattle.vp_laws.proofs.Shapes.Worlds.{each_world}
use Rattle.vp_laws.specs.Shapes.{IsShaped}
use Rattle.vp_laws.proofs.Lists.Items.{all_at}
use Rattle.vp_laws.proofs.Shapes.Moves.{some_at}
use Rattle.vp_outside.specs.declared.datagram.Datagram.{Datagram}
use Rattle.vp_runs.specs.declared.arrival.Arrival.TheVariants as arrives
use Rattle.vp_runs.specs.Arrivals.{arrival}
use Rattle.vp_runs.specs.Keeping.{durable_in, kept_with}
use Rattle.vp_runs.specs.Turns.{turn_on}
use Rattle.vp_runs.specs.Runs.{NodeRun, with_turn, one_turn, node_run}
use Rattle.vp_runs.proofs.Runs.{runs_go_on, runs_keep}
use Rattle.vp_runs.specs.Kept.{with_life, kept}
use Rattle.vp_runs.specs.Lives.{left_by, IsOfNode}
use Rattle.vp_runs.specs.LogLaws.{LogsAreOfNodes}
use Rattle.vp_runs.proofs.Happened.{Happened}
use Rattle.vp_runs.proofs.Through.{through_schedule}
use Rattle.vp_runs.proofs.Folds.{folds_on}
use Rattle.vp_runs.proofs.Steps.{events_are}
use Rattle.vp_runs.proofs.Datagrams.{comes}

-- one more datagram that gives an input, if no stop came
turn_given : (catalogue : Catalogue) (d : Datagram) (run : NodeRun) (given : Input) → run.stopped ≡ false → arrival catalogue run.node.site.id d ≡ arrives.Gives given
    → one_turn catalogue d run ≡ with_turn d (arrives.Gives given) (turn_on catalogue run.node.site (arrives.Gives given)) run
unfolding one_turn
turn_given catalogue d run given on comes = rw (on, comes) refl

-- the batches of one more life
left_more : (catalogue : Catalogue) (id : ℕ) (past : List (List Datagram)) (last : List Datagram) → left_by catalogue id (past ++ last ∷ []) ≡ (node_run catalogue id (left_by catalogue id past) last).node.batches
left_more catalogue id past last = fold-append (λ batches arrived. (node_run catalogue id batches arrived).node.batches) [] past (last ∷ [])

module _ (catalogue : Catalogue) (id : ℕ) where
  abbrev Of : List (List LogRecord) → Place → Type 0
  Of batches place = IsOfNode catalogue id batches place.up × (durable_in catalogue id batches ≡ place.durable)

  first_of : Of (with_life 1 []) (start_place catalogue id)
  unfolding node_run
  first_of = (record { past = []; last = []; left = refl; goes_on = refl; up_is = refl }, refl)

  -- a restart
  begins_of : (old new : Place) (before after : List (List LogRecord)) → IsOfNode catalogue id before old.up → durable_in catalogue id before ≡ old.durable → old.id ≡ id → new ≡ restart_place catalogue old
      → after ≡ with_life (old.durable.life + 1) before → IsOfNode catalogue id after new.up
  unfolding node_run
  begins_of old new before after h folds i p q =
      let lives = h.past ++ h.last ∷ [] in
      let b = left_by catalogue id lives in
      let kept : durable_in catalogue id b ≡ old.durable = ap (durable_in catalogue id) (sym h.left) ∙ folds in
      record {
        past = lives;
        last = [];
        left = q ∙ ap (λ (d : DurableState). with_life (d.life + 1) before) (sym kept) ∙ ap (with_life ((durable_in catalogue id b).life + 1)) h.left ∙ sym (left_more catalogue id lives []);
        goes_on = refl;
        up_is = rw p (ap (λ (n : ℕ). start catalogue n old.durable) i ∙ ap (start catalogue id) (sym kept));
      }

  -- a step
  module _ (run : NodeRun) (d : Datagram) (x : SiteState) (given : Input) (on : run.stopped ≡ false) (here : arrival catalogue id d ≡ arrives.Gives given) (x_id : x.id ≡ id) (same : x ≡ run.node.site) where
    turned : one_turn catalogue d run ≡ with_turn d (arrives.Gives given) (turn_on catalogue run.node.site (arrives.Gives given)) run
    turned = turn_given catalogue d run given on (ap (λ (n : ℕ). arrival catalogue n d) (ap (λ (y : SiteState). y.id) (sym same) ∙ x_id) ∙ here)

    still_on : (one_turn catalogue d run).stopped ≡ false
    unfolding turn_on
    still_on = ap (λ (r : NodeRun). r.stopped) turned

    site_now : (step catalogue x given).site ≡ (one_turn catalogue d run).node.site
    unfolding turn_on
    site_now = ap (λ (y : SiteState). (step catalogue y given).site) same ∙ sym (ap (λ (r : NodeRun). r.node.site) turned)

    batches_now : (old new : Place) (before : List (List LogRecord)) → new ≡ after_step (step catalogue x given) old → old.durable ≡ durable_of x → before ≡ run.node.batches
        → kept_with new.durable (step catalogue x given).effects.records before ≡ (one_turn catalogue d run).node.batches
    unfolding turn_on
    batches_now old new before p was b =
        let durable : new.durable ≡ durable_of (step catalogue x given).site = ap (λ (p : Place). p.durable) p ∙ ap (apply_all (step catalogue x given).effects.records) was ∙ step-folds catalogue x given in
        ap (λ (d : DurableState). kept_with d (step catalogue x given).effects.records before) durable
        ∙ ap (kept_with (durable_of (step catalogue x given).site) (step catalogue x given).effects.records) b
        ∙ ap (λ (y : SiteState). kept_with (durable_of (step catalogue y given).site) (step catalogue y given).effects.records run.node.batches) same
        ∙ sym (ap (λ (r : NodeRun). r.node.batches) turned)

  steps_of : (old new : Place) (before after : List (List LogRecord)) (x : SiteState) (given : Input) (d : Datagram) → IsOfNode catalogue id before old.up → durable_in catalogue id before ≡ old.durable
      → arrival catalogue id d ≡ arrives.Gives given → x.id ≡ id → old.up ≡ Some x → new ≡ after_step (step catalogue x given) old → after ≡ kept_with new.durable (step catalogue x given).effects.records before → IsOfNode catalogue id after new.up
  steps_of old new before after x given d h folds here i up p q =
      let b = left_by catalogue id h.past in
      let run = node_run catalogue id b h.last in
      let same : x ≡ run.node.site = (let z = h.up_is in rw up at z) in
      let was : before ≡ run.node.batches = h.left ∙ left_more catalogue id h.past h.last in
      let durable : old.durable ≡ durable_of x = sym folds ∙ ap (durable_in catalogue id) was ∙ sym (runs_keep catalogue id b h.last) ∙ ap durable_of (sym same) in
      let more : node_run catalogue id b (h.last ++ d ∷ []) ≡ one_turn catalogue d run = runs_go_on catalogue id b h.last d in
      record {
        past = h.past;
        last = h.last ++ d ∷ [];
        left = q ∙ batches_now run d x given h.goes_on here i same old new before p durable was ∙ sym (ap (λ (r : NodeRun). r.node.batches) more) ∙ sym (left_more catalogue id h.past (h.last ++ d ∷ []));
        goes_on = ap (λ (r : NodeRun). r.stopped) more ∙ still_on run d x given h.goes_on here i same;
        up_is = rw p (site_now run d x given h.goes_on here i same ∙ sym (ap (λ (r : NodeRun). r.node.site) more));
      }

  -- the site has the number of its place
  named_so : (w : WorldState) (old : Place) (x : SiteState) → IsWorld catalogue w → place_of id w.places ≡ Some old → old.up ≡ Some x → x.id ≡ id
  named_so w old x world there up =
      let at = all_at (IsPlace catalogue) w.places world.places_are old (find_has (λ place. place.id == id) w.places old there) in
      (some_at (λ (site : SiteState). (site.id ≡ old.id) × IsShaped catalogue site) old.up x at.up_is up).0 ∙ place-id id w.places old there

module _ (s : Schedule) (k : IsCatalogue s.catalogue) (i : AllByRecursion IsEvent s.events) where
  pub sent_are : (m : Moment) → Has (moments_of s) m → (sent : Sent) → Has m.before.sent sent → IsFrame (message_frame sent) × Has (sites_of s.catalogue) sent.from
  sent_are m has sent q =
      let world = (each_world s m k i (contains (moments_of s) m has)).0 in
      let from = (in_each s.catalogue (With (Known s.catalogue) (InvRoutes s.catalogue k)) (routes_last s.catalogue k) s.events m has).0 in
      (all_at (λ (sent : Sent). IsFrame (message_frame sent)) m.before.sent world.sent_are sent q, (from.more.sent sent q).0)

module _ (s : Schedule) (id : ℕ) (k : IsCatalogue s.catalogue) (i : AllByRecursion IsEvent s.events) (listed : Has (sites_of s.catalogue) id) where
  of_node : (m : Moment) → Has (moments_of s) m → (old new : Place) (before after : List (List LogRecord)) → place_of id m.before.places ≡ Some old → Happened s.catalogue id m.line.event m.before old new before after
      → IsOfNode s.catalogue id before old.up → durable_in s.catalogue id before ≡ old.durable → IsOfNode s.catalogue id after new.up
  of_node m has old new before after there (Happened.stays p q) h folds = rw (p, q) h
  of_node m has old new before after there (Happened.steps x given g up p q) h folds =
      let world = (each_world s m k i (contains (moments_of s) m has)).0 in
      let d = comes s.catalogue k id listed m.line.event m.before given (events_are s.catalogue s.events i m has) (sent_are s k i m has) g in
      steps_of s.catalogue id old new before after x given d.0 h folds d.1 (named_so s.catalogue id m.before old x world there up) up p q
  of_node m has old new before after there (Happened.crashes p q) h folds = rw (p, q) (record { past = h.past; last = h.last; left = h.left; goes_on = h.goes_on; up_is = tt })
  of_node m has old new before after there (Happened.restarts down p q) h folds = begins_of s.catalogue id old new before after h folds (place-id id m.before.places old there) p q

pub logs_are_of_nodes : LogsAreOfNodes
unfolding kept
logs_are_of_nodes s id place k i at =
    let listed : Has (sites_of s.catalogue) id = (in_last s.catalogue (InvViews s.catalogue) (views_last s.catalogue) s.events).known id place at in
    (through_schedule s id (Of s.catalogue id) (first_of s.catalogue id)
    (λ m has old new before after there h of. (of_node s id k i listed m has old new before after there h of.0 of.1, folds_on s.catalogue id m.line.event m.before old new before after h of.1))
    place at).0
