-- Nodes that do the steps of a schedule are tied to it, and may do the next one.
use Rattle.std.proofs.Common.{◌≡◌, ◌∙◌, ap, sym, subst, ℕ, List, ◌∷◌, [], ◌++◌, append_assoc, append-nil, ⊎_elim}
use Rattle.std.specs.Prelude.{Some}
use Rattle.std.specs.List.{AllByRecursion}
use Rattle.vp_catalog.specs.Document.{IsCatalogue}
use Rattle.vp_model.specs.Words.{value_at}
use Rattle.vp_model.specs.Catalogue.{Catalogue}
use Rattle.vp_model.specs.World.{Place, WorldState, Moment, Schedule, start_place, start_world, moment, next, run_of, moments_of}
use Rattle.vp_laws.specs.ShapeLaws.{IsEvent}
use Rattle.vp_laws.proofs.Lists.Members.{Has, contains, has_cons, has_first, has_left, has_more, has_none, has_right}
use Rattle.vp_laws.proofs.Worlds.Events.{in_each}
use Rattle.vp_laws.proofs.Worlds.Sites.{With}
use Rattle.vp_laws.proofs.Invariant.Views.{InvViews}
use Rattle.vp_laws.proofs.Invariant.Known.{Known}
use Rattle.vp_laws.proofs.Keeping.Views.{views_last}
use Rattle.vp_laws.proofs.Shapes.Worlds.{each_world}
use Rattle.vp_laws.proofs.Routes.InvRoutes.{InvRoutes, routes_last}
use Rattle.vp_runs.proofs.Happened.{Effect, effect}
use Rattle.vp_runs.proofs.Through.{Follow, moments_follow, starts_at}
use Rattle.vp_runs.proofs.Steps.{events_are}
use Rattle.vp_runs.proofs.Nodes.{sent_are}
use Rattle.vp_runs.proofs.Folds.{folds_first}
use Rattle.vp_runs.proofs.Datagrams.{has_port}
use Rattle.vp_playing.specs.Played.{StepsAll, IsReadyFor}
use Rattle.vp_cluster.specs.Nodes.{NodesValue, Begin, MayDo, Does}
use Rattle.vp_cluster.specs.Clusters.{HasSite, AreTied}
use Rattle.vp_cluster.proofs.TiedLetters.{has_site}
use Rattle.vp_cluster.proofs.Acting.{Facts, Folds, site_shaped, ready_on}
use Rattle.vp_cluster.proofs.TiedMoments.{folds_now, tied_on}

module _ (catalogue : Catalogue) (k : IsCatalogue catalogue) where
  -- ---- the first world

  first_site : (nodes : NodesValue) → Begin catalogue nodes → (id port : ℕ) → value_at id catalogue.sites ≡ Some port → HasSite catalogue [] (start_world catalogue) nodes id port
  first_site nodes begin id port at =
      let (host, there, begins) = begin.hosts_are id port at in
      record { place = start_place catalogue id; place_is = starts_at catalogue id (has_site catalogue.sites id port at); host = host; host_is = there; id_is = begins.id_is; at = begins.first }

  first_tied : (nodes : NodesValue) → Begin catalogue nodes → AreTied catalogue [] (start_world catalogue) nodes
  unfolding start_world
  first_tied nodes begin = record { catalogue_is = begin.catalogue_is; sites = first_site nodes begin; letters = begin.letters_are }

  first_folds : Folds catalogue [] (start_world catalogue)
  first_folds id place at listed =
      let same : start_place catalogue id ≡ place = (let z = sym (starts_at catalogue id listed) ∙ at in cc) in
      folds_first catalogue id ∙ ap (λ (p : Place). p.durable) same

  -- ---- moment by moment

  abbrev Kept : List Moment → WorldState → NodesValue → Type 0
  Kept moments w nodes = AreTied catalogue moments w nodes × Folds catalogue moments w

  goes_on : (moments rest : List Moment) (w v : WorldState) (old new : NodesValue) → ((m : Moment) → Has rest m → Facts catalogue m) → Kept moments w old → Follow catalogue w rest v → StepsAll Does catalogue rest old new → Kept (moments ++ rest) v new
  goes_on moments [] w v old new facts kept f e =
      subst (λ (ms : List Moment). Kept ms v new) (sym (append-nil moments))
      (subst (λ (w : WorldState). Kept moments w new) f (subst (Kept moments w) (sym e) kept))
  goes_on moments (m ∷ rest) w v old new facts kept f h =
      let before : w ≡ m.before = ap (λ (m : Moment). m.before) (sym f.0) in
      let e : Effect catalogue m = subst (Effect catalogue) (sym f.0) (effect catalogue m.number m.line.event w) in
      let (tied, folds) = subst (λ (w : WorldState). Kept moments w old) before kept in
      let fact = facts m (has_first m rest) in
      let tied_after = tied_on catalogue k m moments old h.0 fact tied folds h.1 e in
      let folds_after : Folds catalogue (moments ++ m ∷ []) m.after = λ id place at listed. (
      let port = has_port catalogue.sites id listed in
      folds_now catalogue m moments old h.0 e id port.0 (tied.sites id port.0 port.1) listed folds place at) in
      subst (λ (ms : List Moment). Kept ms v new) (append_assoc moments (m ∷ []) rest)
      (goes_on (moments ++ m ∷ []) rest m.after v h.0 new (λ n has. facts n (has_more m rest n has)) (tied_after, folds_after) f.1 h.2)

-- ---- a moment among others

abbrev IsNext : Catalogue → Moment → WorldState → Type 0
IsNext catalogue m w = m ≡ moment m.number w m.line.event (next catalogue m.line.event w)

-- if moments follow each other, each begins where those before it end
follow_front : (catalogue : Catalogue) (before rest : List Moment) (m : Moment) (w v : WorldState) → Follow catalogue w (before ++ m ∷ rest) v → Follow catalogue w before m.before × IsNext catalogue m m.before
follow_front catalogue [] rest m w v f = let is : w ≡ m.before = ap (λ (m : Moment). m.before) (sym f.0) in (is, subst (IsNext catalogue m) is f.0)
follow_front catalogue (x ∷ before) rest m w v f = let more = follow_front catalogue before rest m x.after v f.1 in ((f.0, more.0), more.1)

-- each moment among these is found with those before and after it
split_at : (ms : List Moment) (m : Moment) → Has ms m → (before rest : List Moment) × (ms ≡ before ++ m ∷ rest)
split_at [] m h = absurd (has_none m h)
split_at (x ∷ ms) m h =
    ⊎_elim
    (λ (same : x ≡ m). ([], ms, ap (λ (x : Moment). x ∷ ms) same))
    (λ (more : Has ms m). let it = split_at ms m more in (x ∷ it.0, it.1, ap (λ (rest : List Moment). x ∷ rest) it.2))
    (has_cons x ms m h)

-- ---- a schedule

module _ (s : Schedule) (k : IsCatalogue s.catalogue) (i : AllByRecursion IsEvent s.events) where
  pub facts : (m : Moment) → Has (moments_of s) m → Facts s.catalogue m
  facts m has = record {
    event_is = events_are s.catalogue s.events i m has;
    next_is =
        let (before, rest, is) = split_at (moments_of s) m has in
        (follow_front s.catalogue before rest m (start_world s.catalogue) (run_of s).world (subst (λ (ms : List Moment). Follow s.catalogue (start_world s.catalogue) ms (run_of s).world) is (moments_follow s.catalogue s.events))).1;
    views = (in_each s.catalogue (InvViews s.catalogue) (views_last s.catalogue) s.events m has).0;
    shaped = λ id x up. site_shaped s.catalogue m.before id x (each_world s m k i (contains (moments_of s) m has)).0 up;
    sent = sent_are s k i m has;
    routed = λ sent h. ((in_each s.catalogue (With (Known s.catalogue) (InvRoutes s.catalogue k)) (routes_last s.catalogue k) s.events m has).1.more.sent sent h).1;
  }

  -- nodes that have done the first moments are tied to these
  front_kept : (ms more : List Moment) → moments_of s ≡ ms ++ more → (w : WorldState) (begun now : NodesValue) → Begin s.catalogue begun → Follow s.catalogue (start_world s.catalogue) ms w → StepsAll Does s.catalogue ms begun now
      → AreTied s.catalogue ms w now × Folds s.catalogue ms w
  front_kept ms more are w begun now begin along h =
      goes_on s.catalogue k [] ms (start_world s.catalogue) w begun now (λ m has. facts m (subst (λ all. Has all m) (sym are) (has_left ms more m has))) (first_tied s.catalogue k begun begin, first_folds s.catalogue k) along h

  pub front_tied : (ms more : List Moment) → moments_of s ≡ ms ++ more → (w : WorldState) (begun now : NodesValue) → Begin s.catalogue begun → Follow s.catalogue (start_world s.catalogue) ms w → StepsAll Does s.catalogue ms begun now → AreTied s.catalogue ms w now
  front_tied ms more are w begun now begin along h = (front_kept ms more are w begun now begin along h).0

  pub front_folds : (ms more : List Moment) → moments_of s ≡ ms ++ more → (w : WorldState) (begun now : NodesValue) → Begin s.catalogue begun → Follow s.catalogue (start_world s.catalogue) ms w → StepsAll Does s.catalogue ms begun now → Folds s.catalogue ms w
  front_folds ms more are w begun now begin along h = (front_kept ms more are w begun now begin along h).1

  -- nodes that have done all moments are tied to the schedule
  pub nodes_are_tied : (begun ended : NodesValue) → Begin s.catalogue begun → StepsAll Does s.catalogue (moments_of s) begun ended → AreTied s.catalogue (moments_of s) (run_of s).world ended
  nodes_are_tied begun ended begin h = front_tied (moments_of s) [] (sym (append-nil (moments_of s))) (run_of s).world begun ended begin (moments_follow s.catalogue s.events) h

  -- in their first lives the nodes are ready for the schedule
  pub nodes_are_ready : (begun : NodesValue) → Begin s.catalogue begun → IsReadyFor MayDo Does s.catalogue (moments_of s) begun
  nodes_are_ready begun begin before rest m now are done =
      let has : Has (moments_of s) m = subst (λ (all : List Moment). Has all m) (sym are) (has_right before (m ∷ rest) m (has_first m rest)) in
      let fact = facts m has in
      let along = follow_front s.catalogue before rest m (start_world s.catalogue) (run_of s).world (subst (λ (ms : List Moment). Follow s.catalogue (start_world s.catalogue) ms (run_of s).world) are (moments_follow s.catalogue s.events)) in
      let (tied, folds) = front_kept before (m ∷ rest) are m.before begun now begin along.0 done in
      ready_on s.catalogue k m before now fact tied folds (subst (Effect s.catalogue) (sym fact.next_is) (effect s.catalogue m.number m.line.event m.before))
