-- What the run of a schedule leaves.
use Rattle.std.proofs.Common.{◌≡◌, ◌∙◌, inl, inr, ap, sym, subst, ℕ, true, List, [], ◌∷◌, ◌++◌, map, Some, None, refl}
use Rattle.std.specs.Prelude.{Result, Ok, Err}
use Rattle.std.specs.List.{AllByRecursion, flat_map}
use Rattle.vp_text.specs.Printing.{is_begun}
use Rattle.vp_text.proofs.Printing.{begun_none, begun_first, begun_then, begun_whole}
use Rattle.vp_catalog.specs.Document.{IsCatalogue}
use Rattle.vp_model.specs.Catalogue.{Catalogue, sites_of}
use Rattle.vp_model.specs.Types.{Event, Line}
use Rattle.vp_model.specs.Types.event
use Rattle.vp_model.specs.Limits.{world_limits, limit_reached, lines_within, trace_text_within}
use Rattle.vp_model.specs.Texts.Trace.{line_text, trace_text}
use Rattle.vp_laws.specs.ShapeLaws.{IsEvent}
use Rattle.vp_laws.proofs.Words.CutTraces.{limits_cut_traces}
use Rattle.vp_schedule.specs.Document.{IsSchedule}
use Rattle.vp_schedule.specs.Events.{IsEvent as IsReadable}
use Rattle.vp_world.specs.Known.{Known}
use Rattle.vp_world.specs.declared.end.WorldEnd.{WorldEnd}
use Rattle.vp_world.specs.declared.end.WorldEnd.TheVariants as end
use Rattle.vp_model.specs.World.{Schedule, run_of, moments_of}
use Rattle.vp_playing.specs.Played.{SeesAll, SeesSome, StepsAll, IsReadyFor, Plays}
use Rattle.vp_playing.proofs.Seen.{sees_appended}
use Rattle.vp_stable.specs.Halves.{HaveBatches}
use Rattle.vp_runs.specs.Kept.{kept, kept_in}
use Rattle.vp_cluster.specs.Hosts.{HostValue, address_of, site_log, log_in, IsHost}
use Rattle.vp_cluster.specs.Ports.{AreHosts, host_at}
use Rattle.vp_cluster.specs.Nodes.{NodesValue, Begin, MayDo, Does}
use Rattle.vp_cluster.specs.Clusters.{AreTied}
use Rattle.vp_cluster.specs.Ran.{AreLogs, Runs}
use Rattle.vp_cluster.specs.declared.cluster.Ran.{Ran}
use Rattle.vp_cluster.proofs.Tied.{nodes_are_ready, nodes_are_tied}
use Rattle.vp_cluster.proofs.Found.{hosts_differ, each_found}

module _ (s : Schedule) (k : IsCatalogue s.catalogue) (nodes : NodesValue) (are : AreHosts s.catalogue nodes.hosts) (tied : AreTied s.catalogue (moments_of s) (run_of s).world nodes) where
  -- the log of each host
  log_of : (host : HostValue) → IsHost s.catalogue host → host_at host.port nodes.hosts ≡ Some host → HaveBatches (kept s host.id) (log_in host)
  unfolding kept
  log_of host is found =
      let site = tied.sites host.id host.port is.port_is in
      let same : site.host ≡ host = (let z = sym site.host_is ∙ found in cc) in
      subst (λ (h : HostValue). HaveBatches (kept_in s.catalogue host.id (moments_of s)) (log_in h)) same site.at.has

  logs_of : (hosts : List HostValue) → AllByRecursion (IsHost s.catalogue) hosts → AllByRecursion (λ (it : HostValue). host_at it.port nodes.hosts ≡ Some it) hosts
      → AllByRecursion (λ (log : ℕ × List ℕ × List ℕ). HaveBatches (kept s log.0) (log.1, log.2)) (map site_log hosts)
  logs_of [] h f = tt
  logs_of (host ∷ hosts) h f = (log_of host h.0 f.0, logs_of hosts h.1 f.1)

  sites_in : (hosts : List HostValue) → map (λ (log : ℕ × List ℕ × List ℕ). log.0) (map site_log hosts) ≡ map (λ (site : ℕ × ℕ). site.0) (map address_of hosts)
  sites_in [] = refl
  sites_in (host ∷ hosts) = ap (λ rest. host.id ∷ rest) (sites_in hosts)

  pub are_logs : AreLogs s (map site_log nodes.hosts)
  are_logs = record {
    sites_are = sites_in nodes.hosts ∙ ap (map (λ (site : ℕ × ℕ). site.0)) are.sites_are;
    kept = logs_of nodes.hosts are.each (each_found nodes.hosts (hosts_differ s.catalogue nodes.hosts k.so_far are.sites_are));
  }

-- ---- what is played before the nodes

-- a schedule that was read has calls in their form
pub events_formed : (sites : List ℕ) (events : List Event) → AllByRecursion (IsReadable sites) events → AllByRecursion IsEvent events
events_formed sites [] h = tt
events_formed sites (e ∷ events) h = (event_formed sites e h.0, events_formed sites events h.1)
  where
    event_formed : (sites : List ℕ) (e : Event) → IsReadable sites e → IsEvent e
    event_formed sites (event.Call site words) h = h.1
    event_formed sites (event.Deliver k) h = tt
    event_formed sites (event.Flow count) h = tt
    event_formed sites (event.Tick site) h = tt
    event_formed sites (event.Probe site) h = tt
    event_formed sites (event.Cut a b) h = tt
    event_formed sites (event.Heal a b) h = tt
    event_formed sites (event.Crash site) h = tt
    event_formed sites (event.Restart site) h = tt

-- what the trace makes of a line
abbrev pub SeesLine : Catalogue → ℕ × Line → List ℕ → List ℕ → Type 0
SeesLine catalogue line old new = new ≡ old ++ line_text catalogue line

-- what it may have made of it if memory ran out
abbrev pub BeginsLine : Catalogue → ℕ × Line → List ℕ → List ℕ → Type 0
BeginsLine catalogue line old new = is_begun old (line_text catalogue line) new ≡ true

-- some of the lines leave a beginning of their text
some_begun : (catalogue : Catalogue) (lines : List (ℕ × Line)) (old new : List ℕ) → SeesSome (SeesLine catalogue) (BeginsLine catalogue) lines old new → is_begun old (flat_map (line_text catalogue) lines) new ≡ true
some_begun catalogue [] old new e = begun_none old [] new e
some_begun catalogue (line ∷ lines) old new (inl e) = begun_none old (flat_map (line_text catalogue) (line ∷ lines)) new e
some_begun catalogue (line ∷ lines) old new (inr (inl b)) = begun_first old (line_text catalogue line) (flat_map (line_text catalogue) lines) new b
some_begun catalogue (line ∷ lines) old new (inr (inr (mid, h, rest))) =
    begun_then old (line_text catalogue line) (flat_map (line_text catalogue) lines) new
    (subst (λ (front : List ℕ). is_begun front (flat_map (line_text catalogue) lines) new ≡ true) h (some_begun catalogue lines mid new rest))

-- the same for a schedule that is equal
pub same_plays : (s t : Schedule) (result : Result Known WorldEnd) (old new : List ℕ) → s ≡ t → Plays SeesLine BeginsLine s result old new → Plays SeesLine BeginsLine t result old new
same_plays s t result old new e = subst (λ (s : Schedule). Plays SeesLine BeginsLine s result old new) e

-- nothing is played
pub runs_nothing : (s : Schedule) (result : Result Ran WorldEnd) (text : List ℕ) → result ≡ Err end.NoMemory → Runs s result text text
runs_nothing s result text e = rw e (begun_none text (trace_text_within world_limits s) text refl)

-- nodes in their first lives are ready for a schedule that was read
pub run_is_ready : (s : Schedule) → IsSchedule s → (begun : NodesValue) → Begin s.catalogue begun → IsReadyFor MayDo Does s.catalogue (moments_of s) begun
run_is_ready s is begun begins = nodes_are_ready s is.catalogue_is (events_formed (sites_of s.catalogue) s.events is.events_are) begun begins

module _ (s : Schedule) (is : IsSchedule s) (old new : List ℕ) where
  shown : SeesAll (SeesLine s.catalogue) (lines_within world_limits s) old new → new ≡ old ++ trace_text_within world_limits s
  shown h = sees_appended (line_text s.catalogue) (lines_within world_limits s) old new h

  -- a limit ends it
  pub run_is_cut : (why : WorldEnd) (result : Result Ran WorldEnd) → Plays SeesLine BeginsLine s (Err why) old new → result ≡ Err why → Runs s result old new
  run_is_cut (end.Limit what limit) result plays e = rw e (plays.0, plays.1, shown plays.2)
  run_is_cut end.NoMemory result plays e = rw e (some_begun s.catalogue (lines_within world_limits s) old new plays)

  -- it is played, and there is no memory for what it leaves
  pub run_is_left : (known : Known) (result : Result Ran WorldEnd) → Plays SeesLine BeginsLine s (Ok known) old new → result ≡ Err end.NoMemory → Runs s result old new
  run_is_left known result plays e = rw e (begun_whole old (trace_text_within world_limits s) new (shown plays.2))

  -- it is done
  pub run_is_done : (known : Known) (begun ended : NodesValue) → Plays SeesLine BeginsLine s (Ok known) old new → Begin s.catalogue begun → StepsAll Does s.catalogue (moments_of s) begun ended → AreHosts ended.catalogue ended.hosts
      → (limit_reached world_limits s ≡ None) × (new ≡ old ++ trace_text s) × (known.world.journal ≡ (run_of s).world.journal) × AreLogs s (map site_log ended.hosts)
  run_is_done known begun ended plays begins steps are =
      let tied = nodes_are_tied s is.catalogue_is (events_formed (sites_of s.catalogue) s.events is.events_are) begun ended begins steps in (
        plays.0,
        shown plays.2 ∙ ap (λ lines. old ++ flat_map (line_text s.catalogue) lines) (limits_cut_traces.whole world_limits s plays.0),
        ap (λ (k : Known). k.world.journal) plays.1,
        are_logs s is.catalogue_is ended (subst (λ catalogue. AreHosts catalogue ended.hosts) tied.catalogue_is are) tied,
      )
