-- A process is where its own happenings bring it.
use Rattle.std.proofs.Common.{◌≡◌, ◌≢◌, ◌∙◌, ap, sym, subst, ℕ, Bool, true, false, cond, List, [], ◌∷◌, ◌++◌, take, refl, append-nil, ⊎_elim}
use Rattle.std.specs.Prelude.{Option, Some, None, ◌==◌, option_map, option_and_then}
use Rattle.std.specs.Option.{option_map_or}
use Rattle.std.proofs.lemmas.Bool.{eqb-true}
use Rattle.vp_model.specs.Words.{for_each, for_some}
use Rattle.vp_model.specs.Catalogue.{Catalogue}
use Rattle.vp_model.specs.Site.{SiteState}
use Rattle.vp_laws.proofs.Lists.Members.{Has, has_left, has_right, has_cases, has_of, contains}
use Rattle.vp_laws.proofs.Lists.Numbers.{eq_self}
use Rattle.vp_outside.specs.declared.datagram.Datagram.{Datagram}
use Rattle.vp_runs.specs.Arrivals.{arrival}
use Rattle.vp_runs.specs.Turns.{turn_on}
use Rattle.vp_network.specs.Cluster.{Process, ClusterState, Happening, process_of, change_process, running, known_catalogue, start_process, turn_process, end_process, dead, whole_turn, broken_turn, whose, after}
use Rattle.vp_network.specs.Apart.{own, ProcessesAreApart}
use Rattle.vp_network.proofs.Linked.{process-same, process-other}
use Rattle.vp_network.proofs.Held.{keeps_id}

module _ (all : Catalogue) (id : ℕ) where
  abbrev pub kn : Option Process → Catalogue
  kn o = record all { sites = option_map_or (λ (p : Process). p.sites) o [] }

  abbrev pub up_in : Option Process → Option SiteState
  up_in o = option_and_then (λ (p : Process). p.up) o

  -- the process after a happening, and what that hands over
  abbrev pub made : Happening → Option Process → Option Process
  made (Happening.Starts k sites) o = option_map (start_process all sites) o
  made (Happening.Comes k d) o = option_map_or (λ x. option_map (turn_process x (turn_on (kn o) x (arrival (kn o) x.id d))) o) (up_in o) o
  made (Happening.Dies k left) o = option_map_or (λ x. option_map (end_process left) o) (up_in o) o
  made (Happening.Breaks k d left sent) o = option_map_or (λ x. option_map (end_process left) o) (up_in o) o

  abbrev pub given : Happening → Option Process → List Datagram
  given (Happening.Starts k sites) o = []
  given (Happening.Comes k d) o = option_map_or (λ x. (turn_on (kn o) x (arrival (kn o) x.id d)).datagrams) (up_in o) []
  given (Happening.Dies k left) o = []
  given (Happening.Breaks k d left sent) o = option_map_or (λ x. take sent (turn_on (kn o) x (arrival (kn o) x.id d)).datagrams) (up_in o) []

  pub record Makes (what : Happening) (c : ClusterState) : Type 0 where
    pub process : whose what ≡ id → process_of id (after all what c).processes ≡ made what (process_of id c.processes)
    pub other : whose what ≢ id → process_of id (after all what c).processes ≡ process_of id c.processes
    pub handed : (after all what c).handed ≡ c.handed ++ given what (process_of (whose what) c.processes)

  same_of : (k : ℕ) (f : Process → Process) → ((p : Process) → (f p).id ≡ p.id) → (ps : List Process) → k ≡ id → process_of id (change_process k f ps) ≡ option_map f (process_of id ps)
  same_of k f same ps e = ap (λ n. process_of id (change_process n f ps)) e ∙ process-same id f ps same

  other_of : (k : ℕ) (f : Process → Process) → ((p : Process) → (f p).id ≡ p.id) → (ps : List Process) → k ≢ id → process_of id (change_process k f ps) ≡ process_of id ps
  other_of k f same ps n = process-other k id f ps same (λ e. n (sym e))

  pub makes : (what : Happening) (c : ClusterState) → Makes what c
  unfolding after
  makes (Happening.Starts k sites) c = record {
    process = same_of k (start_process all sites) (keeps_id all sites) c.processes;
    other = other_of k (start_process all sites) (keeps_id all sites) c.processes;
    handed = sym (append-nil c.handed);
  }
  makes (Happening.Comes k d) c = record {
    process = λ e. subst (λ n. process_of id (for_some (running n c) (whole_turn (known_catalogue all n c) n d) c).processes ≡ made (Happening.Comes k d) (process_of id c.processes)) (sym e) (go (running id c));
    other = λ n. off n (running k c);
    handed = hand (running k c);
  }
    where
      go : (o : Option SiteState) → process_of id (for_some o (whole_turn (known_catalogue all id c) id d) c).processes ≡ option_map_or (λ x. option_map (turn_process x (turn_on (known_catalogue all id c) x (arrival (known_catalogue all id c) x.id d))) (process_of id c.processes)) o (process_of id c.processes)
      go None = refl
      go (Some x) = process-same id (turn_process x (turn_on (known_catalogue all id c) x (arrival (known_catalogue all id c) x.id d))) c.processes (λ p. refl)

      off : k ≢ id → (o : Option SiteState) → process_of id (for_some o (whole_turn (known_catalogue all k c) k d) c).processes ≡ process_of id c.processes
      off n None = refl
      off n (Some x) = other_of k (turn_process x (turn_on (known_catalogue all k c) x (arrival (known_catalogue all k c) x.id d))) (λ p. refl) c.processes n

      hand : (o : Option SiteState) → (for_some o (whole_turn (known_catalogue all k c) k d) c).handed ≡ c.handed ++ option_map_or (λ x. (turn_on (known_catalogue all k c) x (arrival (known_catalogue all k c) x.id d)).datagrams) o []
      hand None = sym (append-nil c.handed)
      hand (Some x) = refl
  makes (Happening.Dies k left) c = record {
    process = λ e. subst (λ n. process_of id (for_some (running n c) (dead n left) c).processes ≡ made (Happening.Dies k left) (process_of id c.processes)) (sym e) (go (running id c));
    other = λ n. off n (running k c);
    handed = hand (running k c);
  }
    where
      go : (o : Option SiteState) → process_of id (for_some o (dead id left) c).processes ≡ option_map_or (λ x. option_map (end_process left) (process_of id c.processes)) o (process_of id c.processes)
      go None = refl
      go (Some x) = process-same id (end_process left) c.processes (λ p. refl)

      off : k ≢ id → (o : Option SiteState) → process_of id (for_some o (dead k left) c).processes ≡ process_of id c.processes
      off n None = refl
      off n (Some x) = other_of k (end_process left) (λ p. refl) c.processes n

      hand : (o : Option SiteState) → (for_some o (dead k left) c).handed ≡ c.handed ++ []
      hand None = sym (append-nil c.handed)
      hand (Some x) = sym (append-nil c.handed)
  makes (Happening.Breaks k d left sent) c = record {
    process = λ e. subst (λ n. process_of id (for_some (running n c) (broken_turn (known_catalogue all n c) n d left sent) c).processes ≡ made (Happening.Breaks k d left sent) (process_of id c.processes)) (sym e) (go (running id c));
    other = λ n. off n (running k c);
    handed = hand (running k c);
  }
    where
      go : (o : Option SiteState) → process_of id (for_some o (broken_turn (known_catalogue all id c) id d left sent) c).processes ≡ option_map_or (λ x. option_map (end_process left) (process_of id c.processes)) o (process_of id c.processes)
      go None = refl
      go (Some x) = process-same id (end_process left) c.processes (λ p. refl)

      off : k ≢ id → (o : Option SiteState) → process_of id (for_some o (broken_turn (known_catalogue all k c) k d left sent) c).processes ≡ process_of id c.processes
      off n None = refl
      off n (Some x) = other_of k (end_process left) (λ p. refl) c.processes n

      hand : (o : Option SiteState) → (for_some o (broken_turn (known_catalogue all k c) k d left sent) c).handed ≡ c.handed ++ option_map_or (λ x. take sent (turn_on (known_catalogue all k c) x (arrival (known_catalogue all k c) x.id d)).datagrams) o []
      hand None = sym (append-nil c.handed)
      hand (Some x) = refl

  -- the cluster c with all happenings, and e with those of the process alone
  record Beside (c e : ClusterState) : Type 0 where
    process : process_of id c.processes ≡ process_of id e.processes
    handed : (d : Datagram) → Has e.handed d → Has c.handed d

  beside : (happenings : List Happening) (c e : ClusterState) → Beside c e → Beside (for_each happenings (after all) c) (for_each (own id happenings) (after all) e)
  beside [] c e b = b
  beside (what ∷ happenings) c e b = go (whose what == id) refl (λ d f g. beside happenings d f g)
    where
      m : Makes what c
      m = makes what c

      go : (own_one : Bool) → (whose what == id) ≡ own_one → ((d f : ClusterState) → Beside d f → Beside (for_each happenings (after all) d) (for_each (own id happenings) (after all) f))
          → Beside (for_each happenings (after all) (after all what c)) (for_each (cond own_one (what ∷ own id happenings) (own id happenings)) (after all) e)
      go true t more =
          let it : whose what ≡ id = eqb-true (whose what) id t in
          let n = makes what e in
          more (after all what c) (after all what e) (record {
            process = m.process it ∙ ap (made what) b.process ∙ sym (n.process it);
            handed = λ d h.
                let same : given what (process_of (whose what) e.processes) ≡ given what (process_of (whose what) c.processes) = ap (λ k. given what (process_of k e.processes)) it ∙ ap (given what) (sym b.process) ∙ ap (λ k. given what (process_of k c.processes)) (sym it) in
                rw m.handed (⊎_elim
                (λ old. has_left c.handed (given what (process_of (whose what) c.processes)) d (b.handed d old))
                (λ new. has_right c.handed (given what (process_of (whose what) c.processes)) d (subst (λ ds. Has ds d) same new))
                (has_cases e.handed (given what (process_of (whose what) e.processes)) d (subst (λ ds. Has ds d) n.handed h)));
          })
      go false t more =
          let not_it : whose what ≢ id = λ it. (let z : true ≡ false = sym (eq_self id) ∙ ap (λ k. k == id) (sym it) ∙ t in cc) in
          more (after all what c) e (record {
            process = m.other not_it ∙ b.process;
            handed = λ d h. rw m.handed (has_left c.handed (given what (process_of (whose what) c.processes)) d (b.handed d h));
          })

pub processes_are_apart : ProcessesAreApart
processes_are_apart catalogue c happenings id =
    let b = beside catalogue id happenings c c (record { process = refl; handed = λ d h. h }) in
    record { process = b.process; handed = λ d h. contains _ d (b.handed d (has_of _ d h)) }
