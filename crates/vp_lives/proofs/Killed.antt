-- If a process is killed while it serves, that happened to the process.
use Rattle.std.proofs.Common.{◌≡◌, ◌∙◌, ap, sym, subst, ℕ, Bool, true, false, cond, List, [], ◌∷◌, ◌++◌, length, take, refl, arith, append-nil, ⊎_elim}
use Rattle.std.specs.Prelude.{Some, None}
use Rattle.std.proofs.Math.Seq.{take-length}
use Rattle.vp_model.specs.Types.{LogRecord}
use Rattle.vp_model.specs.Words.{for_each}
use Rattle.vp_model.specs.Catalogue.{Catalogue}
use Rattle.vp_model.specs.Site.{SiteState}
use Rattle.vp_model.specs.Step.{start, durable_of}
use Rattle.vp_laws.proofs.Table.Alone.{alone-step}
use Rattle.vp_outside.specs.Disk.{Halves}
use Rattle.vp_outside.specs.declared.datagram.Datagram.{Datagram}
use Rattle.vp_stable.specs.Halves.{HaveBatches}
use Rattle.vp_runs.specs.declared.arrival.Arrival.{Arrival}
use Rattle.vp_runs.specs.declared.arrival.Arrival.TheVariants.{Bad, Stray, Stops, Gives}
use Rattle.vp_runs.specs.Arrivals.{arrival}
use Rattle.vp_runs.specs.Keeping.{durable_in}
use Rattle.vp_runs.specs.Turns.{turn_on}
use Rattle.vp_runs.specs.Runs.{NodeRun, start_node, with_turn, start_of, one_turn, node_run}
use Rattle.vp_runs.proofs.Runs.{runs_go_on, runs_keep}
use Rattle.vp_node.specs.Nodes.{NodeValue, HasLifeLeft, turn_of}
use Rattle.vp_node.proofs.Kept.{has}
use Rattle.vp_network.specs.Cluster.{process_of}
use Rattle.vp_network.specs.Ends.{Happened}
use Rattle.vp_network.proofs.Lives.{goes}
use Rattle.vp_network.proofs.Ends.{runs_end, runs_break}
use Rattle.vp_lives.specs.Served.{Life, catalogue_of, Leaves, AllDone}
use Rattle.vp_lives.specs.Killed.{run_on, IsAfter, IsKilled, KillsHappen}
use Rattle.vp_lives.proofs.Served.{a_life_left, take-within, untouched}

-- ---- the number of a node's site stays the same

turn_id : (here : Catalogue) (x : SiteState) (what : Arrival) → (turn_on here x what).site.id ≡ x.id
unfolding turn_on
turn_id here x (Bad at) = refl
turn_id here x Stray = refl
turn_id here x Stops = refl
turn_id here x (Gives given) = (alone-step here x given).id

one_id : (here : Catalogue) (d : Datagram) (run : NodeRun) → (one_turn here d run).node.site.id ≡ run.node.site.id
unfolding one_turn
one_id here d run = go run.stopped
  where
    go : (b : Bool) → (cond b run (with_turn d (arrival here run.node.site.id d) (turn_on here run.node.site (arrival here run.node.site.id d)) run)).node.site.id ≡ run.node.site.id
    go true = refl
    go false = turn_id here run.node.site (arrival here run.node.site.id d)

all_id : (here : Catalogue) (ds : List Datagram) (run : NodeRun) → (for_each ds (one_turn here) run).node.site.id ≡ run.node.site.id
all_id here [] run = refl
all_id here (d ∷ ds) run = all_id here ds (one_turn here d run) ∙ one_id here d run

run_id : (here : Catalogue) (id : ℕ) (batches : List (List LogRecord)) (ds : List Datagram) → (node_run here id batches ds).node.site.id ≡ id
unfolding node_run start
run_id here id batches ds = all_id here ds (start_of here id batches)

-- ---- each kill

module _ (life : Life) (at : process_of life.id life.cluster.processes ≡ Some life.process) (down : life.process.up ≡ None) where
  abbrev here : Catalogue
  here = catalogue_of life

  abbrev had : List (List LogRecord)
  had = life.process.batches

  abbrev Happens : List Datagram → List (List LogRecord) → List Datagram → Type 0
  Happens arrived left handed = Happened life.catalogue life.cluster life.id life.sites arrived left handed

  leaves : (arrived handed : List Datagram) (image : Halves) (left : List (List LogRecord)) → HaveBatches left image → Happens arrived left handed → Leaves life arrived handed AllDone image
  leaves arrived handed image left has_left it = record { left = left; has = has_left; rest = []; rest_is = refl; happened = subst (Happens arrived left) (sym (append-nil handed)) it }

  -- the number of the site for which the log is folded
  of_life : (ds : List Datagram) (node : NodeValue) (x : SiteState) → node.site ≡ x → x ≡ (run_on life ds).node.site → (left : List (List LogRecord)) → durable_in here node.site.id left ≡ durable_of node.site → durable_in here life.id left ≡ durable_of (run_on life ds).node.site
  of_life ds node x is same left folds =
      let site : node.site ≡ (run_on life ds).node.site = is ∙ same in
      ap (λ n. durable_in here n left) (sym (run_id here life.id had ds) ∙ ap (λ (x : SiteState). x.id) (sym site)) ∙ folds ∙ ap durable_of site

  -- all of these datagrams, with a log that folds to the durable part of the site after them
  ended : (front rest : List Datagram) (left : List (List LogRecord)) → HasLifeLeft here life.id had → durable_in here life.id left ≡ durable_of (run_on life front).node.site → Happens (front ++ rest) left (run_on life front).datagrams
  ended front rest left lives folds =
      let came : take (length front) (front ++ rest) ≡ front = take-within (length front) front rest (omega arith) ∙ take-length front in
      subst (λ ds. Happens (front ++ rest) left (run_on life ds).datagrams) came
      (runs_end life.catalogue life.cluster life.id life.process life.sites (front ++ rest) (length front) left at down (a_life_left _ lives) (folds ∙ ap (λ ds. durable_of (run_on life ds).node.site) (sym came)))

  begun : HasLifeLeft here life.id had → Happens [] (start_node here life.id had).batches []
  unfolding node_run
  begun lives = ended [] [] (start_node here life.id had).batches lives (sym (runs_keep here life.id had []))

  next_site : (front : List Datagram) (last : Datagram) (node : NodeValue) → IsAfter life front node → (turn_of here node last).site ≡ (run_on life (front ++ last ∷ [])).node.site
  next_site front last node a =
      sym (ap (λ (r : NodeRun). r.node.site) (runs_go_on here life.id had front last ∙ goes life.catalogue life.sites last (run_on life front) a.goes_on)
      ∙ ap (λ (x : SiteState). (turn_on here x (arrival here x.id last)).site) (sym a.site))

  broken : (front : List Datagram) (last : Datagram) (node : NodeValue) (sent : ℕ) (left : List (List LogRecord)) → IsAfter life front node → durable_in here life.id left ≡ durable_of (run_on life (front ++ last ∷ [])).node.site
      → Happens (front ++ last ∷ []) left ((run_on life front).datagrams ++ take sent (turn_of here node last).datagrams)
  broken front last node sent left a folds =
      subst (λ (x : SiteState). Happens (front ++ last ∷ []) left ((run_on life front).datagrams ++ take sent (turn_on here x (arrival here x.id last)).datagrams)) (sym a.site)
      (runs_break life.catalogue life.cluster life.id life.process life.sites front last left sent at down (a_life_left _ a.lives) a.goes_on folds)

  killed : (arrived handed : List Datagram) (image : Halves) → IsKilled life arrived handed image → Leaves life arrived handed AllDone image
  killed arrived handed image (IsKilled.starting log has_log may none nothing) =
      subst (λ ds. Leaves life ds handed AllDone image) (sym none)
      (subst (λ ds. Leaves life [] ds AllDone image) (sym nothing)
      (⊎_elim (λ same. leaves [] [] image had same (untouched life at down [])) (λ more. leaves [] [] image (start_node here life.id had).batches more.1 (begun more.0)) (may.batches had has_log)))
  killed arrived handed image (IsKilled.waiting node a k is) =
      let it = ended arrived [] k.batches a.lives (of_life arrived node node.site refl a.site k.batches k.folds) in
      subst (λ ds. Leaves life arrived ds AllDone image) (sym is)
      (leaves arrived (run_on life arrived).datagrams image k.batches (has k.stands) (subst (λ ds. Happens ds k.batches (run_on life arrived).datagrams) (append-nil arrived) it))
  killed arrived handed image (IsKilled.turning front last node log came a may is) =
      let left = may.folds.0 in
      let has_left = may.folds.1 in
      subst (λ ds. Leaves life ds handed AllDone image) (sym came)
      (subst (λ ds. Leaves life (front ++ last ∷ []) ds AllDone image) (sym is)
      (⊎_elim
      (λ was. leaves (front ++ last ∷ []) (run_on life front).datagrams image left has_left (ended front (last ∷ []) left a.lives (of_life front node node.site refl a.site left was)))
      (λ now. leaves (front ++ last ∷ []) (run_on life front).datagrams image left has_left
      (subst (Happens (front ++ last ∷ []) left) (append-nil (run_on life front).datagrams) (broken front last node 0 left a (turned_folds front last node a left now))))
      may.folds.2))
    where
      turned_folds : (front : List Datagram) (last : Datagram) (node : NodeValue) → IsAfter life front node → (left : List (List LogRecord)) → durable_in here node.site.id left ≡ durable_of (turn_of here node last).site
          → durable_in here life.id left ≡ durable_of (run_on life (front ++ last ∷ [])).node.site
      turned_folds front last node a left now =
          ap (λ n. durable_in here n left) (sym (ap (λ (x : SiteState). x.id) a.site ∙ run_id here life.id had front)) ∙ now ∙ ap durable_of (next_site front last node a)
  killed arrived handed image (IsKilled.telling front last node after sent came a site k is) =
      let folds = of_life (front ++ last ∷ []) after (turn_of here node last).site site (next_site front last node a) k.batches k.folds in
      subst (λ ds. Leaves life ds handed AllDone image) (sym came)
      (subst (λ ds. Leaves life (front ++ last ∷ []) ds AllDone image) (sym is)
      (leaves (front ++ last ∷ []) ((run_on life front).datagrams ++ take sent (turn_of here node last).datagrams) image k.batches (has k.stands) (broken front last node sent k.batches a folds)))

pub kills_happen : KillsHappen
kills_happen life arrived handed image at down k = killed life at down arrived handed image k
