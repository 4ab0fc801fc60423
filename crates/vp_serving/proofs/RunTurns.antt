-- One more turn of a run: what it adds, and what its log may keep of it.
use Rattle.std.proofs.Common.{◌≡◌, ◌∙◌, ◌⊎◌, inl, inr, ⊎_elim, ℕ, false, List, [], ◌∷◌, ◌++◌, refl, sym, ap}
use Rattle.std.proofs.lemmas.List.Folds.{concat-append}
use Rattle.vp_laws.proofs.Table.Durable.{step-folds}
use Rattle.vp_model.specs.Types.{LogRecord}
use Rattle.vp_model.specs.Catalogue.{Catalogue}
use Rattle.vp_model.specs.Durable.{DurableState, apply_all}
use Rattle.vp_model.specs.Site.{SiteState}
use Rattle.vp_model.specs.Step.{step, durable_of}
use Rattle.vp_outside.specs.declared.datagram.Datagram.{Datagram}
use Rattle.vp_runs.specs.declared.arrival.Arrival.{Arrival}
use Rattle.vp_runs.specs.declared.arrival.Arrival.TheVariants.{Bad, Stray, Stops, Gives}
use Rattle.vp_runs.specs.Arrivals.{arrival}
use Rattle.vp_runs.specs.Keeping.{durable_in, kept_with}
use Rattle.vp_runs.specs.Turns.{Turn, turn_on}
use Rattle.vp_runs.specs.Runs.{NodeState, NodeRun, with_turn, one_turn, node_run, recorded_bytes}
use Rattle.vp_runs.proofs.Checkpoints.{batch_folds, steps_fold}
use Rattle.vp_runs.proofs.Runs.{runs_go_on, runs_keep}
use Rattle.vp_node.specs.Keeping.{MayKeep}
use Rattle.vp_node.specs.Nodes.{NodeValue, what_comes, turn_of}
use Rattle.vp_serving.specs.Telling.{lines_of}

-- What a turn leaves of the batches of a node folds to the durable part of its site before the turn, or after it.
turn_left : (catalogue : Catalogue) (id : ℕ) (node : NodeState) (what : Arrival) → durable_of node.site ≡ durable_in catalogue id node.batches
    → (left : List (List LogRecord)) → MayKeep (durable_of (turn_on catalogue node.site what).site) (turn_on catalogue node.site what).batch node.batches left
    → (durable_in catalogue id left ≡ durable_of node.site) ⊎ (durable_in catalogue id left ≡ durable_of (turn_on catalogue node.site what).site)
unfolding turn_on
turn_left catalogue id node (Bad at) h left is = inl (ap (durable_in catalogue id) is ∙ sym h)
turn_left catalogue id node Stray h left is = inl (ap (durable_in catalogue id) is ∙ sym h)
turn_left catalogue id node Stops h left is = inl (ap (durable_in catalogue id) is ∙ sym h)
turn_left catalogue id node (Gives given) h left is =
    let o = step catalogue node.site given in
    by (durable_of o.site) o.effects.records (ap (apply_all o.effects.records) (sym h) ∙ step-folds catalogue node.site given) is
  where
    by : (d : DurableState) (records : List LogRecord) → apply_all records (durable_in catalogue id node.batches) ≡ d → MayKeep d records node.batches left
        → (durable_in catalogue id left ≡ durable_of node.site) ⊎ (durable_in catalogue id left ≡ d)
    by d [] folds same = inl (ap (durable_in catalogue id) same ∙ sym h)
    by d (r ∷ records) folds (inl same) = inl (ap (durable_in catalogue id) same ∙ sym h)
    by d (r ∷ records) folds (inr (inl gained)) = inr (ap (durable_in catalogue id) gained ∙ batch_folds catalogue id (r ∷ records) node.batches ∙ folds)
    by d (r ∷ records) folds (inr (inr kept)) = inr (ap (durable_in catalogue id) kept ∙ steps_fold catalogue id d (r ∷ records) node.batches folds)

module _ (catalogue : Catalogue) (id : ℕ) (batches : List (List LogRecord)) (front : List Datagram) (d : Datagram) (node : NodeValue)
    (site : node.site ≡ (node_run catalogue id batches front).node.site) (going : (node_run catalogue id batches front).stopped ≡ false) where
  abbrev before : NodeRun
  before = node_run catalogue id batches front

  abbrev after : NodeRun
  after = node_run catalogue id batches (front ++ d ∷ [])

  abbrev turn : Turn
  turn = turn_of catalogue node d

  taken : one_turn catalogue d before ≡ with_turn d (arrival catalogue before.node.site.id d) (turn_on catalogue before.node.site (arrival catalogue before.node.site.id d)) before
  unfolding one_turn
  taken = rw going refl

  is_turn : after ≡ with_turn d (what_comes catalogue node d) turn before
  is_turn =
      runs_go_on catalogue id batches front d ∙ taken
      ∙ ap (λ (s : SiteState). with_turn d (arrival catalogue s.id d) (turn_on catalogue s (arrival catalogue s.id d)) before) (sym site)

  pub site_after : after.node.site ≡ turn.site
  site_after = ap (λ (run : NodeRun). run.node.site) is_turn

  pub batches_after : after.node.batches ≡ kept_with (durable_of turn.site) turn.batch before.node.batches
  batches_after = ap (λ (run : NodeRun). run.node.batches) is_turn

  pub datagrams_after : after.datagrams ≡ before.datagrams ++ turn.datagrams
  datagrams_after = ap (λ (run : NodeRun). run.datagrams) is_turn

  pub stopped_after : after.stopped ≡ turn.stop
  stopped_after = ap (λ (run : NodeRun). run.stopped) is_turn

  pub recorded_after : recorded_bytes after ≡ recorded_bytes before ++ lines_of catalogue node d
  recorded_after = ap recorded_bytes is_turn ∙ concat-append before.lines _

  pub left_folds : (left : List (List LogRecord)) → MayKeep (durable_of turn.site) turn.batch before.node.batches left
      → (durable_in catalogue id left ≡ durable_of before.node.site) ⊎ (durable_in catalogue id left ≡ durable_of after.node.site)
  left_folds left is =
      ⊎_elim (λ e. inl (e ∙ ap (λ (s : SiteState). durable_of s) site)) (λ e. inr (e ∙ ap (λ (s : SiteState). durable_of s) (sym site_after)))
      (by (ap (λ (s : SiteState). durable_of s) site ∙ runs_keep catalogue id batches front))
    where
      by : durable_of node.site ≡ durable_in catalogue id before.node.batches → (durable_in catalogue id left ≡ durable_of node.site) ⊎ (durable_in catalogue id left ≡ durable_of turn.site)
      by h = turn_left catalogue id (record { site = node.site; batches = before.node.batches }) (what_comes catalogue node d) h left is
