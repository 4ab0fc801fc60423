-- Runs of a node grow turn by turn, and their logs fold to the durable part of the site.
use Rattle.std.proofs.Common.{◌≡◌, ◌∙◌, ℕ, Bool, true, false, List, [], ◌∷◌, refl, sym, ap}
use Rattle.std.proofs.lemmas.List.Sums.{fold-append}
use Rattle.vp_model.specs.Types.{LogRecord}
use Rattle.vp_model.specs.Words.{for_each}
use Rattle.vp_model.specs.Catalogue.{Catalogue}
use Rattle.vp_model.specs.Durable.{apply, apply_all}
use Rattle.vp_model.specs.Step.{step, start, start_record, durable_of}
use Rattle.vp_laws.proofs.Table.Durable.{step-folds}
use Rattle.vp_outside.specs.declared.datagram.Datagram.{Datagram}
use Rattle.vp_runs.specs.declared.arrival.Arrival.{Arrival}
use Rattle.vp_runs.specs.declared.arrival.Arrival.TheVariants.{Bad, Stray, Stops, Gives}
use Rattle.vp_runs.specs.Arrivals.{arrival}
use Rattle.vp_runs.specs.Keeping.{durable_in}
use Rattle.vp_runs.specs.Turns.{turn_on}
use Rattle.vp_runs.specs.Runs.{NodeState, NodeRun, start_node, start_of, after_turn, one_turn, node_run}
use Rattle.vp_runs.specs.Laws.{RunsGoOn, RunsKeepTheDurablePart}
use Rattle.vp_runs.proofs.Checkpoints.{batch_folds, steps_fold}

pub runs_go_on : RunsGoOn
unfolding node_run
runs_go_on catalogue id batches arrived d = fold-append (λ run d. one_turn catalogue d run) (start_of catalogue id batches) arrived (d ∷ [])

module _ (catalogue : Catalogue) (id : ℕ) where
  abbrev Folds : NodeState → Type 0
  Folds node = durable_of node.site ≡ durable_in catalogue id node.batches

  turn_folds : (node : NodeState) (what : Arrival) → Folds node → Folds (after_turn node (turn_on catalogue node.site what))
  unfolding turn_on
  turn_folds node (Bad at) h = h
  turn_folds node Stray h = h
  turn_folds node Stops h = h
  turn_folds node (Gives given) h =
      let o = step catalogue node.site given in
      let folds : apply_all o.effects.records (durable_in catalogue id node.batches) ≡ durable_of o.site = ap (apply_all o.effects.records) (sym h) ∙ step-folds catalogue node.site given in
      sym (steps_fold catalogue id (durable_of o.site) o.effects.records node.batches folds)

  one_folds : (stopped : Bool) (d : Datagram) (run : NodeRun) → run.stopped ≡ stopped → Folds run.node → Folds (one_turn catalogue d run).node
  unfolding one_turn
  one_folds true d run s h = rw s h
  one_folds false d run s h = rw s (turn_folds run.node (arrival catalogue run.node.site.id d) h)

  many_folds : (arrived : List Datagram) (run : NodeRun) → Folds run.node → Folds (for_each arrived (one_turn catalogue) run).node
  many_folds [] run h = h
  many_folds (d ∷ arrived) run h = many_folds arrived (one_turn catalogue d run) (one_folds run.stopped d run refl h)

  start_folds : (batches : List (List LogRecord)) → Folds (start_node catalogue id batches)
  unfolding start apply
  start_folds batches = sym (batch_folds catalogue id (start_record (durable_in catalogue id batches) ∷ []) batches)

pub runs_keep : RunsKeepTheDurablePart
unfolding node_run
runs_keep catalogue id batches arrived = many_folds catalogue id arrived (start_of catalogue id batches) (start_folds catalogue id batches)
