use Rattle.std.proofs.Common.{rules, ◌≡◌, ◌∙◌, ◌++◌, ap, sym, subst, Ok, Err}
use Rattle.vp_model.specs.World.{Schedule, moments_of}
use Rattle.vp_model.specs.Texts.Trace.{trace_text}
use Rattle.vp_playing.specs.Played.{schedule_of, StepsAll, IsReadyFor}
use Rattle.vp_cluster.specs.Ports.{AreHosts}
use Rattle.vp_cluster.specs.Nodes.{NodesValue, Begin, MayDo, Does}
use Rattle.vp_cluster.specs.Ran.{AreLogs, Runs}
use Rattle.vp_node.proofs.Faults.{gave_err}
use Rattle.vp_cluster.proofs.Running.{runs_nothing, run_is_ready, run_is_cut, run_is_left, run_is_done, same_plays}
use Rattle.vp_cluster.proofs.cluster.run.Goals as goal

pub returns-in_err-world : goal.returns-in_err-world
returns-in_err-world c =
    let same : schedule_of c.in_ok-catalog.catalog c.as_slice.result.now ≡ c.args.schedule.now = ap (λ x. schedule_of x c.as_slice.result.now) c.in_ok-catalog.ensures ∙ ap (schedule_of c.schedule.inside.catalog) c.as_slice.ensures ∙ c.schedule.view_is in
    let why = c.in_err-world.field-0.0 in
    subst (λ text. Runs c.args.schedule.now c.from_residual-in_err-world.result text c.trace.inside.bytes.items) (ap (λ v. v.items) c.replace.ensures.value)
    (subst (λ text. Runs c.args.schedule.now c.from_residual-in_err-world.result c.replace.result.items text) (sym c.trace.view_is)
    (run_is_cut c.args.schedule.now c.requires c.replace.result.items c.play-played.new.observer why c.from_residual-in_err-world.result
    (same_plays _ c.args.schedule.now (Err why) c.replace.result.items c.play-played.new.observer same c.in_err-world.ensures.played) (gave_err c.from_residual-in_err-world.result why c.from_residual-in_err-world.ensures.1)))

pub returns : goal.returns
returns c =
    let same : schedule_of c.in_ok-catalog.catalog c.as_slice.result.now ≡ c.args.schedule.now = ap (λ x. schedule_of x c.as_slice.result.now) c.in_ok-catalog.ensures ∙ ap (schedule_of c.schedule.inside.catalog) c.as_slice.ensures ∙ c.schedule.view_is in
    let begun = c.in_ok-nodes.nodes in
    let begins = subst (λ catalogue. Begin catalogue begun) (c.in_ok-copy_of.ensures ∙ ap (λ (s : Schedule). s.catalogue) c.schedule.view_is) c.in_ok-nodes.ensures in
    let hosts = subst (λ (nodes : NodesValue). AreHosts nodes.catalogue nodes.hosts) c.nodes.view_is c.nodes.invariant in
    let steps = subst (λ (s : Schedule). StepsAll Does s.catalogue (moments_of s) begun c.play-played.new.stepper) same c.in_ok-world.ensures.stepped in
    let plays = same_plays _ c.args.schedule.now (Ok c.in_ok-world.world) c.replace.result.items c.play-played.new.observer same c.in_ok-world.ensures.played in
    let done = run_is_done c.args.schedule.now c.requires c.replace.result.items c.play-played.new.observer c.in_ok-world.world begun c.play-played.new.stepper plays begins steps hosts in (
      done.0,
      c.trace.view_is ∙ done.1 ∙ ap (λ text. text ++ trace_text c.args.schedule.now) (ap (λ v. v.items) c.replace.ensures.value),
      c.in_ok-copy_of-2.ensures ∙ c.journal.ensures ∙ done.2,
      subst (AreLogs c.args.schedule.now) (sym c.in_ok-logs.ensures) done.3,
    )

pub returns-in_err-catalog : goal.returns-in_err-catalog
returns-in_err-catalog c = runs_nothing c.args.schedule.now c.from_residual.result c.args.out.now.items (search rules)

pub returns-in_err-copy_of : goal.returns-in_err-copy_of
returns-in_err-copy_of c = runs_nothing c.args.schedule.now _ c.args.out.now.items (search rules)

pub returns-in_err-nodes : goal.returns-in_err-nodes
returns-in_err-nodes c = runs_nothing c.args.schedule.now _ c.args.out.now.items (search rules)

pub play-played-requires-clause-ready : goal.play-played-requires-clause-ready
play-played-requires-clause-ready c =
    let same : schedule_of c.in_ok-catalog.catalog c.as_slice.result.now ≡ c.args.schedule.now = ap (λ x. schedule_of x c.as_slice.result.now) c.in_ok-catalog.ensures ∙ ap (schedule_of c.schedule.inside.catalog) c.as_slice.ensures ∙ c.schedule.view_is in
    let begun = c.in_ok-nodes.nodes in
    let begins = subst (λ catalogue. Begin catalogue begun) (c.in_ok-copy_of.ensures ∙ ap (λ (s : Schedule). s.catalogue) c.schedule.view_is) c.in_ok-nodes.ensures in
    subst (λ (s : Schedule). IsReadyFor MayDo Does s.catalogue (moments_of s) begun) (sym same) (run_is_ready c.args.schedule.now c.requires begun begins)

pub returns-in_err-copy_of-2 : goal.returns-in_err-copy_of-2
returns-in_err-copy_of-2 c =
    let same : schedule_of c.in_ok-catalog.catalog c.as_slice.result.now ≡ c.args.schedule.now = ap (λ x. schedule_of x c.as_slice.result.now) c.in_ok-catalog.ensures ∙ ap (schedule_of c.schedule.inside.catalog) c.as_slice.ensures ∙ c.schedule.view_is in
    subst (λ text. Runs c.args.schedule.now c.from_residual-in_err-copy_of-2.result text c.trace.inside.bytes.items) (ap (λ v. v.items) c.replace.ensures.value)
    (subst (λ text. Runs c.args.schedule.now c.from_residual-in_err-copy_of-2.result c.replace.result.items text) (sym c.trace.view_is)
    (run_is_left c.args.schedule.now c.requires c.replace.result.items c.play-played.new.observer c.in_ok-world.world c.from_residual-in_err-copy_of-2.result
    (same_plays _ c.args.schedule.now (Ok c.in_ok-world.world) c.replace.result.items c.play-played.new.observer same c.in_ok-world.ensures.played) (search rules)))

pub returns-in_err-logs : goal.returns-in_err-logs
returns-in_err-logs c =
    let same : schedule_of c.in_ok-catalog.catalog c.as_slice.result.now ≡ c.args.schedule.now = ap (λ x. schedule_of x c.as_slice.result.now) c.in_ok-catalog.ensures ∙ ap (schedule_of c.schedule.inside.catalog) c.as_slice.ensures ∙ c.schedule.view_is in
    subst (λ text. Runs c.args.schedule.now c.from_residual-in_err-logs.result text c.trace.inside.bytes.items) (ap (λ v. v.items) c.replace.ensures.value)
    (subst (λ text. Runs c.args.schedule.now c.from_residual-in_err-logs.result c.replace.result.items text) (sym c.trace.view_is)
    (run_is_left c.args.schedule.now c.requires c.replace.result.items c.play-played.new.observer c.in_ok-world.world c.from_residual-in_err-logs.result
    (same_plays _ c.args.schedule.now (Ok c.in_ok-world.world) c.replace.result.items c.play-played.new.observer same c.in_ok-world.ensures.played) (search rules)))
