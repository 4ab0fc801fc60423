use Rattle.std.proofs.Common.{rules, ◌≡◌, ◌∙◌, sym, subst, Result, Err, List}
use Rattle.vp_model.specs.World.{Schedule}
use Rattle.vp_fitting.specs.Merged.{at_first}
use Rattle.vp_recording.specs.declared.recording.Recording.{Recording}
use Rattle.vp_merge.specs.Merges.{Merges}
use Rattle.vp_merge.specs.Merging.{state_of}
use Rattle.vp_merge.specs.declared.fault.MergeFault.{MergeFault}
use Rattle.vp_merge.proofs.Ending.{going_starts, going_on, going_ends, ends_waiting, ends_whole}
use Rattle.vp_merge.proofs.putting.merge.Goals as goal

pub turns-init : goal.turns-init
turns-init c =
    going_starts c.args.catalog.now c.args.recordings.now c.in_ok-merging.merging c.in_ok-merging.ensures.merging
    (subst (λ (rs : List Recording). state_of rs c.in_ok-merging.merging ≡ at_first c.args.catalog.now rs) c.as_slice.ensures c.in_ok-merging.ensures.state)

pub turns-preserved : goal.turns-preserved
turns-preserved c = going_on c.args.catalog.now c.args.recordings.now c.turns.merging c.turns.invariant c.in_ok-merging-2.merging (c.in_ok-merging-2.ensures c.args.recordings.now)

pub returns-in_err-merging-2 : goal.returns-in_err-merging-2
returns-in_err-merging-2 c =
    let why = c.in_err-merging-2.field-0.0 in
    let is : c.from_residual-in_err-merging-2.result ≡ Err why = search rules in
    subst (λ (r : Result Schedule MergeFault). Merges c.args.catalog.now c.args.recordings.now r) (sym is)
    (going_ends c.args.catalog.now c.args.recordings.now c.turns.merging c.turns.invariant c.in-Some.place (sym c.ready.ensures ∙ c.in-Some.is) why (c.in_err-merging-2.ensures c.args.recordings.now))

pub returns-in-Some-waiting : goal.returns-in-Some-waiting
returns-in-Some-waiting c =
    ends_waiting c.args.catalog.now c.args.recordings.now c.turns.merging c.turns.invariant (sym c.ready.ensures ∙ c.in_default.is) c.what_is_unsent_is_never_sent.ensures c.requires.catalogue c.requires.nodes
    c.in-Some-waiting.fault (sym c.waiting.ensures ∙ c.in-Some-waiting.is)

pub returns : goal.returns
returns c =
    ends_whole c.args.catalog.now c.args.recordings.now c.turns.merging c.turns.invariant (sym c.ready.ensures ∙ c.in_default.is) c.merged_schedules_fit.ensures c.requires.nodes
    (sym c.waiting.ensures ∙ c.in_default-waiting.is) c.in_ok-copy_of.field-0 c.in_ok-copy_of.ensures
