use Rattle.std.proofs.Common.{◌≡◌, ◌∙◌, true, filter, ap, sym}
use Rattle.vp_model.specs.Types.{Live}
use Rattle.vp_model.specs.Words.{for_each}
use Rattle.vp_model.specs.Site.{lent_coordinator}
use Rattle.vp_model.specs.Step.{is_marked_call, with_marks}
use Rattle.vp_transactions.specs.Waiting.{all_wait}
use Rattle.vp_coordinator.specs.Ends.{timed_out}
use Rattle.vp_coordinator.proofs.Ends.{time_out_is}
use Rattle.vp_coordinator.proofs.coordinator.Coordinator.time_out_calls.Goals as goal

pub returns : goal.returns
returns c =
    let l = c.args.self.now in
    let waiting : all_wait l.live ≡ true = rw (← c.self.view_is) c.late.ensures.waiting in
    let late : c.in_ok-late.late.items ≡ filter (λ (t : Live). is_marked_call t.pending) l.live = rw (← c.self.view_is) c.in_ok-late.ensures.late in
    rw c.mark.ensures (ap (λ o. lent_coordinator with_marks o) (c.self-2.view_is ∙ c.in_ok-time_out_each.ensures ∙ ap (λ late. for_each late (timed_out c.args.id) l) (c.deref_mut.ensures.value ∙ late)) ∙ sym (time_out_is c.args.id l waiting))
