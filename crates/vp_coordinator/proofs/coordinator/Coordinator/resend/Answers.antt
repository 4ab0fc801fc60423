use Rattle.std.proofs.Common.{◌∙◌, ap}
use Rattle.vp_model.specs.Site.{Lent}
use Rattle.vp_model.specs.Step.{resend}
use Rattle.vp_coordinator.proofs.Told.{sent_again}
use Rattle.vp_coordinator.proofs.coordinator.Coordinator.resend.Goals as goal

pub returns : goal.returns
returns c =
    let l : Lent = record { coordinator = c.self.inside.transactions; here = c.self.inside.here; effects = c.self.inside.effects } in
    ap (λ e. record l { effects = e }) c.in_ok-resend.ensures ∙ sent_again c.args.id l.coordinator.decisions l
    ∙ ap (λ m. resend c.args.id m.coordinator.decisions m) c.self.view_is
