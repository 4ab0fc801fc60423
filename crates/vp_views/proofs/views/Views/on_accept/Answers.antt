use Rattle.vp_views.proofs.views.Views.on_accept.Goals as goal

pub invariant_of-self-in_err-accept : goal.invariant_of-self-in_err-accept
invariant_of-self-in_err-accept c = c.accept.ensures.promised c.self.inside.promise c.self.invariant
