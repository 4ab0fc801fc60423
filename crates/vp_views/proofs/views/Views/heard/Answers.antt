use Rattle.vp_views.proofs.views.Views.heard.Goals as goal

pub invariant_of-self : goal.invariant_of-self
invariant_of-self c = c.hear.ensures.promised c.self.inside.promise c.self.invariant
