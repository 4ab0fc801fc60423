use Rattle.std.proofs.Common.{◌∙◌, rules}
use Rattle.vp_model.specs.Site.{Stepped}
use Rattle.vp_site.proofs.Asking.{asked_again}
use Rattle.vp_site.proofs.tick.ask_again_all.Goals as goal

pub returns : goal.returns
returns c =
    let o : Stepped = c.args.stepped.now in
    search rules ∙ asked_again c.args.catalog.now c.args.view o.site.refresh o
