use Rattle.std.proofs.Common.{rules}
use Rattle.vp_model.specs.Words.{opening}
use Rattle.vp_onecopy.proofs.Steps.{last_is}
use Rattle.vp_onecopy.proofs.document.last_view.Goals as goal

pub returns-in-Some : goal.returns-in-Some
returns-in-Some c = last_is opening c.args.commits.now c.in-Some.commit.now (search rules) (search rules)
