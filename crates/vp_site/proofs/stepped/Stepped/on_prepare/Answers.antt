use Rattle.std.proofs.Common.{rules, ◌≡◌, OnOk, subst}
use Rattle.vp_model.specs.Site.{Stepped}
use Rattle.vp_site.proofs.Voting.{prepare_row}
use Rattle.vp_site.proofs.stepped.Stepped.on_prepare.Goals as goal

pub returns-in-Ok : goal.returns-in-Ok
returns-in-Ok c =
    let asked = c.args.asked.now in
    let row =
    prepare_row c.args.from asked.view asked.number asked.reads.now asked.writes.now c.args.self.now asked.txn c.in-Ok.voted c.prepare.new.self
    (search rules)
    (search rules) in
    subst (λ (o : Stepped). OnOk c.cast.result (c.cast.new.self ≡ o)) row (search rules)
