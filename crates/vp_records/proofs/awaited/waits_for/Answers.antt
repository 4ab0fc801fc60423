use Rattle.std.proofs.Common.{◌∙◌, ap, sym, option_copied}
use Rattle.vp_records.proofs.Acknowledged.{waits_found, waits_unless}
use Rattle.vp_records.proofs.awaited.waits_for.Goals as goal

pub returns-in-None : goal.returns-in-None
returns-in-None c = sym (waits_unless c.args.txn.now c.args.site c.args.table.now (sym c.get.ensures.found ∙ ap option_copied c.in-None.is))

pub returns-in-Some : goal.returns-in-Some
returns-in-Some c =
    c.waits_for_site.ensures ∙ sym (waits_found c.args.txn.now c.args.site c.args.table.now c.get.ensures.ascending c.in-Some.decision.now (sym c.get.ensures.found ∙ ap option_copied c.in-Some.is))
