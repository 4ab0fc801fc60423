use Rattle.std.proofs.Common.{◌∙◌, ◌==◌, not, filter, ap, sym}
use Rattle.vp_records.specs.Decided.{with_changed}
use Rattle.vp_records.proofs.Acknowledged.{acked_none, acked_one}
use Rattle.vp_records.proofs.awaited.acknowledge.Goals as goal

pub returns-in-Some : goal.returns-in-Some
returns-in-Some c =
    let d = c.in-Some.decision in
    let waiting = ap (λ ws. with_changed (record d { waiting = ws }) c.replace.new.self) c.drop_site.ensures in
    let replaced = rw (c.new.ensures) at c.replace.ensures.rest in
    c.put_back.ensures ∙ waiting ∙ ap (with_changed (record d { waiting = filter (λ q. not (q == c.args.site)) d.waiting })) replaced
    ∙ sym (acked_one c.args.txn.now c.args.site c.args.table.now c.requires c.replace.ensures.ascending d (sym c.replace.ensures.taken ∙ c.in-Some.is))

pub returns-in_default : goal.returns-in_default
returns-in_default c =
    let replaced = rw (c.new.ensures) at c.replace.ensures.rest in
    replaced ∙ sym (acked_none c.args.txn.now c.args.site c.args.table.now c.requires (sym c.replace.ensures.taken ∙ c.in_default.is))
