use Rattle.std.proofs.Common.{rules, ◌≡◌, sym, subst, refl, Err, Result, Option}
use Rattle.vp_base.specs.declared.memory.NoMemory.{NoMemory}
use Rattle.vp_world.specs.declared.end.WorldEnd.{WorldEnd}
use Rattle.vp_text.proofs.Printing.{begun_none}
use Rattle.vp_replay.specs.Generated.{Generates}
use Rattle.vp_replay.proofs.Making.{begun_made}
use Rattle.vp_replay.proofs.generating.generate.Goals as goal

pub returns-in-Err-NoMemory : goal.returns-in-Err-NoMemory
returns-in-Err-NoMemory c = begun_none c.args.out.now.items _ c.args.out.now.items refl

pub returns-in_err-print_events-in-Ok : goal.returns-in_err-print_events-in-Ok
returns-in_err-print_events-in-Ok c =
    let is : c.from_residual.result ≡ Err c.in_err-print_events-in-Ok.field-0.0 = search rules in
    subst (λ (r : Result (Option WorldEnd) NoMemory). Generates c.args.seed c.args.count r c.args.out.now.items c.print_events.new.out.items)
    (sym is)
    (begun_made c.args.seed c.args.count c.in-Ok.field-0 c.make.new.self c.args.out.now.items c.print_events.new.out.items c.in-Ok.ensures c.print_events.ensures.begun)
