use Rattle.std.proofs.Common.{inl}
use Rattle.std.proofs.lemmas.Result.{IfOk-weaker}
use Rattle.vp_status.specs.declared.status.RunOutput.{RunOutput}
use Rattle.vp_top.specs.Procedures.{ProcedureGives, TellsRun}
use Rattle.vp_top.proofs.Procedures.{has_run, left_so}
use Rattle.vp_top.proofs.procedure.run_at.Goals as goal

pub returns-clause-gives : goal.returns-clause-gives
returns-clause-gives g c =
    let ran = has_run c.args.own c.args.turns c.args.port c.args.site c.args.procedure.now (g.L.Link.state c.args.link.now) (g.L.Link.state c.bind.new.self) (g.L.Link.state c.run.new.link) c.in-Ok.field-0 c.run.result c.in-Ok.ensures c.run.ensures.runs
    c.run.ensures.stays in
    IfOk-weaker c.told.result (λ (it : RunOutput). TellsRun c.run.result it.status it.text.items)
    (λ (it : RunOutput). ProcedureGives c.args.own c.args.turns c.args.port c.args.site c.args.procedure.now (g.L.Link.state c.args.link.now) (g.L.Link.state c.run.new.link) it.status it.text.items)
    (λ it told. inl (c.run.result, ran, told)) c.told.ensures

pub returns-clause-no_memory : goal.returns-clause-no_memory
returns-clause-no_memory g c =
    let ran = has_run c.args.own c.args.turns c.args.port c.args.site c.args.procedure.now (g.L.Link.state c.args.link.now) (g.L.Link.state c.bind.new.self) (g.L.Link.state c.run.new.link) c.in-Ok.field-0 c.run.result c.in-Ok.ensures c.run.ensures.runs
    c.run.ensures.stays in
    left_so c.told.result (inl (c.run.result, ran))
