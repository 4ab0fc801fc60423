use Rattle.std.proofs.Common.{inl, inr}
use Rattle.vp_top.proofs.Ending.{listed, printed}
use Rattle.vp_top.proofs.program.run.Goals as goal

pub serve_log-requires-clause-id : goal.serve_log-requires-clause-id
serve_log-requires-clause-id g c =
    let planned = rw c.in-Ok-Serve.field-0-is at c.in-Ok-Serve.ensures.plans in
    listed c.in-Ok-Serve.site planned.0.port c.in-Ok-Serve.catalog.sites planned.0.placed.there

pub returns-in-Ok-Print-clause-ends : goal.returns-in-Ok-Print-clause-ends
returns-in-Ok-Print-clause-ends g c =
    let planned = rw c.in-Ok-Print.field-0-is at c.in-Ok-Print.ensures.plans in
    inl (printed c.args.words.now _ _ _ _ _ _ c.in-Ok-Print.defined.status c.print.result c.in-Ok-Print.defined.text.items planned c.print.ensures)

pub returns-in-Ok-Print-clause-text : goal.returns-in-Ok-Print-clause-text
returns-in-Ok-Print-clause-text g c no_disk no_gateway =
    let planned = rw c.in-Ok-Print.field-0-is at c.in-Ok-Print.ensures.plans in
    printed c.args.words.now _ _ _ _ _ _ c.in-Ok-Print.defined.status c.print.result c.in-Ok-Print.defined.text.items planned c.print.ensures

pub returns-in-Ok-Serve-clause-ends : goal.returns-in-Ok-Serve-clause-ends
returns-in-Ok-Serve-clause-ends g c =
    let planned = rw c.in-Ok-Serve.field-0-is at c.in-Ok-Serve.ensures.plans in
    let told = c.serve_log.ensures in
    let same = planned.1 in
    inr (inl (inl (record {
      catalogue = c.in-Ok-Serve.catalog;
      site = c.in-Ok-Serve.site;
      log = c.in-Ok-Serve.log;
      turns = c.in-Ok-Serve.turns;
      node = planned.0;
      ends = rw same at told.ends;
      cause = rw same at told.cause;
      decided = rw same at told.decided;
    })))

pub returns-in-Ok-clause-disk_uncalled : goal.returns-in-Ok-clause-disk_uncalled
returns-in-Ok-clause-disk_uncalled g c uncalled =
    let planned = rw c.in-Ok-Audit.field-0-is at c.in-Ok-Audit.ensures.plans in
    absurd (uncalled (inr (record {
      catalogue = c.in-Ok-Audit.catalog;
      logs = c.in-Ok-Audit.logs;
      audit = planned.0;
      prints = inl (c.in-Ok.defined.status, c.in-Ok.defined.text.items, c.in-Ok.ensures.gives, c.print-in-Ok.ensures);
      kept = c.in-Ok.ensures.kept;
      uncalled = planned.1;
    })))

pub returns-in-Ok-Answer-clause-ends : goal.returns-in-Ok-Answer-clause-ends
returns-in-Ok-Answer-clause-ends g c =
    let planned = rw c.in-Ok-Answer.field-0-is at c.in-Ok-Answer.ensures.plans in
    let source = planned.1 in
    let link = planned.2 in
    inr (inr (record {
      own = c.in-Ok-Answer.gateway.port;
      turns = c.in-Ok-Answer.gateway.turns;
      site = c.in-Ok-Answer.gateway.site;
      words_are = planned.0;
      ends = rw (source, link) at c.serve_session.ensures.ends;
    }))
