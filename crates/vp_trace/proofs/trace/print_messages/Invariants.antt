use Rattle.std.proofs.Common.{◌≡◌, ◌+◌, ◌++◌, drop, true}
use Rattle.vp_text.specs.Printing.{is_begun}
use Rattle.vp_model.specs.Texts.Trace.{sent_lines}
use Rattle.vp_trace.proofs.trace.print_messages.Given as goal

abbrev pub invariant-loop-sent : goal.invariant-loop-sent
invariant-loop-sent l = record {
  count : l.k ≡ l.fn.first + l.sent-index;
  rest : l.out.items ++ sent_lines l.catalog l.k (drop l.sent-index l.messages) ≡ l.fn.out.items ++ sent_lines l.catalog l.fn.first l.messages;
  begun : is_begun l.fn.out.items (sent_lines l.catalog l.fn.first l.messages) l.out.items ≡ true;
}
