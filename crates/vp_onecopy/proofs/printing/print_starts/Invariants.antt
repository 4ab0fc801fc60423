use Rattle.std.proofs.Common.{◌≡◌, ◌++◌, true}
use Rattle.vp_text.specs.Printing.{is_begun}
use Rattle.vp_model.specs.Texts.History.{starts_text}
use Rattle.vp_onecopy.proofs.printing.print_starts.Given as goal

abbrev pub invariant-loop-name : goal.invariant-loop-name
invariant-loop-name l = record {
  rest : l.out.items ++ starts_text l.name-iterator.a.rest.now l.name-iterator.b.rest.now ≡ l.fn.out.items ++ starts_text l.names l.values;
  begun : is_begun l.fn.out.items (starts_text l.names l.values) l.out.items ≡ true;
}
