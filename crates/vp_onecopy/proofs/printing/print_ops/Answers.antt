use Rattle.std.proofs.Common.{◌≡◌, ◌++◌, rules, arith}
use Rattle.std.proofs.lemmas.Grind.{common_steps}
use Rattle.std.specs.List.{flat_map}
use Rattle.vp_model.specs.Texts.History.{op_text}
use Rattle.vp_text.proofs.Printing.{begun_item, begun_whole}
use Rattle.vp_onecopy.proofs.printing.print_ops.Goals as goal

pub returns-in_err-print_op : goal.returns-in_err-print_op
returns-in_err-print_op c = record {
  whole = search rules;
  begun = begun_item (op_text c.args.names.now) c.args.ops.now c.loop-op.op-index c.op-item.result _ _ _ c.loop-op-test.true c.op-item.is c.loop-op.invariant c.print_op.ensures.begun;
}

pub returns : goal.returns
returns c =
    let whole : c.loop-op.out.items ≡ c.args.out.now.items ++ flat_map (op_text c.args.names.now) c.args.ops.now = grind (arith, common_steps) in
    record { whole = whole; begun = begun_whole _ _ _ whole }
