use Rattle.std.proofs.Common.{arith, lit<}
use Rattle.std.proofs.lemmas.Grind.{common_steps}
use Rattle.vp_outside.proofs.Pieces.{given-next}
use Rattle.vp_outside.proofs.sources.SureSourceSource.take.Goals as goal

pub returns : goal.returns
returns c =
    let text = c.args.self.now.text in
    let gave = c.give.ensures in
    let next = given-next text.bytes.items c.args.buf.now c.give.new.buf text.at c.give.result _ gave.count gave.given c.give.auto.buf (lit< tt) in
    record {
      bound = grind (arith, common_steps);
      bytes = rw (gave.bytes, gave.at) next;
      count = grind (arith, common_steps);
      end = grind (arith, common_steps);
      kept_end = grind (arith, common_steps);
      cause = grind (arith, common_steps);
    }
