use Rattle.std.proofs.Common.{◌≤◌, length, arith}
use Rattle.std.proofs.lemmas.Grind.{common_steps}
use Rattle.vp_lines.proofs.Finding.{kept_more}
use Rattle.vp_lines.proofs.unread.append.Goals as goal

pub returns : goal.returns
returns c =
    let le : length c.args.line.now.items ≤ c.args.most = grind (arith, common_steps) in
    let h = kept_more c.args.most c.args.line.now.items c.args.bytes.now le in
    grind (arith, common_steps, h)
