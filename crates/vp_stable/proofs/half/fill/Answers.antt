use Rattle.std.proofs.Common.{◌-◌, length, take, drop, arith}
use Rattle.std.proofs.lemmas.Grind.{common_steps}
use Rattle.std.specs.Prelude.{IfSome, Ok}
use Rattle.vp_outside.specs.Disk.{half_of, Gives}
use Rattle.vp_outside.specs.declared.source.Failed.{Failed}
use Rattle.vp_stable.proofs.Filling.{filled_more, filled_end, filled_whole}
use Rattle.vp_stable.proofs.Times.{quiet_then, told_before}
use Rattle.vp_stable.proofs.half.fill.Goals as goal

pub returns-in_err-count-clause-quiet : goal.returns-in_err-count-clause-quiet
returns-in_err-count-clause-quiet g c =
    let e = c.read.ensures in
    quiet_then c.loop-at.invariant.quiet e.leaves

pub returns-then-count-eq0-clause-quiet : goal.returns-then-count-eq0-clause-quiet
returns-then-count-eq0-clause-quiet g c =
    let e = c.read.ensures in
    quiet_then c.loop-at.invariant.quiet e.leaves

pub loop-at-preserved : goal.loop-at-preserved
loop-at-preserved g c =
    let i = c.loop-at.invariant in
    let e = c.in_ok-count.ensures in
    let old = take (length c.loop-at.buf - c.loop-at.at) (drop c.loop-at.at c.loop-at.buf) in
    let gives = told_before (λ o. IfSome o (λ log. Gives {E = Failed} (half_of c.args.half log) c.loop-at.at old c.read.new.buf (Ok c.in_ok-count.count))) i.quiet e.told in
    record {
      within = grind (arith, common_steps);
      told = filled_more c.args.half _ c.loop-at.buf old c.read.new.buf c.loop-at.at _ c.in_ok-count.count i.within (omega arith) i.told gives;
      quiet = quiet_then i.quiet e.leaves;
      counted = grind (arith, common_steps);
    }

pub returns-then-count-eq0-clause-told : goal.returns-then-count-eq0-clause-told
returns-then-count-eq0-clause-told g c =
    let i = c.loop-at.invariant in
    let e = c.in_ok-count.ensures in
    let old = take (length c.loop-at.buf - c.loop-at.at) (drop c.loop-at.at c.loop-at.buf) in
    let gives = told_before (λ o. IfSome o (λ log. Gives {E = Failed} (half_of c.args.half log) c.loop-at.at old c.read.new.buf (Ok c.in_ok-count.count))) i.quiet e.told in
    let none = rw c.if-count-eq0.true at gives in
    filled_end c.args.half c.loop-at.buf c.loop-at.at (length c.args.buf.now) c.loop-at.auto.buf i.within _ c.read.new.buf (omega arith) i.told none

pub returns-clause-told : goal.returns-clause-told
returns-clause-told g c =
    let i = c.loop-at.invariant in
    filled_whole c.args.half c.loop-at.buf c.loop-at.at (length c.args.buf.now) c.loop-at.auto.buf i.within _ (omega arith) i.told
