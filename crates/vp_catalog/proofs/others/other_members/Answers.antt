use Rattle.std.proofs.Common.{◌∙◌, ◌<◌, length, arith}
use Rattle.std.proofs.lemmas.List.{length-set, take_all, take_more}
use Rattle.vp_catalog.proofs.Marks.{marked, unmarked}
use Rattle.vp_catalog.proofs.others.other_members.Goals as goal

pub loop-member-preserved : goal.loop-member-preserved
loop-member-preserved c =
    let inside : c.member-item.result < length c.loop-member.is_other = omega arith in
    record {
      all = length-set c.loop-member.is_other c.from.result _ ∙ c.loop-member.invariant.all;
      each = λ q le. rw (c.from.ensures, c.get.ensures.value, take_more c.args.members.now c.loop-member.member-index c.member-item.result c.loop-member-test.true, ← c.member-item.is) (marked _ _ c.member-item.result q inside (c.loop-member.invariant.each q le));
    }

pub returns-clause-each : goal.returns-clause-each
returns-clause-each c =
    let inside : c.args.id < length c.loop-member.is_other = omega arith in
    let whole = take_all c.loop-member.member-index c.args.members.now c.loop-member-test.false in
    λ q le. rw (c.from-2.ensures, c.get-2.ensures.value) (unmarked _ c.args.id q _ inside (rw whole at (c.loop-member.invariant.each q le)))
