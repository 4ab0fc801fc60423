use Rattle.std.proofs.Common.{◌≡◌, ◌∙◌, sym, ap, rules}
use Rattle.vp_proc.specs.declared.walk.Mode.{Mode}
use Rattle.vp_proc.specs.Scripts.{branch}
use Rattle.vp_proc.proofs.Walked.{if_holds, if_so, if_none_first, if_none_second}
use Rattle.vp_proc.proofs.walk.Walk.compare.Goals as goal
use Rattle.vp_proc.proofs.walk.Walk.compare.Goals.{then-less, else-less, then-not-holds, else-not-holds}

pub returns-in_default : goal.returns-in_default
returns-in_default c =
    let w = c.args.self.now in
    rw c.overflow.ensures (if_none_first w c.args.less c.args.a.now c.args.b.now c.requires.doing (sym c.value.ensures ∙ c.in_default.is) (search rules))

pub returns-in_default-value : goal.returns-in_default-value
returns-in_default-value c =
    let w = c.args.self.now in
    rw c.overflow-in_default-value.ensures (if_none_second w c.args.less c.args.a.now c.args.b.now c.requires.doing (sym c.value-2.ensures ∙ c.in_default-value.is) (search rules))

pub returns : goal.returns
returns c =
    let w = c.args.self.now in
    let x = c.in-Some.x in
    let y = c.in-Some-value.y in
    let compares : c.if-less.holds ≡ if_holds c.args.less x y = elim c.if-less.branch [
      | then-less v ↦ rw v.if-less.true v.holds-is
      | else-less v ↦ rw v.if-less.false v.holds-is
    ] in
    let walk : c.if-not-holds.self ≡ record w { mode = branch c.if-less.holds } = elim c.if-not-holds.branch [
      | then-not-holds v ↦ rw v.if-not-holds.true v.self-is
      | else-not-holds v ↦ rw v.if-not-holds.false (v.self-is ∙ ap (λ (m : Mode). record w { mode = m }) c.requires.doing)
    ] in
    if_so w c.if-not-holds.self c.args.less c.if-less.holds c.args.a.now c.args.b.now x y c.requires.doing (sym c.value.ensures ∙ c.in-Some.is) (sym c.value-2.ensures ∙ c.in-Some-value.is) compares walk (search rules)
