use Rattle.std.proofs.Common.{◌≡◌, ◌∙◌, ℕ, Bool, true, false, eqb, ◌&&◌, not, sym}
use Rattle.std.specs.Prelude.{find}
use Rattle.vp_model.specs.Words.{has}
use Rattle.vp_catalog.proofs.Onward.{rest_says, end_says}
use Rattle.vp_catalog.proofs.others.least_other.Goals as goal

pub returns-then-is_other_member : goal.returns-then-is_other_member
returns-then-is_other_member c =
    let test : ℕ → Bool = λ q. has c.args.members.now q && not (eqb q c.args.id) in
    let yes : test c.site-item.result ≡ true = sym c.is_other_member.ensures ∙ c.if-is_other_member.true in
    rw yes at (rest_says (find test) c.args.sites.now c.loop-site.site-index c.site-item.result c.loop-site-test.true c.site-item.is c.loop-site.invariant)

pub loop-site-preserved : goal.loop-site-preserved
loop-site-preserved c =
    let test : ℕ → Bool = λ q. has c.args.members.now q && not (eqb q c.args.id) in
    let no : test c.site-item.result ≡ false = sym c.is_other_member.ensures ∙ c.if-is_other_member.false in
    rw no at (rest_says (find test) c.args.sites.now c.loop-site.site-index c.site-item.result c.loop-site-test.true c.site-item.is c.loop-site.invariant)

pub returns : goal.returns
returns c = end_says (find (λ q. has c.args.members.now q && not (eqb q c.args.id))) c.args.sites.now c.loop-site.site-index c.loop-site-test.false c.loop-site.invariant
