use Rattle.std.proofs.Common.{◌≡◌, ◌∙◌, ◌≤◌, ℕ, Bool, true, false, eqb, ◌&&◌, not, sym, ap, arith}
use Rattle.std.proofs.lemmas.List.{take_all}
use Rattle.vp_model.specs.Words.{has}
use Rattle.vp_catalog.proofs.Marks.{kept, passed}
use Rattle.vp_catalog.proofs.others.others_in.Goals as goal
use Rattle.vp_catalog.proofs.others.others_in.Goals.{then-is_other-from+in_ok-push, else-is_other-from}

pub loop-site-preserved : goal.loop-site-preserved
loop-site-preserved c =
    let site : ℕ = c.site-item.result in
    let test : ℕ → Bool = λ q. has c.args.members.now q && not (eqb q c.args.id) in
    let number : c.from.result ≡ site = c.from.ensures ∙ c.get.ensures.value in
    let low : c.from.result ≤ 16 = omega arith in
    let told = rw c.as_slice.ensures at (c.other_members-is_other.ensures.each c.from.result low) in
    elim c.if-is_other-from.branch [
      | then-is_other-from+in_ok-push w ↦
          let yes : test site ≡ true = rw number at (sym told ∙ w.if-is_other-from.true) in
          ap (λ v. v.items) w.others-is ∙ w.in_ok-push.ensures.items ∙ kept test c.args.sites.now c.loop-site.site-index site c.loop-site-test.true c.site-item.is c.loop-site.others.items yes c.loop-site.invariant
      | else-is_other-from w ↦
          let no : test site ≡ false = rw number at (sym told ∙ w.if-is_other-from.false) in
          ap (λ v. v.items) w.others-is ∙ passed test c.args.sites.now c.loop-site.site-index site c.loop-site-test.true c.site-item.is c.loop-site.others.items no c.loop-site.invariant
    ]

pub returns : goal.returns
returns c = c.from_vec.ensures ∙ rw (take_all c.loop-site.site-index c.args.sites.now c.loop-site-test.false) at c.loop-site.invariant
