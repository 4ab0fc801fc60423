use Rattle.std.proofs.Common.{◌≡◌, ◌∙◌, true, false, sym, ap}
use Rattle.std.proofs.lemmas.List.{append-nil, drop_all}
use Rattle.vp_model.specs.Words.{has, keys}
use Rattle.vp_catalog.proofs.Starts.{copy_held, copy_missing}
use Rattle.vp_catalog.proofs.catalog.copies_at.Goals as goal
use Rattle.vp_catalog.proofs.catalog.copies_at.Goals.{then-is_held_by+in_ok-copy_of+in_ok-push, else-is_held_by}

pub loop-place-preserved : goal.loop-place-preserved
loop-place-preserved c =
    elim c.if-is_held_by.branch [
      | then-is_held_by+in_ok-copy_of+in_ok-push w ↦
          let yes : has (keys c.index-records-place.result.weights) c.args.site ≡ true = sym c.is_held_by.ensures ∙ w.if-is_held_by.true in
          let more = rw (w.new.ensures, w.in_ok-copy_of.ensures, w.start.ensures) at (ap (λ v. v.items) w.copies-is ∙ w.in_ok-push.ensures.items) in
          rw more (copy_held c.args.records.now c.args.site c.loop-place.place c.index-records-place.result c.loop-place-test.true c.index-records-place.is _ _ c.loop-place.invariant yes)
      | else-is_held_by w ↦
          let no : has (keys c.index-records-place.result.weights) c.args.site ≡ false = sym c.is_held_by.ensures ∙ w.if-is_held_by.false in
          rw (ap (λ v. v.items) w.copies-is) (copy_missing c.args.records.now c.args.site c.loop-place.place c.index-records-place.result c.loop-place-test.true c.index-records-place.is _ _ c.loop-place.invariant no)
    ]

pub returns : goal.returns
returns c =
    let none = drop_all c.loop-place.place c.args.records.now c.loop-place-test.false in
    sym (append-nil c.loop-place.copies.items) ∙ rw none at c.loop-place.invariant
