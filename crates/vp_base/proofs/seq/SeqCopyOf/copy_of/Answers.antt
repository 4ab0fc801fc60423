use Rattle.std.proofs.Common.{◌≡◌, ◌+◌, [], ◌∷◌, ◌++◌, take, sym, ap, ◌∙◌}
use Rattle.std.proofs.lemmas.List.{take_more}
use Rattle.vp_base.proofs.seq.SeqCopyOf.copy_of.Goals as goal

pub loop-item-preserved : goal.loop-item-preserved
loop-item-preserved g c =
    let xs = c.deref-item-items.result.now in
    let same : xs ≡ c.args.self.now = c.deref-item-items.ensures.value ∙ c.self.view_is in
    let i = c.loop-item.item-index in
    let x = c.item-item.result in
    let more : take (i + 1) xs ≡ take i xs ++ x ∷ [] = take_more xs i x c.loop-item-test.true ∙ ap (λ (y : _). take i xs ++ y ∷ []) (sym c.item-item.is) in
    let put = c.in_ok-push.ensures.ok ∙ ap (λ (t : _). t ++ c.in_ok-copy_of.field-0 ∷ []) c.loop-item.invariant ∙ ap (λ (y : _). take i c.args.self.now ++ y ∷ []) c.in_ok-copy_of.ensures in
    put ∙ ap (λ (t : _). take i t ++ x ∷ []) (sym same) ∙ sym more ∙ ap (λ (t : _). take (i + 1) t) same
