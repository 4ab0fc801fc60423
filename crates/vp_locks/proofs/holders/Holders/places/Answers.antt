use Rattle.std.proofs.Common.{◌∙◌, ◌++◌, ◌∷◌, [], map, append-nil, ap, ap₂, sym}
use Rattle.std.proofs.lemmas.List.{append_assoc}
use Rattle.std.proofs.lemmas.Map.Iter.{rest_more}
use Rattle.std.specs.BTreeSet.{keys_between}
use Rattle.std.specs.Map.Iter.{deref}
use Rattle.std.specs.declared.ops.Bound.TheVariants.{Included}
use Rattle.vp_locks.specs.Keys.{Holder, holder_cmp}
use Rattle.vp_locks.proofs.holders.Holders.places.Goals as goal

pub loop-holder-init : goal.loop-holder-init
loop-holder-init c =
    let place = λ (holder : Holder). holder.2 in
    ap₂ (λ ps hs. ps ++ map place hs) c.new-places.ensures.items (c.into_iter-holder-iterator.ensures.into_iter_gives ∙ c.range-holder-items.ensures.between c.new.ensures.exhausted)
    ∙ ap₂ (λ low high. map place (keys_between holder_cmp (Included low) (Included high) c.args.self.now.set)) c.new.ensures.start c.new.ensures.end

pub loop-holder-preserved : goal.loop-holder-preserved
loop-holder-preserved c =
    let done = c.loop-holder.places.items in
    let left = c.next.new.self in
    let holder = c.in-Some.holder.now in
    let place = λ (holder : Holder). holder.2 in
    ap (λ ps. ps ++ map place left) c.in_ok-push.ensures.items ∙ append_assoc done (place holder ∷ []) (map place left)
    ∙ ap (λ hs. done ++ map place hs) (sym (rest_more deref c.loop-holder.holder-iterator left c.next.result c.in-Some.holder c.in-Some.is c.next.ensures.steps)) ∙ c.loop-holder.invariant

pub returns : goal.returns
returns c =
    let done = c.loop-holder.places.items in
    sym (append-nil done) ∙ ap (λ hs. done ++ map (λ (holder : Holder). holder.2) hs) (sym c.in-None.ensures.steps.0) ∙ c.loop-holder.invariant
