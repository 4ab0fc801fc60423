use Rattle.std.proofs.Common.{◌≡◌, ◌∙◌, ℕ, List, [], ◌∷◌, length, refl, sym, ap, subst, arith}
use Rattle.std.specs.List.Sorted.{IsStrictlyIncreasing}
use Rattle.vp_model.specs.Types.{Change}
use Rattle.vp_model.specs.Durable.{changed, with_writes}
use Rattle.vp_model.specs.Words.{keys}
use Rattle.vp_records.specs.ReadyWrites.{CanSettle, settled}
use Rattle.vp_records.proofs.Held.{changed_keys}
use Rattle.vp_records.proofs.site_copies.SiteCopies.settle.Goals as goal

none_left : (writes : List (ℕ × Change)) → length writes ≡ 0 → writes ≡ []
none_left [] e = refl
none_left (w ∷ writes) e = absurd (omega (arith, e))

pub loop-rec-init : goal.loop-rec-init
loop-rec-init c = (refl, subst (CanSettle c.args.self.now) c.in-Changes.is c.requires)

pub change-requires : goal.change-requires
change-requires c = c.loop-rec.invariant.1

pub loop-rec-preserved : goal.loop-rec-preserved
loop-rec-preserved c =
    let date = c.args.date.now in
    let copies = c.loop-rec.self in
    let left = c.next.new.self.rest.items in (
      ap (with_writes date left) c.change.ensures ∙ ap (λ (writes : List (ℕ × Change)). with_writes date writes copies) (sym c.in-Some.ensures.steps.0) ∙ c.loop-rec.invariant.0,
      subst IsStrictlyIncreasing (sym (ap keys c.change.ensures ∙ changed_keys c.in-Some.rec (changed date c.in-Some.change) copies)) c.loop-rec.invariant.1,
    )

pub returns-in-None : goal.returns-in-None
returns-in-None c =
    let date = c.args.date.now in
    let left = c.loop-rec.rec-iterator.rest in
    let none = none_left left.items (sym left.ok.0 ∙ c.in-None.ensures.steps.0) in
    sym (ap (λ (writes : List (ℕ × Change)). with_writes date writes c.loop-rec.self) none) ∙ c.loop-rec.invariant.0
    ∙ ap (λ (writes : List (ℕ × Change)). with_writes date writes c.args.self.now) c.into_iter-rec-iterator.ensures.into_iter_gives.0
    ∙ ap (λ ready. settled date ready c.args.self.now) (sym c.in-Changes.is)
