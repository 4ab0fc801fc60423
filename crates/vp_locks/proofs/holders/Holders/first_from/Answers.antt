use Rattle.std.proofs.Common.{◌≡◌, sym, subst, IfSome, IfNone, List, [], ◌∷◌, Option, Some, None, Bor}
use Rattle.std.specs.BTreeSet.{BTreeSet, IsKeyRangeOf}
use Rattle.std.specs.Option.{MatchOption, option_copied}
use Rattle.std.specs.declared.ops.Bound.{Bound}
use Rattle.std.specs.declared.ops.Bound.TheVariants.{Unbounded}
use Rattle.vp_locks.specs.Keys.{Holder, holder_cmp}
use Rattle.vp_locks.specs.Holders.{HasNoneFrom, IsFirstFrom}
use Rattle.vp_locks.proofs.holders.Holders.first_from.Goals as goal

module _ (start : Bound Holder) (set : BTreeSet Holder) where
  first : (found : List Holder) (next : Option (Bor Holder)) (rest : List Holder) → IsKeyRangeOf holder_cmp start Unbounded set found
      → MatchOption next ((found ≡ []) × (rest ≡ [])) (λ holder. found ≡ holder.now ∷ rest)
      → IfSome (option_copied next) (IsFirstFrom start set)
  first found None rest range steps = tt
  first found (Some holder) rest range steps =
      let within : IsKeyRangeOf holder_cmp start Unbounded set (holder.now ∷ rest) = subst (IsKeyRangeOf holder_cmp start Unbounded set) steps range in
      (within.1.0.0, within.1.1, λ q from here. within.2 q (from, tt) here)

  none : (found : List Holder) (next : Option (Bor Holder)) (rest : List Holder) → IsKeyRangeOf holder_cmp start Unbounded set found
      → MatchOption next ((found ≡ []) × (rest ≡ [])) (λ holder. found ≡ holder.now ∷ rest)
      → IfNone (option_copied next) (HasNoneFrom start set)
  none found None rest range steps = λ q from. range.5 steps.0 q (from, tt)
  none found (Some holder) rest range steps = tt

pub returns-clause-first : goal.returns-clause-first
returns-clause-first c =
    subst (λ found. IfSome found (IsFirstFrom c.args.start c.args.self.now.set)) (sym c.copied.ensures)
    (first c.args.start c.args.self.now.set c.range.result c.next.result c.next.new.self (c.range.ensures.in_range tt) c.next.ensures.steps)

pub returns-clause-none : goal.returns-clause-none
returns-clause-none c =
    subst (λ found. IfNone found (HasNoneFrom c.args.start c.args.self.now.set)) (sym c.copied.ensures)
    (none c.args.start c.args.self.now.set c.range.result c.next.result c.next.new.self (c.range.ensures.in_range tt) c.next.ensures.steps)
