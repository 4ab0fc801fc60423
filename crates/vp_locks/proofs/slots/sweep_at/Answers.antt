use Rattle.std.proofs.Common.{◌∙◌, Some, None, if◌then◌else◌, option_copied, sym, ap}
use Rattle.std.specs.Option.{option_map_or}
use Rattle.vp_locks.specs.Places.{if_kept}
use Rattle.vp_locks.proofs.Held.{holders_less, listed_less}
use Rattle.vp_locks.proofs.InSlots.{revised_same}
use Rattle.vp_locks.proofs.slots.sweep_at.Goals as goal

pub returns-then-keeps-clause-slots : goal.returns-then-keeps-clause-slots
returns-then-keeps-clause-slots g c =
    let f = if_kept (g.K.Keeps.keeps c.args.kept.now) in
    let lock = c.in_ok-lock.lock.now in
    let at = sym c.lock_at.ensures.lock ∙ ap option_copied c.in_ok-lock.was in
    sym (revised_same f c.args.slots.now c.args.place (ap (λ o. option_map_or f o None) at ∙ ap (λ b. if b then Some lock else None) (sym c.keeps.ensures ∙ c.if-keeps.true) ∙ sym at))

pub returns-clause-index : goal.returns-clause-index
returns-clause-index g c =
    let lock = c.in_ok-lock.lock.now in
    let slots = c.args.slots.now in
    let at = sym c.lock_at.ensures.lock ∙ ap option_copied c.in_ok-lock.was in
    let old = c.args.by_rec.now in
    let new = c.forget.new.self in (
      holders_less old.holders.set slots c.requires.index.0 new.holders.set lock c.args.place at c.forget.ensures.holders,
      listed_less old.exclusive.lists new.exclusive.lists slots c.requires.index.1 c.args.place c.forget.ensures.kept,
    )
