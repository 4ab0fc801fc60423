use Rattle.std.proofs.Common.{Some, [], ap, if◌then◌else◌, rules, subst, sym, ◌++◌, ◌∙◌, ◌∷◌, ◌≡◌}
use Rattle.vp_model.specs.Types.{Lock}
use Rattle.vp_locks.specs.Index.{places_of, owned_by, IsRecIndex, IsOwnerIndex}
use Rattle.vp_locks.specs.Keys.{OwnerKey, key_eq}
use Rattle.vp_locks.specs.Places.{present_locks}
use Rattle.vp_locks.proofs.InSlots.{present_more}
use Rattle.vp_locks.proofs.Indexes.{index_more}
use Rattle.vp_locks.proofs.Held.{holders_more, holders_same, holders_undone, listed_more, listed_still, listed_undone}
use Rattle.vp_locks.proofs.Locks.append.Goals as goal

pub invariant_of-self-in_err-note : goal.invariant_of-self-in_err-note
invariant_of-self-in_err-note c =
    let slots = c.self.inside.slots.items in
    let old = c.self.inside.by_rec in
    let new = c.note.new.self in
    subst (λ xs. IsRecIndex new xs × IsOwnerIndex c.self.inside.by_owner.lists xs) (sym c.in_ok-reserve.ensures.items) (
      (
        holders_same old.holders.set slots c.self.invariant.0.0 new.holders.set c.in_err-note.ensures.err,
        listed_still old.exclusive.lists new.exclusive.lists slots c.self.invariant.0.1 c.note.ensures.kept,
      ),
      c.self.invariant.1,
    )

pub invariant_of-self-in-Err : goal.invariant_of-self-in-Err
invariant_of-self-in-Err c =
    let slots = c.self.inside.slots.items in
    let old = c.self.inside.by_rec in
    let mid = c.note.new.self in
    let new = c.forget.new.self in
    let n = c.len-place.result in
    let lock : Lock = record { rec = c.args.rec; exclusive = c.args.exclusive; owner = c.args.owner.now } in
    subst (λ xs. IsRecIndex new xs × IsOwnerIndex c.note-2.new.self.lists xs) (sym c.in_ok-reserve.ensures.items) (
      (
        holders_undone old.holders.set slots c.self.invariant.0.0 mid.holders.set new.holders.set lock n (search rules) c.in_ok-note.ensures.noted c.forget.ensures.holders,
        listed_undone old.exclusive.lists new.exclusive.lists slots c.self.invariant.0.1 mid.exclusive.lists n (search rules) c.note.ensures.kept c.forget.ensures.kept,
      ),
      λ q. c.in-Err.ensures.err q ∙ c.self.invariant.1 q,
    )

pub invariant_of-self-2 : goal.invariant_of-self-2
invariant_of-self-2 c =
    let slots = c.self.inside.slots.items in
    let old = c.self.inside.by_rec in
    let new = c.note.new.self in
    let owners = c.self.inside.by_owner.lists in
    let n = c.len-place.result in
    let lock : Lock = record { rec = c.args.rec; exclusive = c.args.exclusive; owner = c.args.owner.now } in
    let owned : (q : OwnerKey) → places_of key_eq c.note-2.new.self.lists q ≡ (if owned_by lock q then places_of key_eq owners q ++ n ∷ [] else places_of key_eq owners q) = λ q. c.in_default.ensures.noted q ∙ ap (λ k. if key_eq k q then places_of key_eq owners q ++ n ∷ [] else places_of key_eq owners q) c.owner_key.ensures in
    subst (λ xs. IsRecIndex new xs × IsOwnerIndex c.note-2.new.self.lists xs) (sym (c.in_ok-push.ensures.items ∙ ap (λ xs. xs ++ Some lock ∷ []) c.in_ok-reserve.ensures.items)) (
      (
        holders_more old.holders.set slots c.self.invariant.0.0 new.holders.set lock n (search rules) c.in_ok-note.ensures.noted,
        listed_more old.exclusive.lists new.exclusive.lists slots c.self.invariant.0.1 c.note.ensures.kept lock n (search rules) c.in_ok-note.ensures.exclusive,
      ),
      index_more key_eq owned_by owners slots c.self.invariant.1 c.note-2.new.self.lists lock n (search rules) owned,
    )

pub returns : goal.returns
returns c =
    let slots = c.self.inside.slots.items in
    let lock : Lock = record { rec = c.args.rec; exclusive = c.args.exclusive; owner = c.args.owner.now } in
    ap present_locks (c.in_ok-push.ensures.items ∙ ap (λ xs. xs ++ Some lock ∷ []) c.in_ok-reserve.ensures.items) ∙ present_more slots (Some lock) ∙ ap (λ ls. ls ++ lock ∷ []) c.self.view_is
