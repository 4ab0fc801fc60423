use Rattle.std.proofs.Common.{◌≡◌, ◌==◌, ℕ, take, true, nat_eq}
use Rattle.std.specs.List.{list_any}
use Rattle.vp_model.specs.Types.{Lock}
use Rattle.vp_locks.specs.Index.{KeepsAll, on_rec, places_of}
use Rattle.vp_locks.specs.Places.{lock_at, passes}
use Rattle.vp_locks.proofs.rec_locks.RecLocks.note_exclusive.Given as goal

abbrev pub invariant-loop-place : goal.invariant-loop-place
invariant-loop-place l =
    (l.self.holders ≡ l.fn.self.holders) × KeepsAll l.fn.self.exclusive.lists l.self.exclusive.lists
    × ((place : ℕ) → list_any (λ k. k == place) (take l.place-index l.places) ≡ true → passes (λ (lock : Lock). on_rec lock l.rec) (lock_at l.slots place) ≡ true → list_any (λ k. k == place) (places_of nat_eq l.self.exclusive.lists l.rec) ≡ true)
