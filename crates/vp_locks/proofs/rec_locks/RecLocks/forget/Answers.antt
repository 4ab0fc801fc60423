use Rattle.std.proofs.Common.{◌≡◌, ◌∙◌, ◌==◌, ℕ, Bool, List, true, false, filter, not, if◌then◌else◌, nat_eq, ap}
use Rattle.std.specs.List.{list_any}
use Rattle.vp_locks.specs.Index.{places_of}
use Rattle.vp_locks.proofs.Lists.{any_others}
use Rattle.vp_locks.proofs.rec_locks.RecLocks.forget.Goals as goal

pub returns-then-lock-clause-kept : goal.returns-then-lock-clause-kept
returns-then-lock-clause-kept c rec other apart was =
    let has = list_any (λ k. k == other) in
    let ks = places_of nat_eq c.args.self.now.exclusive.lists rec in
    let still : has ks ≡ true = was in
    ap has (c.forget-then-lock.ensures rec) ∙ by ks still (nat_eq c.get.result rec)
  where
    by : (ks : List ℕ) → list_any (λ k. k == other) ks ≡ true → (b : Bool) → list_any (λ k. k == other) (if b then filter (λ k. not (k == c.args.place)) ks else ks) ≡ true
    by ks h true = any_others c.args.place other apart ks ∙ h
    by ks h false = h
