-- The copies that a catalogue's sites start with: one for each record that they hold, with the starting value.
use Rattle.std.proofs.Common.{◌≡◌, ap, sym, subst, ℕ, ◌+◌, zero, suc, Bool, true, false, cond, List, [], ◌∷◌, refl, arith, ⊎_elim, map}
use Rattle.std.specs.Prelude.{Some, None, filter, slice_get}
use Rattle.std.specs.List.{enumerate_from}
use Rattle.vp_model.specs.Types.{Stored}
use Rattle.vp_model.specs.Words.{has, keys, opening}
use Rattle.vp_model.specs.Catalogue.{RecordEntry, weights_in, copies_from}
use Rattle.vp_laws.proofs.Lists.Members.{Has, has_none, has_first, has_more, has_cons, has_from_test, has_test}
use Rattle.vp_laws.proofs.Lists.Pairs.{Differ}

pub placed : (n : ℕ) (records : List RecordEntry) (site rec : ℕ) → Has (keys (copies_from n records site)) rec → (i : ℕ) × (rec ≡ n + i) × Has (keys (weights_in (slice_get records i))) site
placed n [] site rec h = absurd (has_none rec h)
placed n (r ∷ records) site rec h = go (has (keys r.weights) site) refl h (λ k. placed (n + 1) records site rec k)
  where
    further : (i : ℕ) → rec ≡ n + 1 + i → rec ≡ n + suc i
    further i e = omega arith

    at_start : rec ≡ n → rec ≡ n + 0
    at_start e = omega arith

    deeper : (i : ℕ) × (rec ≡ n + 1 + i) × Has (keys (weights_in (slice_get records i))) site → (i : ℕ) × (rec ≡ n + i) × Has (keys (weights_in (slice_get (r ∷ records) i))) site
    deeper q = (suc q.0, further q.0 q.1, q.2)

    go : (b : Bool) → has (keys r.weights) site ≡ b → Has (keys {V = Stored} (map (λ (p : ℕ × RecordEntry). (p.0, record { value = Some p.1.start; table = None; date = record { number = 0; site = 0 } })) (cond b ((n, r) ∷ filter (λ (p : ℕ × RecordEntry). has (keys p.1.weights) site) (enumerate_from (n + 1) records)) (filter (λ (p : ℕ × RecordEntry). has (keys p.1.weights) site) (enumerate_from (n + 1) records))))) rec → (Has (keys (copies_from (n + 1) records site)) rec → (i : ℕ) × (rec ≡ n + 1 + i) × Has (keys (weights_in (slice_get records i))) site) → (i : ℕ) × (rec ≡ n + i) × Has (keys (weights_in (slice_get (r ∷ records) i))) site
    go true e k rest = ⊎_elim (λ (one : n ≡ rec). (0, at_start (sym one), has_from_test (keys r.weights) site e)) (λ more. deeper (rest more)) (has_cons n (keys (copies_from (n + 1) records site)) rec k)
    go false e k rest = deeper (rest k)

pub places : (n : ℕ) (records : List RecordEntry) (site i : ℕ) → Has (keys (weights_in (slice_get records i))) site → Has (keys (copies_from n records site)) (n + i)
places n [] site i h = absurd (has_none site h)
places n (r ∷ records) site zero h =
    let t = has_test (keys r.weights) site h in
    let same : n ≡ n + 0 = omega arith in
    rw (← same, t) (has_first n (keys (copies_from (n + 1) records site)))
places n (r ∷ records) site (suc i) h = go (has (keys r.weights) site) (subst (Has (keys (copies_from (n + 1) records site))) next (places (n + 1) records site i h))
  where
    next : n + 1 + i ≡ n + suc i
    next = omega arith

    go : (b : Bool) → Has (keys (copies_from (n + 1) records site)) (n + suc i) → Has (keys {V = Stored} (map (λ (p : ℕ × RecordEntry). (p.0, record { value = Some p.1.start; table = None; date = record { number = 0; site = 0 } })) (cond b ((n, r) ∷ filter (λ (p : ℕ × RecordEntry). has (keys p.1.weights) site) (enumerate_from (n + 1) records)) (filter (λ (p : ℕ × RecordEntry). has (keys p.1.weights) site) (enumerate_from (n + 1) records))))) (n + suc i)
    go true k = has_more n (keys (copies_from (n + 1) records site)) (n + suc i) k
    go false k = k

pub start_differ : (n : ℕ) (records : List RecordEntry) (site : ℕ) → Differ (keys (copies_from n records site))
start_differ n [] site = tt
start_differ n (r ∷ records) site = go (has (keys r.weights) site) (start_differ (n + 1) records site)
  where
    above : (i : ℕ) → n ≡ n + 1 + i → ⊥
    above i e = omega arith

    go : (b : Bool) → Differ (keys (copies_from (n + 1) records site)) → Differ (keys {V = Stored} (map (λ (p : ℕ × RecordEntry). (p.0, record { value = Some p.1.start; table = None; date = record { number = 0; site = 0 } })) (cond b ((n, r) ∷ filter (λ (p : ℕ × RecordEntry). has (keys p.1.weights) site) (enumerate_from (n + 1) records)) (filter (λ (p : ℕ × RecordEntry). has (keys p.1.weights) site) (enumerate_from (n + 1) records)))))
    go true d = ((λ h. let q = placed (n + 1) records site n h in above q.0 q.1), d)
    go false d = d

-- a copy has the starting value of its record
pub placed_value : (n : ℕ) (records : List RecordEntry) (site : ℕ) (a : ℕ × Stored) → Has (copies_from n records site) a → (i : ℕ) × (a.0 ≡ n + i) × (e : RecordEntry) × (slice_get records i ≡ Some e) × (Some e.start ≡ a.1.value)
placed_value n [] site a h = absurd (has_none a h)
placed_value n (r ∷ records) site a h = go (has (keys r.weights) site) h (λ k. placed_value (n + 1) records site a k)
  where
    further : (m i : ℕ) → m ≡ n + 1 + i → m ≡ n + suc i
    further m i e = omega arith

    at_start : (m : ℕ) → n ≡ m → m ≡ n + 0
    at_start m e = omega arith

    deeper : (i : ℕ) × (a.0 ≡ n + 1 + i) × (e : RecordEntry) × (slice_get records i ≡ Some e) × (Some e.start ≡ a.1.value) → (i : ℕ) × (a.0 ≡ n + i) × (e : RecordEntry) × (slice_get (r ∷ records) i ≡ Some e) × (Some e.start ≡ a.1.value)
    deeper q = (suc q.0, further a.0 q.0 q.1, q.2, q.3, q.4)

    go : (b : Bool) → Has (map (λ (p : ℕ × RecordEntry). (p.0, record { value = Some p.1.start; table = None; date = opening })) (cond b ((n, r) ∷ filter (λ (p : ℕ × RecordEntry). has (keys p.1.weights) site) (enumerate_from (n + 1) records)) (filter (λ (p : ℕ × RecordEntry). has (keys p.1.weights) site) (enumerate_from (n + 1) records)))) a → (Has (copies_from (n + 1) records site) a → (i : ℕ) × (a.0 ≡ n + 1 + i) × (e : RecordEntry) × (slice_get records i ≡ Some e) × (Some e.start ≡ a.1.value)) → (i : ℕ) × (a.0 ≡ n + i) × (e : RecordEntry) × (slice_get (r ∷ records) i ≡ Some e) × (Some e.start ≡ a.1.value)
    go true k rest = ⊎_elim
        (λ (one : (n, record { value = Some r.start; table = None; date = opening }) ≡ a). (0, at_start a.0 (ap (λ (a : ℕ × Stored). a.0) one), r, refl, ap (λ (a : ℕ × Stored). a.1.value) one))
        (λ more. deeper (rest more))
        (has_cons (n, record { value = Some r.start; table = None; date = opening }) (copies_from (n + 1) records site) a k)
    go false k rest = deeper (rest k)
