-- In the view of all sites of a catalogue each record with a holder is accessible.
use Rattle.std.proofs.Common.{◌≡◌, ◌≤◌, ◌<◌, ℕ, zero, suc, ◌+◌, ◌*◌, true, List, [], ◌∷◌, refl, ap, sym, ◌∙◌, arith, Option, Some, None}
use Rattle.std.specs.Prelude.{nat_lt, sum_by, slice_get, length, filter}
use Rattle.std.proofs.lemmas.Bool.{lt-ltb}
use Rattle.std.proofs.lemmas.List.Sums.{sum_by-cons}
use Rattle.vp_model.specs.Words.{has}
use Rattle.vp_model.specs.Catalogue.{Catalogue, RecordEntry, sites_of, weight_inside, holders, accessible}
use Rattle.vp_catalog.specs.Entries.{AreWeights, IsRecord}
use Rattle.vp_catalog.specs.Document.{IsCatalogueSoFar}
use Rattle.vp_laws.proofs.Lists.Members.{Has, has_none, has_first, has_more}
use Rattle.vp_laws.proofs.Lists.Items.{all_at}

abbrev total_of : List (ℕ × ℕ) → ℕ
total_of ws = sum_by (λ (w : ℕ × ℕ). w.1) ws

total-cons : (w : ℕ × ℕ) (ws : List (ℕ × ℕ)) → total_of (w ∷ ws) ≡ w.1 + total_of ws
total-cons w ws = sum_by-cons (λ (w : ℕ × ℕ). w.1) w ws

all_inside : (sites : List ℕ) (above : ℕ) (ws : List (ℕ × ℕ)) → AreWeights sites above ws → weight_inside sites ws ≡ total_of ws
all_inside sites above [] h = refl
all_inside sites above (w ∷ ws) h =
    let z = h.0.stands in
    let first : weight_inside sites (w ∷ ws) ≡ total_of (w ∷ filter (λ (w : ℕ × ℕ). has sites w.0) ws) = rw z refl in
    first ∙ total-cons w (filter (λ (w : ℕ × ℕ). has sites w.0) ws) ∙ ap (λ (n : ℕ). w.1 + n) (all_inside sites w.0 ws h.1) ∙ sym (total-cons w ws)

some_weight : (sites : List ℕ) (above : ℕ) (ws : List (ℕ × ℕ)) → AreWeights sites above ws → 0 < length ws → 1 ≤ total_of ws
some_weight sites above [] h some = omega (arith, some)
some_weight sites above (w ∷ ws) h some = let z = h.0.some in let c = total-cons w ws in omega (arith, z, c)

majority : (sites : List ℕ) (ws : List (ℕ × ℕ)) → weight_inside sites ws ≡ total_of ws → 1 ≤ total_of ws → nat_lt (total_of ws) (2 * weight_inside sites ws) ≡ true
majority sites ws same some = rw same (lt-ltb (total_of ws) (2 * total_of ws) (omega (arith, some)))

found : (records : List RecordEntry) (n : ℕ) (entry : RecordEntry) → slice_get records n ≡ Some entry → Has records entry
found [] zero entry e = cc
found [] (suc n) entry e = cc
found (r ∷ records) zero entry e = let z : r ≡ entry = cc in rw (← z) (has_first r records)
found (r ∷ records) (suc n) entry e = has_more r records entry (found records n entry e)

pub catalogue_whole : (c : Catalogue) → IsCatalogueSoFar c → (rec q : ℕ) → Has (holders c rec) q → accessible c rec (sites_of c) ≡ true
catalogue_whole c h rec q held = go (slice_get c.records rec) refl held
  where
    go : (o : Option RecordEntry) → slice_get c.records rec ≡ o → Has (holders c rec) q → accessible c rec (sites_of c) ≡ true
    go None e k = absurd (has_none q (rw e at k))
    go (Some entry) e k = rw e (let r = record_of entry e in majority (sites_of c) entry.weights (all_inside (sites_of c) 0 entry.weights r.weights_are) (some_weight (sites_of c) 0 entry.weights r.weights_are r.held))
      where
        record_of : (entry : RecordEntry) → slice_get c.records rec ≡ Some entry → IsRecord (sites_of c) entry
        record_of entry e = all_at (IsRecord (sites_of c)) c.records h.records_are entry (found c.records rec entry e)
