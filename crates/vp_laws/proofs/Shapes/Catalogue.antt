-- What holds of a catalogue that has a text: sites from 1 to 16, records below 256, weights that fit.
use Rattle.std.proofs.Common.{◌≡◌, ◌≤◌, ◌<◌, ap, ℕ, suc, zero, ◌+◌, ◌*◌, ◌^◌, Bool, true, List, [], ◌∷◌, map, refl, arith, length}
use Rattle.std.specs.Prelude.{Option, Some, None, filter, not, ◌==◌, sum_by, slice_get}
use Rattle.std.specs.List.{AllByRecursion, position_from, enumerate_from}
use Rattle.std.specs.Str.{bytes_eq}
use Rattle.std.proofs.lemmas.List.Sums.{sum_by-cons}
use Rattle.std.proofs.lemmas.Bool.Decides.{nat_tests}
use Rattle.vp_bytes.specs.Fields.{IsSite, IsRecord, IsAscending}
use Rattle.vp_base.specs.Tables.{AreShares, IsTable}
use Rattle.vp_model.specs.Types.{Stored, View}
use Rattle.vp_model.specs.Words.{has, keys, opening}
use Rattle.vp_model.specs.Catalogue.{Catalogue, RecordEntry, sites_of, find_record, weights_in, weights_of, holders, weight_total, weight_inside, inside, total, copies_from, start_copies}
use Rattle.vp_model.specs.Refresh.{other_holders_in}
use Rattle.vp_model.specs.Views.{other_sites}
use Rattle.vp_catalog.specs.Document.{IsCatalogue, AreSites}
use Rattle.vp_catalog.specs.Entries.{AreWeights, IsRecord as IsEntry}
use Rattle.vp_laws.proofs.Lists.Members.{Has, has_from_test}
use Rattle.vp_laws.proofs.Lists.Items.{all_at, all_filter}
use Rattle.vp_laws.proofs.Shapes.Numbers.{ascending_filter, ascending_all, each_site, ascending_from, ascending_length}
use Rattle.vp_laws.proofs.Lists.Keeps.{by_test}

-- ---- sites

sites_ascend : (above : ℕ) (sites : List (ℕ × ℕ)) → AreSites above sites → IsAscending (suc above) 16 (keys sites)
sites_ascend above [] h = tt
sites_ascend above (s ∷ ss) h = (omega (arith, h.0.higher), h.0.fits, sites_ascend s.0 ss h.1)

module _ (c : Catalogue) (k : IsCatalogue c) where
  pub listed_is : (site : ℕ) → has (sites_of c) site ≡ true → IsSite site
  listed_is site e = all_at IsSite (sites_of c) (each_site (sites_of c) (sites_ascend 0 c.sites k.so_far.sites_are)) site (has_from_test (sites_of c) site e)

  pub other_sites_are : (id : ℕ) → AllByRecursion IsSite (other_sites c id)
  other_sites_are id = all_filter IsSite (λ q. not (q == id)) (sites_of c) (each_site (sites_of c) (sites_ascend 0 c.sites k.so_far.sites_are))

  -- ---- holders and weights

  weights_ascend : (above : ℕ) (ws : List (ℕ × ℕ)) → AreWeights (sites_of c) above ws → IsAscending (suc above) 16 (keys ws)
  weights_ascend above [] h = tt
  weights_ascend above (w ∷ ws) h = (omega (arith, h.0.higher), (listed_is w.0 h.0.stands).1, weights_ascend w.0 ws h.1)

  pub weights_at : (rec : ℕ) → AreWeights (sites_of c) 0 (weights_of c rec)
  weights_at rec = go c.records rec k.so_far.records_are
    where
      go : (records : List RecordEntry) (rec : ℕ) → AllByRecursion (IsEntry (sites_of c)) records → AreWeights (sites_of c) 0 (weights_in (slice_get records rec))
      go [] rec h = tt
      go (r ∷ records) zero h = h.0.weights_are
      go (r ∷ records) (suc rec) h = go records rec h.1

  pub holders_ascend : (rec : ℕ) → IsAscending 1 16 (holders c rec)
  holders_ascend rec = weights_ascend 0 (weights_of c rec) (weights_at rec)

  pub others_ascend : (id : ℕ) (held : Option View) (rec : ℕ) → IsAscending 1 16 (other_holders_in c id held rec)
  others_ascend id held rec = ascending_filter 1 16 _ (holders c rec) (holders_ascend rec)

  sum_fits : (above : ℕ) (ws : List (ℕ × ℕ)) → AreWeights (sites_of c) above ws → sum_by (λ (w : ℕ × ℕ). w.1) ws ≤ length ws * 65535
  sum_fits above [] h = omega arith
  sum_fits above (w ∷ ws) h = let rest = sum_fits w.0 ws h.1 in let one = sum_by-cons (λ (w : ℕ × ℕ). w.1) w ws in omega (arith, rest, one, h.0.fits)

  inside_less : (members : List ℕ) (ws : List (ℕ × ℕ)) → weight_inside members ws ≤ sum_by (λ (w : ℕ × ℕ). w.1) ws
  inside_less members [] = omega arith
  inside_less members (w ∷ ws) =
      let rest = inside_less members ws in
      let all = sum_by-cons (λ (w : ℕ × ℕ). w.1) w ws in
      let one = sum_by-cons (λ (w : ℕ × ℕ). w.1) w (filter (λ (w : ℕ × ℕ). has members w.0) ws) in
      by_test (λ (zs : List (ℕ × ℕ)). sum_by (λ (w : ℕ × ℕ). w.1) zs ≤ sum_by (λ (w : ℕ × ℕ). w.1) (w ∷ ws)) (has members w.0) (w ∷ filter (λ (w : ℕ × ℕ). has members w.0) ws) (filter (λ (w : ℕ × ℕ). has members w.0) ws) (λ e. omega (arith, rest, all, one)) (λ e. omega (arith, rest, all))

  keys_length : {V : Type 0} (pairs : List (ℕ × V)) → length (keys pairs) ≡ length pairs
  keys_length [] = refl
  keys_length (p ∷ pairs) = ap suc (keys_length pairs)

  pub total_fits : (rec : ℕ) → total c rec < 2 ^ 32
  total_fits rec =
      let sum = sum_fits 0 (weights_of c rec) (weights_at rec) in
      let many = ascending_length 1 16 (holders c rec) (omega arith) (holders_ascend rec) in
      let same = keys_length (weights_of c rec) in
      omega (arith, sum, many, same)

  pub inside_fits : (rec : ℕ) (members : List ℕ) → inside c rec members < 2 ^ 32
  inside_fits rec members = let less = inside_less members (weights_of c rec) in let all = total_fits rec in omega (arith, less, all)

  table_sum : (above : ℕ) (ws : List (ℕ × ℕ)) → AreShares above ws → sum_by (λ (w : ℕ × ℕ). w.1) ws ≤ length ws * 65535
  table_sum above [] h = omega arith
  table_sum above (w ∷ ws) h = let rest = table_sum w.0 ws h.1 in let one = sum_by-cons (λ (w : ℕ × ℕ). w.1) w ws in let most = h.0.fits in omega (arith, rest, one, most)

  pub table_fits : (table : List (ℕ × ℕ)) → IsTable table → weight_total table < 2 ^ 32
  table_fits table h = let sum = table_sum 0 table h.shares_are in let few = h.few in omega (arith, sum, few)

  pub part_fits : (table : List (ℕ × ℕ)) (members : List ℕ) → IsTable table → weight_inside members table < 2 ^ 32
  part_fits table members h = let less = inside_less members table in let all = table_fits table h in omega (arith, less, all)

  -- ---- records

  position_within : (test : RecordEntry → Bool) (place i : ℕ) (records : List RecordEntry) → position_from test place records ≡ Some i → i < place + length records
  position_within test place i [] e = cc
  position_within test place i (r ∷ records) e = let rest = position_within test (place + 1) i records in grind (arith, nat_tests, rest, e)

  pub found_is : (name : List ℕ) (rec : ℕ) → find_record c name ≡ Some rec → IsRecord rec
  found_is name rec e = let q = position_within (λ entry. bytes_eq entry.name name) 0 rec c.records e in omega (arith, q, k.so_far.few)

  abbrev test : ℕ → ℕ × RecordEntry → Bool
  test site placed = has (keys placed.1.weights) site

  abbrev copy_of : ℕ × RecordEntry → ℕ × Stored
  copy_of placed = (placed.0, record { value = Some placed.1.start; table = None; date = opening })

  copies_ascend : (site place most : ℕ) (records : List RecordEntry) → place + length records ≤ suc most → IsAscending place most (keys (copies_from place records site))
  copies_ascend site place most [] few = tt
  copies_ascend site place most (r ∷ records) few =
      let rest = copies_ascend site (place + 1) most records (omega (arith, few)) in
      let next : IsAscending (suc place) most (keys (copies_from (place + 1) records site)) = ascending_from (suc place) (place + 1) most _ (omega arith) rest in
      by_test (λ (zs : List (ℕ × RecordEntry)). IsAscending place most (keys (map copy_of zs))) (has (keys r.weights) site) ((place, r) ∷ filter (test site) (enumerate_from (place + 1) records)) (filter (test site) (enumerate_from (place + 1) records)) (λ e. (omega arith, omega (arith, few), next)) (λ e. ascending_from place (suc place) most _ (omega arith) next)

  pub start_ascends : (site : ℕ) → IsAscending 0 255 (keys (start_copies c site))
  start_ascends site = copies_ascend site 0 255 c.records (omega (arith, k.so_far.few))

  pub held_is : (site : ℕ) (copies : List (ℕ × Stored)) → keys copies ≡ keys (start_copies c site) → (rec : ℕ) → Has (keys copies) rec → IsRecord rec
  held_is site copies e rec h = let q = all_at (λ n. (0 ≤ n) × (n ≤ 255)) (keys (start_copies c site)) (ascending_all 0 0 255 (keys (start_copies c site)) (omega arith) (start_ascends site)) rec (rw e at h) in omega (arith, q.1)
