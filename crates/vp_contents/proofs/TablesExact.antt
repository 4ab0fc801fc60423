-- Tables of weights are read exactly, and so are those that may be left out, in each version.
use Rattle.std.proofs.Common.{◌≡◌, ℕ, suc, ◌≤◌, List, [], ◌∷◌, length, Option, Some, None, Result, Ok, refl, sym, ap, subst, arith}
use Rattle.vp_text.proofs.Exact.{Exact, exact_as}
use Rattle.vp_bytes.specs.Fields.{Spelled, number_bytes}
use Rattle.vp_bytes.specs.Ranges.{number_within_at}
use Rattle.vp_bytes.proofs.Codes.{Nothing, nothing_exact}
use Rattle.vp_bytes.proofs.Free.{IsFree, even_free, free_as}
use Rattle.vp_bytes.proofs.NumbersWithin.{number_within_exact, number_within_free}
use Rattle.vp_base.specs.Tables.{AreShares, IsTable}
use Rattle.vp_contents.specs.Tables.{table_bytes, IsTableBytes, IsMaybeTableBytes, weight_at, table_at, maybe_table_at}
use Rattle.vp_contents.specs.declared.version.Version.{Version}
use Rattle.vp_contents.specs.declared.version.Version.TheVariants as versions
use Rattle.vp_contents.proofs.Keyed.{Fields, Rises, Items, items_exact, items_free}
use Rattle.vp_contents.proofs.Maybe.{maybe_bytes, IsMaybe, maybe_exact, maybe_free}

-- ---- a table

abbrev IsWeight : ℕ → Type 0
IsWeight n = (1 ≤ n) × (n ≤ 65535)

abbrev weight_read : List ℕ → Result (ℕ × List ℕ) ℕ
weight_read = number_within_at 2 1 65535

weights : Fields 16 (number_bytes 2) IsWeight weight_read
weights = record { exact = number_within_exact 2 1 65535 (omega arith) (omega arith) (omega arith); free = number_within_free 2 1 65535 (omega arith) }

shares_rise : (above : ℕ) (t : List (ℕ × ℕ)) → AreShares above t → Rises 16 (number_bytes 2) IsWeight weight_read (suc above) t
shares_rise above [] h = tt
shares_rise above (share ∷ t) h = let s = h.0 in (omega (arith, s.higher), s.site_fits, (s.some, s.fits), shares_rise share.0 t h.1)

rising_shares : (above : ℕ) (t : List (ℕ × ℕ)) → Rises 16 (number_bytes 2) IsWeight weight_read (suc above) t → AreShares above t
rising_shares above [] h = tt
rising_shares above (share ∷ t) h = let higher = h.0 in (record { higher = omega (arith, higher); site_fits = h.1; some = h.2.0; fits = h.2.1 }, rising_shares share.0 t h.3)

abbrev Weights : List (ℕ × ℕ) → List ℕ → Type 0
Weights = Items 16 (number_bytes 2) IsWeight weight_read 1 16 1

table_to : (t : List (ℕ × ℕ)) (text : List ℕ) → Weights t text → IsTableBytes t text
table_to t text h = record { is = h.is; allowed = record { held = h.allowed.some; few = h.allowed.short; shares_are = rising_shares 0 t h.allowed.rises } }

table_from : (t : List (ℕ × ℕ)) (text : List ℕ) → IsTableBytes t text → Weights t text
table_from t text h = record { is = h.is; allowed = record { some = h.allowed.held; short = h.allowed.few; rises = shares_rise 0 t h.allowed.shares_are } }

pub table_exact : Exact IsTableBytes table_at
unfolding table_at weight_at
table_exact = exact_as table_to table_from (items_exact 16 (number_bytes 2) IsWeight weight_read weights 1 16 1 (omega arith) (omega arith))

-- what is read is a table
pub table_read : (bytes : List ℕ) (t : List (ℕ × ℕ)) (rest : List ℕ) → table_at bytes ≡ Ok (t, rest) → IsTable t
table_read bytes t rest e = (table_exact.ok bytes t rest e).spelled.allowed

pub table_free : IsFree IsTableBytes
table_free = free_as table_from (items_free 16 (number_bytes 2) IsWeight weight_read weights 1 16 1)

-- ---- a table or none

abbrev First : Option (List (ℕ × ℕ)) → List ℕ → Type 0
First = Nothing None

first_to : (o : Option (List (ℕ × ℕ))) (t : List ℕ) → First o t → IsMaybeTableBytes versions.First o t
first_to o t h = subst (λ (o : Option (List (ℕ × ℕ))). IsMaybeTableBytes versions.First o t) (sym h.1) (record { is = h.0; allowed = tt })

first_from : (o : Option (List (ℕ × ℕ))) (t : List ℕ) → IsMaybeTableBytes versions.First o t → First o t
first_from None t h = (h.is, refl)
first_from (Some table) t h = absurd h.allowed.0

abbrev Second : Option (List (ℕ × ℕ)) → List ℕ → Type 0
Second = Spelled (maybe_bytes table_bytes IsTable table_at) (IsMaybe table_bytes IsTable table_at)

second_to : (o : Option (List (ℕ × ℕ))) (t : List ℕ) → Second o t → IsMaybeTableBytes versions.Second o t
second_to None t h = record { is = h.is; allowed = tt }
second_to (Some table) t h = record { is = h.is; allowed = (tt, h.allowed) }

second_from : (o : Option (List (ℕ × ℕ))) (t : List ℕ) → IsMaybeTableBytes versions.Second o t → Second o t
second_from None t h = record { is = h.is; allowed = tt }
second_from (Some table) t h = record { is = h.is; allowed = h.allowed.1 }

pub maybe_table_exact : (version : Version) → Exact (IsMaybeTableBytes version) (maybe_table_at version)
unfolding maybe_table_at
maybe_table_exact versions.First = exact_as first_to first_from (nothing_exact None)
maybe_table_exact versions.Second = exact_as second_to second_from (maybe_exact table_bytes IsTable table_at table_exact)

pub maybe_table_free : (version : Version) → IsFree (IsMaybeTableBytes version)
maybe_table_free versions.First = free_as first_from (even_free {L = First} 0 (λ o t h. ap length h.0))
maybe_table_free versions.Second = free_as second_from (maybe_free table_bytes IsTable table_at table_free)
