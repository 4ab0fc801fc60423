-- Copies are read exactly, in each version.
use Rattle.std.proofs.Common.{ℕ, suc, ◌+◌, ◌-◌, ◌≤◌, ◌<◌, List, [], ◌∷◌, Option, refl, sym, subst, arith}
use Rattle.vp_text.proofs.Exact.{Exact, Then, Made, made_exact, exact_as, one_value}
use Rattle.vp_base.specs.Identifiers.{IsView}
use Rattle.vp_base.specs.declared.entry.Stored.{Stored}
use Rattle.vp_base.specs.declared.ids.ViewId.{ViewId}
use Rattle.vp_bytes.specs.Fields.{Spelled, number_bytes, view_bytes}
use Rattle.vp_bytes.specs.Reading.{within}
use Rattle.vp_bytes.specs.Ranges.{IsNumberWithin, number_within_at}
use Rattle.vp_bytes.proofs.Ascending.{Item, Ascends, IsList, list_bytes, list_exact, list_free}
use Rattle.vp_bytes.proofs.Free.{IsFree, IsByteOf, byte_free, byte_one, free_then, then_free, made_free, free_as}
use Rattle.vp_bytes.proofs.Identifiers.{within_from, within_to, view_exact}
use Rattle.vp_bytes.proofs.Items.{fits_from, room_exact}
use Rattle.vp_bytes.proofs.NumbersWithin.{number_within_exact, number_within_free}
use Rattle.vp_bytes.proofs.Pairs.{pair_bytes, PairAllowed, then_field, pair_free}
use Rattle.vp_bytes.proofs.Singles.{view_free}
use Rattle.vp_contents.specs.Contents.{content_bytes, IsContent}
use Rattle.vp_contents.specs.Tables.{maybe_table_bytes, IsMaybeTable}
use Rattle.vp_contents.specs.Copies.{copy_bytes, stored_bytes, stored_of, IsCopy, IsStoredBytes, IsCopiesBytes, copy_at, copies_at, stored_at}
use Rattle.vp_contents.specs.declared.version.Version.{Version}
use Rattle.vp_contents.proofs.ContentsExact.{content_exact, content_free}
use Rattle.vp_contents.proofs.TablesExact.{maybe_table_exact, maybe_table_free}

module _ (version : Version) where
  -- ---- a copy without its record

  abbrev Dated : Option (List (ℕ × ℕ)) × ViewId → List ℕ → Type 0
  Dated = Spelled (pair_bytes (maybe_table_bytes version) view_bytes) (PairAllowed (IsMaybeTable version) IsView)

  abbrev Fields : Stored → List ℕ → Type 0
  Fields = Made (Spelled (pair_bytes (content_bytes version) (pair_bytes (maybe_table_bytes version) view_bytes)) (PairAllowed (IsContent version) (PairAllowed (IsMaybeTable version) IsView))) (λ p. stored_of p.0 p.1.0 p.1.1)

  stored_to : (s : Stored) (t : List ℕ) → Fields s t → IsStoredBytes version s t
  stored_to s t h = subst (λ (s : Stored). IsStoredBytes version s t) (sym h.is) (record { is = h.spelled.is; allowed = (h.spelled.allowed.0, h.spelled.allowed.1.0, h.spelled.allowed.1.1) })

  stored_from : (s : Stored) (t : List ℕ) → IsStoredBytes version s t → Fields s t
  stored_from s t h = record { from = (s.value, (s.table, s.date)); spelled = record { is = h.is; allowed = (h.allowed.0, (h.allowed.1, h.allowed.2)) }; is = refl }

  pub stored_exact : Exact (IsStoredBytes version) (stored_at version)
  unfolding stored_at
  stored_exact =
      exact_as stored_to stored_from
      (then_field (λ content p. stored_of content p.0 p.1) (content_free version) (content_exact version) (λ content. then_field (λ table date. stored_of content table date) (maybe_table_free version) (maybe_table_exact version) (λ table. made_exact (λ date. stored_of content table date) view_exact)))

  dated_free : IsFree Dated
  dated_free = pair_free (one_value (maybe_table_exact version)) (maybe_table_free version) view_free

  pub stored_free : IsFree (IsStoredBytes version)
  stored_free = free_as stored_from (made_free (pair_free (one_value (content_exact version)) (content_free version) dated_free))

  -- ---- copies

  record_of : ℕ × Stored → ℕ
  record_of copy = copy.0

  abbrev Before : ℕ × Stored → ℕ × Stored → Type 0
  Before a b = a.0 < b.0

  abbrev Parts : ℕ → ℕ → ℕ × Stored → List ℕ → Type 0
  Parts n least = Then (IsByteOf (within least (255 - n))) (λ rec. Made (IsStoredBytes version) (λ stored. (rec, stored)))

  abbrev CopyItem : ℕ → ℕ → ℕ × Stored → List ℕ → Type 0
  CopyItem = Item record_of 255 (copy_bytes version) (IsCopy version) Before (copy_at version)

  parts_exact : (n least : ℕ) → least + suc n ≤ 256 → Exact (Parts n least) (copy_at version n least)
  unfolding copy_at
  parts_exact n least room = free_then byte_free (room_exact 255 n least (fits_from 255 (suc n) least room)) (λ rec. made_exact (λ stored. (rec, stored)) stored_exact)

  copy_to : (n least : ℕ) → least + suc n ≤ 256 → (c : ℕ × Stored) (t : List ℕ) → Parts n least c t → CopyItem n least c t
  unfolding record_of
  copy_to n least room c t h =
      let range = within_to least (255 - n) h.first h.before.admitted in
      let s = h.after.spelled in
      subst (λ (c : ℕ × Stored). CopyItem n least c t) (sym h.after.is) (record {
        is = rw (h.parts, h.before.is, s.is) refl;
        allowed = (range.0, omega (arith, range.1, room), (omega (arith, range.1), s.allowed));
      })

  copy_from : (n least : ℕ) (c : ℕ × Stored) (t : List ℕ) → CopyItem n least c t → Parts n least c t
  unfolding record_of
  copy_from n least c t h = record {
    first = c.0;
    front = c.0 ∷ [];
    back = stored_bytes version c.1;
    before = record { is = refl; admitted = within_from least (255 - n) c.0 h.allowed.0 (omega (arith, h.allowed.1)) };
    after = record { from = c.1; spelled = record { is = refl; allowed = h.allowed.2.1 }; is = refl };
    parts = h.is;
  }

  any_copy : (c : ℕ × Stored) (t : List ℕ) → Spelled (copy_bytes version) (IsCopy version) c t → CopyItem 0 0 c t
  unfolding record_of
  any_copy c t h = record { is = h.is; allowed = (omega arith, omega (arith, h.allowed.0), h.allowed) }

  copies_ascend : Ascends record_of 255 (copy_bytes version) (IsCopy version) Before (copy_at version)
  unfolding record_of
  copies_ascend = record {
    exact = λ n least room. exact_as (copy_to n least room) (copy_from n least) (parts_exact n least room);
    free = free_as (λ c t h. copy_from 0 0 c t (any_copy c t h)) (then_free {M = λ rec. Made (IsStoredBytes version) (λ stored. (rec, stored))} byte_one byte_free (λ rec. made_free stored_free));
    short = λ c h. omega (arith, h.0);
    before = λ a b h k lt. lt;
    above = λ a b h k lt. lt;
  }

  abbrev Count : ℕ → List ℕ → Type 0
  Count = IsNumberWithin 2 0 256

  count_exact : Exact Count (number_within_at 2 0 256)
  count_exact = number_within_exact 2 0 256 (omega arith) (omega arith) (omega arith)

  count_free : IsFree Count
  count_free = number_within_free 2 0 256 (omega arith)

  abbrev Listed : List (ℕ × Stored) → List ℕ → Type 0
  Listed = Spelled (list_bytes record_of 255 (copy_bytes version) (IsCopy version) Before (copy_at version) (number_bytes 2) (λ n. (0 ≤ n) × (n ≤ 256)) (number_within_at 2 0 256)) (IsList record_of 255 (copy_bytes version) (IsCopy version) Before (copy_at version) (number_bytes 2) (λ n. (0 ≤ n) × (n ≤ 256)) (number_within_at 2 0 256))

  listed_from : (cs : List (ℕ × Stored)) (t : List ℕ) → IsCopiesBytes version cs t → Listed cs t
  listed_from cs t h = record { is = h.is; allowed = ((omega arith, h.allowed.0), h.allowed.1, h.allowed.2) }

  pub copies_exact : Exact (IsCopiesBytes version) (copies_at version)
  unfolding copies_at record_of
  copies_exact =
      exact_as (λ cs t h. record { is = h.is; allowed = (h.allowed.0.1, h.allowed.1, h.allowed.2) }) listed_from
      (list_exact record_of 255 (copy_bytes version) (IsCopy version) Before (copy_at version) (number_bytes 2) (λ n. (0 ≤ n) × (n ≤ 256)) (number_within_at 2 0 256) copies_ascend (λ n h. h.1) count_free count_exact)

  pub copies_free : IsFree (IsCopiesBytes version)
  copies_free = free_as listed_from (list_free record_of 255 (copy_bytes version) (IsCopy version) Before (copy_at version) (number_bytes 2) (λ n. (0 ≤ n) × (n ≤ 256)) (number_within_at 2 0 256) copies_ascend count_free count_exact)
