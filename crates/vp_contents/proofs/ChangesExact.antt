-- Changes, and lists of records with their changes, are read exactly, in each version.
use Rattle.std.proofs.Common.{◌≡◌, ℕ, zero, suc, ◌≤◌, ◌==◌, cond, Bool, true, false, List, [], ◌∷◌, ◌++◌, Option, Some, None, Ok, refl, sym, ap, subst, ◌∙◌, arith}
use Rattle.std.proofs.lemmas.List.{append-nil}
use Rattle.std.specs.List.{All}
use Rattle.vp_text.specs.Reading.{◌>>=◌}
use Rattle.vp_text.proofs.Exact.{Exact, Then, Made, made_exact, exact_as, one_value}
use Rattle.vp_base.specs.declared.entry.Put.{Put}
use Rattle.vp_base.specs.declared.entry.Put.TheVariants as puts
use Rattle.vp_base.specs.declared.entry.Change.{Change}
use Rattle.vp_bytes.specs.Fields.{Spelled}
use Rattle.vp_bytes.specs.Reading.{byte_at, within}
use Rattle.vp_bytes.proofs.Free.{IsFree, IsByteOf, byte_free, byte_one, free_then, then_free, made_free, free_as}
use Rattle.vp_bytes.proofs.Identifiers.{within_exact, within_to}
use Rattle.vp_bytes.proofs.Pairs.{pair_bytes, PairAllowed, then_field, pair_free}
use Rattle.vp_contents.specs.Values.{value_bytes, IsValueIn, IsValueBytes, value_at}
use Rattle.vp_contents.specs.Tables.{maybe_table_bytes, table_bytes, IsMaybeTable, IsTableBytes, IsMaybeTableBytes, table_at, maybe_table_at}
use Rattle.vp_contents.specs.Changes.{change_bytes, change_of, IsChange, IsChangeBytes, IsAscendingWrites, IsWritesBytes, change_at, marked_change_at, write_at, writes_at}
use Rattle.vp_contents.specs.declared.version.Version.{Version}
use Rattle.vp_contents.specs.declared.version.Version.TheVariants as versions
use Rattle.vp_contents.proofs.ValuesExact.{value_exact, value_free}
use Rattle.vp_contents.proofs.TablesExact.{table_exact, table_free, maybe_table_exact, maybe_table_free}
use Rattle.vp_contents.proofs.Keyed.{Fields, Rises, Items, items_exact, items_free}

-- ---- a change in the first version: a value

abbrev First : Change → List ℕ → Type 0
First = Made (IsValueBytes versions.First) (λ value. change_of (puts.Value value) None)

first_to : (c : Change) (t : List ℕ) → First c t → IsChangeBytes versions.First c t
first_to c t h = subst (λ (c : Change). IsChangeBytes versions.First c t) (sym h.is) (record { is = h.spelled.is ∙ sym (append-nil (value_bytes versions.First h.from)); allowed = (h.spelled.allowed, tt, tt) })

first_parts : (put : Put) (table : Option (List (ℕ × ℕ))) (t : List ℕ) → IsChangeBytes versions.First (change_of put table) t → First (change_of put table) t
first_parts puts.Absent table t h = absurd h.allowed.0
first_parts (puts.Value value) None t h = record { from = value; spelled = record { is = h.is ∙ append-nil (value_bytes versions.First value); allowed = h.allowed.0 }; is = refl }
first_parts (puts.Value value) (Some table) t h = absurd h.allowed.1.0
first_parts puts.Keep table t h = absurd h.allowed.0

-- ---- a change in the second: a put and a table or none

abbrev ValueAndTable : List ℕ × Option (List (ℕ × ℕ)) → List ℕ → Type 0
ValueAndTable = Spelled (pair_bytes (value_bytes versions.Second) (maybe_table_bytes versions.Second)) (PairAllowed (IsValueIn versions.Second) (IsMaybeTable versions.Second))

-- what follows the mark of a put, by whether that is 0, and whether it is 1
abbrev Following : Bool → Bool → Change → List ℕ → Type 0
Following true one = Made (IsMaybeTableBytes versions.Second) (λ table. change_of puts.Absent table)
Following false true = Made ValueAndTable (λ p. change_of (puts.Value p.0) p.1)
Following false false = Then (IsByteOf (within 1 1)) (λ _. Made IsTableBytes (λ table. change_of puts.Keep (Some table)))

following_exact : (absent one : Bool) → Exact (Following absent one) (λ bytes.
    cond absent (maybe_table_at versions.Second bytes >>= λ table. Ok (change_of puts.Absent table.0, table.1))
    (cond one (value_at versions.Second bytes >>= λ value. maybe_table_at versions.Second value.1 >>= λ table. Ok (change_of (puts.Value value.0) table.0, table.1))
    (byte_at (within 1 1) bytes >>= λ one. table_at one.1 >>= λ table. Ok (change_of puts.Keep (Some table.0), table.1))))
following_exact true one = made_exact (λ table. change_of puts.Absent table) (maybe_table_exact versions.Second)
following_exact false true =
    then_field (λ value table. change_of (puts.Value value) table) (value_free versions.Second) (value_exact versions.Second) (λ value. made_exact (λ table. change_of (puts.Value value) table) (maybe_table_exact versions.Second))
following_exact false false = free_then byte_free (within_exact 1 1 (omega arith)) (λ _. made_exact (λ table. change_of puts.Keep (Some table)) table_exact)

following_free : (absent one : Bool) → IsFree (Following absent one)
following_free true one = made_free (maybe_table_free versions.Second)
following_free false true = made_free (pair_free (one_value (value_exact versions.Second)) (value_free versions.Second) (maybe_table_free versions.Second))
following_free false false = then_free {M = λ _. Made IsTableBytes (λ table. change_of puts.Keep (Some table))} byte_one byte_free (λ _. made_free table_free)

abbrev Second : Change → List ℕ → Type 0
Second = Then (IsByteOf (within 0 2)) (λ mark. Following (mark == 0) (mark == 1))

second_after : (mark : ℕ) → mark ≤ 2 → (c : Change) (t back : List ℕ) → t ≡ mark ∷ back → Following (mark == 0) (mark == 1) c back → IsChangeBytes versions.Second c t
second_after zero le c t back e h = subst (λ (c : Change). IsChangeBytes versions.Second c t) (sym h.is) (record { is = e ∙ ap (λ (b : List ℕ). 0 ∷ b) h.spelled.is; allowed = (tt, h.spelled.allowed, tt) })
second_after (suc zero) le c t back e h =
    subst (λ (c : Change). IsChangeBytes versions.Second c t) (sym h.is) (record { is = e ∙ ap (λ (b : List ℕ). 1 ∷ b) h.spelled.is; allowed = (h.spelled.allowed.0, h.spelled.allowed.1, tt) })
second_after (suc (suc zero)) le c t back e h =
    let range = within_to 1 1 h.first h.before.admitted in
    let one : h.first ≡ 1 = omega (arith, range.0, range.1) in
    let back_is : back ≡ 1 ∷ table_bytes h.after.from = rw (h.parts, h.before.is, one, h.after.spelled.is) refl in
    subst (λ (c : Change). IsChangeBytes versions.Second c t) (sym h.after.is) (record { is = e ∙ ap (λ (b : List ℕ). 2 ∷ b) back_is; allowed = (tt, (tt, h.after.spelled.allowed), tt) })
second_after (suc (suc (suc k))) le c t back e h = absurd (omega (arith, le))

second_to : (c : Change) (t : List ℕ) → Second c t → IsChangeBytes versions.Second c t
second_to c t h = second_after h.first (within_to 0 2 h.first h.before.admitted).1 c t h.back (h.parts ∙ ap (λ (f : List ℕ). f ++ h.back) h.before.is) h.after

second_parts : (put : Put) (table : Option (List (ℕ × ℕ))) (t : List ℕ) → IsChangeBytes versions.Second (change_of put table) t → Second (change_of put table) t
second_parts puts.Absent table t h = record {
  first = 0;
  front = 0 ∷ [];
  back = maybe_table_bytes versions.Second table;
  before = record { is = refl; admitted = refl };
  after = record { from = table; spelled = record { is = refl; allowed = h.allowed.1 }; is = refl };
  parts = h.is;
}
second_parts (puts.Value value) table t h = record {
  first = 1;
  front = 1 ∷ [];
  back = value_bytes versions.Second value ++ maybe_table_bytes versions.Second table;
  before = record { is = refl; admitted = refl };
  after = record { from = (value, table); spelled = record { is = refl; allowed = (h.allowed.0, h.allowed.1) }; is = refl };
  parts = h.is;
}
second_parts puts.Keep None t h = absurd h.allowed.2
second_parts puts.Keep (Some table) t h = record {
  first = 2;
  front = 2 ∷ [];
  back = 1 ∷ table_bytes table;
  before = record { is = refl; admitted = refl };
  after = record {
    first = 1;
    front = 1 ∷ [];
    back = table_bytes table;
    before = record { is = refl; admitted = refl };
    after = record { from = table; spelled = record { is = refl; allowed = h.allowed.1.1 }; is = refl };
    parts = refl;
  };
  parts = h.is;
}

first_from : (c : Change) (t : List ℕ) → IsChangeBytes versions.First c t → First c t
first_from c t h = first_parts c.put c.table t h

second_from : (c : Change) (t : List ℕ) → IsChangeBytes versions.Second c t → Second c t
second_from c t h = second_parts c.put c.table t h

pub change_exact : (version : Version) → Exact (IsChangeBytes version) (change_at version)
unfolding change_at marked_change_at
change_exact versions.First = exact_as first_to first_from (made_exact (λ value. change_of (puts.Value value) None) (value_exact versions.First))
change_exact versions.Second = exact_as second_to second_from (free_then byte_free (within_exact 0 2 (omega arith)) (λ mark. following_exact (mark == 0) (mark == 1)))

pub change_free : (version : Version) → IsFree (IsChangeBytes version)
change_free versions.First = free_as first_from (made_free (value_free versions.First))
change_free versions.Second = free_as second_from (then_free {M = λ mark. Following (mark == 0) (mark == 1)} byte_one byte_free (λ mark. following_free (mark == 0) (mark == 1)))

-- ---- lists of records with their changes

module _ (version : Version) where
  changes : Fields 255 (change_bytes version) (IsChange version) (change_at version)
  changes = record { exact = change_exact version; free = change_free version }

  abbrev Rising : ℕ → List (ℕ × Change) → Type 0
  Rising = Rises 255 (change_bytes version) (IsChange version) (change_at version)

  ascending_rises : (least : ℕ) (ws : List (ℕ × Change)) → IsAscendingWrites version least ws → Rising least ws
  ascending_rises least [] h = tt
  ascending_rises least (w ∷ ws) h = (h.0, omega (arith, h.1), h.2, ascending_rises (suc w.0) ws h.3)

  rises_ascending : (least : ℕ) (ws : List (ℕ × Change)) → Rising least ws → IsAscendingWrites version least ws
  rises_ascending least [] h = tt
  rises_ascending least (w ∷ ws) h = (h.0, omega (arith, h.1), h.2, rises_ascending (suc w.0) ws h.3)

  abbrev Writes : List (ℕ × Change) → List ℕ → Type 0
  Writes = Items 255 (change_bytes version) (IsChange version) (change_at version) 0 64 0

  writes_to : (ws : List (ℕ × Change)) (t : List ℕ) → Writes ws t → IsWritesBytes version ws t
  writes_to ws t h = record { is = h.is; allowed = (h.allowed.short, rises_ascending 0 ws h.allowed.rises) }

  writes_from : (ws : List (ℕ × Change)) (t : List ℕ) → IsWritesBytes version ws t → Writes ws t
  writes_from ws t h = record { is = h.is; allowed = record { some = omega arith; short = h.allowed.0; rises = ascending_rises 0 ws h.allowed.1 } }

  pub writes_exact : Exact (IsWritesBytes version) (writes_at version)
  unfolding writes_at write_at
  writes_exact = exact_as writes_to writes_from (items_exact 255 (change_bytes version) (IsChange version) (change_at version) changes 0 64 0 (omega arith) (omega arith))

  pub writes_free : IsFree (IsWritesBytes version)
  writes_free = free_as writes_from (items_free 255 (change_bytes version) (IsChange version) (change_at version) changes 0 64 0)

-- each of them is one that the version can say
pub each_write : (version : Version) (least : ℕ) (ws : List (ℕ × Change)) → IsAscendingWrites version least ws → All (λ w. IsChange version w.1) ws
each_write version least [] h i d lt = absurd (omega arith)
each_write version least (w ∷ ws) h zero d lt = h.2
each_write version least (w ∷ ws) h (suc i) d lt = each_write version (suc w.0) ws h.3 i d (omega arith)
