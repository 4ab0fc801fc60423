-- Keys for owners and for locks, in order.
use Rattle.std.specs.Prelude.{ℕ, Bool, ◌&&◌, ◌==◌}
use Rattle.std.specs.Ordering.{nat_cmp, ordering_then}
use Rattle.std.specs.declared.cmp.Ordering.{Ordering}
use Rattle.vp_base.specs.declared.entry.Owner.{Owner}
use Rattle.vp_base.specs.declared.entry.Owner.TheVariants.{Txn, Refresh}

-- a key for each owner, of plain numbers
abbrev pub OwnerKey : Type 0
OwnerKey = ℕ × ℕ × ℕ × ℕ

abbrev pub owner_key : Owner → OwnerKey
owner_key (Txn t) = (0, t.site, t.life, t.seq)
owner_key Refresh = (1, 0, 0, 0)

abbrev pub key_eq : OwnerKey → OwnerKey → Bool
key_eq a b = (a.0 == b.0) && (a.1 == b.1) && (a.2 == b.2) && (a.3 == b.3)

abbrev pub key_cmp : OwnerKey → OwnerKey → Ordering
key_cmp a b = ordering_then (ordering_then (ordering_then (nat_cmp a.0 b.0) (nat_cmp a.1 b.1)) (nat_cmp a.2 b.2)) (nat_cmp a.3 b.3)

-- a lock by its record, its owner and its place
abbrev pub Holder : Type 0
Holder = ℕ × OwnerKey × ℕ

abbrev pub holder_cmp : Holder → Holder → Ordering
holder_cmp a b = ordering_then (ordering_then (nat_cmp a.0 b.0) (key_cmp a.1 b.1)) (nat_cmp a.2 b.2)
