-- The bytes of a value, in each of their two forms, and how many are in place.
use Rattle.std.specs.Prelude.{ℕ, List, ◌≤◌, take}
use Rattle.vp_base.specs.declared.value.Bytes.{Bytes}
use Rattle.vp_base.specs.declared.value.Bytes.TheVariants as forms

abbrev pub bytes_of : Bytes → List ℕ
bytes_of (forms.Short bytes len) = take len bytes
bytes_of (forms.Long bytes) = bytes.value.items

abbrev pub IsKept : Bytes → Type 0
IsKept (forms.Short bytes len) = len ≤ 22
IsKept (forms.Long bytes) = Unit {0}
