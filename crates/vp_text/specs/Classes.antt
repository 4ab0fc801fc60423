-- Which bytes names and values have.
use Rattle.std.specs.Prelude.{ℕ, Bool, ◌&&◌, ◌||◌, nat_le, ◌==◌}
use Rattle.vp_text.specs.declared.class.Class.{Class}
use Rattle.vp_text.specs.declared.class.Class.TheVariants.{Name, Value}

-- A name has a to z, 0 to 9 and _; a value has each printable byte but the space.
abbrev pub has : Class → ℕ → Bool
has Name c = (nat_le 97 c && nat_le c 122) || (nat_le 48 c && nat_le c 57) || c == 95
has Value c = nat_le 33 c && nat_le c 126

abbrev pub most : Class → ℕ
most Name = 16
most Value = 1024
