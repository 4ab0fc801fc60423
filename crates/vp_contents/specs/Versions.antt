-- The two versions in which frames and log records are spelled.
use Rattle.std.specs.Prelude.{ℕ, ◌==◌, if◌then◌else◌}
use Rattle.vp_contents.specs.declared.version.Version.{Version}
use Rattle.vp_contents.specs.declared.version.Version.TheVariants as versions

-- what the first version can't say
abbrev pub IsSecond : Version → Type 0
IsSecond versions.First = ⊥
IsSecond versions.Second = Unit {0}

-- the version with this number, which is 1 or 2
abbrev pub version_of : ℕ → Version
version_of number = if number == 1 then versions.First else versions.Second
