-- What the rows of the coordinator read, and what they leave.
use Rattle.std.specs.Prelude.{ℕ, [], Option}
use Rattle.vp_model.specs.Types.{ViewId, View, Effects}
use Rattle.vp_model.specs.Site.{Surroundings}

abbrev pub no_effects : Effects
no_effects = record { records = []; commits = []; messages = []; replies = [] }

abbrev pub around : ℕ → ℕ → ViewId → Option View → Surroundings
around id life promise held = record { id = id; life = life; promise = promise; held = held }
