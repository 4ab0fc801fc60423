-- The texts of single fields. Numbers are decimal.
use Rattle.std.specs.Prelude.{ℕ, List, [], ◌∷◌, ◌++◌, flat_map, codes, Option, Some, None}
use Rattle.std.specs.Fmt.{decimal}
use Rattle.vp_model.specs.Types.{ViewId, TxnId, Owner}
pub use Rattle.vp_base.specs.Identifiers.{view_text, txn_text}
use Rattle.vp_model.specs.Types.owner

abbrev pub held_text : Option ViewId → List ℕ
held_text None = codes "none"
held_text (Some view) = view_text view

abbrev pub owner_text : Owner → List ℕ
owner_text (owner.Txn txn) = txn_text txn
owner_text owner.Refresh = codes "refresh"

-- a space, a transaction and a number
abbrev pub call_name_text : TxnId → ℕ → List ℕ
call_name_text txn number = txn_text txn ++ 32 ∷ decimal number

-- a table: each holder and the weight of its copy
abbrev pub weight_text : ℕ × ℕ → List ℕ
weight_text weight = 32 ∷ (decimal weight.0 ++ 58 ∷ decimal weight.1)

abbrev pub table_text : List (ℕ × ℕ) → List ℕ
table_text table = flat_map weight_text table

-- the sites with commas between them
abbrev pub later_site_text : ℕ → List ℕ
later_site_text site = 44 ∷ decimal site

abbrev pub sites_text : List ℕ → List ℕ
sites_text [] = []
sites_text (site ∷ sites) = decimal site ++ flat_map later_site_text sites
