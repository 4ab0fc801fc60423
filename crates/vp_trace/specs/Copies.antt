-- An answer to a refresh in two parts.
use Rattle.std.specs.Prelude.{ℕ, List, ◌∷◌, ◌++◌, codes, Option, Some, None}
use Rattle.vp_model.specs.Types.{ViewId}
use Rattle.vp_model.specs.Catalogue.{Catalogue, name_of}
use Rattle.vp_model.specs.Texts.Fields.{view_text}

-- the beginning of it, up to the content
abbrev pub begun_copy : Catalogue → ViewId → ℕ → Option (List ℕ) → List ℕ
begun_copy catalogue view rec (Some value) = (codes "refresh-answer " ++ (view_text view ++ 32 ∷ name_of catalogue rec)) ++ 32 ∷ value
begun_copy catalogue view rec None = codes "refresh-absent " ++ (view_text view ++ 32 ∷ name_of catalogue rec)
