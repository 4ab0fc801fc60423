-- The copies that a site starts with, one record more.
use Rattle.std.proofs.Common.{◌≡◌, ◌∙◌, ℕ, ◌+◌, ◌<◌, true, false, List, [], ◌∷◌, ◌++◌, length, get_or, drop, Some, None, sym, ap, append_assoc}
use Rattle.std.proofs.lemmas.List.{drop_more}
use Rattle.vp_model.specs.Types.{Stored}
use Rattle.vp_model.specs.Words.{has, keys, opening}
use Rattle.vp_model.specs.Catalogue.{RecordEntry, copies_from}

module _ (records : List RecordEntry) (site place : ℕ) (placed : RecordEntry) (inside : place < length records) (here : placed ≡ get_or records place placed) where
  abbrev rest : List (ℕ × Stored)
  rest = copies_from (place + 1) (drop (place + 1) records) site

  abbrev first : ℕ × Stored
  first = (place, record { value = Some placed.start; table = None; date = opening })

  front : drop place records ≡ placed ∷ drop (place + 1) records
  front = drop_more records place placed inside ∙ ap (λ r. r ∷ drop (place + 1) records) (sym here)

  module _ (copies all : List (ℕ × Stored)) (before : copies ++ copies_from place (drop place records) site ≡ all) where
    pub copy_held : has (keys placed.weights) site ≡ true → (copies ++ first ∷ []) ++ rest ≡ all
    copy_held held = append_assoc copies (first ∷ []) rest ∙ rw (front, held) at before

    pub copy_missing : has (keys placed.weights) site ≡ false → copies ++ rest ≡ all
    copy_missing missing = rw (front, missing) at before
