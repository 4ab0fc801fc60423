-- Printers where there is nothing to print, and the two parts of an answer to a refresh.
use Rattle.std.proofs.Common.{◌≡◌, ℕ, List, [], ◌∷◌, ◌++◌, Option, Some, None, refl, sym, ap, subst, append_assoc, ◌∙◌}
use Rattle.std.specs.Prelude.{⊤, Result, Ok, codes}
use Rattle.std.proofs.lemmas.List.{append-nil}
use Rattle.vp_text.specs.Printing.{Appends}
use Rattle.vp_text.proofs.Printing.{begun_none}
use Rattle.vp_model.specs.Types.{ViewId, Stored}
use Rattle.vp_model.specs.Catalogue.{Catalogue, name_of}
use Rattle.vp_model.specs.Texts.Fields.{view_text}
use Rattle.vp_model.specs.Texts.Messages.{own_table_text, copy_text}
use Rattle.vp_trace.specs.Copies.{begun_copy}

pub no_text : {E : Type 0} (old text : List ℕ) → text ≡ [] → Appends {E = E} (Ok tt) old text old
no_text old text none = record { whole = sym (ap (λ (x : List ℕ). old ++ x) none ∙ append-nil old); begun = begun_none old text old refl }

module _ (catalogue : Catalogue) (view : ViewId) (rec : ℕ) (c : Stored) where
  abbrev asked : List ℕ
  asked = view_text view ++ 32 ∷ name_of catalogue rec

  abbrev dated : List ℕ
  dated = 32 ∷ (view_text c.date ++ own_table_text c.table)

  parts : (content : Option (List ℕ)) → copy_text asked content c ≡ begun_copy catalogue view rec content ++ dated
  parts None = refl
  parts (Some value) = ap (λ (t : List ℕ). codes "refresh-answer " ++ t) (sym (append_assoc asked (32 ∷ value) dated))

  pub of_parts : {E : Type 0} (result : Result ⊤ E) (old new : List ℕ) → Appends result old (begun_copy catalogue view rec c.value ++ dated) new → Appends result old (copy_text asked c.value c) new
  of_parts result old new h = subst (λ (t : List ℕ). Appends result old t new) (sym (parts c.value)) h
