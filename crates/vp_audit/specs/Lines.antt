-- The lines of a report.
use Rattle.std.specs.Prelude.{ℕ, List, [], ◌∷◌, ◌++◌, flat_map, codes, Option, Some, None}
use Rattle.std.specs.Fmt.{decimal}
use Rattle.vp_model.specs.Types.{Stored}
use Rattle.vp_model.specs.Catalogue.{Catalogue, name_of}
use Rattle.vp_model.specs.Texts.Fields.{sites_text, txn_text, view_text}
use Rattle.vp_audit.specs.declared.found.Can.{Can}
use Rattle.vp_audit.specs.declared.found.Can.TheVariants as can
use Rattle.vp_audit.specs.declared.found.DoubtAt.{DoubtAt}
use Rattle.vp_audit.specs.declared.found.Found.{Found}

-- a line: the word, the record's name, and what comes after it
abbrev pub line : List ℕ → List ℕ → List ℕ → List ℕ
line word name rest = word ++ (name ++ (rest ++ 10 ∷ []))

-- the beginning of a line on a copy: its record, and its value if it has one
abbrev pub content_text : List ℕ → Option (List ℕ) → List ℕ
content_text name None = codes "absent " ++ name
content_text name (Some value) = codes "newest " ++ (name ++ 32 ∷ value)

abbrev pub newest_line : List ℕ → Option Stored → List ℕ → List ℕ
newest_line name None sites = line (codes "unsettled ") name []
newest_line name (Some copy) sites =
    content_text name copy.value ++ (32 ∷ (view_text copy.date ++ (codes " at " ++ (sites_text sites ++ 10 ∷ []))))

abbrev pub doubt_line : List ℕ → DoubtAt → List ℕ
doubt_line name row = line (codes "doubt ") name (32 ∷ (txn_text row.txn ++ 32 ∷ (view_text row.view ++ (codes " at " ++ decimal row.site))))

abbrev pub can_text : Can → List ℕ
can_text (can.No inside total) = codes " no " ++ (decimal inside ++ (codes " of " ++ decimal total))
can_text (can.Wait txn) = codes " wait " ++ txn_text txn
can_text can.Yes = codes " yes"

abbrev pub found_text : Catalogue → Found → List ℕ
found_text catalogue f =
    let name = name_of catalogue f.rec in
    newest_line name f.newest f.sites ++ (flat_map (doubt_line name) f.doubts ++ line (codes "can ") name (can_text f.can))

abbrev pub report_text : Catalogue → List Found → List ℕ
report_text catalogue report = flat_map (found_text catalogue) report
