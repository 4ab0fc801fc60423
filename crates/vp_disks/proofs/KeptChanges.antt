-- Changes whose bytes are side by side.
use Rattle.std.proofs.Common.{◌≡◌, ◌≤◌, ◌∙◌, ap, arith, refl, ℕ, List, [], ◌∷◌, ◌++◌, length, drop}
use Rattle.std.specs.Prelude.{All}
use Rattle.std.proofs.Math.Seq.{drop-append_seam}
use Rattle.std.proofs.lemmas.List.{take-append-le, take_all, map-append}
use Rattle.std.proofs.lemmas.List.Elements.{All-head, All-tail}
use Rattle.vp_disks.specs.declared.change_list.Entry.{Entry}
use Rattle.vp_disks.specs.declared.change_list.Entry.TheVariants as entry
use Rattle.vp_disks.specs.declared.change_list.Span.{Span}
use Rattle.vp_disks.specs.declared.changes.Change.{Change}
use Rattle.vp_disks.specs.declared.changes.Change.TheVariants.{Attached, Wrote, Laid}
use Rattle.vp_disks.specs.Entries.{piece_in, change_in, changes_in, EndsBy}

piece_in-more : (bytes more : List ℕ) (span : Span) → span.end ≤ length bytes → piece_in (bytes ++ more) span ≡ piece_in bytes span
piece_in-more bytes more span within = ap (drop span.start) (take-append-le span.end bytes more within)

change_in-more : (bytes more : List ℕ) (e : Entry) → EndsBy (length bytes) e → change_in (bytes ++ more) e ≡ change_in bytes e
change_in-more bytes more (entry.Attached name) within = ap (λ (piece : List ℕ). Attached piece) (piece_in-more bytes more name within)
change_in-more bytes more (entry.Wrote half at piece) within = ap (λ (piece : List ℕ). Wrote half at piece) (piece_in-more bytes more piece within)
change_in-more bytes more (entry.Cut half n) within = refl
change_in-more bytes more entry.Synced within = refl
change_in-more bytes more (entry.Laid first second) within = rw (piece_in-more bytes more first within.0, piece_in-more bytes more second within.1) refl

-- bytes after the last entry change nothing
pub changes_in-more : (bytes more : List ℕ) (entries : List Entry) → All (EndsBy (length bytes)) entries → changes_in (bytes ++ more) entries ≡ changes_in bytes entries
changes_in-more bytes more [] within = refl
changes_in-more bytes more (e ∷ entries) within =
    let here = All-head (EndsBy (length bytes)) e entries within in
    let later = All-tail (EndsBy (length bytes)) e entries within in
    rw (change_in-more bytes more e here, changes_in-more bytes more entries later) refl

-- the piece that was appended
pub piece_in-appended : (bytes piece : List ℕ) → piece_in (bytes ++ piece) (record { start = length bytes; end = length (bytes ++ piece) }) ≡ piece
piece_in-appended bytes piece = rw (take_all (length (bytes ++ piece)) (bytes ++ piece) (omega arith)) (drop-append_seam bytes piece)

pub changes_in-push : (bytes more : List ℕ) (entries : List Entry) (e : Entry) → All (EndsBy (length bytes)) entries
    → changes_in (bytes ++ more) (entries ++ e ∷ []) ≡ changes_in bytes entries ++ change_in (bytes ++ more) e ∷ []
changes_in-push bytes more entries e within =
    map-append (change_in (bytes ++ more)) entries (e ∷ []) ∙ ap (λ (changes : List Change). changes ++ change_in (bytes ++ more) e ∷ []) (changes_in-more bytes more entries within)

pub change_in-laid : (bytes first second : List ℕ)
    → change_in ((bytes ++ first) ++ second) (entry.Laid (record { start = length bytes; end = length (bytes ++ first) }) (record { start = length (bytes ++ first); end = length ((bytes ++ first) ++ second) })) ≡ Laid first second
change_in-laid bytes first second =
    let span : Span = record { start = length bytes; end = length (bytes ++ first) } in
    rw (piece_in-more (bytes ++ first) second span (omega arith), piece_in-appended bytes first, piece_in-appended (bytes ++ first) second) refl
