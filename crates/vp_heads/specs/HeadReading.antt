-- Reading the lines of a head from left to right.
use Rattle.std.specs.Prelude.{ℕ, List, length, cond, nat_lt, Result, Ok}
use Rattle.vp_text.specs.Reading.{◌>>=◌, literal_at, either}
use Rattle.vp_model.specs.Catalogue.{Catalogue}
use Rattle.vp_catalog.specs.EntryReading.{entry_at}
use Rattle.vp_heads.specs.declared.line.HeadLine.{HeadLine}
use Rattle.vp_heads.specs.declared.line.HeadLine.TheVariants as kind

unfoldable pub entry_line_at : Catalogue → List ℕ → Result (HeadLine × List ℕ) ℕ
entry_line_at catalogue bytes = do
  entry ← entry_at catalogue bytes
  Ok (kind.Entry entry.0, entry.1)

unfoldable pub key_line_at : List ℕ → List ℕ → Result (HeadLine × List ℕ) ℕ
key_line_at key bytes = do
  it ← literal_at key bytes
  Ok (kind.Key, it.1)

-- a line of the catalogue or, where there is a site already, the key line
unfoldable pub head_at : List ℕ → Catalogue → List ℕ → Result (HeadLine × List ℕ) ℕ
head_at key catalogue bytes = cond (nat_lt 0 (length catalogue.sites)) (either (entry_line_at catalogue bytes) (key_line_at key bytes)) (entry_line_at catalogue bytes)
