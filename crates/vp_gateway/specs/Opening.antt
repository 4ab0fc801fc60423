-- Reading the head of a session: a catalogue and the line `session`.
use Rattle.std.specs.Prelude.{◌≡◌, ◌⊎◌, ⊤, ℕ, ◌+◌, ◌-◌, ◌≤◌, ◌<◌, Bool, true, List, [], ◌∷◌, ◌++◌, length, take, codes, Some, None, Result, Ok, Err}
use Rattle.vp_text.specs.Meaning.{IsLongest}
use Rattle.vp_text.specs.Documents.{IsLine, first_line, IsBadLine, IsFaultyLine}
use Rattle.vp_model.specs.Words.{value_at}
use Rattle.vp_model.specs.Catalogue.{Catalogue}
use Rattle.vp_model.specs.Texts.Schedule.{catalogue_text}
use Rattle.vp_catalog.specs.Document.{IsCatalogue}
use Rattle.vp_catalog.specs.declared.fault.CatalogFault.{CatalogFault}
use Rattle.vp_catalog.specs.declared.fault.CatalogFault.TheVariants as faults
use Rattle.vp_outside.specs.Causes.{Rose}
use Rattle.vp_outside.specs.Input.{SourceState, IsEnded, Took}
use Rattle.vp_lines.specs.Ahead.{Ahead}
use Rattle.vp_lines.specs.declared.unread.LineFound.{LineFound}
use Rattle.vp_lines.specs.declared.unread.LineFound.TheVariants as found
use Rattle.vp_heads.specs.declared.line.HeadLine.{HeadLine}
use Rattle.vp_heads.specs.declared.head.Head.{Head}
use Rattle.vp_heads.specs.Heads.{LineText, blank, after, Onward, Repeats, Overfills}
use Rattle.vp_gateway.specs.declared.end.GateEnd.{GateEnd}
use Rattle.vp_gateway.specs.declared.end.GateEnd.TheVariants as ends

-- the most bytes that an input may have
abbrev pub most : ℕ
most = 16777216

abbrev pub key : List ℕ
key = codes "session\n"

-- A catalogue with the site, which has this port, and the line `session`.
pub record IsHead (site port : ℕ) (head : List ℕ) : Type 0 where
  pub catalogue : Catalogue
  pub catalogue_is : IsCatalogue catalogue
  pub text : head ≡ catalogue_text catalogue ++ key
  pub there : value_at site catalogue.sites ≡ Some port

-- ---- a head that is refused

-- A catalogue without the site, and the line `session`.
pub record LacksSite (site : ℕ) (bytes : List ℕ) : Type 0 where
  pub catalogue : Catalogue
  pub catalogue_is : IsCatalogue catalogue
  pub body : List ℕ
  pub parts : bytes ≡ (catalogue_text catalogue ++ key) ++ body
  pub lacks : value_at site catalogue.sites ≡ None

-- This line is not allowed there, and its newline has come, or the input has ended.
pub record IsBad (source : SourceState) (bytes : List ℕ) (line at : ℕ) : Type 0 where
  pub bad : IsBadLine blank after (LineText key) Onward bytes line at
  pub whole : IsLine (first_line bad.rest) ⊎ IsEnded source

-- the fault of these bytes
abbrev pub Refuses : ℕ → SourceState → List ℕ → GateEnd → Type 0
Refuses site source bytes (ends.BadLine line at) = IsBad source bytes line at
Refuses site source bytes (ends.Twice line) = IsFaultyLine blank after (LineText key) Onward Repeats bytes line
Refuses site source bytes (ends.TooMany line limit) = (limit ≡ 256) × IsFaultyLine blank after (LineText key) Onward Overfills bytes line
Refuses site source bytes ends.NoSite = LacksSite site bytes
Refuses site source bytes _ = ⊥

-- No head with the site begins these bytes.
abbrev pub LacksHead : ℕ → List ℕ → Type 0
LacksHead site bytes = (port : ℕ) (head body : List ℕ) → IsHead site port head → bytes ≡ head ++ body → ⊥

-- ---- the bytes that are taken for it

-- These bytes were taken.
pub record HasTaken (source source' : SourceState) : Type 0 where
  pub bytes : List ℕ
  pub took : Took bytes source source'

-- The source failed before a head with the site was whole.
abbrev pub HasFailed : ℕ → SourceState → SourceState → Type 0
HasFailed site source source' = Rose source.faults source'.faults × ((h : HasTaken source source') × LacksHead site (take most h.bytes))

-- More was taken than an input may have, and no head with the site begins its first 16,777,216 bytes.
abbrev pub HasTakenTooMany : ℕ → SourceState → SourceState → Type 0
HasTakenTooMany site source source' = (h : HasTaken source source') × (most < length h.bytes) × LacksHead site (take most h.bytes)

-- A head was taken, and what was taken after it, as far as the input may go, is unread.
pub record HasOpened (site port : ℕ) (new : Ahead) (source source' : SourceState) : Type 0 where
  pub bytes : List ℕ
  pub took : Took bytes source source'
  pub head : List ℕ
  pub is : IsHead site port head
  pub parts : take most bytes ≡ head ++ new.unread
  pub left : new.credit ≡ 16777217 - length bytes
  pub same_faults : source'.faults ≡ source.faults

-- A head was refused, by the bytes that were taken, as far as the input may go.
pub record HasRefused (site : ℕ) (new : Ahead) (source source' : SourceState) (end : GateEnd) : Type 0 where
  pub bytes : List ℕ
  pub took : Took bytes source source'
  pub left : new.credit ≡ 16777217 - length bytes
  pub refused : Refuses site source' (take most bytes) end

abbrev pub FindsPort : ℕ → Ahead → SourceState → SourceState → Result ℕ GateEnd → Type 0
FindsPort site new source source' (Ok port) = HasOpened site port new source source'
FindsPort site new source source' (Err ends.Done) = ⊥
FindsPort site new source source' (Err ends.ReadFault) = HasFailed site source source'
FindsPort site new source source' (Err ends.WriteFault) = ⊥
FindsPort site new source source' (Err ends.LinkFault) = ⊥
FindsPort site new source source' (Err ends.Limit) = HasTakenTooMany site source source'
FindsPort site new source source' (Err ends.NoMemory) = HasTaken source source'
FindsPort site new source source' (Err end) = HasRefused site new source source' end

-- A head that is refused is no longer than an input may be.
pub record IsRefused (site : ℕ) (source source' : SourceState) (end : GateEnd) : Type 0 where
  pub bytes : List ℕ
  pub took : Took bytes source source'
  pub few : length bytes ≤ most
  pub refused : Refuses site source' bytes end

abbrev pub Opens : ℕ → Ahead → SourceState → SourceState → Result ℕ GateEnd → Type 0
Opens site new source source' (Ok port) = HasOpened site port new source source'
Opens site new source source' (Err ends.Done) = ⊥
Opens site new source source' (Err ends.ReadFault) = HasFailed site source source'
Opens site new source source' (Err ends.WriteFault) = ⊥
Opens site new source source' (Err ends.LinkFault) = ⊥
Opens site new source source' (Err ends.Limit) = HasTakenTooMany site source source'
Opens site new source source' (Err ends.NoMemory) = HasTaken source source'
Opens site new source source' (Err end) = IsRefused site source source' end

-- ---- its steps

abbrev pub end_by_limit : Bool → GateEnd → GateEnd
end_by_limit true (ends.BadLine line at) = ends.Limit
end_by_limit true (ends.Twice line) = ends.Limit
end_by_limit true (ends.TooMany line limit) = ends.Limit
end_by_limit true ends.NoSite = ends.Limit
end_by_limit spent end = end

-- a line that was found, with its newline if that has come
abbrev pub text_of : LineFound → List ℕ → List ℕ
text_of found.Line line = line ++ 10 ∷ []
text_of found.Rest line = line
text_of found.End line = line

-- The text is no allowed line, and goes wrong at this byte.
pub record IsNoLine (d : Head) (text : List ℕ) (at : ℕ) : Type 0 where
  pub none : (e : HeadLine) (t r : List ℕ) → LineText key d e t → text ≡ t ++ r → ⊥
  pub longest : (k : ℕ) × (k + 1 ≡ at) × IsLongest (LineText key d) text k

-- The text is an allowed line of which the fact holds.
abbrev pub IsLineOf : (Head → HeadLine → Type 0) → Head → List ℕ → Type 0
IsLineOf Fact d text = (e : HeadLine) × LineText key d e text × Fact d e

-- What the text says was added, or why it was not.
abbrev pub TakesLine : Head → List ℕ → ℕ → Head → Result ⊤ CatalogFault → Type 0
TakesLine old text number new (Ok u) = (e : HeadLine) × LineText key old e text × (new ≡ after old e) × Onward old e
TakesLine old text number new (Err (faults.BadLine line at)) = (line ≡ number) × IsNoLine old text at
TakesLine old text number new (Err (faults.Twice line)) = (line ≡ number) × IsLineOf Repeats old text
TakesLine old text number new (Err (faults.TooMany line limit)) = (line ≡ number) × (limit ≡ 256) × IsLineOf Overfills old text
TakesLine old text number new (Err faults.NoMemory) = ⊤
