-- Bytes that are taken from a source before the line that they belong to is found.
use Rattle.std.specs.Prelude.{◌≡◌, ⊤, ℕ, ◌-◌, ◌≤◌, ◌<◌, Bool, true, false, List, [], ◌∷◌, ◌++◌, length, take, Result, Ok, Err}
use Rattle.vp_text.specs.Documents.{HasNoNewline}
use Rattle.vp_outside.specs.Causes.{Rose}
use Rattle.vp_outside.specs.Input.{SourceState, IsEnded, Took}
use Rattle.vp_outside.specs.declared.source.InputFault.{InputFault}
use Rattle.vp_outside.specs.declared.source.InputFault.TheVariants as faults
use Rattle.vp_lines.specs.declared.unread.LineFound.{LineFound}
use Rattle.vp_lines.specs.declared.unread.LineFound.TheVariants as found

-- Bytes that were taken and not passed yet, and how many more may be taken.
pub record Ahead : Type 0 where
  pub unread : List ℕ
  pub credit : ℕ

-- before anything is taken: 16,777,216 bytes may be
abbrev pub ahead_at_start : Ahead
ahead_at_start = record { unread = []; credit = 16777217 }

-- of the bytes that are taken now, those within the limit
abbrev pub fitting : ℕ → List ℕ → List ℕ
fitting credit bytes = take (credit - 1) bytes

-- what is found at the end of input, after the last newline
abbrev pub rest_found : List ℕ → LineFound
rest_found [] = found.End
rest_found (c ∷ cs) = found.Rest

-- ---- the next line

module _ (most : ℕ) (old new : Ahead) (line : List ℕ) (source source' : SourceState) where
  -- These bytes were taken, and what was unread and these begin with the next line.
  pub record HasLine : Type 0 where
    pub more : List ℕ
    pub took : Took more source source'
    pub body : List ℕ
    pub plain : HasNoNewline body
    pub parts : old.unread ++ fitting old.credit more ≡ body ++ 10 ∷ new.unread
    pub kept : line ≡ take most body
    pub left : new.credit ≡ old.credit - length more
    pub same_faults : source'.faults ≡ source.faults

  -- These bytes were taken, and no whole line is there.
  pub record HasNoLine : Type 0 where
    pub more : List ℕ
    pub took : Took more source source'
    pub plain : HasNoNewline (old.unread ++ fitting old.credit more)

  -- The same, and the input has ended: what is left comes after the last newline.
  pub record HasRest (what : LineFound) : Type 0 where
    pub none : HasNoLine
    pub few : length none.more < old.credit
    pub ended : IsEnded source'
    pub kept : line ≡ take most (old.unread ++ none.more)
    pub is : what ≡ rest_found (old.unread ++ none.more)
    pub left : new.credit ≡ old.credit - length none.more
    pub same_faults : source'.faults ≡ source.faults

  abbrev pub Finds : Result LineFound InputFault → Type 0
  Finds (Ok found.Line) = HasLine
  Finds (Ok found.Rest) = HasRest found.Rest
  Finds (Ok found.End) = HasRest found.End
  Finds (Err faults.Failed) = HasNoLine × Rose source.faults source'.faults
  Finds (Err faults.TooLong) = (h : HasNoLine) × (old.credit ≤ length h.more) × (source'.faults ≡ source.faults)
  Finds (Err faults.NoMemory) = ((more : List ℕ) × Took more source source') × (source'.faults ≡ source.faults)

-- ---- its steps

-- Bytes up to a newline were passed, or all of them.
abbrev pub Passes : {E : Type 0} → ℕ → Ahead → Ahead → List ℕ → List ℕ → Result Bool E → Type 0
Passes most old new line line' (Ok true) =
    (body : List ℕ) × HasNoNewline body × (old.unread ≡ body ++ 10 ∷ new.unread) × (line' ≡ take most (line ++ body)) × (new.credit ≡ old.credit)
Passes most old new line line' (Ok false) = HasNoNewline old.unread × (new ≡ record { unread = []; credit = old.credit }) × (line' ≡ take most (line ++ old.unread))
Passes most old new line line' (Err e) = ⊤

-- A piece was taken, or the input has ended.
abbrev pub Fills : Ahead → Ahead → SourceState → SourceState → Result Bool InputFault → Type 0
Fills old new source source' (Ok true) =
    (piece : List ℕ) × Took piece source source' × (0 < length piece) × (0 < old.credit) × (new.unread ≡ fitting old.credit piece)
    × (new.credit ≡ old.credit - length piece) × (source'.faults ≡ source.faults)
Fills old new source source' (Ok false) = Took [] source source' × (0 < old.credit) × IsEnded source' × (source'.faults ≡ source.faults) × (new.credit ≡ old.credit)
Fills old new source source' (Err faults.Failed) = Took [] source source' × Rose source.faults source'.faults
Fills old new source source' (Err faults.TooLong) = (source' ≡ source) × (old.credit ≡ 0)
Fills old new source source' (Err faults.NoMemory) = ⊥
