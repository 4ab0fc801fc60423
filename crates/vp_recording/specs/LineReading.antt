-- Reading the lines of recordings from left to right.
use Rattle.std.specs.Prelude.{ℕ, ◌+◌, ◌-◌, ◌^◌, ◌==◌, Bool, false, cond, List, [], ◌∷◌, codes, is_some, Result, Ok}
use Rattle.vp_text.specs.Reading.{◌>>=◌, literal_at, number_at}
use Rattle.vp_catalog.specs.Sites.{site_at}
use Rattle.vp_heads.specs.HeadReading.{head_at}
use Rattle.vp_recording.specs.declared.draft.RecordingDraft.{RecordingDraft}
use Rattle.vp_recording.specs.declared.line.RecordingLine.{RecordingLine}
use Rattle.vp_recording.specs.declared.line.RecordingLine.TheVariants as kind
use Rattle.vp_recording.specs.Hex.{bytes_at, most_bytes}
use Rattle.vp_recording.specs.Lines.{key}
use Rattle.vp_recording.specs.Drafts.{sites_said, life_before}

abbrev pub Read : Type 0
Read = Result (RecordingLine × List ℕ) ℕ

-- the bytes begin with this one
abbrev pub begins_with : ℕ → List ℕ → Bool
begins_with c [] = false
begins_with c (x ∷ bytes) = x == c

-- ---- the lines

-- a datagram and the end of the line
unfoldable pub frame_at : List ℕ → List ℕ → Result (List ℕ × List ℕ) ℕ
frame_at word bytes = do
  it ← literal_at word bytes
  frame ← bytes_at it.1
  end ← literal_at (10 ∷ []) frame.1
  Ok (frame.0, end.1)

-- a number and the end of the line
unfoldable pub count_at : List ℕ → ℕ → ℕ → List ℕ → Result (ℕ × List ℕ) ℕ
count_at word least most bytes = do
  it ← literal_at word bytes
  n ← number_at least most it.1
  end ← literal_at (10 ∷ []) n.1
  Ok (n.0, end.1)

unfoldable pub in_at : List ℕ → Read
in_at bytes = do
  frame ← frame_at (codes "in ") bytes
  Ok (kind.In frame.0, frame.1)

unfoldable pub out_at : List ℕ → Read
out_at bytes = do
  frame ← frame_at (codes "out ") bytes
  Ok (kind.Out frame.0, frame.1)

unfoldable pub stray_at : List ℕ → Read
stray_at bytes = do
  frame ← frame_at (codes "stray ") bytes
  Ok (kind.Stray, frame.1)

unfoldable pub bad_at : List ℕ → Read
bad_at bytes = do
  n ← count_at (codes "bad ") 0 most_bytes bytes
  Ok (kind.Bad, n.1)

unfoldable pub start_at : ℕ → List ℕ → Read
start_at before bytes = do
  n ← count_at (codes "start ") (before + 1) (2 ^ 32 - 1) bytes
  Ok (kind.Start n.0, n.1)

unfoldable pub node_at : List ℕ → List ℕ → Read
node_at sites bytes = do
  it ← literal_at (codes "node ") bytes
  site ← site_at sites 0 it.1
  end ← literal_at (10 ∷ []) site.1
  Ok (kind.Node site.0, end.1)

unfoldable pub word_at : List ℕ → RecordingLine → List ℕ → Read
word_at word line bytes = do
  it ← literal_at word bytes
  Ok (line, it.1)

-- ---- which of them is there: they begin with different bytes

unfoldable pub ending_at : List ℕ → List ℕ → Read
ending_at sites bytes =
    cond (begins_with 101 bytes) (word_at (codes "end\n") kind.End bytes)
    (cond (begins_with 108 bytes) (word_at (codes "link fault\n") kind.LinkFault bytes)
    (cond (begins_with 100 bytes) (word_at (codes "disk fault\n") kind.DiskFault bytes) (node_at sites bytes)))

unfoldable pub within_at : List ℕ → List ℕ → Read
within_at sites bytes =
    cond (begins_with 105 bytes) (in_at bytes)
    (cond (begins_with 98 bytes) (bad_at bytes)
    (cond (begins_with 115 bytes) (stray_at bytes) (ending_at sites bytes)))

unfoldable pub after_turn_at : List ℕ → List ℕ → Read
after_turn_at sites bytes = cond (begins_with 111 bytes) (out_at bytes) (within_at sites bytes)

-- a line of a block, where one goes on, or the line `node`
unfoldable pub free_at : RecordingDraft → List ℕ → Read
free_at d bytes = cond (is_some d.block) (cond (is_some d.turn) (after_turn_at (sites_said d) bytes) (within_at (sites_said d) bytes)) (node_at (sites_said d) bytes)

unfoldable pub head_line_at : RecordingDraft → List ℕ → Read
head_line_at d bytes = do
  line ← head_at key d.head.catalog bytes
  Ok (kind.Head line.0, line.1)

unfoldable pub line_at : RecordingDraft → List ℕ → Read
line_at d bytes = cond d.head.opened (cond (is_some d.named) (start_at (life_before d) bytes) (free_at d bytes)) (head_line_at d bytes)
