-- The lowest numbers under which messages were sent, by the bytes of their frames.
use Rattle.std.specs.Prelude.{◌≡◌, ℕ, ◌+◌, ◌≤◌, List, ◌++◌, length, slice_get, Option, Some, is_some, true, option_and_then, Result, Ok, Err}
use Rattle.std.specs.List.{position_from}
use Rattle.std.specs.Str.{bytes_eq}
use Rattle.indexmap.specs.IndexMap.{get_by, index_of_by, values}
use Rattle.vp_model.specs.Types.{Sent}
use Rattle.vp_laws.specs.ShapeLaws.{message_frame}
use Rattle.vp_wire.specs.Grammar.{frame_bytes, frame_of}
use Rattle.vp_wire.specs.Decoded.{read_frame}
use Rattle.vp_wire.specs.declared.frame.Frame.{Frame}
use Rattle.vp_merge.specs.declared.numbers.FrameNumbers.{FrameNumbers}

-- the bytes of a recorded frame as a node sends it, in the second version; those that are no frame stay as they are
abbrev pub sent_again : Result Frame ℕ → List ℕ → List ℕ
sent_again (Ok f) bytes = frame_bytes (frame_of f.from f.to f.body)
sent_again (Err at) bytes = bytes

unfoldable pub as_sent : List ℕ → List ℕ
as_sent bytes = sent_again (read_frame bytes) bytes

-- the entry of a frame
abbrev pub entry_of : FrameNumbers → List ℕ → Option (Option ℕ)
entry_of n bytes = get_by (λ key. bytes_eq bytes key.items) n.numbers

-- the number that it has, if it is there and has one
abbrev pub number_in : FrameNumbers → List ℕ → Option ℕ
number_in n bytes = option_and_then (λ (number : Option ℕ). number) (entry_of n bytes)

-- its place among all of them
abbrev pub place_of : FrameNumbers → List ℕ → Option ℕ
place_of n bytes = index_of_by (λ key. bytes_eq bytes key.items) n.numbers

-- the number that the frame at a place has
abbrev pub number_at : FrameNumbers → Option ℕ → Option ℕ
number_at n place = option_and_then (λ (i : ℕ). option_and_then (λ (number : Option ℕ). number) (slice_get (values n.numbers) i)) place

-- the lowest number under which a message of these bytes was sent
abbrev pub number_of : List ℕ → List Sent → Option ℕ
number_of bytes all = position_from (λ (sent : Sent). bytes_eq bytes (frame_bytes (message_frame sent))) 1 all

-- Each frame that is there has the lowest number under which a message of its bytes was sent.
abbrev pub IsIndex : FrameNumbers → List Sent → Type 0
IsIndex n all = (bytes : List ℕ) (number : Option ℕ) → entry_of n bytes ≡ Some number → number ≡ number_of bytes all

abbrev pub HasFrame : FrameNumbers → List ℕ → Type 0
HasFrame n bytes = is_some (entry_of n bytes) ≡ true

-- the frame of a turn is there, as it is sent, unless it is too short for a frame
abbrev pub HasTurn : FrameNumbers → List ℕ → Type 0
HasTurn n frame = 5 ≤ length (as_sent frame) → HasFrame n (as_sent frame)

-- the same frames are there, each at its place
abbrev pub HaveSame : FrameNumbers → FrameNumbers → Type 0
HaveSame old new = (bytes : List ℕ) → place_of new bytes ≡ place_of old bytes

-- These messages were sent, the first of them under this number, and nothing else has changed.
pub record Notes (first : ℕ) (messages : List Sent) (old new : FrameNumbers) : Type 0 where
  pub index : (all : List Sent) → length all + 1 ≡ first → IsIndex old all → IsIndex new (all ++ messages)
  pub same : HaveSame old new
