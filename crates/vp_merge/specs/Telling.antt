-- The frames of a step beside what is recorded of its turn.
use Rattle.std.specs.Prelude.{◌≡◌, ⊤, ℕ, ◌+◌, ◌<◌, ◌^◌, Bool, ◌&&◌, List, length, map}
use Rattle.std.specs.List.{AllByRecursion}
use Rattle.vp_model.specs.Types.{Shown, Sent, Reply}
use Rattle.vp_model.specs.Types.shown
use Rattle.vp_laws.specs.ShapeLaws.{message_frame, reply_frame}
use Rattle.vp_outside.specs.declared.datagram.Datagram.{Datagram}
use Rattle.vp_wire.specs.Grammar.{IsFrame}
use Rattle.vp_fitting.specs.Merged.{tells}
use Rattle.vp_merge.specs.Numbers.{Notes}
use Rattle.vp_merge.specs.declared.comparison.Comparison.{Comparison}
use Rattle.vp_merge.specs.declared.numbers.FrameNumbers.{FrameNumbers}

abbrev pub bytes_of : List Datagram → List (List ℕ)
bytes_of outs = map (λ (out : Datagram). out.bytes) outs

-- all frames so far were the same, and these that follow are too
abbrev pub agrees : Comparison → List (List ℕ) → Bool
agrees c made = c.alike && tells c.short (bytes_of c.outs.now) made

-- What is shown of an event can be spelled in frames, those of messages with numbers.
abbrev pub AreFrames : ℕ → Shown → Type 0
AreFrames site (shown.Step commits first messages replies) =
    AllByRecursion (λ (sent : Sent). IsFrame (message_frame sent)) messages
    × AllByRecursion (λ (reply : Reply). IsFrame (reply_frame site reply)) replies
    × (first + length messages < 2 ^ 32)
AreFrames site what = ⊤

-- The messages that are shown were noted.
abbrev pub NotesShown : Shown → FrameNumbers → FrameNumbers → Type 0
NotesShown (shown.Step commits first messages replies) old new = Notes first messages old new
NotesShown what old new = new ≡ old
