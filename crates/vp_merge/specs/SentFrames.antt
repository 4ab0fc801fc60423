-- The frame of a turn as a node sends it.
use Rattle.std.specs.Prelude.{ℕ, ◌==◌, Bool, false, List, slice_get}
use Rattle.std.specs.Option.{option_map_or}
use Rattle.vp_merge.specs.declared.sent_frame.SentFrame.{SentFrame}
use Rattle.vp_merge.specs.declared.sent_frame.SentFrame.TheVariants.{Recorded, Later}

abbrev pub bytes_in : SentFrame → List ℕ
bytes_in (Recorded bytes) = bytes.now
bytes_in (Later bytes) = bytes.items

-- the bytes have the version of frames that are read and not sent
abbrev pub is_read_only : List ℕ → Bool
is_read_only bytes = option_map_or (λ (version : ℕ). version == 1) (slice_get bytes 1) false
