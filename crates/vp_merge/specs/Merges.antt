-- What a merge answers.
use Rattle.std.specs.Prelude.{◌≡◌, ⊤, List, Result, Ok, Err}
use Rattle.vp_model.specs.Catalogue.{Catalogue}
use Rattle.vp_model.specs.Limits.{world_limits}
use Rattle.vp_model.specs.World.{Schedule}
use Rattle.vp_schedule.specs.Document.{IsSchedule}
use Rattle.vp_world.specs.Limits.{limit_of}
use Rattle.vp_recording.specs.declared.recording.Recording.{Recording}
use Rattle.vp_fitting.specs.Laws.{MatchesAll, IsNeverSent}
use Rattle.vp_fitting.specs.Merged.{Merge, merged}
use Rattle.vp_merge.specs.declared.fault.MergeFault.{MergeFault}
use Rattle.vp_merge.specs.declared.fault.MergeFault.TheVariants as faults

-- The answer is what the definition says, with what that means.
abbrev pub Merges : Catalogue → List Recording → Result Schedule MergeFault → Type 0
Merges catalogue recordings (Ok s) =
    (s.catalogue ≡ catalogue) × (merged world_limits catalogue recordings ≡ Merge.whole s.events) × IsSchedule s × MatchesAll s recordings
Merges catalogue recordings (Err (faults.Unsent site turn)) =
    (merged world_limits catalogue recordings ≡ Merge.unsent site turn) × IsNeverSent catalogue recordings site turn
Merges catalogue recordings (Err (faults.Differs site turn)) = merged world_limits catalogue recordings ≡ Merge.unlike site turn
Merges catalogue recordings (Err (faults.Limit what limit)) = (merged world_limits catalogue recordings ≡ Merge.too_long what) × (limit ≡ limit_of what)
Merges catalogue recordings (Err faults.NoMemory) = ⊤
