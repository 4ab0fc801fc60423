-- The state of a disk in memory with a plan, and what the plan says of a call.
use Rattle.std.specs.Prelude.{List, Bool}
use Rattle.vp_outside.specs.Disk.{Halves}
use Rattle.vp_disks.specs.Changes.{asked_of, changes_of, content_of}
use Rattle.vp_disks.specs.declared.changes.Change.{Change}
use Rattle.vp_disks.specs.declared.mem_disk.MemDisk.{MemDisk}

-- its record of changes, the newest first
abbrev pub record_of : MemDisk → List Change
record_of d = d.disk

abbrev pub is_attached : MemDisk → Bool
is_attached d = d.attached

-- the halves of the log that `attach` was last called with
abbrev pub attached_of : MemDisk → Halves
attached_of d = content_of (changes_of (asked_of (record_of d)) (record_of d))
