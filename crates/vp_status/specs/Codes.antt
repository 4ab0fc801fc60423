-- The exit status of the process at each end of a run.
use Rattle.std.specs.Prelude.{ℕ}
use Rattle.vp_status.specs.declared.status.Status.{Status}
use Rattle.vp_status.specs.declared.status.Status.TheVariants as status

abbrev pub code_of : Status → ℕ
code_of status.Done = 0
code_of status.BadLine = 1
code_of status.Usage = 2
code_of status.NoMemory = 3
code_of status.SourceFault = 4
code_of status.SinkFault = 5
code_of status.LinkFault = 6
code_of status.DiskFault = 7
code_of status.BadLog = 8
code_of status.Limit = 9
code_of status.Differs = 10
code_of status.NoAnswer = 11
code_of status.LivesSpent = 12
code_of status.Unsent = 14
code_of status.TurnDiffers = 15
code_of status.NoResult = 16
