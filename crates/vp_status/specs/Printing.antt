-- What is printed of a run's text, and which status that gives.
use Rattle.std.specs.Prelude.{◌≡◌, ◌⊎◌, ℕ, List}
use Rattle.std.specs.Io.KnownBytes.{Appends}
use Rattle.vp_outside.specs.Causes.{Rose}
use Rattle.vp_outside.specs.Output.{SinkState, AppendsPrefix}
use Rattle.vp_status.specs.declared.status.Status.{Status}
use Rattle.vp_status.specs.declared.status.Status.TheVariants as status

-- The text was printed, or the sink failed in it, or memory ran out for it.
abbrev pub Prints : Status → List ℕ → SinkState → SinkState → Status → Type 0
Prints end text sink sink' told =
    ((told ≡ end) × Appends sink.held sink'.held text × (sink'.faults ≡ sink.faults))
    ⊎ (((told ≡ status.SinkFault) × AppendsPrefix sink.held sink'.held text × Rose sink.faults sink'.faults)
    ⊎ ((told ≡ status.NoMemory) × AppendsPrefix sink.held sink'.held text × (sink'.faults ≡ sink.faults)))
