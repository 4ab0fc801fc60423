-- What holds of serving, whatever comes.
use Rattle.std.specs.Prelude.{◌≡◌, ℕ, List, take}
use Rattle.vp_model.specs.Types.{LogRecord}
use Rattle.vp_model.specs.Catalogue.{Catalogue}
use Rattle.vp_outside.specs.declared.datagram.Datagram.{Datagram}
use Rattle.vp_runs.specs.Runs.{node_run}
use Rattle.vp_serving.specs.Handed.{datagrams_in, handed_in}

-- What the first turns of a run hand over are the datagrams of the run over them.
abbrev pub RunsAreHandedOver : Type 0
RunsAreHandedOver = (catalogue : Catalogue) (id : ℕ) (batches : List (List LogRecord)) (given : ℕ) (arrived : List Datagram) (n : ℕ)
    → datagrams_in (handed_in catalogue id batches given arrived n) ≡ (node_run catalogue id batches (take n arrived)).datagrams
