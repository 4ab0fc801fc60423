-- Processes affect each other only by what they hand over.
use Rattle.std.specs.Prelude.{◌≡◌, ℕ, ◌==◌, List, filter}
use Rattle.std.specs.List.{Contains}
use Rattle.vp_model.specs.Words.{for_each}
use Rattle.vp_model.specs.Catalogue.{Catalogue}
use Rattle.vp_outside.specs.declared.datagram.Datagram.{Datagram}
use Rattle.vp_network.specs.Cluster.{ClusterState, Happening, process_of, whose, after}

-- what happens to one process, whatever happens to others in between
abbrev pub own : ℕ → List Happening → List Happening
own id happenings = filter (λ h. whose h == id) happenings

-- The process is where its own happenings alone bring it, and what they hand over is handed over.
pub record IsApart (catalogue : Catalogue) (c : ClusterState) (happenings : List Happening) (id : ℕ) : Type 0 where
  pub process : process_of id (for_each happenings (after catalogue) c).processes ≡ process_of id (for_each (own id happenings) (after catalogue) c).processes
  pub handed : (d : Datagram) → Contains (for_each (own id happenings) (after catalogue) c).handed d → Contains (for_each happenings (after catalogue) c).handed d

abbrev pub ProcessesAreApart : Type 0
ProcessesAreApart = (catalogue : Catalogue) (c : ClusterState) (happenings : List Happening) (id : ℕ) → IsApart catalogue c happenings id
