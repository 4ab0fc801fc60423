-- What the run of a node hands over, and when.
use Rattle.std.specs.Prelude.{ℕ, zero, suc, List, [], ◌++◌, length, take, drop, map}
use Rattle.vp_model.specs.Types.{LogRecord}
use Rattle.vp_model.specs.Catalogue.{Catalogue}
use Rattle.vp_outside.specs.Causes.{count_after}
use Rattle.vp_outside.specs.Links.{handed_after}
use Rattle.vp_outside.specs.declared.datagram.Datagram.{Datagram}
use Rattle.vp_outside.specs.declared.datagram.Dispatch.{Dispatch}
use Rattle.vp_runs.specs.Runs.{node_run}

-- what was handed over, without its times
abbrev pub datagrams_in : List Dispatch → List Datagram
datagrams_in handed = map (λ (h : Dispatch). h.datagram) handed

module _ (catalogue : Catalogue) (id : ℕ) (batches : List (List LogRecord)) where
  -- the datagrams of the turn after the first n ones: those that the run has with it, and doesn't have without it
  abbrev pub turn_after : List Datagram → ℕ → List Datagram
  turn_after arrived n =
      drop (length (node_run catalogue id batches (take n arrived)).datagrams) (node_run catalogue id batches (take (suc n) arrived)).datagrams

  -- What the first n turns hand over, if so many datagrams had been given before: that of each turn when its own datagram had been
  -- given, and no later one.
  abbrev pub handed_in : ℕ → List Datagram → ℕ → List Dispatch
  handed_in given arrived zero = []
  handed_in given arrived (suc n) = handed_in given arrived n ++ handed_after (count_after given (suc n)) (turn_after arrived n)
