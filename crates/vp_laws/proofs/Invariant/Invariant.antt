-- The whole invariant: all that is known of sites and messages, and what follows for copies, for the order of entries and for ends.
use Rattle.vp_model.specs.Catalogue.{Catalogue}
use Rattle.vp_laws.proofs.Invariant.Bars.{InvBars}
use Rattle.vp_laws.proofs.Invariant.Base.{InvBase}
use Rattle.vp_laws.proofs.Invariant.Copies.{InvCopies}
use Rattle.vp_laws.proofs.Invariant.Order.{InvOrder}
use Rattle.vp_laws.proofs.Invariant.OwnEnds.{InvOwnEnds}
use Rattle.vp_laws.proofs.Invariant.Reading.{InvReading}
use Rattle.vp_laws.proofs.Invariant.Refresh.{InvRefresh}
use Rattle.vp_laws.proofs.Invariant.Known.{Known}
use Rattle.vp_laws.proofs.Worlds.Scenes.{Scene}

pub record Invariant (catalogue : Catalogue) (w : Scene) : Type 0 where
  -- each part about sites and messages
  pub known : Known catalogue w
  -- copies have the values of their dates
  pub copies : InvCopies catalogue w
  -- answers to a refresh have them too, and what is used is open
  pub refresh : InvRefresh catalogue w
  -- between the date of a copy and a standing doubt on it no entry wrote the record
  pub base : InvBase w
  -- bars have the sums by a table that was given
  pub bars : InvBars catalogue w
  -- reads are of what was not written, or were answered
  pub reading : InvReading catalogue w
  -- the entries by view are a serial run
  pub order : InvOrder catalogue w
  -- no transaction keeps another end than its own
  pub own_ends : InvOwnEnds w
