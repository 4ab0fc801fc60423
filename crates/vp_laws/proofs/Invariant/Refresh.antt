-- Answers to a refresh, and the records that are used in a view, in every world.
use Rattle.std.proofs.Common.{◌⊎◌, ◌≡◌, ℕ, Bool}
use Rattle.std.specs.Prelude.{Some}
use Rattle.vp_model.specs.Types.{ViewId, TxnId, View, Commit, Stored, Live}
use Rattle.vp_model.specs.Types.message
use Rattle.vp_model.specs.Words.{value_at}
use Rattle.vp_model.specs.Catalogue.{Catalogue, Table, holders}
use Rattle.vp_model.specs.Site.{SiteState}
use Rattle.vp_laws.proofs.Lists.Members.{Has}
use Rattle.vp_laws.proofs.Lists.Views.{Precedes}
use Rattle.vp_laws.proofs.Moves.LocalViews.{letter}
use Rattle.vp_laws.proofs.Worlds.Scenes.{Scene, plain_at}
use Rattle.vp_laws.proofs.Invariant.Shares.{HasRequest}
use Rattle.vp_laws.proofs.Journal.Changed.{HasChanged}
use Rattle.vp_laws.proofs.Invariant.Ops.{HasUsed}
use Rattle.vp_laws.proofs.Invariant.Entered.{AgreedAs}
use Rattle.vp_laws.proofs.Invariant.LiveUses.{MayWeigh, LiveUses}
use Rattle.vp_laws.proofs.Invariant.Used.{HasAnswered}
use Rattle.vp_laws.proofs.Journal.ValuesAfter.{content_of, Wrote, value_after}
use Rattle.vp_laws.proofs.Invariant.Copies.{FromView}
use Rattle.vp_laws.proofs.Invariant.Closed.{ClosedAt, Open}

pub record InvRefresh (catalogue : Catalogue) (w : Scene) : Type 0 where
  -- an answer to a refresh comes from a holder
  pub holder : (p to rec : ℕ) (view : ViewId) (stored : Stored) → Has w.sent (letter p to (message.RefreshAnswer view rec stored)) → Has (holders catalogue rec) p
  -- an answer of a lower date comes from a site that is closed below the view
  pub closed : (p to rec : ℕ) (view : ViewId) (stored : Stored) → Has w.sent (letter p to (message.RefreshAnswer view rec stored)) → Precedes stored.date view → ClosedAt w p rec view
  -- with the value of its date
  pub value : (p to rec : ℕ) (view : ViewId) (stored : Stored) → Has w.sent (letter p to (message.RefreshAnswer view rec stored)) → Precedes stored.date view → value_after catalogue w.journal stored.date rec ≡ Some (content_of stored)
  -- no entry of a view between wrote the record, where the sender was a member
  pub between : (p to rec : ℕ) (view : ViewId) (stored : Stored) (e : Commit) (v : View) → Has w.sent (letter p to (message.RefreshAnswer view rec stored)) → Has w.journal e → Wrote e rec → Precedes stored.date e.view → Precedes e.view view → AgreedAs w e.view v → Has v.members p → ⊥
  -- where it is from
  pub from : (p to rec : ℕ) (view : ViewId) (stored : Stored) → Has w.sent (letter p to (message.RefreshAnswer view rec stored)) → Precedes stored.date view → FromView catalogue w p rec stored.date
  -- by the tables that a live transaction gives its site's view has more than half of the weight
  pub live : (s : ℕ) (x : SiteState) (t : Live) → plain_at w s ≡ Some x → Has x.live t → LiveUses catalogue x.held t
  -- a record that a live transaction has used or changed is open in its view
  pub uses : (s : ℕ) (x : SiteState) (t : Live) (rec : ℕ) (v : View) → plain_at w s ≡ Some x → Has x.live t → HasUsed t.ops rec ⊎ HasChanged t rec → AgreedAs w t.view v → Open catalogue w rec v
  -- and so is one that an entry uses or changes
  pub entry : (e : Commit) (v : View) (rec : ℕ) → Has w.journal e → AgreedAs w e.view v → HasUsed e.ops rec ⊎ Wrote e rec → Open catalogue w rec v
  -- each table that an entry gives a record has its holders, and by it the members of the view have more than half of the weight
  pub weighed : (e : Commit) (v : View) (rec : ℕ) (table : Table) → Has w.journal e → AgreedAs w e.view v → value_at rec e.tables ≡ Some table → MayWeigh catalogue v.members rec table
  -- and one that a site has answered for a live transaction
  pub used : (s q rec : ℕ) (exclusive : Bool) (x : SiteState) (t : Live) (v : View) → plain_at w s ≡ Some x → Has x.live t → HasAnswered w q t.txn rec exclusive → AgreedAs w t.view v → Open catalogue w rec v
  -- a site that is asked for a lock on a record holds it
  pub asked : (from to number rec : ℕ) (txn : TxnId) (view : ViewId) (exclusive : Bool) → HasRequest w from to txn view number rec exclusive → Has (holders catalogue rec) to
