-- How a site that is in doubt about a transaction ends the doubt, and where its copies come from.
use Rattle.std.specs.Prelude.{◌≡◌, ◌⊎◌, ℕ, Bool, true, false, Some, List}
use Rattle.std.specs.List.{Contains}
use Rattle.vp_model.specs.Types.{Change, TxnId, ViewId, Commit, Input, Doubt, Stored, Refreshing}
use Rattle.vp_model.specs.Types.log_record
use Rattle.vp_model.specs.Types.input
use Rattle.vp_model.specs.Types.message
use Rattle.vp_model.specs.Catalogue.{Catalogue}
use Rattle.vp_model.specs.Durable.{changed}
use Rattle.vp_model.specs.Transactions.{last_changes}
use Rattle.vp_model.specs.Site.{SiteState}
use Rattle.vp_model.specs.Step.{step}
use Rattle.vp_model.specs.World.{WorldState, site_of}
use Rattle.vp_model.specs.Headline.{has_entry}

-- the input may come to the site next: a message only if it was sent to the site
abbrev pub MayCome : WorldState → ℕ → Input → Type 0
MayCome w site (input.Message from m) = Contains w.sent (record { from = from; to = site; message = m })
MayCome w site given = Unit {0}

-- the step forces this outcome of the transaction to the log
abbrev pub Forces : Catalogue → SiteState → Input → TxnId → Bool → Type 0
Forces catalogue x given txn commit = Contains (step catalogue x given).effects.records (log_record.Outcome txn commit)

-- the copy that a change of a transaction of the view makes of the one that was there
abbrev pub dated_at : ViewId → ℕ × Change → Stored → ℕ × Stored
dated_at view write old = (write.0, changed view write.1 old)

-- where a copy after the step comes from: it was there; it is a write of a transaction in doubt whose commit the step forces; it is
-- a write of an entry that the step makes; or it is an answer to the refresh of the record here, kept before or coming now
pub data CopyComes (catalogue : Catalogue) (x : SiteState) (given : Input) (copy : ℕ × Stored) : Type 0 where
  kept : Contains x.copies copy → CopyComes catalogue x given copy
  doubted : (d : Doubt) (write : ℕ × Change) (old : Stored) → Contains x.doubts d → Forces catalogue x given d.txn true → Contains d.writes write → Contains x.copies (write.0, old) → copy ≡ dated_at d.view write old → CopyComes catalogue x given copy
  entered : (e : Commit) (write : ℕ × Change) (old : Stored) → Contains (step catalogue x given).effects.commits e → Contains (last_changes e) write → Contains x.copies (write.0, old) → copy ≡ dated_at e.view write old → CopyComes catalogue x given copy
  refreshed : (r : Refreshing) (from : ℕ) → Contains x.refresh r → r.rec ≡ copy.0 → Contains r.answers (from, copy.1) ⊎ ((view : ViewId) × (given ≡ input.Message from (message.RefreshAnswer view copy.0 copy.1))) → CopyComes catalogue x given copy

-- by: the journal before the step; last: the journal in the end
pub record EndsByJournal (catalogue : Catalogue) (by last : List Commit) (x : SiteState) (given : Input) : Type 0 where
  -- a transaction in doubt is still so after the step, or ends by an outcome
  pub ends : (d : Doubt) → Contains x.doubts d → Contains (step catalogue x given).site.doubts d ⊎ ((commit : Bool) × Forces catalogue x given d.txn commit)
  -- by a commit, which makes its writes copies, only where the journal has the transaction
  pub commits : (txn : TxnId) → Forces catalogue x given txn true → has_entry by txn ≡ true
  -- by an abort, only where the journal never has the transaction
  pub aborts : (txn : TxnId) → Forces catalogue x given txn false → has_entry last txn ≡ false
  -- no write of a transaction in doubt becomes a copy in any other way
  pub copies : (copy : ℕ × Stored) → Contains (step catalogue x given).site.copies copy → CopyComes catalogue x given copy

-- whatever comes to a site next, it ends its doubts as the journal says
abbrev pub DecisionsAgree : Catalogue → List Commit → WorldState → Type 0
DecisionsAgree catalogue last w =
    (site : ℕ) (x : SiteState) (given : Input) → site_of w site ≡ Some x → MayCome w site given → EndsByJournal catalogue w.journal last x given
