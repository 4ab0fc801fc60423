-- Dates of copies, in every world: each date other than the opening one is that of an entry that wrote the record, and a kept
-- answer to a refresh was sent by another holder in the held view.
use Rattle.std.proofs.Common.{◌≡◌, ◌≢◌, ◌⊎◌, ℕ}
use Rattle.std.specs.Prelude.{Some}
use Rattle.vp_model.specs.Types.{ViewId, View, Commit, Stored, Refreshing}
use Rattle.vp_model.specs.Types.message
use Rattle.vp_model.specs.Words.{opening}
use Rattle.vp_model.specs.Catalogue.{Catalogue, holders}
use Rattle.vp_model.specs.Site.{SiteState}
use Rattle.vp_laws.proofs.Lists.Members.{Has}
use Rattle.vp_laws.proofs.Moves.LocalViews.{letter}
use Rattle.vp_laws.proofs.Worlds.Scenes.{Scene, plain_at, kept_at}
use Rattle.vp_laws.proofs.Journal.ValuesAfter.{Wrote}

-- the date is the opening one, or of an entry that wrote the record
abbrev pub IsDated : Scene → ℕ → ViewId → Type 0
IsDated w rec date = (date ≡ opening) ⊎ ((e : Commit) × Has w.journal e × Wrote e rec × (e.view ≡ date))

-- the answer was sent in the view, by another holder that is a member
abbrev pub WasSent : Catalogue → Scene → ℕ → ℕ → View → ℕ × Stored → Type 0
WasSent catalogue w s rec v a = Has w.sent (letter a.0 s (message.RefreshAnswer v.id rec a.1)) × Has v.members a.0 × Has (holders catalogue rec) a.0 × (a.0 ≢ s)

pub record InvDated (catalogue : Catalogue) (w : Scene) : Type 0 where
  -- each date of a copy
  pub copies : (s : ℕ) (a : ℕ × Stored) → Has (kept_at w s).copies a → IsDated w a.0 a.1.date
  -- each date in an answer to a refresh
  pub sent : (p to rec : ℕ) (view : ViewId) (stored : Stored) → Has w.sent (letter p to (message.RefreshAnswer view rec stored)) → IsDated w rec stored.date
  -- a kept answer was sent, by another holder in the held view
  pub kept : (s : ℕ) (x : SiteState) (r : Refreshing) (a : ℕ × Stored) → plain_at w s ≡ Some x → Has x.refresh r → Has r.answers a → (v : View) × (x.held ≡ Some v) × WasSent catalogue w s r.rec v a
