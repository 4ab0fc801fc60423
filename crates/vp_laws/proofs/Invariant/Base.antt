-- Between the date of a copy and the view of a doubt on it, whose transaction is live or has an entry, no entry wrote the record.
use Rattle.std.proofs.Common.{◌≡◌, ℕ}
use Rattle.vp_model.specs.Types.{TxnId, Commit, Stored, Live, Doubt}
use Rattle.vp_laws.proofs.Lists.Members.{Has}
use Rattle.vp_laws.proofs.Worlds.Scenes.{Scene, plain_at, kept_at}
use Rattle.std.specs.Prelude.{Some}
use Rattle.vp_model.specs.Words.{keys, value_at}
use Rattle.vp_model.specs.Site.{SiteState}
use Rattle.vp_laws.proofs.Lists.Views.{Precedes}
use Rattle.vp_laws.proofs.Journal.ValuesAfter.{Wrote}

-- the transaction is live, or has an entry
pub data Stands (w : Scene) (txn : TxnId) : Type 0 where
  live : (i : ℕ) (y : SiteState) (t : Live) → plain_at w i ≡ Some y → Has y.live t → t.txn ≡ txn → Stands w txn
  entered : (e : Commit) → Has w.journal e → e.txn ≡ txn → Stands w txn

-- no entry of a view between the two wrote the record
abbrev pub InvBase : Scene → Type 0
InvBase w = (s rec : ℕ) (c : Stored) (u : Doubt) (e : Commit) → value_at rec (kept_at w s).copies ≡ Some c → Has (kept_at w s).doubts u → Has (keys u.writes) rec → Stands w u.txn → Has w.journal e → Wrote e rec → Precedes c.date e.view → Precedes e.view u.view → ⊥
