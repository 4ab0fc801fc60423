-- What a vote says of its transaction.
use Rattle.std.specs.Prelude.{◌≡◌, ℕ, Bool, true, false, Some}
use Rattle.std.specs.List.{Contains}
use Rattle.vp_model.specs.Types.{TxnId, Call, Pending, Live}
use Rattle.vp_model.specs.Types.call
use Rattle.vp_model.specs.Types.message
use Rattle.vp_model.specs.Site.{SiteState}
use Rattle.vp_model.specs.World.{WorldState, site_of}

abbrev pub is_commit : Call → Bool
is_commit (call.Commit txn number) = true
is_commit words = false

abbrev pub WaitsForCommit : Live → Type 0
WaitsForCommit t = (p : Pending) × (t.pending ≡ Some p) × (is_commit p.call ≡ true)

-- as long as a transaction is live and a vote on it was sent, its commit is pending
abbrev pub VotesAreAwaited : WorldState → Type 0
VotesAreAwaited w =
    (from to : ℕ) (txn : TxnId) (x : SiteState) (t : Live) → Contains w.sent (record { from = from; to = to; message = message.Vote txn }) → site_of w txn.site ≡ Some x → Contains x.live t → t.txn ≡ txn → WaitsForCommit t
