-- What a site never leaves undone: a transaction whose last vote comes is committed, and a copy that may be read is read.
use Rattle.std.specs.Prelude.{◌≡◌, ℕ, ◌+◌, ◌<◌, true, List, [], ◌∷◌, length, Some, None}
use Rattle.std.specs.List.{Contains}
use Rattle.vp_model.specs.Types.{Pending, Live, Stored}
use Rattle.vp_model.specs.Types.answer
use Rattle.vp_model.specs.Types.call
use Rattle.vp_model.specs.Types.input
use Rattle.vp_model.specs.Types.message
use Rattle.vp_model.specs.Words.{value_at}
use Rattle.vp_model.specs.Catalogue.{Catalogue, find_record}
use Rattle.vp_model.specs.Site.{SiteState}
use Rattle.vp_model.specs.Types.op
use Rattle.vp_model.specs.Transactions.{Deed, deed_answer, entry_of}
use Rattle.vp_model.specs.Step.{step}
use Rattle.vp_model.specs.World.{WorldState, site_of}
use Rattle.vp_model.specs.Headline.{is_readable}
use Rattle.vp_laws.specs.Votes.{is_commit}

-- the pending call waits only for this site
abbrev pub WaitsForOne : Pending → ℕ → Type 0
WaitsForOne p from = Contains p.missing from × ((q : ℕ) → Contains p.missing q → q ≡ from)

-- the vote of the last missing site commits the transaction, and the commit is answered
abbrev pub LastVotesCommit : Catalogue → WorldState → Type 0
LastVotesCommit catalogue w =
    (site from : ℕ) (x : SiteState) (t : Live) (p : Pending) → site_of w site ≡ Some x → Contains x.live t → t.pending ≡ Some p → is_commit p.call ≡ true → WaitsForOne p from →
    ((step catalogue x (input.Message from (message.Vote t.txn))).effects.commits ≡ (entry_of t) ∷ [])
    × ((step catalogue x (input.Message from (message.Vote t.txn))).effects.replies ≡ (record { to = p.port; answer = answer.Committed t.txn p.number }) ∷ [])

-- the transaction's next call is an operation with this number on the record of this name and place, no call is pending, and fewer
-- than 64 calls are answered
pub record IsNextOperation (catalogue : Catalogue) (t : Live) (number : ℕ) (name : List ℕ) (rec : ℕ) : Type 0 where
  pub idle : t.pending ≡ None
  pub next : number ≡ length t.answers + 1
  pub found : find_record catalogue name ≡ Some rec
  pub few : length t.answers < 64

-- a read whose record is accessible, with a copy here that has no refresh lock and no exclusive lock on it, gives the copy's content
abbrev pub ReadableCopiesAreRead : Catalogue → WorldState → Type 0
ReadableCopiesAreRead catalogue w =
    (site port number rec : ℕ) (name : List ℕ) (x : SiteState) (t : Live) (copy : Stored) → site_of w site ≡ Some x → Contains x.live t → IsNextOperation catalogue t number name rec → value_at rec x.copies ≡ Some copy → is_readable x rec ≡ true →
    (step catalogue x (input.Call port (call.Read t.txn number name))).effects.replies ≡ (record { to = port; answer = deed_answer t.txn number (Deed.operates (op.Read rec copy.value)) }) ∷ []
