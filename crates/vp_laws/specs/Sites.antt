-- What holds at each site: its locks do not conflict, and each copy is dated by a transaction that wrote the record.
use Rattle.std.specs.Prelude.{◌≡◌, ℕ, true, Option, None, Some, List, []}
use Rattle.std.specs.List.{Contains}
use Rattle.vp_model.specs.Types.{TxnId, Commit, Stored, Lock}
use Rattle.vp_model.specs.Types.owner
use Rattle.vp_model.specs.Words.{keys, opening}
use Rattle.vp_model.specs.Site.{SiteState}
use Rattle.vp_model.specs.Transactions.{last_changes}
use Rattle.vp_model.specs.World.{Place, WorldState, place_of, site_of}

-- two locks of transactions on the same record, of which one is exclusive, belong to the same transaction
abbrev pub LocksAreApart : WorldState → Type 0
LocksAreApart w =
    (s : ℕ) (x : SiteState) (a b : Lock) (t u : TxnId) → site_of w s ≡ Some x → Contains x.locks a → Contains x.locks b → a.rec ≡ b.rec → a.exclusive ≡ true → a.owner ≡ owner.Txn t → b.owner ≡ owner.Txn u → t ≡ u

abbrev pub copies_in : Option Place → List (ℕ × Stored)
copies_in None = []
copies_in (Some place) = place.durable.copies

-- the copies of a site, be it up or down
abbrev pub copies_of : WorldState → ℕ → List (ℕ × Stored)
copies_of w site = copies_in (place_of site w.places)

-- each copy that is not dated by the opening view has the view of an entry that changed the record
abbrev pub CopiesAreDated : WorldState → Type 0
CopiesAreDated w =
    (s : ℕ) (c : ℕ × Stored) → Contains (copies_of w s) c → (c.1.date ≡ opening → ⊥) → (e : Commit) × Contains w.journal e × Contains (keys (last_changes e)) c.0 × (e.view ≡ c.1.date)
