-- A majority goes on, whatever the others do.
use Rattle.std.specs.Prelude.{◌≡◌, ℕ, true, List, ◌∷◌, Some}
use Rattle.std.specs.Option.{option_map_or}
use Rattle.std.specs.List.{Contains, AllByRecursion}
use Rattle.vp_catalog.specs.Document.{IsCatalogue}
use Rattle.vp_model.specs.Types.{Doubt, Commit, Event}
use Rattle.vp_model.specs.Words.{has, keys, value_at, for_each}
use Rattle.vp_model.specs.Catalogue.{Table, sites_of, find_record, weights_of, accessible_by}
use Rattle.vp_model.specs.OneCopy.{order}
use Rattle.vp_model.specs.World.{Schedule, journal_of}
use Rattle.vp_progress.specs.Going.{goes_on, EachPasses, AreFresh, mends}
use Rattle.vp_progress.specs.Whole.{AreUnspent, HasNameLeft}
use Rattle.vp_progress.specs.Progress.{world_of}
use Rattle.vp_progress.specs.Doubts.{doubts_of}
use Rattle.vp_progress.specs.Clients.{Wish, name_in, FitATransaction, MayGive, IsServed}
use Rattle.vp_progress.specs.Together.{IsFree, StayTogether}
use Rattle.vp_progress.specs.Meeting.{CanMeet}

-- the table of a record in force: the last one that a committed transaction gave it, by view and then by moment of commit, or else the
-- catalogue's
abbrev pub table_now : Schedule → ℕ → Table
table_now s rec = for_each (order (journal_of s)) (λ (e : Commit) (t : Table). option_map_or (λ (new : Table). new) (value_at rec e.tables) t) (weights_of s.catalogue rec)

-- These sites have more than half of the weight of the record by the table in force; and where one of them is in doubt about a change of it, the
-- coordinator is one of them too.
pub record IsMajority (s : Schedule) (sites : List ℕ) (rec : ℕ) : Type 0 where
  pub most : accessible_by (table_now s rec) sites ≡ true
  pub heard : (q : ℕ) (d : Doubt) → has sites q ≡ true → Contains (doubts_of (world_of s) q) d → has (keys d.writes) rec ≡ true → has sites d.txn.site ≡ true

-- Events that mend these sites alone commit nothing; those that then serve the client put one entry more into the journal, with just what
-- it asked for, and leave the sites together. Of neither does any need a message that was sent before.
pub record CanGoOn (s : Schedule) (sites : List ℕ) (q : ℕ) (wishes : List Wish) : Type 0 where
  pub more : List Event
  pub mending : EachPasses s.catalogue (mends sites) (world_of s) more
  pub fresh : AreFresh (world_of s) more
  pub journal : journal_of (goes_on s more) ≡ journal_of s
  pub served : IsServed (goes_on s more) sites q wishes (StayTogether s.catalogue sites (world_of (goes_on s more)))

-- a wish is of a record of which the sites are a majority
abbrev pub IsOfMajority : Schedule → List ℕ → Wish → Type 0
IsOfMajority s sites wish = (rec : ℕ) × (find_record s.catalogue (name_in wish) ≡ Some rec) × IsMajority s sites rec

-- Whatever has happened and whatever the other sites do, a client at one of some sites that can reach each other gets any reads, writes and
-- deletes of records of which these are a majority committed for which one transaction has room.
abbrev pub MajoritiesGoOn : Type 0
MajoritiesGoOn =
    (s : Schedule) (first : ℕ) (rest : List ℕ) (q : ℕ) (wishes : List Wish)
    → IsCatalogue s.catalogue
    → ((k : ℕ) → has (first ∷ rest) k ≡ true → has (sites_of s.catalogue) k ≡ true)
    → AreUnspent (first ∷ rest) (world_of s)
    → has (first ∷ rest) q ≡ true
    → HasNameLeft q (world_of s)
    → FitATransaction wishes
    → AllByRecursion (IsOfMajority s (first ∷ rest)) wishes
    → AllByRecursion (MayGive s.catalogue (first ∷ rest)) wishes
    → CanGoOn s (first ∷ rest) q wishes

-- However some sites have met, what is free to them is what they are a majority of, and nothing else: each other record is out of their reach.
abbrev pub OnlyMajoritiesAreFree : Type 0
OnlyMajoritiesAreFree =
    (s : Schedule) (sites : List ℕ) (m : CanMeet s sites) (rec : ℕ)
    → IsCatalogue s.catalogue
    → IsFree s.catalogue sites (world_of (goes_on s m.more)) rec
    → IsMajority s sites rec
