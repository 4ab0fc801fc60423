-- Whatever has happened, each client can be served: by what mends all sites, and then by what serves the client.
use Rattle.std.specs.Prelude.{◌≡◌, ℕ, ◌<◌, ◌^◌, ◌-◌, true, is_some, List, length}
use Rattle.std.specs.List.{AllByRecursion}
use Rattle.vp_catalog.specs.Document.{IsCatalogue}
use Rattle.vp_model.specs.Types.{Event}
use Rattle.vp_model.specs.Words.{has}
use Rattle.vp_model.specs.Catalogue.{sites_of, find_record}
use Rattle.vp_model.specs.World.{Schedule, moments_of, journal_of}
use Rattle.vp_progress.specs.Going.{goes_on, EachPasses, AreFresh, mends}
use Rattle.vp_progress.specs.Whole.{AreUnspent, HasNameLeft, IsWhole}
use Rattle.vp_progress.specs.Progress.{world_of}
use Rattle.vp_progress.specs.Clients.{Wish, name_in, FitATransaction, MayGive, IsServed}

-- Events that mend all sites commit nothing; those that then serve the client put one entry more into the journal, with just what
-- it asked for, and leave a whole world.
pub record CanBeServed (s : Schedule) (q : ℕ) (wishes : List Wish) : Type 0 where
  pub more : List Event
  pub mending : EachPasses s.catalogue (mends (sites_of s.catalogue)) (world_of s) more
  pub fresh : AreFresh (world_of s) more
  pub journal : journal_of (goes_on s more) ≡ journal_of s
  pub served : IsServed (goes_on s more) (sites_of s.catalogue) q wishes (IsWhole s.catalogue)

-- After every schedule that spends no number, a client at any site that has a name left can get any reads, writes and deletes of records of
-- the catalogue committed for which one transaction has room.
abbrev pub ClientsCanBeServed : Type 0
ClientsCanBeServed =
    (s : Schedule) (q : ℕ) (wishes : List Wish)
    → IsCatalogue s.catalogue
    → AreUnspent (sites_of s.catalogue) (world_of s)
    → has (sites_of s.catalogue) q ≡ true
    → HasNameLeft q (world_of s)
    → FitATransaction wishes
    → AllByRecursion (λ wish. is_some (find_record s.catalogue (name_in wish)) ≡ true) wishes
    → AllByRecursion (MayGive s.catalogue (sites_of s.catalogue)) wishes
    → CanBeServed s q wishes

-- A run of fewer steps than there are lives spends none, and takes no last name.
abbrev pub ShortSchedulesServe : Type 0
ShortSchedulesServe =
    (s : Schedule) (q : ℕ) (wishes : List Wish)
    → IsCatalogue s.catalogue
    → length (moments_of s) < 2 ^ 32 - 2
    → has (sites_of s.catalogue) q ≡ true
    → FitATransaction wishes
    → AllByRecursion (λ wish. is_some (find_record s.catalogue (name_in wish)) ≡ true) wishes
    → AllByRecursion (MayGive s.catalogue (sites_of s.catalogue)) wishes
    → CanBeServed s q wishes
