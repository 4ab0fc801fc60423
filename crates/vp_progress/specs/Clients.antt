-- What a client asks for, and that it is served: its transaction commits with just that.
use Rattle.std.specs.Prelude.{◌≡◌, ⊤, ℕ, ◌<◌, ◌≤◌, ◌^◌, ◌-◌, true, is_some, List, [], ◌∷◌, ◌++◌, length, sum_by, Some, None}
use Rattle.std.specs.List.{AllByRecursion}
use Rattle.vp_catalog.specs.Document.{IsCatalogue}
use Rattle.vp_model.specs.Types.{Commit, Event}
use Rattle.vp_model.specs.Types.op
use Rattle.vp_model.specs.Words.{has, for_each}
use Rattle.vp_model.specs.Catalogue.{Catalogue, Table, sites_of, find_record, has_holders, accessible_by}
use Rattle.vp_model.specs.Transactions.{Deed, with_operation, with_table}
use Rattle.vp_model.specs.Site.{SiteState}
use Rattle.vp_model.specs.World.{WorldState, Schedule, site_of, journal_of}
use Rattle.vp_progress.specs.Going.{goes_on, EachPasses, AreFresh, serves}
use Rattle.vp_progress.specs.Whole.{IsWhole}
use Rattle.vp_progress.specs.Progress.{world_of}

-- what a client asks of a record, by the record's name: its content, to write this value, to delete it, or to give it this table
pub data Wish : Type 0 where
  read : List ℕ → Wish
  write : List ℕ → List ℕ → Wish
  delete : List ℕ → Wish
  weigh : List ℕ → Table → Wish

abbrev pub name_in : Wish → List ℕ
name_in (Wish.read name) = name
name_in (Wish.write name value) = name
name_in (Wish.delete name) = name
name_in (Wish.weigh name table) = name

-- the bytes of the value that is to be written; a table counts 50
abbrev pub bytes_in : Wish → ℕ
bytes_in (Wish.write name value) = length value
bytes_in (Wish.weigh name table) = 50
bytes_in wish = 0

-- one transaction has room for them: at most 64 operations, and at most 15,360 bytes of values
pub record FitATransaction (wishes : List Wish) : Type 0 where
  pub few : length wishes ≤ 64
  pub small : sum_by bytes_in wishes ≤ 15360

-- the deed does what was asked
abbrev pub Fulfils : Catalogue → Wish → Deed → Type 0
Fulfils catalogue (Wish.read name) (Deed.operates (op.Read rec content)) = find_record catalogue name ≡ Some rec
Fulfils catalogue (Wish.write name wanted) (Deed.operates (op.Write rec content)) = (find_record catalogue name ≡ Some rec) × (content ≡ Some wanted)
Fulfils catalogue (Wish.delete name) (Deed.operates (op.Write rec content)) = (find_record catalogue name ≡ Some rec) × (content ≡ None)
Fulfils catalogue (Wish.weigh name wanted) (Deed.weighs rec table) = (find_record catalogue name ≡ Some rec) × (table ≡ wanted)
Fulfils catalogue wish deed = ⊥

-- one deed for each wish, in their order, and no other
abbrev pub FulfilAll : Catalogue → List Wish → List Deed → Type 0
FulfilAll catalogue [] [] = ⊤
FulfilAll catalogue (wish ∷ wishes) (deed ∷ deeds) = Fulfils catalogue wish deed × FulfilAll catalogue wishes deeds
FulfilAll catalogue wishes deeds = ⊥

-- a table that is to be given has the record's holders, and by it these sites have more than half of the weight
abbrev pub MayGive : Catalogue → List ℕ → Wish → Type 0
MayGive catalogue sites (Wish.weigh name table) = ((rec : ℕ) → find_record catalogue name ≡ Some rec → has_holders catalogue rec table ≡ true) × (accessible_by table sites ≡ true)
MayGive catalogue sites wish = ⊤

-- By calls at the site and messages between these sites alone a transaction of the site enters the journal, and nothing else does;
-- it does just what was asked, and gives no other table. Of the world after it `After` holds.
pub record IsServed (s : Schedule) (sites : List ℕ) (q : ℕ) (wishes : List Wish) (After : WorldState → Type 0) : Type 0 where
  pub more : List Event
  pub serving : EachPasses s.catalogue (serves q sites) (world_of s) more
  pub fresh : AreFresh (world_of s) more
  pub entry : Commit
  pub own : entry.txn.site ≡ q
  pub deeds : List Deed
  pub fulfilled : FulfilAll s.catalogue wishes deeds
  pub ops : entry.ops ≡ for_each deeds with_operation []
  pub tables : entry.tables ≡ for_each deeds with_table []
  pub journal : journal_of (goes_on s more) ≡ journal_of s ++ entry ∷ []
  pub after : After (world_of (goes_on s more))

-- In a whole world a client at any site, with a name left for a transaction, gets any reads, writes, deletes and weighs of records of the catalogue
-- committed for which one transaction has room, and the world is whole after it.
abbrev pub WholeWorldsServe : Type 0
WholeWorldsServe =
    (s : Schedule) (q : ℕ) (x : SiteState) (wishes : List Wish)
    → IsCatalogue s.catalogue
    → IsWhole s.catalogue (world_of s)
    → has (sites_of s.catalogue) q ≡ true
    → site_of (world_of s) q ≡ Some x
    → x.seq < 2 ^ 32 - 1
    → FitATransaction wishes
    → AllByRecursion (λ wish. is_some (find_record s.catalogue (name_in wish)) ≡ true) wishes
    → AllByRecursion (MayGive s.catalogue (sites_of s.catalogue)) wishes
    → IsServed s (sites_of s.catalogue) q wishes (IsWhole s.catalogue)
