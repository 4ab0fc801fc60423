-- Sites that are together: up, in one view of their own, and idle but for doubts and decisions that no one of them can end.
use Rattle.std.specs.Prelude.{◌≡◌, ◌≢◌, ℕ, ◌<◌, ◌^◌, ◌-◌, true, false, List, [], None, Some}
use Rattle.std.specs.List.{Contains, AllByRecursion}
use Rattle.vp_model.specs.Types.{View, Lock, Doubt, Decision}
use Rattle.vp_model.specs.Words.{has, value_at}
use Rattle.vp_model.specs.Catalogue.{Catalogue, find_record, holders}
use Rattle.vp_model.specs.Site.{SiteState}
use Rattle.vp_model.specs.Refresh.{is_doubtful, refreshing_of}
use Rattle.vp_model.specs.World.{WorldState, Schedule, site_of, is_cut}
use Rattle.vp_progress.specs.Progress.{world_of}
use Rattle.vp_progress.specs.Clients.{Wish, name_in, FitATransaction, MayGive, IsServed}

-- It holds the view, and has nothing of its own or of others that goes on; its doubts are of coordinators elsewhere, and its decisions wait
-- for sites elsewhere.
pub record IsIdle (sites : List ℕ) (v : View) (x : SiteState) : Type 0 where
  pub held : x.held ≡ Some v
  pub live : x.live ≡ []
  pub parts : x.parts ≡ []
  pub doubts : (d : Doubt) → Contains x.doubts d → has sites d.txn.site ≡ false
  pub decisions : (d : Decision) (q : ℕ) → Contains x.decisions d → has sites q ≡ true → has d.waiting q ≡ false

-- One of these sites holds the record, none of them has a bar on it, and none is in doubt about a change of it.
pub record IsFree (catalogue : Catalogue) (sites : List ℕ) (w : WorldState) (rec : ℕ) : Type 0 where
  pub holder : (k : ℕ) × Contains (holders catalogue rec) k × (has sites k ≡ true)
  pub unbarred : (q : ℕ) (x : SiteState) → has sites q ≡ true → site_of w q ≡ Some x → value_at rec x.bars ≡ None
  pub certain : (q : ℕ) (x : SiteState) → has sites q ≡ true → site_of w q ≡ Some x → is_doubtful x rec ≡ false

-- No one has a lock on it here, and it is not under refresh.
pub record IsUnlocked (x : SiteState) (rec : ℕ) : Type 0 where
  pub unlocked : (l : Lock) → Contains x.locks l → l.rec ≢ rec
  pub refreshed : refreshing_of rec x.refresh ≡ None

-- Each of these sites is up and holds one view of just these sites, no two are cut from each other, and each free record is unlocked.
pub record AreTogether (catalogue : Catalogue) (sites : List ℕ) (w : WorldState) : Type 0 where
  pub view : View
  pub members : (q : ℕ) → has view.members q ≡ has sites q
  pub joined : (a b : ℕ) → has sites a ≡ true → has sites b ≡ true → is_cut w a b ≡ false
  pub idle : (q : ℕ) → has sites q ≡ true → (x : SiteState) × (site_of w q ≡ Some x) × IsIdle sites view x
  pub free : (q rec : ℕ) (x : SiteState) → has sites q ≡ true → site_of w q ≡ Some x → IsFree catalogue sites w rec → IsUnlocked x rec

-- They are together after it too, and what was free still is.
pub record StayTogether (catalogue : Catalogue) (sites : List ℕ) (w new : WorldState) : Type 0 where
  pub together : AreTogether catalogue sites new
  pub free : (rec : ℕ) → IsFree catalogue sites w rec → IsFree catalogue sites new rec

-- the wish is of a free record
abbrev pub IsGrantable : Catalogue → List ℕ → WorldState → Wish → Type 0
IsGrantable catalogue sites w wish = (rec : ℕ) × (find_record catalogue (name_in wish) ≡ Some rec) × IsFree catalogue sites w rec

-- Where some sites are together, whatever the others do, a client at any of them, with a name left for a transaction, gets any reads, writes
-- and deletes of free records committed for which one transaction has room.
abbrev pub SitesServe : Type 0
SitesServe =
    (s : Schedule) (sites : List ℕ) (q : ℕ) (x : SiteState) (wishes : List Wish)
    → AreTogether s.catalogue sites (world_of s)
    → has sites q ≡ true
    → site_of (world_of s) q ≡ Some x
    → x.seq < 2 ^ 32 - 1
    → FitATransaction wishes
    → AllByRecursion (IsGrantable s.catalogue sites (world_of s)) wishes
    → AllByRecursion (MayGive s.catalogue sites) wishes
    → IsServed s sites q wishes (StayTogether s.catalogue sites (world_of s))
