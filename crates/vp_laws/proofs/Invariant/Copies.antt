-- The copies of each site, in every world.
use Rattle.std.proofs.Common.{◌≡◌, ◌≢◌, ℕ, true, List, ◌∷◌, ◌++◌}
use Rattle.std.specs.Prelude.{Some, None}
use Rattle.vp_model.specs.Types.{ViewId, View, Commit, Stored, Doubt}
use Rattle.vp_model.specs.Words.{keys, value_at}
use Rattle.vp_model.specs.Refresh.{is_open, refreshing_of}
use Rattle.vp_model.specs.Catalogue.{Catalogue}
use Rattle.vp_model.specs.Site.{SiteState}
use Rattle.vp_laws.proofs.Lists.Members.{Has}
use Rattle.vp_laws.proofs.Lists.Views.{Precedes}
use Rattle.vp_laws.proofs.Worlds.Scenes.{Scene, plain_at, kept_at}
use Rattle.vp_laws.proofs.Invariant.Shares.{InDoubt}
use Rattle.vp_laws.proofs.Invariant.Entered.{AgreedAs}
use Rattle.vp_laws.proofs.Journal.ValuesAfter.{content_of, Wrote, value_after, without_entry}
use Rattle.vp_laws.proofs.Invariant.Closed.{Open}

-- the site holds the record in the date's view, or the record is closed for a later view of the site
pub data FromView (catalogue : Catalogue) (w : Scene) (s rec : ℕ) (date : ViewId) : Type 0 where
  member : (v : View) → AgreedAs w date v → Has v.members s → FromView catalogue w s rec date
  closed : (v : View) → Has w.agreed v → Precedes date v.id → Has v.members s → Open catalogue w rec v → FromView catalogue w s rec date

-- the transaction in doubt here of the date's view that writes the record
abbrev pub DoubtOn : Scene → ℕ → ℕ → ViewId → Doubt → Type 0
DoubtOn w s rec date d = Has (kept_at w s).doubts d × Has (keys d.writes) rec × (d.view ≡ date)

pub record InvCopies (catalogue : Catalogue) (w : Scene) : Type 0 where
  -- a copy has the value after the entries of views up to its date, but for the entry of a doubt of that view
  pub value : (s rec : ℕ) (c : Stored) → value_at rec (kept_at w s).copies ≡ Some c → ((d : Doubt) → DoubtOn w s rec c.date d → ⊥) → value_after catalogue w.journal c.date rec ≡ Some (content_of c)
  -- with such a doubt it has the value without its entry
  pub value_in_doubt : (s rec : ℕ) (c : Stored) (d : Doubt) → value_at rec (kept_at w s).copies ≡ Some c → DoubtOn w s rec c.date d → value_after catalogue (without_entry d.txn w.journal) c.date rec ≡ Some (content_of c)
  -- and no later entry of that view than the doubt's own wrote the record
  pub last : (s rec : ℕ) (c : Stored) (d : Doubt) (front back : List Commit) (e f : Commit) → value_at rec (kept_at w s).copies ≡ Some c → DoubtOn w s rec c.date d → w.journal ≡ front ++ e ∷ back → e.txn ≡ d.txn → Has back f → Wrote f rec → f.view ≢ e.view
  -- each entry that wrote the record in a later view of the site is in doubt there
  pub above : (s rec : ℕ) (c : Stored) (e : Commit) (v : View) → value_at rec (kept_at w s).copies ≡ Some c → Has w.journal e → Wrote e rec → Precedes c.date e.view → AgreedAs w e.view v → Has v.members s → InDoubt w s e.txn
  -- where a copy is from
  pub from : (s rec : ℕ) (c : Stored) → value_at rec (kept_at w s).copies ≡ Some c → FromView catalogue w s rec c.date
  -- a copy that has no bar and is not under refresh has missed no entry below the held view
  pub between : (s rec : ℕ) (x : SiteState) (v : View) (c : Stored) (e : Commit) → plain_at w s ≡ Some x → x.held ≡ Some v → is_open x rec ≡ true → refreshing_of rec x.refresh ≡ None → value_at rec x.copies ≡ Some c → Has w.journal e → Wrote e rec → Precedes c.date e.view → Precedes e.view v.id → ⊥
  -- and its record is closed for the held view
  pub open_copy : (s rec : ℕ) (x : SiteState) (v : View) (c : Stored) → plain_at w s ≡ Some x → x.held ≡ Some v → is_open x rec ≡ true → refreshing_of rec x.refresh ≡ None → value_at rec x.copies ≡ Some c → Open catalogue w rec v
