-- Entries in every world: each record that one uses is accessible in its view, and each other holder of what it wrote was sent
-- a prepare and has voted. A site that waits for a view has no doubt and no entry of it.
use Rattle.std.proofs.Common.{◌≡◌, ◌≢◌, ℕ}
use Rattle.std.specs.Prelude.{Some}
use Rattle.vp_model.specs.Types.{ViewId, View, Commit, Doubt}
use Rattle.vp_model.specs.Catalogue.{Catalogue, holders}
use Rattle.vp_model.specs.Site.{SiteState}
use Rattle.vp_laws.proofs.Lists.Members.{Has}
use Rattle.vp_laws.proofs.Worlds.Scenes.{Scene, plain_at}
use Rattle.vp_laws.proofs.Invariant.Shares.{HasVote}
use Rattle.vp_laws.proofs.Journal.ValuesAfter.{Wrote}

-- the agreed view of that identifier
abbrev pub AgreedAs : Scene → ViewId → View → Type 0
AgreedAs w i v = Has w.agreed v × (v.id ≡ i)

-- a holder in an entry's view of a record that it wrote
pub record Affected (catalogue : Catalogue) (w : Scene) (e : Commit) (s : ℕ) : Type 0 where
  -- the entry's view
  pub view : View
  -- as it was agreed
  pub agreed : AgreedAs w e.view view
  -- a record
  pub rec : ℕ
  -- that the entry wrote
  pub wrote : Wrote e rec
  -- and of which the site has a copy
  pub holder : Has (holders catalogue rec) s
  -- the site is a member of the view
  pub member : Has view.members s

pub record InvEntered (catalogue : Catalogue) (w : Scene) : Type 0 where
  -- each holder that an entry affects, but the coordinator, has voted on it
  pub voted : (e : Commit) (s : ℕ) → Has w.journal e → Affected catalogue w e s → s ≢ e.txn.site → HasVote w s e.txn
  -- a site that waits for a view has no doubt of it
  pub no_doubt : (s : ℕ) (x : SiteState) (i : ViewId) (d : Doubt) → plain_at w s ≡ Some x → x.waiting ≡ Some i → Has x.doubts d → d.view ≢ i
  -- nor an entry
  pub no_entry : (s : ℕ) (x : SiteState) (i : ViewId) (e : Commit) → plain_at w s ≡ Some x → x.waiting ≡ Some i → Has w.journal e → e.txn.site ≡ s → e.view ≢ i
