-- Records under refresh, in every world: each has a copy here, and no entry of the held view has written it.
use Rattle.std.proofs.Common.{◌≡◌, ◌≢◌, ℕ}
use Rattle.std.specs.Prelude.{Some}
use Rattle.vp_model.specs.Types.{View, Commit, Refreshing}
use Rattle.vp_model.specs.Words.{keys}
use Rattle.vp_model.specs.Catalogue.{Catalogue}
use Rattle.vp_model.specs.Site.{SiteState}
use Rattle.vp_laws.proofs.Lists.Members.{Has}
use Rattle.vp_laws.proofs.Worlds.Scenes.{Scene, plain_at}
use Rattle.vp_laws.proofs.Journal.ValuesAfter.{Wrote}

pub record InvListed (catalogue : Catalogue) (w : Scene) : Type 0 where
  -- what is under refresh has a copy here
  pub listed : (s : ℕ) (x : SiteState) (r : Refreshing) → plain_at w s ≡ Some x → Has x.refresh r → Has (keys x.copies) r.rec
  -- no entry of the held view has written it
  pub unwritten : (s : ℕ) (x : SiteState) (v : View) (r : Refreshing) (e : Commit) → plain_at w s ≡ Some x → x.held ≡ Some v → Has x.refresh r → Has w.journal e → Wrote e r.rec → e.view ≢ v.id
