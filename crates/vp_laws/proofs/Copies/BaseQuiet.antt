-- Between the date of a copy and a lasting doubt on it no entry wrote the record, even where a site goes down or starts again.
use Rattle.std.proofs.Common.{subst, ℕ, List}
use Rattle.vp_model.specs.Types.{TxnId, Doubt}
use Rattle.vp_model.specs.Catalogue.{Catalogue}
use Rattle.vp_laws.proofs.Lists.Members.{Has}
use Rattle.vp_laws.proofs.Worlds.Scenes.{Scene, scene_of}
use Rattle.vp_laws.proofs.Worlds.Sites.{Quiet}
use Rattle.vp_laws.proofs.Invariant.Lived.{InvLived}
use Rattle.vp_laws.proofs.Invariant.Copies.{InvCopies}
use Rattle.vp_laws.proofs.Invariant.Base.{Stands, InvBase}
use Rattle.vp_laws.proofs.Invariant.Refresh.{InvRefresh}
use Rattle.vp_laws.proofs.Copies.Quiet.{no_doubt, copy_was, doubts_same, still_live, entry_was}
use Rattle.vp_model.specs.World.{start_world}

-- a site that goes down or starts again
module _ (catalogue : Catalogue) (w new : Scene) (s : ℕ) (q : Quiet catalogue w new s) (lived : InvLived w) (copies : InvCopies catalogue w) (refresh : InvRefresh catalogue w) where
  stands_was : (txn : TxnId) → Stands new txn → Stands w txn
  stands_was txn (Stands.live i y t up here named) = Stands.live i y t (still_live catalogue w new s q lived copies refresh i y t up here) here named
  stands_was txn (Stands.entered e h named) = Stands.entered e (entry_was catalogue w new s q lived copies refresh e h) named

  pub base_quiet : InvBase w → InvBase new
  base_quiet base j rec c u e h there on stands entry wrote later below =
      base j rec c u e (copy_was catalogue w new s q lived copies refresh j rec c h)
      (subst (λ (us : List Doubt). Has us u) (doubts_same catalogue w new s q lived copies refresh j) there) on
      (stands_was u.txn stands) (entry_was catalogue w new s q lived copies refresh e entry) wrote later below

pub base_starts : (catalogue : Catalogue) → InvBase (scene_of (start_world catalogue))
base_starts catalogue = λ s rec c u e h there on stands entry wrote later below. no_doubt catalogue s u there
