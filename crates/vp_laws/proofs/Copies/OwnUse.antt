-- A live transaction runs in the view that its site holds, and a record on which it has a lock there has no bar.
use Rattle.std.proofs.Common.{◌≡◌, ◌∙◌, ap, sym, ℕ, Bool, true, refl}
use Rattle.std.specs.Prelude.{Option, Some, None}
use Rattle.vp_model.specs.Types.{TxnId, View, Live}
use Rattle.vp_model.specs.Types.owner
use Rattle.vp_model.specs.Words.{value_at}
use Rattle.vp_model.specs.Catalogue.{Catalogue}
use Rattle.vp_model.specs.Refresh.{is_open}
use Rattle.vp_model.specs.Site.{SiteState}
use Rattle.vp_laws.proofs.Lists.Members.{Has}
use Rattle.vp_laws.proofs.Lists.LockTables.{HasLock}
use Rattle.vp_laws.proofs.Table.Led.{IsOf}
use Rattle.vp_laws.proofs.Worlds.Scenes.{Scene, plain_at}
use Rattle.vp_laws.proofs.Invariant.Entered.{AgreedAs}
use Rattle.vp_laws.proofs.Invariant.Known.{Known}

module _ (catalogue : Catalogue) (w : Scene) (k : Known catalogue w) (s : ℕ) (x : SiteState) (t : Live) (up : plain_at w s ≡ Some x) (live : Has x.live t) where
  of : IsOf x t
  of = (k.led.site s x up).live t live

  pub view_is : (v : View) → AgreedAs w t.view v → x.held ≡ Some v
  view_is v a = of.1 ∙ ap (λ (v : View). Some v) (k.views.unique of.0 v ((k.views.site s x up).held of.0 of.1) a.0 (of.2 ∙ sym a.1))

  -- the locks on a barred record are of transactions in doubt here, which are of other sites
  pub lock_open : (rec : ℕ) (exclusive : Bool) → HasLock rec exclusive (owner.Txn t.txn) x.locks → is_open x rec ≡ true
  lock_open rec exclusive lock = go (value_at rec x.bars) refl
    where
      go : (bar : Option (ℕ × ℕ)) → value_at rec x.bars ≡ bar → is_open x rec ≡ true
      go None e = rw e refl
      go (Some bar) e =
          let u = (k.barred.site s x up rec bar e).owners lock.lock t.txn lock.has lock.on lock.by in
          absurd (((k.below.site s x up).doubts u.0 u.1).1 (ap (λ (t : TxnId). t.site) u.2 ∙ ((k.led.site s x up).names t live).0))
