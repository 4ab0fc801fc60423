-- A step keeps the bars in order, and none is there where the world starts or a site starts again.
use Rattle.std.proofs.Common.{◌≡◌, subst, ℕ}
use Rattle.std.specs.Prelude.{Some}
use Rattle.vp_model.specs.Words.{value_at}
use Rattle.vp_model.specs.Catalogue.{Catalogue, start_copies}
use Rattle.vp_model.specs.Durable.{DurableState, empty_durable}
use Rattle.vp_model.specs.Site.{SiteState, Stepped}
use Rattle.vp_model.specs.Step.{start}
use Rattle.vp_model.specs.World.{start_world}
use Rattle.vp_laws.proofs.Table.Barred.{AreBarred}
use Rattle.vp_laws.proofs.Worlds.Scenes.{Scene, kept_at, Acted, scene_of}
use Rattle.vp_laws.proofs.Worlds.Sites.{NowIs, now_is, QuietIs, quiet_is, started, Quiet}
use Rattle.vp_laws.proofs.Invariant.Barred.{InvBarred}

pub no_bar : (catalogue : Catalogue) (s : ℕ) (d : DurableState) (rec : ℕ) (bar : ℕ × ℕ) → value_at rec (start catalogue s d).bars ≡ Some bar → ⊥
unfolding start
no_bar catalogue s d rec bar e = cc

none_barred : (catalogue : Catalogue) (s : ℕ) (d : DurableState) → AreBarred (start catalogue s d)
none_barred catalogue s d rec bar e = absurd (no_bar catalogue s d rec bar e)

pub barred_starts : (catalogue : Catalogue) → InvBarred (scene_of (start_world catalogue))
barred_starts catalogue = record { site = λ s x h. subst AreBarred (started catalogue s x h) (none_barred catalogue s (empty_durable (start_copies catalogue s))) }

pub barred_acts : (w new : Scene) (s : ℕ) (x : SiteState) (o : Stepped) → AreBarred o.site → Acted w new s x o → InvBarred w → InvBarred new
barred_acts w new s x o now st inv = record { site = λ k y h. at_site k y (now_is w new s x o st k y h) }
  where
    at_site : (k : ℕ) (y : SiteState) → NowIs w s o.site k y → AreBarred y
    at_site k y (NowIs.other n old) = inv.site k y old
    at_site k y (NowIs.here e same) = subst AreBarred same now

pub barred_quiet : (catalogue : Catalogue) (w new : Scene) (s : ℕ) → Quiet catalogue w new s → InvBarred w → InvBarred new
barred_quiet catalogue w new s q inv = record { site = λ k y h. at_site k y (quiet_is catalogue w new s q k y h) }
  where
    at_site : (k : ℕ) (y : SiteState) → QuietIs catalogue w s k y → AreBarred y
    at_site k y (QuietIs.other n old) = inv.site k y old
    at_site k y (QuietIs.here e same) = subst AreBarred same (none_barred catalogue s (kept_at w s))
