-- Each site has begun a life; and a site that starts in a later life uses no view.
use Rattle.std.proofs.Common.{◌≡◌, ◌≢◌, ◌∙◌, ap, sym, ℕ, ◌≤◌, Bool, true, false, cond, refl, arith, ⊎_elim}
use Rattle.std.specs.Prelude.{Option, Some, None, ◌==◌, ◌&&◌}
use Rattle.std.proofs.lemmas.Bool.Decides.{nat_tests}
use Rattle.vp_model.specs.Types.{ViewId, View, Input}
use Rattle.vp_model.specs.Words.{same_view, opening}
use Rattle.vp_model.specs.Catalogue.{Catalogue, sites_of}
use Rattle.vp_model.specs.Durable.{DurableState, apply}
use Rattle.vp_model.specs.Site.{SiteState, Stepped}
use Rattle.vp_model.specs.Step.{start, durable_of}
use Rattle.vp_model.specs.World.{Place, place_of, start_world}
use Rattle.vp_laws.proofs.Table.Leaves.{Uses, unused}
use Rattle.vp_laws.proofs.Worlds.Scenes.{Scene, scene_of, kept_in, kept_at, Acted, acted}
use Rattle.vp_laws.proofs.Lists.Views.{same_site}
use Rattle.vp_laws.proofs.Worlds.Sites.{start_at, Quiet}
use Rattle.vp_laws.proofs.Invariant.Lived.{InvLived}

-- a site that starts in a later life uses no view
pub start_unused : (catalogue : Catalogue) (s : ℕ) (d : DurableState) (i : ViewId) → d.life ≢ 0 → Uses (start catalogue s d) i → ⊥
unfolding start
start_unused catalogue s d i n u = unused (start catalogue s d) i (go (d.life == 0) refl) refl refl u
  where
    go : (b : Bool) → (d.life == 0) ≡ b → cond {A = Option View} (b && same_view d.promise opening) (Some (record { id = opening; members = sites_of catalogue })) None ≡ None
    go true e = absurd (n (zero d.life e))
      where
        zero : (a : ℕ) → (a == 0) ≡ true → a ≡ 0
        zero a e = grind (arith, nat_tests, e)
    go false e = refl

first_life : (catalogue : Catalogue) (s : ℕ) (p : Place) → place_of s (scene_of (start_world catalogue)).places ≡ Some p → p.durable.life ≡ 1
unfolding start_world apply
first_life catalogue s p e = let all = start_at catalogue s (sites_of catalogue) p e in ap (λ (p : Place). p.durable.life) (sym all.1)

not_zero : (a : ℕ) → a ≡ 1 → a ≢ 0
not_zero a e f = omega arith

up_from : (a b : ℕ) → a ≢ 0 → a ≤ b → b ≢ 0
up_from a b n h e = n (omega arith)

pub lived_starts : (catalogue : Catalogue) → InvLived (scene_of (start_world catalogue))
lived_starts catalogue = record { lived = λ s p. not_zero _ (ap (λ o. (kept_in o).life) p.1 ∙ first_life catalogue s p.0 p.1) }

pub lived_acts : (w : Scene) (s : ℕ) (x : SiteState) (given : Input) (o : Stepped) → durable_of x ≡ kept_at w s → o.site.life ≡ x.life → Acted w (acted w s x o) s x o → InvLived w → InvLived (acted w s x o)
lived_acts w s x given o kept same st inv = record {
  lived = λ k p. ⊎_elim
      (λ (z : k ≡ s). rw (z, st.kept_now, same, ap (λ (d : DurableState). d.life) kept) (inv.lived s (rw z at (st.moved.there k p.0 p.1))))
      (λ (n : k ≢ s). rw (ap kept_in (st.moved.others k n)) (inv.lived k (st.moved.there k p.0 p.1)))
      (same_site k s);
}

pub lived_quiet : (catalogue : Catalogue) (w new : Scene) (s : ℕ) → Quiet catalogue w new s → InvLived w → InvLived new
lived_quiet catalogue w new s q inv = record {
  lived = λ k p. ⊎_elim
      (λ (z : k ≡ s). rw z (up_from _ _ (inv.lived s (rw z at (q.moved.there k p.0 p.1))) q.life))
      (λ (n : k ≢ s). rw (ap kept_in (q.moved.others k n)) (inv.lived k (q.moved.there k p.0 p.1)))
      (same_site k s);
}
