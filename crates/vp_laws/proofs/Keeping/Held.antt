-- Each site keeps the copies of the records that it holds.
use Rattle.std.proofs.Common.{◌≡◌, ◌≢◌, ◌⊎◌, ◌∙◌, ap, sym, subst, ℕ, List, inl, inr}
use Rattle.std.specs.Prelude.{Some}
use Rattle.vp_model.specs.Types.{Input, Stored}
use Rattle.vp_model.specs.Words.{keys}
use Rattle.vp_model.specs.Catalogue.{Catalogue, sites_of, start_copies}
use Rattle.vp_model.specs.Durable.{DurableState, apply}
use Rattle.vp_model.specs.Site.{SiteState, Stepped}
use Rattle.vp_model.specs.Step.{durable_of}
use Rattle.vp_model.specs.World.{Place, place_of, start_world}
use Rattle.vp_laws.proofs.Lists.Views.{same_site}
use Rattle.vp_laws.proofs.Worlds.Scenes.{Scene, scene_of, kept_in, kept_at, Acted, acted}
use Rattle.vp_laws.proofs.Table.Locks.{Guards}
use Rattle.vp_laws.proofs.Worlds.Sites.{start_at, Quiet}
use Rattle.vp_laws.proofs.Invariant.Held.{InvHeld}

first_copies : (catalogue : Catalogue) (s : ℕ) (p : Place) → place_of s (scene_of (start_world catalogue)).places ≡ Some p → keys p.durable.copies ≡ keys (start_copies catalogue s)
unfolding start_world apply
first_copies catalogue s p e = let all = start_at catalogue s (sites_of catalogue) p e in ap (λ (p : Place). keys p.durable.copies) (sym all.1)

pub held_starts : (catalogue : Catalogue) → InvHeld catalogue (scene_of (start_world catalogue))
held_starts catalogue = record { held = λ s p e. ap (λ o. keys (kept_in o).copies) e ∙ first_copies catalogue s p e }

pub held_acts : (catalogue : Catalogue) (w : Scene) (s : ℕ) (x : SiteState) (given : Input) (o : Stepped) → durable_of x ≡ kept_at w s → Guards catalogue x given o → Acted w (acted w s x o) s x o → InvHeld catalogue w → InvHeld catalogue (acted w s x o)
held_acts catalogue w s x given o kept g st inv = record { held = λ k p e. let was = st.moved.there k p e in go k was.0 was.1 (same_site k s) }
  where
    go : (k : ℕ) (p : Place) → place_of k w.places ≡ Some p → (k ≡ s) ⊎ (k ≢ s) → keys (kept_at (acted w s x o) k).copies ≡ keys (start_copies catalogue k)
    go k p e (inl z) = subst (λ (k : ℕ). keys (kept_at (acted w s x o) k).copies ≡ keys (start_copies catalogue k)) (sym z) (ap (λ (d : DurableState). keys d.copies) st.kept_now ∙ g.copied ∙ ap (λ (d : DurableState). keys d.copies) kept ∙ inv.held s p (subst (λ (k : ℕ). place_of k w.places ≡ Some p) z e))
    go k p e (inr n) = ap (λ o. keys (kept_in o).copies) (st.moved.others k n) ∙ inv.held k p e

pub held_quiet : (catalogue : Catalogue) (w new : Scene) (s : ℕ) → Quiet catalogue w new s → InvHeld catalogue w → InvHeld catalogue new
held_quiet catalogue w new s q inv = record { held = λ k p e. let was = q.moved.there k p e in held_at w new s q inv k was.0 was.1 (same_site k s) }
  where
    held_at : (w new : Scene) (s : ℕ) → Quiet catalogue w new s → InvHeld catalogue w → (k : ℕ) (p : Place) → place_of k w.places ≡ Some p → (k ≡ s) ⊎ (k ≢ s) → keys (kept_at new k).copies ≡ keys (start_copies catalogue k)
    held_at w new s q inv k p e (inl z) = subst (λ (k : ℕ). keys (kept_at new k).copies ≡ keys (start_copies catalogue k)) (sym z) (ap (λ (cs : List (ℕ × Stored)). keys cs) q.copies ∙ inv.held s p (subst (λ (k : ℕ). place_of k w.places ≡ Some p) z e))
    held_at w new s q inv k p e (inr n) = ap (λ o. keys (kept_in o).copies) (q.moved.others k n) ∙ inv.held k p e
