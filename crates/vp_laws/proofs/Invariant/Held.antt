-- The copies of a site, in every world: one for each record that it holds.
use Rattle.std.proofs.Common.{◌≡◌, ◌∙◌, ap, sym, subst, ℕ, List, refl}
use Rattle.std.specs.Prelude.{Option, Some, None}
use Rattle.vp_model.specs.Types.{Stored}
use Rattle.vp_model.specs.Words.{keys, value_at}
use Rattle.vp_model.specs.Catalogue.{Catalogue, holders, start_copies}
use Rattle.vp_model.specs.Durable.{DurableState}
use Rattle.vp_model.specs.Site.{SiteState}
use Rattle.vp_model.specs.Step.{durable_of}
use Rattle.vp_model.specs.World.{Place, place_of}
use Rattle.vp_laws.proofs.Lists.Members.{Has, has_none}
use Rattle.vp_laws.proofs.Worlds.Scenes.{Scene, kept_in, up-place, plain_at, kept_at}
use Rattle.vp_laws.proofs.Lists.Numbers.{from_first}
use Rattle.vp_laws.proofs.Lists.StartCopies.{placed, places, start_differ}
use Rattle.vp_laws.proofs.Lists.Pairs.{not_copied, pair_value}

pub record InvHeld (catalogue : Catalogue) (w : Scene) : Type 0 where
  -- each site of the world has the copies that it had at first, by their records
  pub held : (s : ℕ) (p : Place) → place_of s w.places ≡ Some p → keys (kept_at w s).copies ≡ keys (start_copies catalogue s)

module _ (catalogue : Catalogue) (w : Scene) (s : ℕ) (x : SiteState) (up : plain_at w s ≡ Some x) (kept : durable_of x ≡ kept_at w s) (inv : InvHeld catalogue w) where
  pub copies_here : keys x.copies ≡ keys (start_copies catalogue s)
  copies_here = let p = up-place (place_of s w.places) x up in ap (λ (d : DurableState). keys d.copies) kept ∙ inv.held s p.0 p.1

  -- it has one copy of a record
  pub copy_value : (rec : ℕ) (stored : Stored) → Has x.copies (rec, stored) → value_at rec x.copies ≡ Some stored
  copy_value rec stored h = pair_value x.copies rec stored (rw copies_here (start_differ 0 catalogue.records s)) h

  -- it has a copy of each record that it holds, and of no other
  pub holds_copy : (rec : ℕ) → Has (holders catalogue rec) s → Has (keys x.copies) rec
  holds_copy rec h = rw copies_here (subst (Has (keys (start_copies catalogue s))) (from_first rec) (places 0 catalogue.records s rec h))

  pub copy_held : (rec : ℕ) → Has (keys x.copies) rec → Has (holders catalogue rec) s
  copy_held rec h =
      let q = placed 0 catalogue.records s rec (rw copies_here at h) in
      subst (λ (n : ℕ). Has (holders catalogue n) s) (sym (q.1 ∙ from_first q.0)) q.2

  pub has_copy : (rec : ℕ) → Has (holders catalogue rec) s → (stored : Stored) × (value_at rec x.copies ≡ Some stored)
  has_copy rec h = go (value_at rec x.copies) refl
    where
      go : (o : Option Stored) → value_at rec x.copies ≡ o → (stored : Stored) × (value_at rec x.copies ≡ Some stored)
      go None e = absurd (not_copied rec x.copies e (holds_copy rec h))
      go (Some stored) e = (stored, e)

-- a site, up or down, holds what it has a copy of
pub holder_kept : (catalogue : Catalogue) (w : Scene) (s rec : ℕ) → InvHeld catalogue w → Has (keys (kept_at w s).copies) rec → Has (holders catalogue rec) s
holder_kept catalogue w s rec inv h = go (place_of s w.places) refl
  where
    go : (o : Option Place) → place_of s w.places ≡ o → Has (holders catalogue rec) s
    go None e = absurd (has_none rec (subst (λ (o : Option Place). Has (keys (kept_in o).copies) rec) e h))
    go (Some p) e =
        let q = placed 0 catalogue.records s rec (subst (λ (ks : List ℕ). Has ks rec) (inv.held s p e) h) in
        subst (λ (n : ℕ). Has (holders catalogue n) s) (sym (q.1 ∙ from_first q.0)) q.2
