-- The holders of a record are sites of the catalogue.
use Rattle.std.proofs.Common.{◌≡◌, ℕ, List, [], ◌∷◌, subst, ⊎_elim}
use Rattle.std.specs.Prelude.{Option, not, ◌==◌, ◌&&◌}
use Rattle.vp_catalog.specs.Document.{IsCatalogue}
use Rattle.vp_catalog.specs.Entries.{AreWeights}
use Rattle.vp_model.specs.Types.{View}
use Rattle.vp_model.specs.Words.{has, keys}
use Rattle.vp_model.specs.Catalogue.{Catalogue, sites_of, weights_of, holders}
use Rattle.vp_model.specs.Refresh.{members_in, other_holders_in}
use Rattle.vp_laws.proofs.Lists.Members.{Has, has_none, has_cons, has_from_test, filter_has}
use Rattle.vp_laws.proofs.Shapes.Catalogue.{weights_at}

module _ (c : Catalogue) (k : IsCatalogue c) where
  weights_stand : (above : ℕ) (ws : List (ℕ × ℕ)) → AreWeights (sites_of c) above ws → (q : ℕ) → Has (keys ws) q → Has (sites_of c) q
  weights_stand above [] h q k = absurd (has_none q k)
  weights_stand above (w ∷ ws) h q k =
      ⊎_elim (λ (same : w.0 ≡ q). subst (Has (sites_of c)) same (has_from_test (sites_of c) w.0 h.0.stands)) (λ (more : Has (keys ws) q). weights_stand w.0 ws h.1 q more) (has_cons w.0 (keys ws) q k)

  pub other_holders_stand : (id : ℕ) (held : Option View) (rec q : ℕ) → Has (other_holders_in c id held rec) q → Has (sites_of c) q
  other_holders_stand id held rec q h = weights_stand 0 (weights_of c rec) (weights_at c k rec) q (filter_has (λ (q : ℕ). has (members_in held) q && not (q == id)) (holders c rec) q h).0
