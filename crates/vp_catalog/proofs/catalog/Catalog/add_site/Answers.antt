use Rattle.std.proofs.Common.{◌≡◌, ℕ, List, [], ◌∷◌, ◌++◌, length, false, sym, ap, subst, ◌∙◌}
use Rattle.std.proofs.lemmas.List.{map-append}
use Rattle.vp_model.specs.Catalogue.{Catalogue}
use Rattle.vp_catalog.specs.Entries.{IsSite, last_site, has_port}
use Rattle.vp_catalog.proofs.Steps.{site_added}
use Rattle.vp_catalog.proofs.catalog.Catalog.add_site.Goals as goal

pub invariant_of-self-2 : goal.invariant_of-self-2
invariant_of-self-2 c =
    let site : ℕ × ℕ = (c.args.site, c.args.port) in
    let back = sym c.self.view_is in
    let first = subst (λ (d : Catalogue). length d.records ≡ 0) back c.requires.first in
    let allowed = subst (λ (d : Catalogue). IsSite (last_site d) site) back c.requires.allowed in
    let fresh = subst (λ (d : Catalogue). has_port d c.args.port ≡ false) back c.requires.fresh in
    let here : Catalogue = record { sites = c.self.inside.ports.items; records = c.self.inside.records.items } in
    let sites = c.in_ok-push.ensures.ok ∙ ap (λ (s : List ℕ). s ++ c.args.site ∷ []) c.self.invariant.0 ∙ sym (map-append (λ (p : ℕ × ℕ). p.0) c.self.inside.ports.items (site ∷ [])) in
    rw (c.push_reserved.ensures.items, c.in_ok-reserve.ensures.items) (sites, c.self.invariant.1, site_added here site c.self.invariant.2 first allowed fresh)
