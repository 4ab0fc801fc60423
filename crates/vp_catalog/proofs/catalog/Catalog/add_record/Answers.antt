use Rattle.std.proofs.Common.{◌≡◌, ◌∙◌, ◌<◌, length, false, refl, sym, subst}
use Rattle.vp_model.specs.Catalogue.{Catalogue, sites_of}
use Rattle.std.proofs.lemmas.Result.{err_from_is_err_and}
use Rattle.vp_catalog.specs.Entries.{IsRecord, has_name}
use Rattle.vp_catalog.proofs.Names.{name_added}
use Rattle.vp_catalog.proofs.Steps.{record_added}
use Rattle.vp_catalog.proofs.catalog.Catalog.add_record.Goals as goal

pub invariant_of-self-2 : goal.invariant_of-self-2
invariant_of-self-2 c =
    let back = sym c.self.view_is in
    let room = subst (λ (d : Catalogue). length d.records < 256) back c.requires.room in
    let allowed = subst (λ (d : Catalogue). IsRecord (sites_of d) c.args.placed) back c.requires.allowed in
    let fresh = subst (λ (d : Catalogue). has_name d c.args.placed.name ≡ false) back c.requires.fresh in
    let here : Catalogue = record { sites = c.self.inside.ports.items; records = c.self.inside.records.items } in
    let names = name_added (λ k. k.items) c.self.inside.names.keys c.self.inside.records.items c.self.invariant.1 c.in_ok-name.name c.args.placed (c.in_ok-name.ensures.items ∙ c.as_bytes.ensures.bytes ∙ c.name.ensures) fresh in
    (c.self.invariant.0, rw (c.push_reserved.ensures.items, c.in_ok-reserve.ensures.items, c.in_ok-insert.ensures.keys) names, rw (c.push_reserved.ensures.items, c.in_ok-reserve.ensures.items) (record_added here c.args.placed c.self.invariant.2 allowed room fresh))

pub returns-in_err-name : goal.returns-in_err-name
returns-in_err-name c =
    let p = err_from_is_err_and c.from_residual-in_err-name.result c.from_residual-in_err-name.ensures.1 in
    rw (p.1, c.in_ok-reserve.ensures.items) c.self.view_is

pub invariant_of-self : goal.invariant_of-self
invariant_of-self c = rw c.in_err-reserve.ensures.items c.self.invariant

pub returns-in_err-reserve : goal.returns-in_err-reserve
returns-in_err-reserve c =
    let p = err_from_is_err_and c.from_residual.result c.from_residual.ensures.1 in
    rw (p.1, c.in_err-reserve.ensures.items) c.self.view_is

pub returns : goal.returns
returns c = rw (c.push_reserved.ensures.items, c.in_ok-reserve.ensures.items, ← c.self.view_is) refl
