use Rattle.std.proofs.Common.{rules, ◌≡◌, ◌∙◌, ◌++◌, ◌∷◌, [], ap, refl, reverse}
use Rattle.std.proofs.lemmas.List.{reverse-append}
use Rattle.vp_disks.specs.declared.changes.Change.TheVariants.{Laid}
use Rattle.vp_disks.proofs.NamedPlaces.{Keeps-changed, Keeps-changed_unnamed}
use Rattle.vp_disks.proofs.sure_disk.SureDisk.lay.Goals as goal

pub invariant_of-self-in-Some : goal.invariant_of-self-in-Some
invariant_of-self-in-Some c =
    let disk = c.self.inside in
    let at = c.index_mut.result.now in
    let change = Laid c.args.first.items c.args.second.items in
    let added : c.laid.new.self ≡ disk.changes ++ change ∷ [] = search rules in
    Keeps-changed disk.unnamed disk.named.items disk.place (reverse disk.changes) c.self.invariant
    c.in-Some.place at (record { name = at.name; log = c.of_halves-laid.result }) c.in-Some.is c.index_mut.ensures.value refl
    change (λ _. (c.args.first.items, c.args.second.items)) c.of_halves-laid.ensures refl (λ earlier. refl)
    _ (ap reverse added ∙ reverse-append disk.changes (change ∷ []))

pub invariant_of-self-in-None : goal.invariant_of-self-in-None
invariant_of-self-in-None c =
    let disk = c.self.inside in
    let change = Laid c.args.first.items c.args.second.items in
    let added : c.laid.new.self ≡ disk.changes ++ change ∷ [] = search rules in
    Keeps-changed_unnamed disk.unnamed c.of_halves-laid.result disk.named.items disk.place (reverse disk.changes) c.self.invariant c.in-None.is
    change (λ _. (c.args.first.items, c.args.second.items)) c.of_halves-laid.ensures refl (λ earlier. refl)
    _ (ap reverse added ∙ reverse-append disk.changes (change ∷ []))
