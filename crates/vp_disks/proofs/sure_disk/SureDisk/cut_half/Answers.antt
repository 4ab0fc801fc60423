use Rattle.std.proofs.Common.{◌∙◌, ◌∷◌, [], ap, refl, reverse, take}
use Rattle.std.proofs.lemmas.List.{reverse-append}
use Rattle.vp_outside.specs.Disk.{in_half}
use Rattle.vp_disks.specs.declared.changes.Change.TheVariants.{Cut}
use Rattle.vp_disks.proofs.NamedPlaces.{Keeps-changed}
use Rattle.vp_disks.proofs.sure_disk.SureDisk.cut_half.Goals as goal

pub invariant_of-self-in-Some : goal.invariant_of-self-in-Some
invariant_of-self-in-Some c =
    let disk = c.self.inside in
    let at = c.index_mut.result.now in
    let change = Cut c.args.half c.args.length in
    Keeps-changed disk.unnamed disk.named.items disk.place (reverse disk.changes) c.self.invariant
    c.in-Some.place at (record { name = at.name; log = c.cut-in-Some.new.self }) c.in-Some.is c.index_mut.ensures.value refl
    change (in_half c.args.half (take c.args.length)) c.cut-in-Some.ensures refl (λ earlier. refl)
    _ (ap reverse c.in_ok-cut.ensures.ok ∙ reverse-append disk.changes (change ∷ []))
