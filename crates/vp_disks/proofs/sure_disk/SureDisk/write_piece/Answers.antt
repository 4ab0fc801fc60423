use Rattle.std.proofs.Common.{rules, ◌≡◌, ◌∙◌, ◌∷◌, [], ap, refl, sym, subst, reverse}
use Rattle.std.proofs.lemmas.List.{reverse-append}
use Rattle.vp_outside.specs.Disk.{in_half, write_bytes_at}
use Rattle.vp_disks.specs.NamedLogs.{Keeps}
use Rattle.vp_disks.specs.declared.changes.Change.TheVariants.{Wrote}
use Rattle.vp_disks.proofs.NamedPlaces.{Keeps-changed, Keeps-changed_unnamed}
use Rattle.vp_disks.proofs.sure_disk.SureDisk.write_piece.Goals as goal
use Rattle.vp_disks.proofs.sure_disk.SureDisk.write_piece.Goals.{in-None, in-Some}

pub invariant_of-self-else-is_err : goal.invariant_of-self-else-is_err
invariant_of-self-else-is_err c =
    let disk = c.self.inside in
    let change = Wrote c.args.half c.args.at c.args.piece.now in
    let over = in_half c.args.half (write_bytes_at c.args.at c.args.piece.now) in
    let added = ap reverse c.in_ok-wrote.ensures.ok ∙ reverse-append disk.changes (change ∷ []) in
    elim c.match-self.branch [
      | in-None w ↦
          let written : w.write_at-written.new.self ≡ over disk.unnamed = search rules in
          subst (λ inside. Keeps inside.unnamed inside.named.items inside.place (reverse inside.changes)) (sym w.self-inside-is)
          (Keeps-changed_unnamed disk.unnamed w.write_at-written.new.self disk.named.items disk.place (reverse disk.changes) c.self.invariant w.in-None.is
          change over written refl (λ earlier. refl) _ added)
      | in-Some w ↦
          let at = w.index_mut.result.now in
          let written : w.write_at-written-in-Some.new.self ≡ over at.log = search rules in
          subst (λ inside. Keeps inside.unnamed inside.named.items inside.place (reverse inside.changes)) (sym w.self-inside-is)
          (Keeps-changed disk.unnamed disk.named.items disk.place (reverse disk.changes) c.self.invariant
          w.in-Some.place at (record { name = at.name; log = w.write_at-written-in-Some.new.self }) w.in-Some.is w.index_mut.ensures.value refl
          change over written refl (λ earlier. refl) _ added)
    ]
