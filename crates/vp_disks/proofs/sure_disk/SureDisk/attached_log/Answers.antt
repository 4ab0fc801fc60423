use Rattle.std.proofs.Common.{◌∙◌, ap}
use Rattle.vp_disks.specs.Changes.{asked_of, changes_of, content_of}
use Rattle.vp_disks.proofs.NamedPlaces.{Keeps-at}
use Rattle.vp_disks.proofs.sure_disk.SureDisk.attached_log.Goals as goal

pub returns-in-Some : goal.returns-in-Some
returns-in-Some c =
    let disk = c.self.inside in
    Keeps-at disk.unnamed disk.named.items disk.place _ c.self.invariant c.in-Some.place c.index.result.now c.in-Some.is c.index.ensures
    ∙ ap (λ changes. content_of (changes_of (asked_of changes) changes)) c.self.view_is
