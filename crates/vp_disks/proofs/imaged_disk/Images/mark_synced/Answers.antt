use Rattle.std.proofs.Common.{◌∙◌, ap, refl, false, true}
use Rattle.vp_disks.specs.Changes.{asked_of, changes_of, content_of}
use Rattle.vp_disks.specs.declared.changes.Change.TheVariants.{Laid, Synced}
use Rattle.vp_disks.proofs.LeftImages.{left_changed, left_unchanged}
use Rattle.vp_disks.proofs.imaged_disk.Images.mark_synced.Goals as goal

pub returns : goal.returns
returns c = λ changes are.
    let old = c.args.self.now in
    let log = c.attached_log.result.now in
    let same = c.attached_log.ensures ∙ ap (λ asked. content_of (changes_of asked old.late)) are.0.asked ∙ are.0.images (asked_of changes) in (
      left_unchanged true Synced (λ earlier. refl) changes old.late refl are.0,
      left_changed false Synced (Laid log.0 log.1) changes old.synced are.1 refl refl same c.lay_alone.new.self c.in_ok-lay_alone.ensures,
    )
