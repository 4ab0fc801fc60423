use Rattle.std.proofs.Common.{◌∙◌, ap, sym, [], append-nil}
use Rattle.vp_fitting.specs.Fitting.{frames_in}
use Rattle.vp_fitting.specs.Merged.{tells}
use Rattle.vp_merge.specs.Telling.{bytes_of}
use Rattle.vp_merge.proofs.telling.tells.Goals as goal

pub returns-clause-told : goal.returns-clause-told
returns-clause-told c =
    c.ends_alike.ensures ∙ sym (c.in_ok-compare_shown.ensures.compared []) ∙ ap (tells c.args.short (bytes_of c.args.outs.now)) (append-nil (frames_in c.args.site c.args.shown.now))
