use Rattle.std.proofs.Common.{[], ◌∷◌, ◌++◌, append_assoc}
use Rattle.vp_text.proofs.Printing.{begun_err}
use Rattle.vp_bytes.specs.Fields.{numbered_bytes, view_bytes, maybe_view_bytes}
use Rattle.vp_bytes.proofs.Writing.{begun_as}
use Rattle.vp_wire.proofs.answers.put_view_changed.Goals as goal

pub returns-in_err-put_numbered_site : goal.returns-in_err-put_numbered_site
returns-in_err-put_numbered_site c =
    begun_err _ _ _ _ c.from_residual.ensures.0 (begun_as c.args.out.now.items (numbered_bytes c.args.txn.now c.args.number ++ c.args.at ∷ []) (view_bytes c.args.held.now ++ maybe_view_bytes c.args.now.now) _ _ (simp append_assoc) c.put_numbered_site.ensures.begun)
