use Rattle.std.proofs.Common.{◌∷◌, ◌++◌, append_assoc}
use Rattle.vp_text.proofs.Printing.{begun_err}
use Rattle.vp_bytes.specs.Fields.{counted_bytes, numbered_bytes, owner_bytes}
use Rattle.vp_bytes.proofs.Writing.{begun_as}
use Rattle.vp_wire.proofs.answers.put_lock_held.Goals as goal

pub returns-in_err-put_numbered_name : goal.returns-in_err-put_numbered_name
returns-in_err-put_numbered_name c =
    begun_err _ _ _ _ c.from_residual.ensures.0 (begun_as c.args.out.now.items (numbered_bytes c.args.txn.now c.args.number ++ counted_bytes c.args.name.now) (c.args.at ∷ owner_bytes c.args.owner.now) _ _ (simp append_assoc) c.put_numbered_name.ensures.begun)
