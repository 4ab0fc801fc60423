use Rattle.std.proofs.Common.{[], ◌∷◌, refl}
use Rattle.vp_text.proofs.Printing.{begun_err}
use Rattle.vp_bytes.proofs.Writing.{begun_as}
use Rattle.vp_wire.specs.Grammar.{fields}
use Rattle.vp_wire.specs.Kinds.{frame_code, kind_of_body}
use Rattle.vp_contents.specs.Versions.{version_of}
use Rattle.vp_wire.proofs.writing.encode.Goals as goal

pub returns-in_err-put_head : goal.returns-in_err-put_head
returns-in_err-put_head c =
    let begun = rw c.of_body.ensures at c.put_head.ensures.begun in
    begun_err _ _ _ _ c.from_residual.ensures.0 (begun_as c.args.out.now.items (86 ∷ c.args.frame.now.version ∷ frame_code (kind_of_body c.args.frame.now.body) ∷ c.args.frame.now.from ∷ c.args.frame.now.to ∷ []) (fields (version_of c.args.frame.now.version) c.args.frame.now.body) _ _ (refl) begun)
