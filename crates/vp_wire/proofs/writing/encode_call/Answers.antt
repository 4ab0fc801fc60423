use Rattle.std.proofs.Common.{[], ◌∷◌, refl}
use Rattle.vp_text.proofs.Printing.{begun_err}
use Rattle.vp_bytes.proofs.Writing.{begun_as}
use Rattle.vp_wire.specs.Grammar.{call_bytes}
use Rattle.vp_contents.specs.declared.version.Version.TheVariants as versions
use Rattle.vp_wire.proofs.writing.encode_call.Goals as goal

pub returns-in_err-put_head : goal.returns-in_err-put_head
returns-in_err-put_head c =
    let begun = rw c.get.ensures.value at c.put_head.ensures.begun in
    begun_err _ _ _ _ c.from_residual.ensures.0 (begun_as c.args.out.now.items (86 ∷ 2 ∷ 32 ∷ 0 ∷ c.args.to ∷ []) (call_bytes versions.Second c.args.call.now) _ _ refl begun)
