use Rattle.std.proofs.Common.{[], ◌∷◌, refl}
use Rattle.vp_text.proofs.Printing.{begun_err}
use Rattle.vp_bytes.proofs.Writing.{begun_as}
use Rattle.vp_wire.specs.Grammar.{message_fields}
use Rattle.vp_wire.specs.Kinds.{message_code, kind_of_message}
use Rattle.vp_contents.specs.declared.version.Version.TheVariants as versions
use Rattle.vp_wire.proofs.writing.encode_message.Goals as goal

pub returns-in_err-put_head : goal.returns-in_err-put_head
returns-in_err-put_head c =
    let begun = rw (c.of_message.ensures, c.get.ensures.value, c.get-2.ensures.value) at c.put_head.ensures.begun in
    begun_err _ _ _ _ c.from_residual.ensures.0 (begun_as c.args.out.now.items (86 ∷ 2 ∷ message_code (kind_of_message c.args.message.now) ∷ c.args.from ∷ c.args.to ∷ []) (message_fields versions.Second c.args.message.now) _ _ refl begun)
