use Rattle.std.proofs.Common.{rules, ◌≡◌, ◌∙◌, sym, subst, arith}
use Rattle.std.specs.Fmt.{decimal}
use Rattle.vp_text.specs.Meaning.{IsRefused}
use Rattle.vp_base.specs.Words.{IsValue}
use Rattle.vp_model.specs.Generated.{decimal_of}
use Rattle.vp_replay.proofs.GeneratedCatalogue.{decimal_is, number_is_value}
use Rattle.vp_replay.proofs.drawing.number_value.Goals as goal

pub returns-in-Ok : goal.returns-in-Ok
returns-in-Ok c =
    let text : c.print_number.new.out.items ≡ decimal c.args.number = search rules in
    let spelled : IsValue c.in-Ok.value c.print_number.new.out.items = search rules in
    spelled.is ∙ text ∙ sym (decimal_is c.args.number (omega (arith, c.requires)))

pub unreachable-requires : goal.unreachable-requires
unreachable-requires c =
    let text : c.print_number.new.out.items ≡ decimal c.args.number = search rules in
    let same = text ∙ sym (decimal_is c.args.number (omega (arith, c.requires))) in
    let refused : IsRefused IsValue c.print_number.new.out.items c.in-Err-BadName.field-0-0 = search rules in
    refused.none (decimal_of c.args.number) (subst (IsValue (decimal_of c.args.number)) (sym same) (number_is_value c.args.number c.requires))
