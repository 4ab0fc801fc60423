use Rattle.std.proofs.Common.{rules, ◌≡◌, sym, subst}
use Rattle.std.specs.Fmt.{decimal}
use Rattle.vp_text.specs.Meaning.{IsRefused}
use Rattle.vp_base.specs.Words.{IsValue}
use Rattle.vp_proc.proofs.Numbers.{number_is_value}
use Rattle.vp_proc.proofs.content.value_of_number.Goals as goal

pub unreachable-requires : goal.unreachable-requires
unreachable-requires c =
    let text : c.print_number.new.out.items ≡ decimal c.args.number = search rules in
    let refused : IsRefused IsValue c.print_number.new.out.items c.in-Err-BadName.field-0-0 = search rules in
    refused.none (decimal c.args.number) (subst (IsValue (decimal c.args.number)) (sym text) (number_is_value c.args.number c.ranges.number.fits))
