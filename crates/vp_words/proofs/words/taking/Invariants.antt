use Rattle.std.proofs.Common.{◌≡◌, map, take, false}
use Rattle.std.specs.Prelude.{fold}
use Rattle.clap.specs.Words.{app_of, new_app}
use Rattle.clap.specs.declared.builder.command.Command.TheViews.{out-Command}
use Rattle.vp_words.specs.Parsed.{with_operand}
use Rattle.vp_words.proofs.words.taking.Given as goal

abbrev pub invariant-loop-operand : goal.invariant-loop-operand
invariant-loop-operand l =
    (app_of l.command ≡ fold with_operand (new_app l.name) (map (λ id. id.now) (take l.operand-index l.operands)))
    × ((out-Command l.command).has_globals ≡ false)
