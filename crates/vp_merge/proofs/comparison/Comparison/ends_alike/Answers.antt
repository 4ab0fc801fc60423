use Rattle.std.proofs.Common.{◌∙◌, ap, sym, []}
use Rattle.std.specs.Prelude.{◌&&◌}
use Rattle.vp_fitting.specs.Merged.{tells}
use Rattle.vp_merge.specs.Telling.{bytes_of}
use Rattle.vp_merge.proofs.Comparing.{ends}
use Rattle.vp_merge.proofs.comparison.Comparison.ends_alike.Goals as goal

pub returns-then-self : goal.returns-then-self
returns-then-self c = c.is_empty.ensures ∙ ends c.args.self.now.short c.args.self.now.outs.now ∙ ap (λ b. b && tells c.args.self.now.short (bytes_of c.args.self.now.outs.now) []) (sym c.if-self.true)
