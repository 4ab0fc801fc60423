use Rattle.std.proofs.Common.{◌≡◌, OnOk, ℕ, List, subst}
use Rattle.vp_pictures.specs.Sheets.{add_text_line}
use Rattle.vp_pictures.specs.declared.shape.Ink.TheVariants as ink
use Rattle.vp_pictures.proofs.sheet.Sheet.explain.Goals as goal

-- src/head.rt:98:5
pub returns : goal.returns
returns c = subst (λ (t : List ℕ). OnOk c.say.result (c.say.new.self ≡ add_text_line 56 ink.Faint t c.args.self.now)) c.in_ok-text.ensures c.say.ensures
