use Rattle.std.proofs.Common.{◌∙◌, ℕ, List, refl, sym, ap, take}
use Rattle.std.specs.Prelude.{codes}
use Rattle.vp_text.proofs.Newlines.{key_clean}
use Rattle.vp_lines.proofs.CutTexts.{read_alike}
use Rattle.vp_lines.proofs.worked.lines_however_cut.Goals as goal

pub returns-clause-line : goal.returns-clause-line
returns-clause-line c old new line source source' h e =
    let same = read_alike (codes "begin") (codes "foo") h.body new.unread (key_clean (codes "begin") refl) h.plain (sym e ∙ h.parts) in
    (h.kept ∙ ap (λ (l : List ℕ). take 4097 l) (sym same.0), sym same.1)

pub returns-clause-long : goal.returns-clause-long
returns-clause-long c old new line source source' h e =
    let same = read_alike (codes "begin") (codes "foo") h.body new.unread (key_clean (codes "begin") refl) h.plain (sym e ∙ h.parts) in
    (h.kept ∙ ap (λ (l : List ℕ). take 3 l) (sym same.0), sym same.1)
