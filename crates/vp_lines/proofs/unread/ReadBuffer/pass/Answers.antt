use Rattle.std.proofs.Common.{◌≡◌, ◌∙◌, ◌-◌, ◌==◌, ◌++◌, ℕ, List, position, take, drop, ap, subst, refl, arith, sym}
use Rattle.std.specs.Prelude.{Some, None}
use Rattle.vp_text.specs.Documents.{HasNoNewline}
use Rattle.vp_lines.specs.Ahead.{Ahead}
use Rattle.vp_lines.proofs.Newlines.{newline_none}
use Rattle.vp_lines.proofs.Finding.{passes_line}
use Rattle.vp_lines.proofs.unread.ReadBuffer.pass.Goals as goal

pub returns-in_ok-append-in-Some : goal.returns-in_ok-append-in-Some
returns-in_ok-append-in-Some c =
    let inside = c.self.inside in
    let unread = take (inside.end - inside.at) (drop inside.at inside.piece) in
    let is : position (λ b. b == 10) unread ≡ Some c.in-Some.count = sym c.newline_in.ensures ∙ c.in-Some.is in
    let p = passes_line inside.piece inside.at inside.end c.in-Some.count is in
    let view = c.self.view_is in
    (take c.in-Some.count unread, p.0, ap (λ (a : Ahead). a.unread) (sym view) ∙ p.1, c.in_ok-append-in-Some.ensures, ap (λ (a : Ahead). a.credit) view)

pub returns-in_ok-append-in-None : goal.returns-in_ok-append-in-None
returns-in_ok-append-in-None c =
    let inside = c.self.inside in
    let unread = take (inside.end - inside.at) (drop inside.at inside.piece) in
    let is : position (λ b. b == 10) unread ≡ None = sym c.newline_in.ensures ∙ c.in-None.is in
    let view = c.self.view_is in
    let same : c.args.self.now.unread ≡ unread = ap (λ (a : Ahead). a.unread) (sym view) in
    let none : inside.end - inside.end ≡ 0 = omega arith in
    let credit : inside.credit ≡ c.args.self.now.credit = ap (λ (a : Ahead). a.credit) view in (
      subst HasNoNewline (sym same) (newline_none unread is),
      rw (none, credit) refl,
      c.in_ok-append-in-None.ensures ∙ ap (λ (l : List ℕ). take c.args.most (c.args.line.now.items ++ l)) (sym same),
    )
