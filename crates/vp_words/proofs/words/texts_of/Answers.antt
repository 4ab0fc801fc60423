use Rattle.std.proofs.Common.{sym, subst, IsUtf8, ◌∙◌}
use Rattle.vp_words.proofs.Texts.{kept, refused}
use Rattle.vp_words.proofs.words.texts_of.Goals as goal

pub returns-in_default : goal.returns-in_default
returns-in_default c =
    sym (refused c.args.words.now c.loop-word.word-index c.word-item.result c.loop-word-test.true c.word-item.is
    (λ u. c.in_default.ensures.cases.0 (subst IsUtf8 (sym c.as_slice.ensures) u)))

pub loop-word-preserved : goal.loop-word-preserved
loop-word-preserved c =
    kept c.args.words.now c.loop-word.texts.items c.push.new.self.items c.in-Ok.text c.loop-word.word-index c.word-item.result c.loop-word-test.true c.word-item.is
    (c.in-Ok.ensures.cases.0 ∙ c.as_slice.ensures) (subst IsUtf8 c.as_slice.ensures c.in-Ok.ensures.cases.1) c.in_ok-push.ensures.items
    c.loop-word.invariant.0 c.loop-word.invariant.1
