use Rattle.std.proofs.Common.{◌<◌, ◌∙◌, sym, arith}
use Rattle.vp_words.proofs.Pairs.{starts, with_log, with_site}
use Rattle.vp_words.proofs.words.pairs.Goals.{in-Some+in_ok-word_of+in_ok-push, in_default+in-Some-site+else-get-last}
use Rattle.vp_words.proofs.words.pairs.Goals as goal

pub loop-word-init : goal.loop-word-init
loop-word-init c = rw c.new-logs.ensures (starts c.args.words.now)

pub loop-word-preserved : goal.loop-word-preserved
loop-word-preserved c = elim c.match-named.branch [
  | in-Some+in_ok-word_of+in_ok-push w ↦
      let stands = rw w.in-Some.is at c.loop-word.invariant in
      rw (w.logs-is, w.last-is, w.named-is, w.in_ok-push.ensures.ok, w.get-last.ensures.value)
      (with_log c.args.words.now c.loop-word.word-index _ c.loop-word-test.true w.in-Some.site c.loop-word.last c.loop-word.logs stands _ w.in_ok-word_of.ensures)
  | in_default+in-Some-site+else-get-last w ↦
      let stands = rw w.in_default.is at c.loop-word.invariant in
      let above : c.loop-word.last < w.in-Some-site.site = (let lt = w.if-get-last.false in let same = w.get.ensures.value in omega (arith, lt, same)) in
      rw (w.logs-is, w.last-is, w.named-is)
      (with_site c.args.words.now c.loop-word.word-index _ c.loop-word-test.true c.loop-word.last c.loop-word.logs stands w.in-Some-site.site (sym w.in-Some-site.is ∙ w.site.ensures) above)
]
