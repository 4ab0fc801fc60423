use Rattle.std.proofs.Common.{◌≡◌, ◌+◌, drop}
use Rattle.vp_replay.specs.Summary.{begins, commits, refuses, count_of}
use Rattle.vp_replay.proofs.soaking.count.Given as goal

abbrev pub invariant-loop-reply : goal.invariant-loop-reply
invariant-loop-reply l = record {
  begun : l.counts.begun + count_of begins (drop l.reply-index l.replies) ≡ count_of begins l.replies;
  committed : l.counts.committed + count_of commits (drop l.reply-index l.replies) ≡ count_of commits l.replies;
  refused : l.counts.refused + count_of refuses (drop l.reply-index l.replies) ≡ count_of refuses l.replies;
}
