use Rattle.std.proofs.Common.{◌≡◌, ◌++◌, take}
use Rattle.vp_playing.proofs.observer.RepliesObserver.see.Given as goal

abbrev pub invariant-loop-reply : goal.invariant-loop-reply
invariant-loop-reply l = l.self ≡ l.fn.self ++ take l.reply-index l.reply-items
