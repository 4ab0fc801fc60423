use Rattle.std.proofs.Common.{◌≡◌, [], ◌++◌, map, take}
use Rattle.vp_runs.specs.Turns.{reply_datagram}
use Rattle.vp_node.proofs.sending.put_replies.Given as goal

abbrev pub invariant-loop-reply : goal.invariant-loop-reply
invariant-loop-reply l = (l.datagrams ≡ l.fn.datagrams ++ map (reply_datagram l.id) (take l.reply-index l.replies))
    × (l.room.items ≡ [])
