use Rattle.std.proofs.Common.{◌≡◌, [], ◌++◌, flat_map, take}
use Rattle.vp_runs.specs.Turns.{message_datagram}
use Rattle.vp_node.proofs.sending.put_messages.Given as goal

abbrev pub invariant-loop-sent : goal.invariant-loop-sent
invariant-loop-sent l = (l.datagrams ≡ l.fn.datagrams ++ flat_map (message_datagram l.catalog) (take l.sent-index l.messages))
    × (l.room.items ≡ [])
