use Rattle.std.proofs.Common.{◌≡◌, ◌++◌, map, take}
use Rattle.std.specs.Prelude.{flat_map}
use Rattle.vp_runs.specs.Turns.{message_datagram}
use Rattle.vp_cluster.specs.Letters.{sent_from}
use Rattle.vp_cluster.proofs.sent_letters.SentLetters.put_all.Given as goal

abbrev pub invariant-loop-sent : goal.invariant-loop-sent
invariant-loop-sent l = l.self ≡ l.fn.self ++ map (sent_from l.from) (flat_map (message_datagram l.catalog) (take l.sent-index l.messages))
