use Rattle.std.proofs.Common.{rules, ◌≡◌, ◌++◌, ◌∷◌, [], ◌+◌, take}
use Rattle.std.proofs.lemmas.List.{take_more}
use Rattle.vp_model.specs.Words.{put_txn}
use Rattle.vp_participant.proofs.Named.{named_more}
use Rattle.vp_participant.proofs.doubts.names_of.Goals as goal

pub loop-doubt-preserved : goal.loop-doubt-preserved
loop-doubt-preserved c =
    let i = c.loop-doubt.doubt-index in
    let more : c.put.new.self ≡ put_txn c.doubt-item.result.txn c.loop-doubt.names = search rules in
    let longer : take (i + 1) c.args.doubts.now ≡ take i c.args.doubts.now ++ c.doubt-item.result ∷ [] = search (rules, take_more c.args.doubts.now i c.doubt-item.result) in
    rw (more, longer) (named_more c.loop-doubt.names (take i c.args.doubts.now) c.doubt-item.result c.loop-doubt.invariant)
