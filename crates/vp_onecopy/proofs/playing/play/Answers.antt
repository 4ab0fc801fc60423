use Rattle.std.proofs.Common.{rules}
use Rattle.vp_onecopy.proofs.Plays.{err_is, plays_more, plays_stop}
use Rattle.vp_onecopy.proofs.playing.play.Goals as goal

pub returns-in_err-play_one-clause-plays : goal.returns-in_err-play_one-clause-plays
returns-in_err-play_one-clause-plays c =
    rw (err_is c.from_residual.result c.in_err-play_one.field-0.0 c.from_residual.ensures.1) (plays_stop c.args.map.now c.args.ops.now c.loop-index.index c.operation-item.result c.loop-index.map c.play_one.new.map c.in_err-play_one.field-0.0 (search rules) (search rules) c.loop-index.invariant.played c.in_err-play_one.ensures.err c.in_err-play_one.ensures.plays)

pub loop-index-preserved : goal.loop-index-preserved
loop-index-preserved c = record {
  count = search rules;
  played = plays_more c.args.map.now c.args.ops.now c.loop-index.index c.operation-item.result c.loop-index.map c.play_one.new.map (search rules) (search rules) c.loop-index.invariant.played c.in_ok-play_one.ensures.plays;
}
