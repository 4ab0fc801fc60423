use Rattle.std.proofs.Common.{rules}
use Rattle.vp_onecopy.proofs.Serial.{serial_more, decided}
use Rattle.vp_onecopy.proofs.checking.check.Goals as goal

pub returns-in-Err : goal.returns-in-Err
returns-in-Err c =
    decided c.args.start.now c.args.list.now c.loop-commit.commit-index c.commit-item.result c.loop-commit.map c.play.new.map c.in-Err.fault c.tell.result c.loop-commit-test.true c.commit-item.is c.loop-commit.invariant.played c.in-Err.ensures.plays c.tell.ensures

pub loop-commit-preserved : goal.loop-commit-preserved
loop-commit-preserved c = record {
  count = search rules;
  played = serial_more c.args.start.now c.args.list.now c.loop-commit.commit-index c.commit-item.result c.loop-commit.map c.play.new.map c.loop-commit-test.true c.commit-item.is c.loop-commit.invariant.played c.in-Ok.ensures.plays;
}
