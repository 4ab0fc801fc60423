use Rattle.std.proofs.Common.{rules, subst, sym, ◌≡◌, Err}
use Rattle.vp_merge.specs.Lives.{StartsLives}
use Rattle.vp_merge.proofs.Doing.{lives_more, lives_stop}
use Rattle.vp_merge.proofs.lives.start_lives.Goals as goal

pub loop-preserved : goal.loop-preserved
loop-preserved c = lives_more c.args.site c.loop.counter c.args.played c.loop.played c.in_ok-played.played c.loop.invariant c.in_ok-played.ensures

pub returns-in_err-played : goal.returns-in_err-played
returns-in_err-played c =
    let why = c.in_err-played.field-0.0 in
    let is : c.from_residual.result ≡ Err why = search rules in
    subst (StartsLives c.args.site c.args.lives c.args.played) (sym is) (lives_stop c.args.site c.loop.counter c.args.lives c.args.played c.loop.played why c.loop.invariant c.loop-test.true (search rules))
