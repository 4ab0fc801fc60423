use Rattle.std.proofs.Common.{refl, rules}
use Rattle.vp_onecopy.proofs.Plays.{misread}
use Rattle.vp_onecopy.proofs.playing.play_one.Goals as goal

pub returns-in_ok-copy_of-in-Read-2-clause-plays :
    goal.returns-in_ok-copy_of-in-Read-2-clause-plays
returns-in_ok-copy_of-in-Read-2-clause-plays c =
    let found = misread c.args.map.now c.args.operation.now c.in-Read.rec c.in-Read.value c.in_ok-copy_of-in-Read.field-0 c.in_ok-copy_of-in-Read-2.field-0 c.in-Read.is (search rules) (search rules) (search rules) (search rules) in
    (refl, found.0, found.1)
