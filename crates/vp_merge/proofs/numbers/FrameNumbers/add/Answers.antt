use Rattle.vp_merge.proofs.Entries.{added}
use Rattle.vp_merge.proofs.numbers.FrameNumbers.add.Goals as goal

pub returns : goal.returns
returns c = λ bytes. added _ _ bytes c.args.frame.now _ c.in_ok-insert.ensures.entries (c.in_ok-to_vec.ensures.items_if_clones_equal (λ x y e. e))
