use Rattle.std.proofs.Common.{◌≡◌, ◌++◌, ℕ, List, map, take}
use Rattle.vp_laws.specs.ShapeLaws.{reply_frame}
use Rattle.vp_wire.specs.Grammar.{frame_bytes}
use Rattle.vp_model.specs.Types.{Reply}
use Rattle.vp_merge.specs.Telling.{agrees}
use Rattle.vp_merge.proofs.telling.compare_replies.Given as goal

abbrev pub invariant-loop-reply : goal.invariant-loop-reply
invariant-loop-reply l =
    (made : List (List ℕ)) → agrees l.fn.comparison (map (λ (reply : Reply). frame_bytes (reply_frame l.site reply)) (take l.reply-index l.replies) ++ made) ≡ agrees l.comparison made
