use Rattle.std.proofs.Common.{◌≡◌, take, fold, cond}
use Rattle.vp_model.specs.Words.{put}
use Rattle.vp_audit.specs.Audited.{row_before, same_row, writes_to}
use Rattle.vp_audit.proofs.found.add_doubts.Given as goal

abbrev pub invariant-loop-doubt : goal.invariant-loop-doubt
invariant-loop-doubt l =
    l.rows ≡ fold (λ rows u. cond (writes_to l.rec u) (put same_row row_before (record { txn = u.txn; view = u.view; site = l.site }) rows) rows) l.initial.rows (take l.doubt-index l.doubts)
