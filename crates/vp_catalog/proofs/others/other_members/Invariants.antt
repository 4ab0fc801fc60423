use Rattle.std.proofs.Common.{◌≡◌, ℕ, ◌≤◌, length, take, false}
use Rattle.std.specs.Prelude.{get_or}
use Rattle.vp_model.specs.Words.{has}
use Rattle.vp_catalog.proofs.others.other_members.Given as goal

abbrev pub invariant-loop-member : goal.invariant-loop-member
invariant-loop-member l = record {
  all : length l.is_other ≡ 17;
  each : (q : ℕ) → q ≤ 16 → get_or l.is_other q false ≡ has (take l.member-index l.members) q;
}
