-- What an answer may claim after some schedules: the answers that are given are justified, and false ones are not.
use Rattle.std.proofs.Common.{◌≡◌, true, false, refl}
use Rattle.std.specs.Prelude.{codes}
use Rattle.vp_model.specs.Types.call
use Rattle.vp_model.specs.Headline.{RefusalsAreJustified}
use Rattle.vp_model.specs.Worked.{txn}
use Rattle.vp_model.specs.Worked.FalseClaims.{is_justified_after, closed_and_left, closed_by_lock, closed_by_leaving, granted_after_all, next_is_done, next_is_refused, closed_idle, IsToldApart, aborted, never_begun, out_of_turn, refused_by_two, timed_out_before, written_after_all, told_before_leaving, waiting_write, left_view, refused_again, refused_first, forgotten, called_elsewhere, unknown_without_weight, told_the_weights, bar_of_another_view, bar_by_a_lost_table, bar_after_leaving, weighed_before_leaving, held_by_another, barred_and_skipped, barred_and_told, barred_and_busy, barred_by_a_bad_table, barred_by_its_own_table, IsFitApart, told_without_a_call, written_for_a_delete, deleted_for_a_write, weighed_for_a_write, content_for_a_weigh}
use Rattle.vp_model.proofs.Computed.{computes}

pub closed-given : is_justified_after closed_and_left 1 (call.Read (txn 1 1 2) 2 (codes "x")) closed_by_lock ≡ true
unfolding computes
closed-given = refl

pub closed-another : is_justified_after closed_and_left 1 (call.Read (txn 1 1 2) 2 (codes "x")) closed_by_leaving ≡ false
unfolding computes
closed-another = refl

pub granted-given : is_justified_after granted_after_all 2 (call.Read (txn 2 1 1) 2 (codes "x")) next_is_done ≡ true
unfolding computes
granted-given = refl

pub granted-another : is_justified_after granted_after_all 2 (call.Read (txn 2 1 1) 2 (codes "x")) next_is_refused ≡ false
unfolding computes
granted-another = refl

pub idle-justified : RefusalsAreJustified closed_idle
unfolding computes
idle-justified = refl

pub aborted-apart : IsToldApart aborted
unfolding computes
aborted-apart = record { given = refl; justified = refl; another = refl }

pub never_begun-apart : IsToldApart never_begun
unfolding computes
never_begun-apart = record { given = refl; justified = refl; another = refl }

pub out_of_turn-apart : IsToldApart out_of_turn
unfolding computes
out_of_turn-apart = record { given = refl; justified = refl; another = refl }

pub refused_by_two-apart : IsToldApart refused_by_two
unfolding computes
refused_by_two-apart = record { given = refl; justified = refl; another = refl }

pub timed_out_before-apart : IsToldApart timed_out_before
unfolding computes
timed_out_before-apart = record { given = refl; justified = refl; another = refl }

pub written_after_all-apart : IsToldApart written_after_all
unfolding computes
written_after_all-apart = record { given = refl; justified = refl; another = refl }

pub told_before_leaving-apart : IsToldApart told_before_leaving
unfolding computes
told_before_leaving-apart = record { given = refl; justified = refl; another = refl }

pub refused_again-apart : IsToldApart refused_again
unfolding computes
refused_again-apart = record { given = refl; justified = refl; another = refl }

pub refused_first-apart : IsToldApart refused_first
unfolding computes
refused_first-apart = record { given = refl; justified = refl; another = refl }

pub left-given : is_justified_after waiting_write 1 call.Regroup (left_view 1) ≡ true
unfolding computes
left-given = refl

pub left-another : is_justified_after waiting_write 1 call.Regroup (left_view 7) ≡ false
unfolding computes
left-another = refl

pub forgotten-apart : IsToldApart forgotten
unfolding computes
forgotten-apart = record { given = refl; justified = refl; another = refl }

pub called_elsewhere-apart : IsToldApart called_elsewhere
unfolding computes
called_elsewhere-apart = record { given = refl; justified = refl; another = refl }

pub unknown_without_weight-apart : IsToldApart unknown_without_weight
unfolding computes
unknown_without_weight-apart = record { given = refl; justified = refl; another = refl }

pub told_the_weights-apart : IsToldApart told_the_weights
unfolding computes
told_the_weights-apart = record { given = refl; justified = refl; another = refl }

pub bar_of_another_view-apart : IsToldApart bar_of_another_view
unfolding computes
bar_of_another_view-apart = record { given = refl; justified = refl; another = refl }

pub bar_by_a_lost_table-apart : IsToldApart bar_by_a_lost_table
unfolding computes
bar_by_a_lost_table-apart = record { given = refl; justified = refl; another = refl }

pub bar_after_leaving-apart : IsToldApart bar_after_leaving
unfolding computes
bar_after_leaving-apart = record { given = refl; justified = refl; another = refl }

pub weighed_before_leaving-apart : IsToldApart weighed_before_leaving
unfolding computes
weighed_before_leaving-apart = record { given = refl; justified = refl; another = refl }

pub held_by_another-apart : IsToldApart held_by_another
unfolding computes
held_by_another-apart = record { given = refl; justified = refl; another = refl }

pub barred_and_skipped-apart : IsToldApart barred_and_skipped
unfolding computes
barred_and_skipped-apart = record { given = refl; justified = refl; another = refl }

pub barred_and_told-apart : IsToldApart barred_and_told
unfolding computes
barred_and_told-apart = record { given = refl; justified = refl; another = refl }

pub barred_and_busy-apart : IsToldApart barred_and_busy
unfolding computes
barred_and_busy-apart = record { given = refl; justified = refl; another = refl }

pub barred_by_a_bad_table-apart : IsToldApart barred_by_a_bad_table
unfolding computes
barred_by_a_bad_table-apart = record { given = refl; justified = refl; another = refl }

pub barred_by_its_own_table-apart : IsToldApart barred_by_its_own_table
unfolding computes
barred_by_its_own_table-apart = record { given = refl; justified = refl; another = refl }

pub told_without_a_call-apart : IsFitApart told_without_a_call
unfolding computes
told_without_a_call-apart = record { given = refl; fits = refl; another = refl }

pub written_for_a_delete-apart : IsFitApart written_for_a_delete
unfolding computes
written_for_a_delete-apart = record { given = refl; fits = refl; another = refl }

pub deleted_for_a_write-apart : IsFitApart deleted_for_a_write
unfolding computes
deleted_for_a_write-apart = record { given = refl; fits = refl; another = refl }

pub weighed_for_a_write-apart : IsFitApart weighed_for_a_write
unfolding computes
weighed_for_a_write-apart = record { given = refl; fits = refl; another = refl }

pub content_for_a_weigh-apart : IsFitApart content_for_a_weigh
unfolding computes
content_for_a_weigh-apart = record { given = refl; fits = refl; another = refl }
