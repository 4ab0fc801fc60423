-- Schedules that end with a call, and what its answer might claim: the answer that is given is justified, and false ones are not.
use Rattle.std.specs.Prelude.{◌≡◌, ℕ, Bool, true, false, List, [], ◌∷◌, ◌++◌, map, None, codes}
use Rattle.vp_model.specs.Types.{TxnId, Call, Answer, Event}
use Rattle.vp_model.specs.Types.answer
use Rattle.vp_model.specs.Types.call
use Rattle.vp_model.specs.Types.event
use Rattle.vp_model.specs.Types.owner
use Rattle.vp_model.specs.Types.shown
use Rattle.vp_model.specs.Catalogue.{Catalogue}
use Rattle.vp_model.specs.World.{Moment, Schedule, next, run_of, moments_of}
use Rattle.vp_model.specs.Told.{answers_in, all_fit}
use Rattle.vp_model.specs.Justified.{all_justified}
use Rattle.vp_model.specs.Worked.{view, txn, reply, stored}

abbrev three_sites : Catalogue
three_sites =
    record { sites = ((1, 7001) ∷ (2, 7002) ∷ (3, 7003) ∷ []); records = (stored (codes "x") (codes "10") ((1, 1) ∷ (2, 1) ∷ (3, 1) ∷ []) ∷ []) }

-- the moment in which the site is called after the schedule, with only this answer
abbrev claim : Schedule → ℕ → Call → Answer → Moment
claim s site words claimed =
    let w = (run_of s).world in
    record {
      number = 0;
      before = w;
      line = record { event = event.Call site words; shown = shown.Step [] 0 [] (reply claimed ∷ []) };
      after = (next s.catalogue (event.Call site words) w).world;
    }

-- the answers of the schedule are justified, and so is this one to a call after it
abbrev pub is_justified_after : Schedule → ℕ → Call → Answer → Bool
is_justified_after s site words claimed = all_justified s.catalogue [] (moments_of s ++ claim s site words claimed ∷ [])

-- 1.1.2 is closed because of a lock of 1.1.1, and then the site leaves its view
abbrev pub closed_and_left : Schedule
closed_and_left = record {
  catalogue = three_sites;
  events =
      event.Call 1 call.Begin
      ∷ event.Call 1 call.Begin
      ∷ event.Call 1 (call.Write (txn 1 1 1) 1 (codes "x") (codes "11"))
      ∷ event.Call 1 (call.Write (txn 1 1 2) 1 (codes "x") (codes "12"))
      ∷ event.Call 1 call.Regroup
      ∷ [];
}

-- it was closed before the site left the view
abbrev pub closed_by_lock : Answer
closed_by_lock = answer.LockHeld (txn 1 1 2) 2 (codes "x") 1 (owner.Txn (txn 1 1 1))

abbrev pub closed_by_leaving : Answer
closed_by_leaving = answer.ViewChanged (txn 1 1 2) 2 1 (view 0 0) None

-- site 1 refuses the write of 2.1.1 because of a lock of 1.1.1, in message 5, which is never delivered. Then 1.1.1 is closed
-- because of the lock of 2.1.1 at site 2, and the request of 2.1.1 comes again and is granted
abbrev pub granted_after_all : Schedule
granted_after_all = record {
  catalogue = three_sites;
  events =
      event.Call 1 call.Begin
      ∷ event.Call 1 (call.Write (txn 1 1 1) 1 (codes "x") (codes "11"))
      ∷ event.Call 2 call.Begin
      ∷ event.Call 2 (call.Write (txn 2 1 1) 1 (codes "x") (codes "12"))
      ∷ event.Deliver 3
      ∷ event.Deliver 1
      ∷ event.Deliver 6
      ∷ event.Deliver 3
      ∷ event.Deliver 4
      ∷ event.Deliver 9
      ∷ event.Deliver 10
      ∷ [];
}

-- 2.1.1 was refused call 1 at site 1, but went on; it was not refused call 2
abbrev pub next_is_done : Answer
next_is_done = answer.Value (txn 2 1 1) 2 (codes "12")

abbrev pub next_is_refused : Answer
next_is_refused = answer.LockHeld (txn 2 1 1) 2 (codes "x") 1 (owner.Txn (txn 1 1 1))

-- 1.1.1 is closed while no call is pending, and its end is answered first to number 5 and then to number 4
abbrev pub closed_idle : Schedule
closed_idle = record {
  catalogue = three_sites;
  events =
      event.Call 1 call.Begin
      ∷ event.Call 1 call.Regroup
      ∷ event.Call 1 (call.Read (txn 1 1 1) 5 (codes "x"))
      ∷ event.Call 1 (call.Read (txn 1 1 1) 4 (codes "x"))
      ∷ [];
}

-- 1.1.1 waits for the other sites to write x
abbrev pub waiting_write : Schedule
waiting_write = record {
  catalogue = three_sites;
  events = event.Call 1 call.Begin ∷ event.Call 1 (call.Write (txn 1 1 1) 1 (codes "x") (codes "11")) ∷ [];
}

-- site 1 leaves its view, and answers the call with this number
abbrev pub left_view : ℕ → Answer
left_view number = answer.ViewChanged (txn 1 1 1) number 1 (view 0 0) None

-- the reports of the schedule fit their calls, and so does this answer to a call after it
abbrev pub fits_after : Schedule → ℕ → Call → Answer → Bool
fits_after s site words claimed = all_fit s.catalogue (map (λ (m : Moment). m.line) (moments_of s ++ claim s site words claimed ∷ []))

-- a schedule, a call after it, the answer that it gets, and a false one
pub record FalseClaim : Type 0 where
  pub schedule : Schedule
  pub site : ℕ
  pub words : Call
  pub given : Answer
  pub claimed : Answer

abbrev pub answers_after : Schedule → ℕ → Call → List Answer
answers_after s site words =
    answers_in (record { event = event.Call site words; shown = (next s.catalogue (event.Call site words) (run_of s).world).shown })

-- the one is given and justified, and the other is not
pub record IsToldApart (c : FalseClaim) : Type 0 where
  pub given : answers_after c.schedule c.site c.words ≡ c.given ∷ []
  pub justified : is_justified_after c.schedule c.site c.words c.given ≡ true
  pub another : is_justified_after c.schedule c.site c.words c.claimed ≡ false

-- the one is given and fits its call, and the other does not
pub record IsFitApart (c : FalseClaim) : Type 0 where
  pub given : answers_after c.schedule c.site c.words ≡ c.given ∷ []
  pub fits : fits_after c.schedule c.site c.words c.given ≡ true
  pub another : fits_after c.schedule c.site c.words c.claimed ≡ false

abbrev one_site : Catalogue
one_site = record { sites = ((1, 7001) ∷ []); records = (stored (codes "x") (codes "10") ((1, 1) ∷ []) ∷ []) }

-- 1.1.1 has written x at the only site, and then these events happen
abbrev after_a_write : List Event → Schedule
after_a_write events =
    record {
      catalogue = one_site;
      events = event.Call 1 call.Begin ∷ event.Call 1 (call.Write (txn 1 1 1) 1 (codes "x") (codes "11")) ∷ events;
    }

abbrev read_x : TxnId → ℕ → Call
read_x name number = call.Read name number (codes "x")

-- at the site the lock of 1.1.1 on x conflicted
abbrev held_at : ℕ → TxnId → ℕ → Answer
held_at site name number = answer.LockHeld name number (codes "x") site (owner.Txn (txn 1 1 1))

-- 1.1.2 was aborted
abbrev pub aborted : FalseClaim
aborted = record {
  schedule = after_a_write (event.Call 1 call.Begin ∷ event.Call 1 (call.Abort (txn 1 1 2) 1) ∷ []);
  site = 1;
  words = read_x (txn 1 1 2) 2;
  given = answer.Aborted (txn 1 1 2) 2;
  claimed = held_at 1 (txn 1 1 2) 2;
}

-- 1.1.9 was never begun
abbrev pub never_begun : FalseClaim
never_begun = record {
  schedule = after_a_write [];
  site = 1;
  words = read_x (txn 1 1 9) 1;
  given = answer.Unknown (txn 1 1 9);
  claimed = held_at 1 (txn 1 1 9) 1;
}

-- 1.1.2 is called out of turn, and stays live
abbrev pub out_of_turn : FalseClaim
out_of_turn = record {
  schedule = after_a_write (event.Call 1 call.Begin ∷ []);
  site = 1;
  words = read_x (txn 1 1 2) 5;
  given = answer.Skipped (txn 1 1 2) 1;
  claimed = held_at 1 (txn 1 1 2) 5;
}

-- 1.1.1 and 3.1.1 have read x, and both sites refuse the write of 2.1.1; the refusal of site 3 closes it
abbrev pub refused_by_two : FalseClaim
refused_by_two = record {
  schedule = record {
    catalogue = three_sites;
    events =
        event.Call 1 call.Begin
        ∷ event.Call 1 (read_x (txn 1 1 1) 1)
        ∷ event.Call 3 call.Begin
        ∷ event.Call 3 (read_x (txn 3 1 1) 1)
        ∷ event.Call 2 call.Begin
        ∷ event.Call 2 (call.Write (txn 2 1 1) 1 (codes "x") (codes "12"))
        ∷ event.Deliver 1
        ∷ event.Deliver 2
        ∷ event.Deliver 4
        ∷ [];
  };
  site = 2;
  words = read_x (txn 2 1 1) 2;
  given = answer.LockHeld (txn 2 1 1) 2 (codes "x") 3 (owner.Txn (txn 3 1 1));
  claimed = held_at 1 (txn 2 1 1) 2;
}

-- the write of 2.1.1 has timed out before the refusal of site 1 comes
abbrev pub timed_out_before : FalseClaim
timed_out_before = record {
  schedule = record {
    catalogue = three_sites;
    events =
        event.Call 1 call.Begin
        ∷ event.Call 1 (read_x (txn 1 1 1) 1)
        ∷ event.Call 2 call.Begin
        ∷ event.Call 2 (call.Write (txn 2 1 1) 1 (codes "x") (codes "12"))
        ∷ event.Deliver 1
        ∷ event.Tick 2
        ∷ event.Tick 2
        ∷ [];
  };
  site = 2;
  words = call.Write (txn 2 1 1) 1 (codes "x") (codes "12");
  given = answer.TimedOut (txn 2 1 1) 1 1;
  claimed = held_at 1 (txn 2 1 1) 1;
}

-- the write of 2.1.1 was done in the end, and is called again
abbrev pub written_after_all : FalseClaim
written_after_all = record {
  schedule = granted_after_all;
  site = 2;
  words = call.Write (txn 2 1 1) 1 (codes "x") (codes "12");
  given = answer.Written (txn 2 1 1) 1;
  claimed = held_at 1 (txn 2 1 1) 1;
}

-- 1.1.1 has read x before its site left the view, and calls that read again
abbrev pub told_before_leaving : FalseClaim
told_before_leaving = record {
  schedule = record { catalogue = three_sites; events = event.Call 1 call.Begin ∷ event.Call 1 (read_x (txn 1 1 1) 1) ∷ event.Call 1 call.Regroup ∷ [] };
  site = 1;
  words = read_x (txn 1 1 1) 1;
  given = answer.Value (txn 1 1 1) 1 (codes "10");
  claimed = answer.ViewChanged (txn 1 1 1) 1 1 (view 0 0) None;
}

-- 1.1.1 has weighed x before its site left the view, and calls that weigh again
abbrev weigh_x : List (ℕ × ℕ) → Call
weigh_x table = call.Weigh (txn 1 1 1) 1 (codes "x") table

abbrev pub weighed_before_leaving : FalseClaim
weighed_before_leaving = record {
  schedule = record { catalogue = one_site; events = event.Call 1 call.Begin ∷ event.Call 1 (weigh_x ((1, 3) ∷ [])) ∷ event.Call 1 call.Regroup ∷ [] };
  site = 1;
  words = weigh_x ((1, 3) ∷ []);
  given = answer.Weighed (txn 1 1 1) 1;
  claimed = answer.ViewChanged (txn 1 1 1) 1 1 (view 0 0) None;
}

-- 1.1.1 and 1.1.2 have read x, which 1.1.3 would write
abbrev pub held_by_another : FalseClaim
held_by_another = record {
  schedule = record {
    catalogue = one_site;
    events =
        event.Call 1 call.Begin
        ∷ event.Call 1 (read_x (txn 1 1 1) 1)
        ∷ event.Call 1 call.Begin
        ∷ event.Call 1 (read_x (txn 1 1 2) 1)
        ∷ event.Call 1 call.Begin
        ∷ [];
  };
  site = 1;
  words = call.Write (txn 1 1 3) 1 (codes "x") (codes "11");
  given = held_at 1 (txn 1 1 3) 1;
  claimed = answer.LockHeld (txn 1 1 3) 1 (codes "x") 1 (owner.Txn (txn 1 1 2));
}

-- 1.1.2 was closed because of the lock
abbrev pub refused_again : FalseClaim
refused_again = record {
  schedule = after_a_write (event.Call 1 call.Begin ∷ event.Call 1 (read_x (txn 1 1 2) 1) ∷ []);
  site = 1;
  words = read_x (txn 1 1 2) 2;
  given = held_at 1 (txn 1 1 2) 2;
  claimed = held_at 1 (txn 1 1 2) 7;
}

-- the same, and the call has number 0
abbrev pub refused_first : FalseClaim
refused_first = record refused_again {
  words = read_x (txn 1 1 2) 0;
  given = held_at 1 (txn 1 1 2) 1;
  claimed = held_at 1 (txn 1 1 2) 2;
}

-- 1.1.2 was closed because of the lock, and its site has crashed since
abbrev pub forgotten : FalseClaim
forgotten = record {
  schedule = after_a_write (event.Call 1 call.Begin ∷ event.Call 1 (read_x (txn 1 1 2) 1) ∷ event.Crash 1 ∷ event.Restart 1 ∷ []);
  site = 1;
  words = read_x (txn 1 1 2) 1;
  given = answer.Unknown (txn 1 1 2);
  claimed = held_at 1 (txn 1 1 2) 1;
}

-- 1.1.2 was closed because of the lock, and is called at another site
abbrev pub called_elsewhere : FalseClaim
called_elsewhere = record {
  schedule = record { catalogue = three_sites; events = (after_a_write (event.Call 1 call.Begin ∷ event.Call 1 (read_x (txn 1 1 2) 1) ∷ [])).events };
  site = 2;
  words = read_x (txn 1 1 2) 1;
  given = answer.Unknown (txn 1 1 2);
  claimed = held_at 1 (txn 1 1 2) 1;
}

-- two sites of three are needed for x, and site 1 holds a view without the others; 1.1.9 was never begun there
abbrev pub unknown_without_weight : FalseClaim
unknown_without_weight = record {
  schedule = record { catalogue = three_sites; events = event.Call 1 call.Regroup ∷ event.Tick 1 ∷ event.Call 1 call.Begin ∷ [] };
  site = 1;
  words = read_x (txn 1 1 9) 1;
  given = answer.Unknown (txn 1 1 9);
  claimed = answer.Inaccessible (txn 1 1 9) 1 (codes "x") 1 3;
}

-- the same, and 1.1.1 is answered so
abbrev pub told_the_weights : FalseClaim
told_the_weights = record unknown_without_weight {
  words = read_x (txn 1 1 1) 1;
  given = answer.Inaccessible (txn 1 1 1) 1 (codes "x") 1 3;
  claimed = answer.Inaccessible (txn 1 1 1) 2 (codes "x") 1 3;
}

-- site 1 holds a view without the others, in which the bar of x is 1 of 5
abbrev heavy_third : Catalogue
heavy_third = record {
  sites = ((1, 7001) ∷ (2, 7002) ∷ (3, 7003) ∷ []);
  records = (stored (codes "x") (codes "10") ((1, 1) ∷ (2, 1) ∷ (3, 3) ∷ []) ∷ []);
}

abbrev alone : List Event
alone = event.Call 1 call.Regroup ∷ event.Tick 1 ∷ event.Call 1 call.Begin ∷ []

-- there x is barred, which only the next call of an idle transaction is told
abbrev barred_x : ℕ → Answer
barred_x number = answer.Inaccessible (txn 1 1 1) number (codes "x") 1 5

-- a call out of turn
abbrev pub barred_and_skipped : FalseClaim
barred_and_skipped = record {
  schedule = record { catalogue = heavy_third; events = alone };
  site = 1;
  words = read_x (txn 1 1 1) 5;
  given = answer.Skipped (txn 1 1 1) 1;
  claimed = barred_x 5;
}

-- y, which site 1 alone holds, was read under that number
abbrev pub barred_and_told : FalseClaim
barred_and_told = record {
  schedule = record {
    catalogue = record heavy_third { records = heavy_third.records ++ stored (codes "y") (codes "5") ((1, 1) ∷ []) ∷ [] };
    events = alone ++ event.Call 1 (call.Read (txn 1 1 1) 1 (codes "y")) ∷ [];
  };
  site = 1;
  words = read_x (txn 1 1 1) 1;
  given = answer.Value (txn 1 1 1) 1 (codes "5");
  claimed = barred_x 1;
}

-- y is read at site 2, which holds the view too, and no answer has come
abbrev pub barred_and_busy : FalseClaim
barred_and_busy = record {
  schedule = record {
    catalogue = record heavy_third { records = heavy_third.records ++ stored (codes "y") (codes "5") ((2, 1) ∷ []) ∷ [] };
    events =
        event.Cut 1 3
        ∷ event.Call 1 call.Regroup
        ∷ event.Deliver 1
        ∷ event.Deliver 3
        ∷ event.Tick 1
        ∷ event.Deliver 4
        ∷ event.Deliver 5
        ∷ event.Deliver 6
        ∷ event.Deliver 7
        ∷ event.Call 1 call.Begin
        ∷ event.Call 1 (call.Read (txn 1 1 1) 1 (codes "y"))
        ∷ [];
  };
  site = 1;
  words = read_x (txn 1 1 1) 1;
  given = answer.Busy (txn 1 1 1) 1;
  claimed = answer.Inaccessible (txn 1 1 1) 1 (codes "x") 2 5;
}

-- the table that is asked for lacks a holder
abbrev pub barred_by_a_bad_table : FalseClaim
barred_by_a_bad_table = record {
  schedule = record { catalogue = heavy_third; events = alone };
  site = 1;
  words = weigh_x ((2, 1) ∷ (3, 9) ∷ []);
  given = answer.BadTable (txn 1 1 1) 1;
  claimed = answer.Inaccessible (txn 1 1 1) 1 (codes "x") 0 10;
}

-- the table that is asked for leaves no majority, which is tested before the bar
abbrev pub barred_by_its_own_table : FalseClaim
barred_by_its_own_table = record {
  schedule = record { catalogue = heavy_third; events = alone };
  site = 1;
  words = weigh_x ((1, 1) ∷ (2, 1) ∷ (3, 1) ∷ []);
  given = answer.Inaccessible (txn 1 1 1) 1 (codes "x") 1 3;
  claimed = barred_x 1;
}

-- 1.1.1 has begun and calls for the first time, and this is not reported of its call
abbrev first_call : Call → Answer → Answer → FalseClaim
first_call words given claimed =
    record { schedule = record { catalogue = one_site; events = event.Call 1 call.Begin ∷ [] }; site = 1; words = words; given = given; claimed = claimed }

-- a content under a number that was never called
abbrev pub told_without_a_call : FalseClaim
told_without_a_call = first_call (read_x (txn 1 1 1) 1) (answer.Value (txn 1 1 1) 1 (codes "10")) (answer.Value (txn 1 1 1) 9 (codes "77"))

-- of a delete what is answered of a write, of a write what is answered of a delete or of a weigh, and of a weigh a content
abbrev pub written_for_a_delete : FalseClaim
written_for_a_delete = first_call (call.Delete (txn 1 1 1) 1 (codes "x")) (answer.Deleted (txn 1 1 1) 1) (answer.Written (txn 1 1 1) 1)

abbrev pub deleted_for_a_write : FalseClaim
deleted_for_a_write = first_call (call.Write (txn 1 1 1) 1 (codes "x") (codes "11")) (answer.Written (txn 1 1 1) 1) (answer.Deleted (txn 1 1 1) 1)

abbrev pub weighed_for_a_write : FalseClaim
weighed_for_a_write = first_call (call.Write (txn 1 1 1) 1 (codes "x") (codes "11")) (answer.Written (txn 1 1 1) 1) (answer.Weighed (txn 1 1 1) 1)

abbrev pub content_for_a_weigh : FalseClaim
content_for_a_weigh = first_call (weigh_x ((1, 3) ∷ [])) (answer.Weighed (txn 1 1 1) 1) (answer.Value (txn 1 1 1) 1 (codes "77"))

-- the sums over the members of another view
abbrev pub bar_of_another_view : FalseClaim
bar_of_another_view = record {
  schedule = record { catalogue = heavy_third; events = alone };
  site = 1;
  words = read_x (txn 1 1 1) 1;
  given = answer.Inaccessible (txn 1 1 1) 1 (codes "x") 1 5;
  claimed = answer.Inaccessible (txn 1 1 1) 1 (codes "x") 2 5;
}

-- the sums by a table that a transaction gave x, which has not been committed
abbrev pub bar_by_a_lost_table : FalseClaim
bar_by_a_lost_table = record {
  schedule = record {
    catalogue = heavy_third;
    events = event.Call 1 call.Begin ∷ event.Call 1 (call.Weigh (txn 1 1 1) 1 (codes "x") ((1, 1) ∷ (2, 1) ∷ (3, 1) ∷ [])) ∷ alone;
  };
  site = 1;
  words = read_x (txn 1 1 2) 1;
  given = answer.Inaccessible (txn 1 1 2) 1 (codes "x") 1 5;
  claimed = answer.Inaccessible (txn 1 1 2) 1 (codes "x") 1 3;
}

-- the sums over the members of a view that the site has left
abbrev pub bar_after_leaving : FalseClaim
bar_after_leaving = record {
  schedule = record { catalogue = heavy_third; events = alone ++ event.Call 1 call.Regroup ∷ [] };
  site = 1;
  words = read_x (txn 1 1 1) 1;
  given = answer.ViewChanged (txn 1 1 1) 1 1 (view 1 1) None;
  claimed = answer.Inaccessible (txn 1 1 1) 1 (codes "x") 1 5;
}
