use Rattle.vp_trace.proofs.calls.print_event.Goals as goal

pub returns-in-Call : goal.returns-in-Call
returns-in-Call c = rw c.in-Call.is c.print_called.ensures

pub returns-in-Deliver : goal.returns-in-Deliver
returns-in-Deliver c = rw c.in-Deliver.is c.print_counted.ensures

pub returns-in-Flow : goal.returns-in-Flow
returns-in-Flow c = rw c.in-Flow.is c.print_counted-in-Flow.ensures

pub returns-in-Tick : goal.returns-in-Tick
returns-in-Tick c = rw c.in-Tick.is c.print_site.ensures

pub returns-in-Probe : goal.returns-in-Probe
returns-in-Probe c = rw c.in-Probe.is c.print_site-in-Probe.ensures

pub returns-in-Cut : goal.returns-in-Cut
returns-in-Cut c = rw c.in-Cut.is c.print_pair.ensures

pub returns-in-Heal : goal.returns-in-Heal
returns-in-Heal c = rw c.in-Heal.is c.print_pair-in-Heal.ensures

pub returns-in-Crash : goal.returns-in-Crash
returns-in-Crash c = rw c.in-Crash.is c.print_site-in-Crash.ensures

pub returns-in-Restart : goal.returns-in-Restart
returns-in-Restart c = rw c.in-Restart.is c.print_site-in-Restart.ensures
