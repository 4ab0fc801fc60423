-- Serving, datagram by datagram.
use Rattle.std.proofs.Common.{◌≡◌, ℕ, Bool, true, false, List, [], ◌∷◌, ◌++◌, length, sym, subst, arith}
use Rattle.std.specs.Prelude.{Option, Some, None, IfSome, Result, Err}
use Rattle.std.proofs.Math.Seq.{take-length}
use Rattle.vp_model.specs.Types.{LogRecord}
use Rattle.vp_model.specs.Words.{value_at}
use Rattle.vp_model.specs.Catalogue.{Catalogue}
use Rattle.vp_model.specs.Durable.{DurableState}
use Rattle.vp_outside.specs.Causes.{count_after}
use Rattle.vp_outside.specs.Disk.{Halves, DiskState, Becomes, Steps, Only, log_of}
use Rattle.vp_outside.specs.Links.{Gave}
use Rattle.vp_outside.specs.declared.datagram.Datagram.{Datagram}
use Rattle.vp_outside.specs.declared.datagram.Dispatch.{Dispatch}
use Rattle.vp_stable.specs.Halves.{Standing, StandsAt, HaveBatches}
use Rattle.vp_stable.specs.Moments.{LeavesOthers}
use Rattle.vp_runs.specs.Keeping.{kept_with}
use Rattle.vp_runs.specs.Runs.{NodeRun, node_run, recorded_bytes}
use Rattle.vp_runs.proofs.Runs.{runs_keep}
use Rattle.vp_node.specs.Keeping.{KeepsAt}
use Rattle.vp_node.specs.Nodes.{NodeValue, HasLifeLeft, IsNode, IsKept, Keeps, MaySave, turn_of}
use Rattle.vp_serving.specs.Handed.{handed_in}
use Rattle.vp_serving.specs.Serving.{Outside, KeepsAtAnyMoment, IsPrefix, Did, IsKeptAs, IsSafe, LeavesFrom, Serves, either}
use Rattle.vp_serving.specs.Telling.{MayHaveTurned}
use Rattle.vp_serving.specs.declared.end.End.{End}
use Rattle.vp_node.proofs.Kept.{has}
use Rattle.vp_outside.proofs.Passed.{one_longer}
use Rattle.vp_serving.proofs.Prefixes.{prefix_all}
use Rattle.vp_serving.proofs.Moments.{turn_leaves}

-- So many datagrams came, and their turns were done; all that their run gives was printed, handed over and kept, and no call failed.
pub record SoFar (catalogue : Catalogue) (id count : ℕ) (stopped : Bool) (o : Outside) (node : NodeValue) : Type 0 where
  pub batches : List (List LogRecord)
  pub had : IfSome (log_of o.disk) (HaveBatches batches)
  pub lives : HasLifeLeft catalogue id batches
  pub asked : o.link'.asked ≡ value_at id catalogue.sites
  pub bound : o.link'.bound ≡ true
  pub arrived : List Datagram
  pub gave : Gave o.link.left o.link'.left arrived
  pub counted : o.link'.given ≡ count_after o.link.given (length arrived)
  pub many : length arrived ≡ count
  pub stopped_is : (node_run catalogue id batches arrived).stopped ≡ stopped
  pub ended : stopped ≡ true → (front : List Datagram) × (last : Datagram) × (arrived ≡ front ++ last ∷ []) × ((node_run catalogue id batches front).stopped ≡ false)
  pub site : node.site ≡ (node_run catalogue id batches arrived).node.site
  pub stands : Steps (λ _ log. StandsAt node.at (node_run catalogue id batches arrived).node.batches log) o.disk o.disk'
  pub did : Did o (recorded_bytes (node_run catalogue id batches arrived)) (handed_in catalogue id batches o.link.given arrived (length arrived))
  pub node_is : IsNode catalogue node
  pub kept : IsKept catalogue node o.disk'
  pub others : LeavesOthers o.disk o.disk'
  pub moments : KeepsAtAnyMoment catalogue id batches arrived o.disk o.disk'
  pub same_link : o.link'.faults ≡ o.link.faults
  pub same_sink : o.sink'.faults ≡ o.sink.faults
  pub same_disk : o.disk'.faults ≡ o.disk.faults

-- ---- what a disk says

told_if : (P : Halves → Type 0) (o p : Option Halves) → Becomes (λ _. P) o p → IfSome p P
told_if P (Some a) (Some b) h = h
told_if P (Some a) None h = absurd h
told_if P None (Some b) h = absurd h
told_if P None None h = tt

pub stands_on : (d : DurableState) (records : List LogRecord) (from to : Standing) (batches : List (List LogRecord)) (o p q : Option Halves)
    → Becomes (λ _ log. StandsAt from batches log) o p → Becomes (KeepsAt d records from to) p q → Becomes (λ _ log. StandsAt to (kept_with d records batches) log) o q
stands_on d records from to batches (Some a) (Some b) (Some c) stands keeps = keeps batches stands
stands_on d records from to batches (Some a) (Some b) None stands keeps = absurd keeps
stands_on d records from to batches (Some a) None q stands keeps = absurd stands
stands_on d records from to batches None (Some b) q stands keeps = absurd stands
stands_on d records from to batches None None (Some c) stands keeps = absurd keeps
stands_on d records from to batches None None None stands keeps = tt

-- ---- what is kept

module _ (catalogue : Catalogue) (id : ℕ) (batches : List (List LogRecord)) (arrived : List Datagram) (node : NodeValue) (disk disk' : DiskState)
    (stands : Steps (λ _ log. StandsAt node.at (node_run catalogue id batches arrived).node.batches log) disk disk') (kept : IsKept catalogue node disk') (others : LeavesOthers disk disk') where
  abbrev run : NodeRun
  run = node_run catalogue id batches arrived

  kept_here : disk.honest → IfSome (disk'.logs disk.asked) (λ log. Keeps catalogue node log (disk'.may_leave disk.asked))
  kept_here honest = subst (λ name. IfSome (disk'.logs name) (λ log. Keeps catalogue node log (disk'.may_leave name))) others.stays.same_name (kept (others.honest.0 honest))

  pub kept_as : IsKeptAs run disk disk'
  kept_as honest = by (disk'.logs disk.asked) (told_if _ (log_of disk) (disk'.logs disk.asked) stands) (kept_here honest)
    where
      by : (p : Option Halves) → IfSome p (StandsAt node.at run.node.batches) → IfSome p (λ log. Keeps catalogue node log (disk'.may_leave disk.asked))
          → IfSome p (λ log. HaveBatches run.node.batches log × Only log (disk'.may_leave disk.asked))
      by None stands keeps = tt
      by (Some log) stands keeps = (has stands, keeps.synced)

  -- all turns are in the log
  pub safe_all : (given : ℕ) (handed : List Dispatch) → IsPrefix handed (handed_in catalogue id batches given arrived (length arrived)) → IsSafe catalogue id batches given arrived handed disk disk'
  safe_all given handed front = record {
    sure = length arrived;
    few = omega arith;
    handed_of = front;
    left = λ honest. by (log_of disk) (disk'.logs disk.asked) stands (kept_as honest);
  }
    where
      by : (a b : Option Halves) → Becomes (λ _ log. StandsAt node.at run.node.batches log) a b
          → IfSome b (λ log. HaveBatches run.node.batches log × Only log (disk'.may_leave disk.asked))
          → IfSome a (λ _. (image : Halves) → disk'.may_leave disk.asked image → LeavesFrom catalogue id batches arrived (length arrived) image)
      by None b stands keeps = tt
      by (Some a) None stands keeps = absurd stands
      by (Some a) (Some log) stands keeps = λ image left. (
        length arrived,
        omega arith,
        omega arith,
        (run.node.batches, subst (HaveBatches run.node.batches) (sym (keeps.1 image left)) keeps.0, rw (take-length arrived) (sym (runs_keep catalogue id batches arrived))),
      )

abbrev MaySaved : Catalogue → NodeValue → Datagram → (Halves → Type 0) → Halves → Type 0
MaySaved catalogue node d images log = (image : Halves) → images image → MaySave catalogue node (turn_of catalogue node d) log image

-- The last turn may be in the log, and those before it are.
pub safe_torn : (catalogue : Catalogue) (id : ℕ) (batches : List (List LogRecord)) (given : ℕ) (front : List Datagram) (d : Datagram) (node : NodeValue) (disk disk1 disk2 : DiskState)
    → node.site ≡ (node_run catalogue id batches front).node.site → (node_run catalogue id batches front).stopped ≡ false
    → Steps (λ _ log. StandsAt node.at (node_run catalogue id batches front).node.batches log) disk disk1 → LeavesOthers disk disk1
    → MayHaveTurned catalogue node d disk1 disk2
    → IsSafe catalogue id batches given (front ++ d ∷ []) (handed_in catalogue id batches given (front ++ d ∷ []) (length front)) disk disk2
safe_torn catalogue id batches given front d node disk disk1 disk2 site going stands others may = record {
  sure = length front;
  few = omega (arith, one_longer front d);
  handed_of = prefix_all (handed_in catalogue id batches given (front ++ d ∷ []) (length front));
  left = λ honest. by (log_of disk) (disk1.logs disk.asked) stands (here honest);
}
  where
    here : disk.honest → IfSome (disk1.logs disk.asked) (MaySaved catalogue node d (disk2.may_leave disk.asked))
    here honest =
        subst (λ name. IfSome (disk1.logs name) (MaySaved catalogue node d (disk2.may_leave name)))
        others.stays.same_name (may (others.honest.0 honest))

    by : (a b : Option Halves) → Becomes (λ _ log. StandsAt node.at (node_run catalogue id batches front).node.batches log) a b → IfSome b (MaySaved catalogue node d (disk2.may_leave disk.asked))
        → IfSome a (λ _. (image : Halves) → disk2.may_leave disk.asked image → LeavesFrom catalogue id batches (front ++ d ∷ []) (length front) image)
    by None b stands may = tt
    by (Some a) None stands may = absurd stands
    by (Some a) (Some log) stands may = λ image leaves. turn_leaves catalogue id batches front d node site going log image stands (may image leaves)

-- an end that comes as a fault is that end
pub as_end : (catalogue : Catalogue) (id turns : ℕ) (o : Outside) (result : Result End End) (e : End) → result ≡ Err e → Serves catalogue id turns o e → Serves catalogue id turns o (either result)
as_end catalogue id turns o result e is serves = subst (λ r. Serves catalogue id turns o (either r)) (sym is) serves
