-- The disk of a host has a log, and a node on it ends only if memory runs out.
use Rattle.std.proofs.Common.{◌≡◌, ◌∙◌, ◌⊎◌, ⊎_elim, ℕ, Bool, true, List, [], sym, subst, ap, arith}
use Rattle.std.specs.Prelude.{Result, Err}
use Rattle.vp_model.specs.Types.{LogRecord}
use Rattle.vp_model.specs.Catalogue.{Catalogue}
use Rattle.vp_outside.specs.Disk.{Halves, Steps}
use Rattle.vp_disks.specs.Changes.{asked_of, changes_of, content_of, state_after}
use Rattle.vp_disks.specs.declared.changes.Change.{Change}
use Rattle.vp_stable.specs.Faults.{HasLogCause}
use Rattle.vp_stable.specs.Halves.{Standing, StandsAt, HaveBatches, AreBadLog, Recovers, ReadAlike, HalvesAreOneLog, BadHalvesHaveNoBatches}
use Rattle.vp_stable.specs.Stops.{GainsWhere}
use Rattle.vp_stable.specs.declared.fault.LogFault.{LogFault}
use Rattle.vp_stable.specs.declared.fault.LogFault.TheVariants as faults
use Rattle.vp_runs.specs.Keeping.{durable_in}
use Rattle.vp_runs.specs.Turns.{Turn}
use Rattle.vp_node.specs.Nodes.{NodeValue, IsKept, MayStart, IsSpent, MaySave}
use Rattle.vp_node.specs.Causes.{HasNodeCause, EndsInTurn}
use Rattle.vp_node.specs.declared.end.NodeEnd.{NodeEnd}
use Rattle.vp_node.specs.declared.end.NodeEnd.TheVariants as ends
use Rattle.vp_node.proofs.Kept.{has as have}
use Rattle.vp_cluster.specs.Hosts.{AreLog, log_on}
use Rattle.vp_cluster.proofs.Hosting.{no_batches}

-- an empty disk does
pub empty_holds : (disk : List Change) → disk ≡ [] → HaveBatches [] (log_on disk)
empty_holds disk empty = subst (λ changes. HaveBatches [] (log_on changes)) (sym empty) no_batches

-- a disk that keeps the durable part of a node does
pub kept_holds : (catalogue : Catalogue) (node : NodeValue) (disk : List Change) → IsKept catalogue node (state_after disk true 0) → AreLog (log_on disk)
kept_holds catalogue node disk kept = let keeps = kept tt in (keeps.batches, have keeps.stands)

-- what an append that stopped has left is one
pub left_holds : (batch : List LogRecord) (at : Standing) (kept : Bool) (old new : List Change) → (batches : List (List LogRecord)) × StandsAt at batches (log_on old) → GainsWhere batch at kept (log_on old) (log_on new) → AreLog (log_on new)
left_holds batch at kept old new stands gains = (_, gains stands.0 stands.1)

-- ---- calls on the disk

module _ (old new : List Change) (asked : asked_of new ≡ asked_of old) where
  its_log : AreLog (content_of (changes_of (asked_of old) new)) → AreLog (log_on new)
  its_log = subst (λ name. AreLog (content_of (changes_of name new))) (sym asked)

  pub turn_holds : (catalogue : Catalogue) (node : NodeValue) (turn : Turn) → Steps (MaySave catalogue node turn) (state_after old true 0) (state_after new true 0) → AreLog (log_on new)
  turn_holds catalogue node turn left = its_log (left.folds.0, left.folds.1)

  pub read_holds : Steps ReadAlike (state_after old true 0) (state_after new true 0) → AreLog (log_on old) → AreLog (log_on new)
  read_holds alike holds = its_log (holds.0, alike.batches holds.0 holds.1)

  pub start_holds : (catalogue : Catalogue) (id : ℕ) → Steps (MayStart catalogue id) (state_after old true 0) (state_after new true 0) → AreLog (log_on old) → AreLog (log_on new)
  start_holds catalogue id left holds = its_log (⊎_elim (λ same. (holds.0, same)) (λ more. (_, more.1)) (left.batches holds.0 holds.1))

-- ---- what can't end a node

-- the disk never fails
pub never_fails : {T : Type 0} {e : NodeEnd} (result : Result T NodeEnd) → HasNodeCause 0 0 result → result ≡ Err e → e ≡ ends.DiskFault → ⊥
never_fails result cause is fault = let rose = cause.failed (is ∙ ap (λ e. Err e) fault) in omega (arith, rose)

-- no recovery there fails
pub log_never_fails : {T : Type 0} {e : LogFault} (result : Result T LogFault) → HasLogCause 0 0 result → result ≡ Err e → e ≡ faults.DiskFault → ⊥
log_never_fails result cause is fault = let rose = cause.failed (is ∙ ap (λ e. Err e) fault) in omega (arith, rose)

-- a turn ends a node only if its disk fails or memory runs out
pub turn_ends : {T : Type 0} {e : NodeEnd} (result : Result T NodeEnd) → EndsInTurn result → result ≡ Err e → (e ≡ ends.DiskFault) ⊎ (e ≡ ends.NoMemory)
turn_ends {T} result only is = subst (λ (r : Result T NodeEnd). EndsInTurn r) is only

-- what a recovery finds damaged
pub found_bad : {L : Type 0} (log : Halves) (result : Result (L × List (List LogRecord)) LogFault) (half at : ℕ) → Recovers log result → result ≡ Err (faults.BadLog half at) → AreBadLog half at log
found_bad log result half at found is = subst (λ r. Recovers log r) is found

-- a log is not a damaged one
pub never_bad : (log : Halves) (half at : ℕ) → BadHalvesHaveNoBatches → AreLog log → AreBadLog half at log → ⊥
never_bad log half at law is bad = law half at is.0 log bad is.1

-- the first life is not the last one
pub never_spent : (catalogue : Catalogue) (id life : ℕ) (disk : List Change) → HalvesAreOneLog → disk ≡ [] → IsSpent catalogue id life (state_after disk true 0) → ⊥
never_spent catalogue id life disk one empty spent =
    let none : spent.1.0 ≡ [] = one spent.1.0 [] (log_on disk) spent.1.1 (empty_holds disk empty) in
    let first : 0 ≡ life = ap (λ batches. (durable_in catalogue id batches).life) (sym none) ∙ spent.1.2 in
    omega (arith, first, spent.0)
