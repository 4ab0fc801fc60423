-- What a call of a transaction does, as code has it.
use Rattle.std.specs.Prelude.{ℕ, Some, None}
use Rattle.vp_model.specs.Types.{Call}
use Rattle.vp_model.specs.Types.call
use Rattle.vp_model.specs.Types.op
use Rattle.vp_model.specs.Transactions.{Deed as DeedState}
use Rattle.vp_coordinator.specs.declared.deeds.Deed.{Deed}
use Rattle.vp_coordinator.specs.declared.deeds.Deed.TheVariants as deeds

abbrev pub as_deed : Deed → DeedState
as_deed (deeds.Operates operation) = DeedState.operates operation
as_deed (deeds.Weighs rec table) = DeedState.weighs rec table

-- what a call does to a record; of a read the content is not known yet
abbrev pub deed_asked : Call → ℕ → DeedState
deed_asked (call.Write txn number name value) = λ rec. DeedState.operates (op.Write rec (Some value))
deed_asked (call.Delete txn number name) = λ rec. DeedState.operates (op.Write rec None)
deed_asked (call.Weigh txn number name table) = λ rec. DeedState.weighs rec table
deed_asked _ = λ rec. DeedState.operates (op.Read rec None)
