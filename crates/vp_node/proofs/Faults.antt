-- Results other than a value.
use Rattle.std.proofs.Common.{◌≡◌, ◌∙◌, ℕ, ap, inl, inr, refl}
use Rattle.std.specs.Prelude.{Result, Err}
use Rattle.std.specs.Result.{IsErrAnd}
use Rattle.std.proofs.lemmas.Result.{err_from_is_err_and}
use Rattle.vp_stable.specs.Faults.{HasAppendCause}
use Rattle.vp_stable.specs.declared.fault.AppendFault.{AppendFault}
use Rattle.vp_stable.specs.declared.fault.AppendFault.TheVariants as append
use Rattle.vp_node.specs.Causes.{HasNodeCause, EndsInTurn, end_of_append}

-- what the exit of a `?` gives
pub gave_err : {T E : Type 0} (r : Result T E) (e : E) → IsErrAnd r (λ y. y ≡ e) → r ≡ Err e
gave_err r e given = let p = err_from_is_err_and r given in p.1 ∙ ap (λ y. Err y) p.2

-- ---- a batch that is not appended

pub append_ends : (T : Type 0) (fault : AppendFault) → EndsInTurn {T = T} (Err (end_of_append fault))
append_ends T append.DiskFault = inl refl
append_ends T append.NoMemory = inr refl

pub append_causes : {S T : Type 0} (before now : ℕ) (fault : AppendFault) → HasAppendCause {T = S} before now (Err fault) → HasNodeCause {T = T} before now (Err (end_of_append fault))
append_causes before now append.DiskFault h = record {
  later = h.later;
  failed = λ is. h.failed refl;
  ok = tt;
  bad_log = λ half at is. cc;
  lives_spent = λ life is. cc;
  no_memory = λ is. cc;
}
append_causes before now append.NoMemory h = record {
  later = h.later;
  failed = λ is. cc;
  ok = tt;
  bad_log = λ half at is. cc;
  lives_spent = λ life is. cc;
  no_memory = λ is. h.no_memory refl;
}
