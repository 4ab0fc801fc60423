-- The fields of a call are read exactly, by the version and its kind.
use Rattle.std.proofs.Common.{◌≡◌, ℕ, List, Some, refl, sym, subst}
use Rattle.vp_text.proofs.Exact.{Exact, Made, made_exact}
use Rattle.vp_base.specs.Words.{IsName}
use Rattle.vp_base.specs.declared.ids.TxnId.{TxnId}
use Rattle.vp_base.specs.declared.event.Call.{Call}
use Rattle.vp_base.specs.declared.event.Call.TheVariants as call
use Rattle.vp_wire.specs.declared.kind.CallKind.{CallKind}
use Rattle.vp_wire.specs.declared.kind.CallKind.TheVariants as kinds
use Rattle.vp_bytes.specs.Fields.{Spelled, numbered_bytes, counted_bytes}
use Rattle.vp_wire.specs.Grammar.{call_fields, IsCallIn}
use Rattle.vp_base.specs.Calls.{IsNumbered}
use Rattle.vp_contents.specs.Values.{value_bytes, IsValueIn}
use Rattle.vp_base.specs.Tables.{IsTable}
use Rattle.vp_contents.specs.Tables.{table_bytes}
use Rattle.vp_contents.specs.declared.version.Version.{Version}
use Rattle.vp_contents.proofs.ValuesExact.{value_exact}
use Rattle.vp_contents.proofs.TablesExact.{table_exact}
use Rattle.vp_wire.specs.Calls.{call_at}
use Rattle.vp_bytes.proofs.Codes.{Nothing, nothing_exact}
use Rattle.vp_wire.specs.Kinds.{call_code, call_kind, kind_of_call}
use Rattle.vp_wire.proofs.Codes.{later_call}
use Rattle.vp_bytes.proofs.Pairs.{pair_bytes, PairAllowed, then_field}
use Rattle.vp_bytes.proofs.Identifiers.{numbered_exact}
use Rattle.vp_bytes.proofs.Singles.{numbered_free}
use Rattle.vp_bytes.proofs.Items.{name_exact, name_free}

module _ (version : Version) where
  -- the fields of a call of this kind
  abbrev pub CallOf : CallKind → Call → List ℕ → Type 0
  CallOf kinds.Begin = Nothing call.Begin
  CallOf kinds.Regroup = Nothing call.Regroup
  CallOf kinds.Read = Made (Spelled (pair_bytes (λ (numbered : TxnId × ℕ). numbered_bytes numbered.0 numbered.1) counted_bytes) (PairAllowed (λ (numbered : TxnId × ℕ). IsNumbered numbered.0 numbered.1) (λ (name : List ℕ). IsName name name))) (λ p. call.Read p.0.0 p.0.1 p.1)
  CallOf kinds.Write = Made (Spelled (pair_bytes (λ (numbered : TxnId × ℕ). numbered_bytes numbered.0 numbered.1) (pair_bytes counted_bytes (value_bytes version))) (PairAllowed (λ (numbered : TxnId × ℕ). IsNumbered numbered.0 numbered.1) (PairAllowed (λ (name : List ℕ). IsName name name) (IsValueIn version)))) (λ p. call.Write p.0.0 p.0.1 p.1.0 p.1.1)
  CallOf kinds.Commit = Made (Spelled (λ (numbered : TxnId × ℕ). numbered_bytes numbered.0 numbered.1) (λ (numbered : TxnId × ℕ). IsNumbered numbered.0 numbered.1)) (λ p. call.Commit p.0 p.1)
  CallOf kinds.Abort = Made (Spelled (λ (numbered : TxnId × ℕ). numbered_bytes numbered.0 numbered.1) (λ (numbered : TxnId × ℕ). IsNumbered numbered.0 numbered.1)) (λ p. call.Abort p.0 p.1)
  CallOf kinds.Delete = Made (Spelled (pair_bytes (λ (numbered : TxnId × ℕ). numbered_bytes numbered.0 numbered.1) counted_bytes) (PairAllowed (λ (numbered : TxnId × ℕ). IsNumbered numbered.0 numbered.1) (λ (name : List ℕ). IsName name name))) (λ p. call.Delete p.0.0 p.0.1 p.1)
  CallOf kinds.Weigh = Made (Spelled (pair_bytes (λ (numbered : TxnId × ℕ). numbered_bytes numbered.0 numbered.1) (pair_bytes counted_bytes table_bytes)) (PairAllowed (λ (numbered : TxnId × ℕ). IsNumbered numbered.0 numbered.1) (PairAllowed (λ (name : List ℕ). IsName name name) IsTable))) (λ p. call.Weigh p.0.0 p.0.1 p.1.0 p.1.1)

  pub call_fields_exact : (kind : CallKind) → Exact (CallOf kind) (call_at version kind)
  unfolding call_at
  call_fields_exact kinds.Begin = nothing_exact call.Begin
  call_fields_exact kinds.Regroup = nothing_exact call.Regroup
  call_fields_exact kinds.Read = then_field (λ numbered p. call.Read numbered.0 numbered.1 p) numbered_free numbered_exact (λ numbered. made_exact (λ name. call.Read numbered.0 numbered.1 name) name_exact)
  call_fields_exact kinds.Write = then_field (λ numbered p. call.Write numbered.0 numbered.1 p.0 p.1) numbered_free numbered_exact (λ numbered. then_field (λ name p. call.Write numbered.0 numbered.1 name p) name_free name_exact (λ name. made_exact (λ value. call.Write numbered.0 numbered.1 name value) (value_exact version)))
  call_fields_exact kinds.Commit = made_exact (λ numbered. call.Commit numbered.0 numbered.1) numbered_exact
  call_fields_exact kinds.Abort = made_exact (λ numbered. call.Abort numbered.0 numbered.1) numbered_exact
  call_fields_exact kinds.Delete = then_field (λ numbered p. call.Delete numbered.0 numbered.1 p) numbered_free numbered_exact (λ numbered. made_exact (λ name. call.Delete numbered.0 numbered.1 name) name_exact)
  call_fields_exact kinds.Weigh = then_field (λ numbered p. call.Weigh numbered.0 numbered.1 p.0 p.1) numbered_free numbered_exact (λ numbered. then_field (λ name p. call.Weigh numbered.0 numbered.1 name p) name_free name_exact (λ name. made_exact (λ table. call.Weigh numbered.0 numbered.1 name table) table_exact))

  -- The call is one of this kind, with these fields.
  abbrev pub IsCallOf : CallKind → Call → List ℕ → Type 0
  IsCallOf kind m text = (kind_of_call m ≡ kind) × (text ≡ call_fields version m) × IsCallIn version m

  pub call_to : (kind : CallKind) (m : Call) (t : List ℕ) → call_kind version (call_code kind) ≡ Some kind → CallOf kind m t → IsCallOf kind m t
  call_to kinds.Begin m t found h = rw (h.0, h.1) (refl, refl, tt)
  call_to kinds.Regroup m t found h = rw (h.0, h.1) (refl, refl, tt)
  call_to kinds.Read m t found h = subst (λ (m : Call). IsCallOf kinds.Read m t) (sym h.is) (refl, h.spelled.is, (h.spelled.allowed.0, h.spelled.allowed.1))
  call_to kinds.Write m t found h = subst (λ (m : Call). IsCallOf kinds.Write m t) (sym h.is) (refl, h.spelled.is, (h.spelled.allowed.0, h.spelled.allowed.1.0, h.spelled.allowed.1.1))
  call_to kinds.Commit m t found h = subst (λ (m : Call). IsCallOf kinds.Commit m t) (sym h.is) (refl, h.spelled.is, h.spelled.allowed)
  call_to kinds.Abort m t found h = subst (λ (m : Call). IsCallOf kinds.Abort m t) (sym h.is) (refl, h.spelled.is, h.spelled.allowed)
  call_to kinds.Delete m t found h = subst (λ (m : Call). IsCallOf kinds.Delete m t) (sym h.is) (refl, h.spelled.is, (later_call version kinds.Delete refl found, h.spelled.allowed.0, h.spelled.allowed.1))
  call_to kinds.Weigh m t found h = subst (λ (m : Call). IsCallOf kinds.Weigh m t) (sym h.is) (refl, h.spelled.is, (later_call version kinds.Weigh refl found, h.spelled.allowed.0, h.spelled.allowed.1.0, h.spelled.allowed.1.1))

  pub call_from : (m : Call) → IsCallIn version m → CallOf (kind_of_call m) m (call_fields version m)
  call_from call.Begin a = (refl, refl)
  call_from call.Regroup a = (refl, refl)
  call_from (call.Read txn number name) a = record { from = ((txn, number), name); spelled = record { is = refl; allowed = (a.0, a.1) }; is = refl }
  call_from (call.Write txn number name value) a = record { from = ((txn, number), (name, value)); spelled = record { is = refl; allowed = (a.0, (a.1, a.2)) }; is = refl }
  call_from (call.Commit txn number) a = record { from = (txn, number); spelled = record { is = refl; allowed = a }; is = refl }
  call_from (call.Abort txn number) a = record { from = (txn, number); spelled = record { is = refl; allowed = a }; is = refl }
  call_from (call.Delete txn number name) a = record { from = ((txn, number), name); spelled = record { is = refl; allowed = (a.1, a.2) }; is = refl }
  call_from (call.Weigh txn number name table) a = record { from = ((txn, number), (name, table)); spelled = record { is = refl; allowed = (a.1, (a.2, a.3)) }; is = refl }
