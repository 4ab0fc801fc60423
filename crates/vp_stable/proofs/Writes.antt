-- The writes of a log, by what is known of the disk.
use Rattle.std.proofs.Common.{◌⊎◌, inl, inr, ℕ, zero, suc, ◌+◌, List, [], ◌∷◌, ◌++◌, length, sym, ◌∙◌, ap, subst, arith}
use Rattle.std.specs.Prelude.{IfSome, OnOk, OnErr, Result, Ok, Err}
use Rattle.std.specs.declared.option.Option.{Option}
use Rattle.std.specs.declared.option.Option.TheVariants.{Some, None}
use Rattle.vp_outside.specs.Disk.{Halves, InHalf, Written, Torn, CutTo, MaybeCut, Becomes, DiskState, Only, Elapses}
use Rattle.vp_stable.specs.Log.{IsLog}
use Rattle.vp_stable.specs.Moments.{After}
use Rattle.vp_stable.specs.Writing.{MayClear, Clears, Puts, MayPut, IsSynced, Tears}
use Rattle.vp_stable.proofs.Tears.{torn_empty, written_empty, torn_after, written_after, torn_gate, written_gate}
use Rattle.vp_stable.proofs.Times.{elapses_as, elapses_then}

pub on_err : {T E P : Type 0} (result : Result T E) → P → OnErr result P
on_err (Ok x) p = tt
on_err (Err e) p = p

pub on_err_as : {T E P Q : Type 0} (result : Result T E) → (P → Q) → OnErr result P → OnErr result Q
on_err_as (Ok x) f p = tt
on_err_as (Err e) f p = f p

pub on_ok_as : {T E P Q : Type 0} (result : Result T E) → (P → Q) → OnOk result P → OnOk result Q
on_ok_as (Ok x) f p = f p
on_ok_as (Err e) f p = tt

-- ---- steps in a half

pub in_half_as : (half : ℕ) {S T : List ℕ → List ℕ → Type 0} → ((a b : List ℕ) → S a b → T a b) → (old new : Halves) → InHalf half S old new → InHalf half T old new
in_half_as zero f old new step = (f old.0 new.0 step.0, step.1)
in_half_as (suc n) f old new step = (f old.1 new.1 step.0, step.1)

pub in_half_then : (half : ℕ) {S T U : List ℕ → List ℕ → Type 0} → ((a b c : List ℕ) → S a b → T b c → U a c)
    → (a b c : Halves) → InHalf half S a b → InHalf half T b c → InHalf half U a c
in_half_then zero f a b c first second = (f a.0 b.0 c.0 first.0 second.0, second.1 ∙ first.1)
in_half_then (suc n) f a b c first second = (f a.1 b.1 c.1 first.0 second.0, second.1 ∙ first.1)

-- ---- steps where the log is known, and where it isn't

pub becomes-as : {S T : Halves → Halves → Type 0} (o p : Option Halves) → ((a b : Halves) → S a b → T a b) → Becomes S o p → Becomes T o p
becomes-as (Some a) (Some b) f h = f a b h
becomes-as (Some a) None f h = h
becomes-as None (Some b) f h = h
becomes-as None None f h = h

pub becomes-same : (S : Halves → Halves → Type 0) (o : Option Halves) → ((a : Halves) → S a a) → Becomes S o o
becomes-same S (Some a) f = f a
becomes-same S None f = tt

pub becomes-then : {S T U : Halves → Halves → Type 0} (o p q : Option Halves) → ((a b c : Halves) → S a b → T b c → U a c) → Becomes S o p → Becomes T p q → Becomes U o q
becomes-then (Some a) (Some b) (Some c) f h k = f a b c h k
becomes-then (Some a) (Some b) None f h k = k
becomes-then (Some a) None q f h k = absurd h
becomes-then None (Some b) q f h k = absurd h
becomes-then None None (Some c) f h k = k
becomes-then None None None f h k = k

-- ---- what a crash may leave

module _ (name : Option (List ℕ)) where
  pub tears_as : (old new : DiskState) (S T : Halves → Halves → Type 0) → ((a b : Halves) → S a b → T a b) → Tears S name old new → Tears T name old new
  tears_as old new S T f tears honest = by (old.logs name) (tears honest)
    where
      by : (o : Option Halves) → IfSome o (λ log. Only log (old.may_leave name) → Elapses name old new (S log)) → IfSome o (λ log. Only log (old.may_leave name) → Elapses name old new (T log))
      by None h = tt
      by (Some log) h = λ only. elapses_as name old new (S log) (T log) (h only) (f log)

  -- a call after which each image is an earlier one that was changed by a step
  pub tears_one : (old new : DiskState) (S T : Halves → Halves → Type 0) → ((a b : Halves) → S a b → T a b) → Elapses name old new (After S (old.may_leave name)) → Tears T name old new
  tears_one old new S T f time honest = by (old.logs name)
    where
      by : (o : Option Halves) → IfSome o (λ log. Only log (old.may_leave name) → Elapses name old new (T log))
      by None = tt
      by (Some log) = λ only. elapses_as name old new (After S (old.may_leave name)) (T log) time
          (λ image left. f log image (subst (λ (h : Halves). S h image) (only left.0 left.1) left.2))

  -- calls that were done and synced, and then others
  pub tears_then : (a b c : DiskState) (S T U : Halves → Halves → Type 0) → ((x y z : Halves) → T x y → U y z → S x z) → Tears S name a b → Becomes T (a.logs name) (b.logs name)
      → (a.honest → IsSynced name b) → (a.honest → b.honest) → Tears U name b c → Tears S name a c
  tears_then a b c S T U f first step synced as_honest second honest = by (a.logs name) (b.logs name) (first honest) step (synced honest) (second (as_honest honest))
    where
      by : (o p : Option Halves) → IfSome o (λ log. Only log (a.may_leave name) → Elapses name a b (S log)) → Becomes T o p → IfSome p (λ log. Only log (b.may_leave name))
          → IfSome p (λ log. Only log (b.may_leave name) → Elapses name b c (U log)) → IfSome o (λ log. Only log (a.may_leave name) → Elapses name a c (S log))
      by None p first step only second = tt
      by (Some log) None first step only second = absurd step
      by (Some log) (Some log') first step only second =
          λ only_first. elapses_then name a b c (S log) (U log') (S log) (first only_first) (second only) (λ image s. s) (λ image u. f log log' image step u)

-- ---- a half is made a log without batches

pub cut_may_clear : (old new : List ℕ) → MaybeCut 0 old new → MayClear old new
cut_may_clear old new (inl same) = inl same
cut_may_clear old new (inr cut) = inr (omega (arith, ap length cut))

pub torn_may_clear : (a b c : List ℕ) → CutTo 0 a b → Torn 0 1 b c → MayClear a c
torn_may_clear a b c cut torn = inr (torn_empty b c (omega (arith, ap length cut)) torn)

pub cut_clears : (a b c : List ℕ) → CutTo 0 a b → Written 0 (0 ∷ []) b c → Clears a c
cut_clears a b c cut written = written_empty b c written

-- ---- a batch is written after a gate

module _ (piece : List ℕ) (gate : ℕ) where
  -- after the first write, whether it is done or not
  pub first_torn : (n : ℕ) (a b : List ℕ) → Torn (gate + 1) n a b → MayPut piece gate a b
  first_torn n a b torn batch batches is log = inl (torn_after gate batches a log n b torn)

  -- after the second write, whether it is done or not
  pub second_torn : (a b c : List ℕ) → Written (gate + 1) piece a b → Torn gate 1 b c → MayPut piece gate a c
  second_torn a b c written torn batch batches is log =
      let staged = written_after gate batches a log batch b (subst (λ (p : List ℕ). Written (gate + 1) p a b) is.is written) in
      subst (λ (p : List ℕ). IsLog gate batches c ⊎ IsLog (gate + length p) (batches ++ batch ∷ []) c) (sym is.is) (torn_gate batch is.can gate batches b staged c torn)

  pub both_written : (a b c : List ℕ) → Written (gate + 1) piece a b → Written gate (1 ∷ []) b c → Puts piece gate a c
  both_written a b c written opens batch batches is log =
      let staged = written_after gate batches a log batch b (subst (λ (p : List ℕ). Written (gate + 1) p a b) is.is written) in
      subst (λ (p : List ℕ). IsLog (gate + length p) (batches ++ batch ∷ []) c) (sym is.is) (written_gate batch is.can gate batches b staged c opens)
