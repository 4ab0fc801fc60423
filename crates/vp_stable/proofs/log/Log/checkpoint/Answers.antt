use Rattle.std.proofs.Common.{◌≡◌, ℕ, ◌<◌, ◌^◌, ◌-◌, ◌∙◌, ◌+◌, [], ◌∷◌, List, sym, length, ap, subst, arith}
use Rattle.vp_base.specs.declared.entry.LogRecord.{LogRecord}
use Rattle.vp_stable.specs.Halves.{Standing, checkpoint_of, SavesAt, MaySaveAt, save_batches}
use Rattle.vp_stable.specs.Writing.{IsPiece}
use Rattle.vp_stable.proofs.Times.{others_join}
use Rattle.vp_stable.proofs.Writes.{on_err, becomes-as, becomes-same, becomes-then}
use Rattle.vp_stable.proofs.Standings.{standing_same}
use Rattle.vp_stable.proofs.Appends.{kept_at}
use Rattle.vp_stable.proofs.Currents.{other_half, other_is}
use Rattle.vp_stable.proofs.Checkpoints.{may_keep, may_clear, may_save, saves, saves_nothing, none_leaves, clear_leaves, put_leaves}
use Rattle.vp_stable.proofs.log.Log.checkpoint.Goals as goal

-- the last generation
pub returns-in_default-clause-saved : goal.returns-in_default-clause-saved
returns-in_default-clause-saved g c =
    let from : Standing = record { half = c.self.inside.half; generation = c.self.inside.generation; gate = c.self.inside.gate; second = c.self.inside.second } in
    let last : from.generation ≡ 2 ^ 64 - 1 = grind (arith, c.in_default.ensures, c.self.ranges) in
    rw (← c.self.view_is) (becomes-same (SavesAt c.args.durable.now from from) _ (saves_nothing c.args.durable.now from last))

pub returns-in_default-clause-any_moment : goal.returns-in_default-clause-any_moment
returns-in_default-clause-any_moment g c honest =
    none_leaves c.args.durable.now c.args.self.now c.requires.form.copies.2 (g.D.Disk.state c.args.disk.now) (g.met.D.Disk.is_disk c.args.disk.now) honest c.requires.kept

-- want of memory before the first call
pub returns-in_err-batch-clause-fault : goal.returns-in_err-batch-clause-fault
returns-in_err-batch-clause-fault g c =
    on_err c.from_residual.result (becomes-same (MaySaveAt c.args.durable.now c.args.self.now) _ (may_keep c.args.durable.now c.args.self.now))

pub returns-in_err-batch-clause-any_moment : goal.returns-in_err-batch-clause-any_moment
returns-in_err-batch-clause-any_moment g c honest =
    none_leaves c.args.durable.now c.args.self.now c.requires.form.copies.2 (g.D.Disk.state c.args.disk.now) (g.met.D.Disk.is_disk c.args.disk.now) honest c.requires.kept

pub returns-in_err-piece-clause-fault : goal.returns-in_err-piece-clause-fault
returns-in_err-piece-clause-fault g c =
    on_err c.from_residual-in_err-piece.result (becomes-same (MaySaveAt c.args.durable.now c.args.self.now) _ (may_keep c.args.durable.now c.args.self.now))

pub returns-in_err-piece-clause-any_moment : goal.returns-in_err-piece-clause-any_moment
returns-in_err-piece-clause-any_moment g c honest =
    none_leaves c.args.durable.now c.args.self.now c.requires.form.copies.2 (g.D.Disk.state c.args.disk.now) (g.met.D.Disk.is_disk c.args.disk.now) honest c.requires.kept

-- a half that isn't cleared
pub returns-in_err-clear-clause-fault : goal.returns-in_err-clear-clause-fault
returns-in_err-clear-clause-fault g c =
    let from : Standing = record { half = c.self.inside.half; generation = c.self.inside.generation; gate = c.self.inside.gate; second = c.self.inside.second } in
    let fault = rw (other_is c.self.inside.half c.self.invariant.0) at c.in_err-clear.ensures.fault in
    rw (← c.self.view_is) (on_err _ (becomes-as _ _ (may_clear c.args.durable.now from) fault))

pub returns-in_err-clear-clause-any_moment : goal.returns-in_err-clear-clause-any_moment
returns-in_err-clear-clause-any_moment g c honest =
    let from : Standing = record { half = c.self.inside.half; generation = c.self.inside.generation; gate = c.self.inside.gate; second = c.self.inside.second } in
    let kept = rw (← c.self.view_is) at c.requires.kept in
    let first = rw (other_is c.self.inside.half c.self.invariant.0) at c.clear.ensures.any_moment in
    rw (← c.self.view_is) (clear_leaves c.args.durable.now from c.requires.form.copies.2 (g.D.Disk.state c.args.disk.now) (g.met.D.Disk.is_disk c.args.disk.now) honest kept (g.D.Disk.state c.clear.new.disk) first)

-- a checkpoint that isn't written
pub returns-in_err-put-clause-fault : goal.returns-in_err-put-clause-fault
returns-in_err-put-clause-fault g c =
    let from : Standing = record { half = c.self.inside.half; generation = c.self.inside.generation; gate = c.self.inside.gate; second = c.self.inside.second } in
    let next = c.in-Some.ensures in
    let batch : c.in_ok-batch.batch ≡ checkpoint_of (from.generation + 1) c.args.durable.now ∷ [] =
    c.in_ok-batch.ensures.batch ∙ ap (λ (n : ℕ). checkpoint_of n c.args.durable.now ∷ []) next.1 in
    let is : IsPiece (checkpoint_of (from.generation + 1) c.args.durable.now ∷ []) c.deref.result.now =
    subst (λ (b : List LogRecord). IsPiece b c.deref.result.now) batch (record { is = c.deref.ensures.value ∙ c.in_ok-piece.ensures.bytes; can = c.in_ok-piece.ensures.can }) in
    let more : from.generation < 2 ^ 64 - 1 = omega (arith, next.0) in
    let half = other_is c.self.inside.half c.self.invariant.0 in
    let cleared = rw half at c.in_ok-clear.ensures.cleared in
    let fault = rw (half, c.clear.ensures.others.stays.same_name) at c.in_err-put.ensures.fault in
    rw (← c.self.view_is) (on_err _ (becomes-then _ _ _ (may_save c.args.durable.now from c.deref.result.now is more) cleared fault))

pub returns-in_err-put-clause-any_moment : goal.returns-in_err-put-clause-any_moment
returns-in_err-put-clause-any_moment g c honest =
    let from : Standing = record { half = c.self.inside.half; generation = c.self.inside.generation; gate = c.self.inside.gate; second = c.self.inside.second } in
    let next = c.in-Some.ensures in
    let batch : c.in_ok-batch.batch ≡ checkpoint_of (from.generation + 1) c.args.durable.now ∷ [] =
    c.in_ok-batch.ensures.batch ∙ ap (λ (n : ℕ). checkpoint_of n c.args.durable.now ∷ []) next.1 in
    let is : IsPiece (checkpoint_of (from.generation + 1) c.args.durable.now ∷ []) c.deref.result.now =
    subst (λ (b : List LogRecord). IsPiece b c.deref.result.now) batch (record { is = c.deref.ensures.value ∙ c.in_ok-piece.ensures.bytes; can = c.in_ok-piece.ensures.can }) in
    let more : from.generation < 2 ^ 64 - 1 = omega (arith, next.0) in
    let kept = rw (← c.self.view_is) at c.requires.kept in
    let half = other_is c.self.inside.half c.self.invariant.0 in
    let first = rw half at c.clear.ensures.any_moment in
    let cleared = rw half at c.in_ok-clear.ensures.cleared in
    let second = rw (half, c.clear.ensures.others.stays.same_name) at c.put.ensures.any_moment in
    rw (← c.self.view_is) (put_leaves c.args.durable.now from c.requires.form.copies.2 (g.D.Disk.state c.args.disk.now) (g.met.D.Disk.is_disk c.args.disk.now) honest kept
    c.deref.result.now is more (g.D.Disk.state c.clear.new.disk) (g.D.Disk.state c.put.new.disk) first cleared c.in_ok-clear.ensures.durable c.clear.ensures.others.honest.0 second)

pub returns-in_err-put-clause-others : goal.returns-in_err-put-clause-others
returns-in_err-put-clause-others g c = others_join c.clear.ensures.others c.put.ensures.others

-- one that is
pub returns-clause-saved : goal.returns-clause-saved
returns-clause-saved g c =
    let from : Standing = record { half = c.self.inside.half; generation = c.self.inside.generation; gate = c.self.inside.gate; second = c.self.inside.second } in
    let next = c.in-Some.ensures in
    let batch : c.in_ok-batch.batch ≡ checkpoint_of (from.generation + 1) c.args.durable.now ∷ [] =
    c.in_ok-batch.ensures.batch ∙ ap (λ (n : ℕ). checkpoint_of n c.args.durable.now ∷ []) next.1 in
    let is : IsPiece (checkpoint_of (from.generation + 1) c.args.durable.now ∷ []) c.deref.result.now =
    subst (λ (b : List LogRecord). IsPiece b c.deref.result.now) batch (record { is = c.deref.ensures.value ∙ c.in_ok-piece.ensures.bytes; can = c.in_ok-piece.ensures.can }) in
    let more : from.generation < 2 ^ 64 - 1 = omega (arith, next.0) in
    let half = other_is c.self.inside.half c.self.invariant.0 in
    let cleared = rw half at c.in_ok-clear.ensures.cleared in
    let put = rw (half, c.clear.ensures.others.stays.same_name) at c.in_ok-put.ensures.put in
    let size : c.len.result ≡ length c.deref.result.now = c.len.ensures ∙ sym c.deref.ensures.len in
    let to : Standing = record { half = 1 - c.self.inside.half; generation = c.in-Some.generation; gate = c.len.result; second = c.len.result } in
    let same = standing_same to (record { half = other_half from.half; generation = from.generation + 1; gate = length c.deref.result.now; second = length c.deref.result.now }) half next.1 size size in
    rw (← c.self.view_is, same) (becomes-then _ _ _ (saves c.args.durable.now from c.deref.result.now is more) cleared put)

pub returns-clause-kept : goal.returns-clause-kept
returns-clause-kept g c =
    let to : Standing = record { half = 1 - c.self.inside.half; generation = c.in-Some.generation; gate = c.len.result; second = c.len.result } in
    let name = c.put.ensures.others.stays.same_name ∙ c.clear.ensures.others.stays.same_name in
    kept_at c.args.self.now to (save_batches c.args.durable.now) (g.D.Disk.state c.args.disk.now) (g.D.Disk.state c.put.new.disk) name
    (λ honest. rw c.clear.ensures.others.stays.same_name at (c.in_ok-put.ensures.durable (c.clear.ensures.others.honest.0 honest)))
    c.requires.kept (λ honest. c.clear.ensures.others.honest.1 (c.put.ensures.others.honest.1 honest)) (returns-clause-saved g c)

pub returns-clause-any_moment : goal.returns-clause-any_moment
returns-clause-any_moment g c honest =
    let from : Standing = record { half = c.self.inside.half; generation = c.self.inside.generation; gate = c.self.inside.gate; second = c.self.inside.second } in
    let next = c.in-Some.ensures in
    let batch : c.in_ok-batch.batch ≡ checkpoint_of (from.generation + 1) c.args.durable.now ∷ [] =
    c.in_ok-batch.ensures.batch ∙ ap (λ (n : ℕ). checkpoint_of n c.args.durable.now ∷ []) next.1 in
    let is : IsPiece (checkpoint_of (from.generation + 1) c.args.durable.now ∷ []) c.deref.result.now =
    subst (λ (b : List LogRecord). IsPiece b c.deref.result.now) batch (record { is = c.deref.ensures.value ∙ c.in_ok-piece.ensures.bytes; can = c.in_ok-piece.ensures.can }) in
    let more : from.generation < 2 ^ 64 - 1 = omega (arith, next.0) in
    let kept = rw (← c.self.view_is) at c.requires.kept in
    let half = other_is c.self.inside.half c.self.invariant.0 in
    let first = rw half at c.clear.ensures.any_moment in
    let cleared = rw half at c.in_ok-clear.ensures.cleared in
    let second = rw (half, c.clear.ensures.others.stays.same_name) at c.put.ensures.any_moment in
    rw (← c.self.view_is) (put_leaves c.args.durable.now from c.requires.form.copies.2 (g.D.Disk.state c.args.disk.now) (g.met.D.Disk.is_disk c.args.disk.now) honest kept
    c.deref.result.now is more (g.D.Disk.state c.clear.new.disk) (g.D.Disk.state c.put.new.disk) first cleared c.in_ok-clear.ensures.durable c.clear.ensures.others.honest.0 second)

pub returns-clause-others : goal.returns-clause-others
returns-clause-others g c = others_join c.clear.ensures.others c.put.ensures.others
