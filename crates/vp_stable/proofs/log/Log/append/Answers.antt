use Rattle.std.proofs.Common.{◌≡◌, ℕ, rules, ◌∙◌, ◌+◌, [], ◌∷◌, ◌++◌, sym, refl, length, ap}
use Rattle.vp_outside.specs.Disk.{InHalf}
use Rattle.vp_stable.specs.Halves.{Standing, generation_in, MayGainAt}
use Rattle.vp_stable.specs.Writing.{IsPiece, MayPut}
use Rattle.vp_stable.proofs.Writes.{on_err, becomes-as, becomes-same, tears_as}
use Rattle.vp_stable.proofs.Standings.{standing_same, may_stay, may_gain, gains_where, gains_more, gains_first}
use Rattle.vp_stable.proofs.Stops.{some_as, appends_as}
use Rattle.vp_stable.proofs.Appends.{leaves_torn, tears_none, kept_at}
use Rattle.vp_stable.proofs.log.Log.append.Goals as goal
use Rattle.vp_stable.proofs.log.Log.append.Goals.{then-self-eq0, else-self-eq0}

-- want of memory before the first call
pub returns-in_err-piece-clause-fault : goal.returns-in_err-piece-clause-fault
returns-in_err-piece-clause-fault g c = on_err c.from_residual.result (becomes-same (MayGainAt c.args.batch.now c.args.self.now) _ (may_stay c.args.batch.now c.args.self.now))

pub returns-in_err-piece-clause-any_moment : goal.returns-in_err-piece-clause-any_moment
returns-in_err-piece-clause-any_moment g c honest =
    let old = g.D.Disk.state c.args.disk.now in
    let may = MayGainAt c.args.batch.now c.args.self.now in
    leaves_torn c.args.self.now old old (g.met.D.Disk.is_disk c.args.disk.now) may (may_stay c.args.batch.now c.args.self.now) honest c.requires.kept (tears_none old may)

-- a batch that isn't written
pub returns-in_err-put-clause-fault : goal.returns-in_err-put-clause-fault
returns-in_err-put-clause-fault g c =
    let from : Standing = record { half = c.self.inside.half; generation = c.self.inside.generation; gate = c.self.inside.gate; second = c.self.inside.second } in
    let is : IsPiece c.args.batch.now c.deref.result.now = record { is = c.deref.ensures.value ∙ c.in_ok-piece.ensures.bytes; can = c.in_ok-piece.ensures.can } in
    rw (← c.self.view_is) (on_err _ (becomes-as _ _ (may_gain c.args.batch.now c.deref.result.now is from) c.in_err-put.ensures.fault))

pub returns-in_err-put-clause-any_moment : goal.returns-in_err-put-clause-any_moment
returns-in_err-put-clause-any_moment g c honest =
    let from : Standing = record { half = c.self.inside.half; generation = c.self.inside.generation; gate = c.self.inside.gate; second = c.self.inside.second } in
    let is : IsPiece c.args.batch.now c.deref.result.now = record { is = c.deref.ensures.value ∙ c.in_ok-piece.ensures.bytes; can = c.in_ok-piece.ensures.can } in
    let old = g.D.Disk.state c.args.disk.now in
    let new = g.D.Disk.state c.put.new.disk in
    let may = MayGainAt c.args.batch.now from in
    let kept = rw (← c.self.view_is) at c.requires.kept in
    rw (← c.self.view_is) (leaves_torn from old new (g.met.D.Disk.is_disk c.args.disk.now) may (may_stay c.args.batch.now from) honest kept
    (tears_as old.asked old new (InHalf from.half (MayPut c.deref.result.now from.gate)) may (may_gain c.args.batch.now c.deref.result.now is from) c.put.ensures.any_moment))

pub returns-in_err-put-clause-stop : goal.returns-in_err-put-clause-stop
returns-in_err-put-clause-stop g c enough =
    let from : Standing = record { half = c.self.inside.half; generation = c.self.inside.generation; gate = c.self.inside.gate; second = c.self.inside.second } in
    let is : IsPiece c.args.batch.now c.deref.result.now = record { is = c.deref.ensures.value ∙ c.in_ok-piece.ensures.bytes; can = c.in_ok-piece.ensures.can } in
    rw (← c.self.view_is) (some_as _ (λ calls h. appends_as _ _ calls _ _ (gains_where c.args.batch.now c.deref.result.now is from) h) (c.put.ensures.stop (λ memory. enough (search rules))))

-- one that is
pub returns-clause-appended : goal.returns-clause-appended
returns-clause-appended g c =
    let from : Standing = record { half = c.self.inside.half; generation = c.self.inside.generation; gate = c.self.inside.gate; second = c.self.inside.second } in
    let is : IsPiece c.args.batch.now c.deref.result.now = record { is = c.deref.ensures.value ∙ c.in_ok-piece.ensures.bytes; can = c.in_ok-piece.ensures.can } in
    let size : c.len-2.result ≡ length c.deref.result.now = c.len-2.ensures ∙ sym c.deref.ensures.len in
    elim c.if-self-eq0.branch [
      | then-self-eq0 w ↦
          let second : w.len.result ≡ length c.deref.result.now = w.len.ensures ∙ sym c.deref.ensures.len in
          let to : Standing = record { half = from.half; generation = w.generation_in-self-inside.result; gate = from.gate + c.len-2.result; second = w.len.result } in
          let same = standing_same to (record from { generation = generation_in c.args.batch.now; gate = from.gate + length c.deref.result.now; second = length c.deref.result.now })
          refl w.generation_in-self-inside.ensures (ap (λ (n : ℕ). from.gate + n) size) second in
          rw (← c.self.view_is, w.self-inside-is) (becomes-as _ _ (gains_first c.args.batch.now c.deref.result.now is from to same w.if-self-eq0.true) c.in_ok-put.ensures.put)
      | else-self-eq0 w ↦
          let to : Standing = record from { gate = from.gate + c.len-2.result } in
          let same = standing_same to (record from { gate = from.gate + length c.deref.result.now }) refl refl (ap (λ (n : ℕ). from.gate + n) size) refl in
          rw (← c.self.view_is, w.self-inside-is) (becomes-as _ _ (gains_more c.args.batch.now c.deref.result.now is from to same w.if-self-eq0.false) c.in_ok-put.ensures.put)
    ]

pub returns-clause-kept : goal.returns-clause-kept
returns-clause-kept g c =
    let old = g.D.Disk.state c.args.disk.now in
    let new = g.D.Disk.state c.put.new.disk in
    let log = c.if-self-eq0.self-inside in
    let to : Standing = record { half = log.half; generation = log.generation; gate = log.gate + c.len-2.result; second = log.second } in
    kept_at c.args.self.now to (λ batches. batches ++ c.args.batch.now ∷ []) old new c.put.ensures.others.stays.same_name c.in_ok-put.ensures.durable c.requires.kept
    c.put.ensures.others.honest.1 (returns-clause-appended g c)

pub returns-clause-any_moment : goal.returns-clause-any_moment
returns-clause-any_moment g c honest =
    let from : Standing = record { half = c.self.inside.half; generation = c.self.inside.generation; gate = c.self.inside.gate; second = c.self.inside.second } in
    let is : IsPiece c.args.batch.now c.deref.result.now = record { is = c.deref.ensures.value ∙ c.in_ok-piece.ensures.bytes; can = c.in_ok-piece.ensures.can } in
    let old = g.D.Disk.state c.args.disk.now in
    let new = g.D.Disk.state c.put.new.disk in
    let may = MayGainAt c.args.batch.now from in
    let kept = rw (← c.self.view_is) at c.requires.kept in
    rw (← c.self.view_is) (leaves_torn from old new (g.met.D.Disk.is_disk c.args.disk.now) may (may_stay c.args.batch.now from) honest kept
    (tears_as old.asked old new (InHalf from.half (MayPut c.deref.result.now from.gate)) may (may_gain c.args.batch.now c.deref.result.now is from) c.put.ensures.any_moment))

pub returns-clause-stop : goal.returns-clause-stop
returns-clause-stop g c enough =
    let from : Standing = record { half = c.self.inside.half; generation = c.self.inside.generation; gate = c.self.inside.gate; second = c.self.inside.second } in
    let is : IsPiece c.args.batch.now c.deref.result.now = record { is = c.deref.ensures.value ∙ c.in_ok-piece.ensures.bytes; can = c.in_ok-piece.ensures.can } in
    rw (← c.self.view_is) (some_as _ (λ calls h. appends_as _ _ calls _ _ (gains_where c.args.batch.now c.deref.result.now is from) h) (c.put.ensures.stop (search rules)))
