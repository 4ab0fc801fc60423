use Rattle.std.proofs.Common.{◌∙◌, ◌++◌, ◌∷◌, [], map, if◌then◌else◌, sym, ap}
use Rattle.vp_model.specs.Types.{Lock}
use Rattle.vp_model.specs.Locks.{raised}
use Rattle.vp_locks.proofs.Indexes.{raised_none}
use Rattle.vp_locks.proofs.Locks.put.Goals as goal

pub returns-else-exclusive : goal.returns-else-exclusive
returns-else-exclusive c =
    let locks = c.args.self.now in
    let lock : Lock = record { rec = c.args.rec; exclusive = c.args.exclusive; owner = c.args.owner.now } in
    sym (raised_none c.args.rec c.args.owner.now locks) ∙ ap (λ b. map (raised c.args.rec b c.args.owner.now) locks) (sym c.if-exclusive.false)
    ∙ ap (λ b. if b then map (raised c.args.rec c.args.exclusive c.args.owner.now) locks else locks ++ lock ∷ []) c.if-not-has.ensures
