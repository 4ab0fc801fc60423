use Rattle.std.proofs.Common.{◌++◌, refl}
use Rattle.vp_bytes.specs.Fields.{number_bytes, view_bytes}
use Rattle.vp_bytes.proofs.Writing.{following}
use Rattle.vp_records.specs.Records.{saved_bytes}
use Rattle.vp_records.proofs.encoding.put_checkpoint.Goals as goal

pub returns : goal.returns
returns c =
    let a = c.args in
    let old = a.out.now.items in
    let result = c.put_saved.result in
    let generation = number_bytes 8 a.generation in
    let life = number_bytes 4 a.life in
    let promise = view_bytes a.promise.now in
    let saved = saved_bytes a.version a.copies.now a.doubts.now a.decisions.now in
    let last = rw (c.in_ok-put_view.ensures.whole, c.in_ok-put_u32.ensures.ok, c.in_ok-put_u64.ensures.ok) at c.put_saved.ensures in
    let after_life = following result ((old ++ generation) ++ life) promise saved _ _ refl last in
    let after_generation = following result (old ++ generation) life (promise ++ saved) _ _ refl after_life in
    following result old generation (life ++ (promise ++ saved)) _ _ refl after_generation
