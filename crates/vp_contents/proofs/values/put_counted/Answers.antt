use Rattle.std.proofs.Common.{◌++◌, List, ℕ, length, refl, ap, ◌∙◌, append_assoc}
use Rattle.vp_text.proofs.Printing.{all_of, begun_err, begun_none}
use Rattle.vp_bytes.proofs.Writing.{begun_front}
use Rattle.vp_contents.specs.Values.{length_bytes}
use Rattle.vp_contents.proofs.values.put_counted.Goals as goal

pub returns-in_err-put_length : goal.returns-in_err-put_length
returns-in_err-put_length g c = begun_err _ _ _ _ c.from_residual.ensures.0 (begun_none _ _ _ c.in_err-put_length.ensures.err)

pub returns-in_err-put_slice : goal.returns-in_err-put_slice
returns-in_err-put_slice g c =
    let bytes = c.args.bytes.now in
    begun_err _ _ _ _ c.from_residual-in_err-put_slice.ensures.0 (begun_front (g.B.BufMut.written c.args.out.now) (length_bytes c.args.version (length bytes)) bytes _ _ refl (c.in_err-put_slice.ensures.err ∙ c.in_ok-put_length.ensures.ok))

pub returns : goal.returns
returns g c =
    let bytes = c.args.bytes.now in
    all_of _ _ _ (c.in_ok-put_slice.ensures.ok ∙ ap (λ (t : List ℕ). t ++ bytes) c.in_ok-put_length.ensures.ok ∙ append_assoc (g.B.BufMut.written c.args.out.now) (length_bytes c.args.version (length bytes)) bytes)
