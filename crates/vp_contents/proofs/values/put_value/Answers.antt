use Rattle.vp_contents.proofs.values.put_value.Goals as goal

pub put_counted-requires : goal.put_counted-requires
put_counted-requires g c = rw c.as_bytes.ensures.bytes c.requires.short
