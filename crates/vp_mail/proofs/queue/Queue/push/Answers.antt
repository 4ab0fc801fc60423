use Rattle.std.proofs.Common.{rules, ◌≡◌, ◌++◌, ◌∷◌, [], refl, false, sym, subst}
use Rattle.vp_mail.specs.Queues.{AreBelow}
use Rattle.vp_mail.specs.declared.queue.Numbered.{Numbered}
use Rattle.vp_mail.proofs.Marked.{joins_shown, joins_trimmed}
use Rattle.vp_mail.proofs.queue.Queue.push.Goals as goal

pub invariant_of-self-2 : goal.invariant_of-self-2
invariant_of-self-2 c =
    let m : Numbered = record { number = c.args.number; delivered = false } in
    let more : c.push_back.new.self.items ≡ c.self.inside.messages.items ++ m ∷ [] = search rules in
    rw more (joins_trimmed m c.self.inside.messages.items refl (subst (AreBelow c.args.number) (sym c.self.view_is) c.requires) c.self.invariant)

pub returns-clause-ok : goal.returns-clause-ok
returns-clause-ok c =
    let m : Numbered = record { number = c.args.number; delivered = false } in
    let more : c.push_back.new.self.items ≡ c.self.inside.messages.items ++ m ∷ [] = search rules in
    rw (more, ← c.self.view_is) (joins_shown m c.self.inside.messages.items refl)
