use Rattle.std.proofs.Common.{◌≡◌, ◌∷◌, map, List, false}
use Rattle.vp_mail.specs.Queues.{undelivered_numbers, Rises}
use Rattle.vp_mail.specs.declared.queue.Numbered.{Numbered}
use Rattle.vp_mail.proofs.queue.trim.Given as goal

abbrev pub invariant-loop-messages : goal.invariant-loop-messages
invariant-loop-messages l = (undelivered_numbers l.messages.items ≡ undelivered_numbers l.initial.messages.items) × Rises 0 (map (λ m. m.number) l.messages.items)

abbrev pub decreases-loop-messages : goal.decreases-loop-messages
decreases-loop-messages l = l.messages.len

abbrev pub invariant-loop-messages-2 : goal.invariant-loop-messages-2
invariant-loop-messages-2 l =
    (undelivered_numbers l.messages.items ≡ undelivered_numbers l.initial.messages.items) × Rises 0 (map (λ m. m.number) l.messages.items)
    × ((m : Numbered) (rest : List Numbered) → l.messages.items ≡ m ∷ rest → m.delivered ≡ false)

abbrev pub decreases-loop-messages-2 : goal.decreases-loop-messages-2
decreases-loop-messages-2 l = l.messages.len
