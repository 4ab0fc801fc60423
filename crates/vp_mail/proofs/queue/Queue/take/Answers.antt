use Rattle.std.proofs.Common.{◌≡◌, ◌∙◌, sym, ap, refl}
use Rattle.std.proofs.lemmas.List.{get_or-map}
use Rattle.vp_mail.specs.declared.queue.Numbered.{Numbered}
use Rattle.vp_mail.proofs.Marked.{marked_numbers, marked_shown}
use Rattle.vp_mail.proofs.queue.Queue.take.Goals as goal

pub trim-requires : goal.trim-requires
trim-requires c =
    rw (marked_numbers c.in-Some.place c.self.inside.messages.items c.index_mut.result.now c.index_mut.ensures.value) c.self.invariant.rises

pub returns-in-Some : goal.returns-in-Some
returns-in-Some c =
    let m = c.index_mut.result.now in
    let same : m.number ≡ c.args.number = ap (λ (m : Numbered). m.number) c.index_mut.ensures.value ∙ sym (get_or-map (λ (m : Numbered). m.number) c.self.inside.messages.items c.in-Some.place m c.args.number c.in-Some.ensures.within) ∙ c.in-Some.ensures.numbered in
    c.trim.ensures.undelivered
    ∙ marked_shown 0 c.in-Some.place c.self.inside.messages.items m c.self.invariant.rises c.in-Some.ensures.within c.index_mut.ensures.value
    ∙ rw (same, c.self.view_is) refl
