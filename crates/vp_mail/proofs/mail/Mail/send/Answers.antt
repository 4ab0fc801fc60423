use Rattle.std.proofs.Common.{rules, ◌≡◌, ◌∙◌, ap, sym, length}
use Rattle.std.proofs.lemmas.Iterator.Adapters.{YieldsList-from_vec}
use Rattle.std.proofs.lemmas.Iterator.Consumers.{YieldsList-so_far, YieldsList-turn}
use Rattle.std.proofs.lemmas.List.{map-id}
use Rattle.std.specs.Prelude.{Result, Ok, Err, OnErr}
use Rattle.vp_mail.specs.Posted.{post_messages}
use Rattle.vp_mail.proofs.mail.Mail.send.Goals as goal

pub returns-in_err-post-clause-err : goal.returns-in_err-post-clause-err
returns-in_err-post-clause-err c =
    let messages = c.args.messages in
    let iterator = c.into_iter-message-iterator.result in
    let items : iterator.rest.items ≡ messages = search rules in
    let size : iterator.rest.len ≡ length messages = search rules in
    let road = YieldsList-from_vec {s = iterator} messages items size in
    let yielded = c.loop-message.yielded in
    let turn = YieldsList-turn road yielded _ c.loop-message.yielded_by _ c.next.new.self c.in-Some.message c.in-Some.is c.next.ensures.steps in
    let first = sym (map-id yielded) ∙ YieldsList-so_far road yielded _ c.loop-message.yielded_by in
    let sent = c.in_err-post.ensures.err ∙ c.loop-message.invariant ∙ ap (λ messages. post_messages messages c.args.self.now) first in
    on_err c.from_residual.result (length yielded, turn.0, sent)
  where
    on_err : {T E P : Type 0} (r : Result T E) → P → OnErr r P
    on_err (Ok x) p = tt
    on_err (Err e) p = p
