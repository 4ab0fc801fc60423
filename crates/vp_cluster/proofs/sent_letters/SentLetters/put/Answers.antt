use Rattle.std.proofs.Common.{rules, ◌≡◌, ◌∙◌, sym, ◌++◌, ◌∷◌, [], length}
use Rattle.std.specs.Prelude.{Some}
use Rattle.vp_text.proofs.Printing.{begun_parts}
use Rattle.vp_model.specs.Words.{value_at}
use Rattle.vp_laws.specs.ShapeLaws.{message_frame}
use Rattle.vp_wire.specs.Grammar.{frame_bytes}
use Rattle.vp_cluster.specs.declared.sent_letters.LetterSpan.{LetterSpan}
use Rattle.vp_cluster.proofs.Filed.{message_joins, order_joins, order_longer, more_bytes}
use Rattle.vp_cluster.proofs.sent_letters.SentLetters.put.Goals as goal

pub returns : goal.returns
returns c =
    let bytes = c.self.inside.bytes.items in
    let filed : LetterSpan = record { from = c.args.from; to = c.in-Some.to; start = length bytes } in
    let at : value_at c.args.sent.now.to c.args.catalog.now.sites ≡ Some c.in-Some.to = sym c.port.ensures ∙ c.in-Some.is in
    let longer : c.encode_message.new.out.items ≡ bytes ++ frame_bytes (message_frame c.args.sent.now) = c.in_ok-encode_message.ensures.whole in
    let more : c.push.new.self.items ≡ c.self.inside.filed.items ++ filed ∷ [] = search rules in
    rw (longer, more, ← c.self.view_is) (message_joins c.args.catalog.now bytes c.self.inside.filed.items c.args.from c.in-Some.to c.args.sent.now at c.self.invariant)

pub invariant_of-self : goal.invariant_of-self
invariant_of-self c =
    let bytes = c.self.inside.bytes.items in
    let begun = begun_parts bytes (frame_bytes (message_frame c.args.sent.now)) c.encode_message.new.out.items c.encode_message.ensures.begun in
    rw begun.is (order_longer (length (bytes ++ begun.front)) (length bytes) c.self.inside.filed.items (more_bytes bytes begun.front) c.self.invariant)

pub invariant_of-self-in_err-push : goal.invariant_of-self-in_err-push
invariant_of-self-in_err-push c =
    let bytes = c.self.inside.bytes.items in
    let added = frame_bytes (message_frame c.args.sent.now) in
    let longer : c.encode_message.new.out.items ≡ bytes ++ added = c.in_ok-encode_message.ensures.whole in
    let same : c.push.new.self.items ≡ c.self.inside.filed.items = search rules in
    rw (longer, same) (order_longer (length (bytes ++ added)) (length bytes) c.self.inside.filed.items (more_bytes bytes added) c.self.invariant)

pub invariant_of-self-2 : goal.invariant_of-self-2
invariant_of-self-2 c =
    let bytes = c.self.inside.bytes.items in
    let added = frame_bytes (message_frame c.args.sent.now) in
    let filed : LetterSpan = record { from = c.args.from; to = c.in-Some.to; start = length bytes } in
    let longer : c.encode_message.new.out.items ≡ bytes ++ added = c.in_ok-encode_message.ensures.whole in
    let more : c.push.new.self.items ≡ c.self.inside.filed.items ++ filed ∷ [] = search rules in
    rw (longer, more) (order_joins (length (bytes ++ added)) (length bytes) c.self.inside.filed.items c.args.from c.in-Some.to (more_bytes bytes added) c.self.invariant)
