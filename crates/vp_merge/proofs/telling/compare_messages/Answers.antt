use Rattle.std.proofs.Common.{rules, arith, ◌≡◌, ◌∙◌, ap, sym, subst, ◌+◌, ℕ, List, [], ◌∷◌, ◌++◌, take, map, length}
use Rattle.std.proofs.lemmas.List.{length-take-le, take_more, map-append}
use Rattle.vp_model.specs.Types.{Sent}
use Rattle.vp_laws.specs.ShapeLaws.{message_frame}
use Rattle.vp_wire.specs.Grammar.{frame_bytes}
use Rattle.vp_merge.specs.Numbers.{Notes}
use Rattle.vp_merge.specs.Telling.{agrees}
use Rattle.vp_merge.proofs.Comparing.{agrees_more}
use Rattle.vp_merge.proofs.Index.{notes_more}
use Rattle.vp_merge.proofs.telling.compare_messages.Goals as goal

pub loop-sent-preserved : goal.loop-sent-preserved
loop-sent-preserved c =
    let h = c.loop-sent.invariant in
    let i = c.loop-sent.sent-index in
    let xs = c.args.messages.now in
    let sent = c.sent-item.result in
    let frame = frame_bytes (message_frame sent) in
    let more : take (i + 1) xs ≡ take i xs ++ sent ∷ [] = take_more xs i sent c.loop-sent-test.true ∙ ap (λ (s : Sent). take i xs ++ s ∷ []) (sym c.sent-item.is) in
    let room : c.deref.result.now ≡ frame = search rules in
    let again : c.deref-in-loop-sent.result.now ≡ frame = search rules in
    let many : length (take i xs) ≡ i = length-take-le i xs (omega (arith, c.loop-sent-test.true)) in
    let counted = h.counted in
    record {
      counted = omega (arith, counted);
      compared = λ made.
          ap (λ (ys : List Sent). agrees c.args.comparison.now (map (λ (sent : Sent). frame_bytes (message_frame sent)) ys ++ made)) more
          ∙ ap (λ (ys : List (List ℕ)). agrees c.args.comparison.now (ys ++ made)) (map-append (λ (sent : Sent). frame_bytes (message_frame sent)) (take i xs) (sent ∷ []))
          ∙ agrees_more c.args.comparison.now c.loop-sent.comparison c.compare.new.self (map (λ (sent : Sent). frame_bytes (message_frame sent)) (take i xs)) frame h.compared (λ made. ap (λ (f : List ℕ). agrees c.loop-sent.comparison (f ∷ made)) (sym room) ∙ c.compare.ensures made) made;
      noted = subst (λ (ys : List Sent). Notes c.args.first ys c.args.numbers.now c.note.new.self) (sym more) (notes_more c.args.first (take i xs) c.args.numbers.now c.loop-sent.numbers c.note.new.self sent c.deref-in-loop-sent.result.now c.loop-sent.number h.noted c.note.ensures.same c.note.ensures.noted (omega (arith, counted, many)) again);
    }
