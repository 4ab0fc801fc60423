use Rattle.std.proofs.Common.{◌≡◌, ◌+◌, ◌++◌, ℕ, List, map, take}
use Rattle.vp_laws.specs.ShapeLaws.{message_frame}
use Rattle.vp_wire.specs.Grammar.{frame_bytes}
use Rattle.vp_model.specs.Types.{Sent}
use Rattle.vp_merge.specs.Numbers.{Notes}
use Rattle.vp_merge.specs.Telling.{agrees}
use Rattle.vp_merge.proofs.telling.compare_messages.Given as goal

abbrev pub invariant-loop-sent : goal.invariant-loop-sent
invariant-loop-sent l = record {
  counted : l.number ≡ l.first + l.sent-index;
  compared : (made : List (List ℕ)) → agrees l.fn.comparison (map (λ (sent : Sent). frame_bytes (message_frame sent)) (take l.sent-index l.messages) ++ made) ≡ agrees l.comparison made;
  noted : Notes l.first (take l.sent-index l.messages) l.fn.numbers l.numbers;
}
