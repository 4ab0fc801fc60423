-- Answering the lines of a session, one by one.
use Rattle.std.specs.Prelude.{◌≡◌, ◌⊎◌, ⊤, ℕ, ◌≤◌, ◌<◌, List, [], ◌∷◌, ◌++◌, length, Result, Ok, Err}
use Rattle.vp_model.specs.Types.{Call}
use Rattle.vp_outside.specs.Causes.{Rose}
use Rattle.vp_outside.specs.Input.{SourceState, IsEnded}
use Rattle.vp_outside.specs.Links.{LinkState}
use Rattle.vp_client.specs.Asked.{Asks}
use Rattle.vp_client.specs.declared.asking.AskFault.TheVariants as faults
use Rattle.vp_lines.specs.Ahead.{Ahead, fitting}
use Rattle.vp_gateway.specs.declared.end.GateEnd.{GateEnd}
use Rattle.vp_gateway.specs.declared.end.GateEnd.TheVariants as ends
use Rattle.vp_gateway.specs.declared.asked.LineRequest.{LineRequest}
use Rattle.vp_gateway.specs.declared.asked.LineRequest.TheVariants as asked
use Rattle.vp_gateway.specs.Lines.{whole_lines, all_lines}
use Rattle.vp_gateway.specs.Sessions.{IsSession, Talk, HasAnswered, HasLost, HasCut, HasRunOut}
use Rattle.vp_gateway.specs.Opening.{HasTaken}

module _ (port site turns : ℕ) where
  -- The line was answered with this text, or the link or memory failed.
  abbrev pub Says : {T : Type 0} → (T → List ℕ) → LineRequest → LinkState → LinkState → Result T GateEnd → Type 0
  Says view line old new (Ok text) = IsSession port site turns (line ∷ []) (view text) old new
  Says view line old new (Err ends.LinkFault) = (words : Call) × (line ≡ asked.Call words) × Asks port site words turns old new (Err faults.LinkFault)
  Says view line old new (Err ends.NoMemory) =
      (new ≡ old)
      ⊎ ((words : Call) × (line ≡ asked.Call words) × Asks port site words turns old new (Err faults.NoMemory))
      ⊎ ((text : List ℕ) × IsSession port site turns (line ∷ []) text old new)
  Says view line old new (Err end) = ⊥

  -- That holds, and the text was put to the sink.
  abbrev pub AnswersLine : LineRequest → Talk → Result ⊤ GateEnd → Type 0
  AnswersLine line t (Ok u) = HasAnswered port site turns t (line ∷ []) × (t.sink'.faults ≡ t.sink.faults)
  AnswersLine line t (Err ends.WriteFault) = HasCut port site turns t (line ∷ []) × Rose t.sink.faults t.sink'.faults
  AnswersLine line t (Err ends.LinkFault) = HasLost port site turns t (line ∷ [])
  AnswersLine line t (Err ends.NoMemory) = HasRunOut port site turns t (line ∷ [])
  AnswersLine line t (Err end) = ⊥

  -- the body as far as the input may go, of which this was taken before and these bytes now
  abbrev pub body_of : Ahead → {source source' : SourceState} → HasTaken source source' → List ℕ
  body_of old h = old.unread ++ fitting old.credit h.bytes

  -- Each line was answered, or those before the fault were.
  abbrev pub AnswersLines : Ahead → SourceState → SourceState → Talk → Result ⊤ GateEnd → Type 0
  AnswersLines old source source' t (Ok u) =
      (h : HasTaken source source') × (length h.bytes < old.credit) × IsEnded source' × HasAnswered port site turns t (all_lines (body_of old h))
  AnswersLines old source source' t (Err ends.ReadFault) = (h : HasTaken source source') × Rose source.faults source'.faults × HasAnswered port site turns t (whole_lines (body_of old h))
  AnswersLines old source source' t (Err ends.Limit) = (h : HasTaken source source') × (old.credit ≤ length h.bytes) × HasAnswered port site turns t (whole_lines (body_of old h))
  AnswersLines old source source' t (Err ends.WriteFault) = (h : HasTaken source source') × Rose t.sink.faults t.sink'.faults × HasCut port site turns t (all_lines (body_of old h))
  AnswersLines old source source' t (Err ends.LinkFault) = (h : HasTaken source source') × HasLost port site turns t (all_lines (body_of old h))
  AnswersLines old source source' t (Err ends.NoMemory) = (h : HasTaken source source') × HasRunOut port site turns t (all_lines (body_of old h))
  AnswersLines old source source' t (Err end) = ⊥
