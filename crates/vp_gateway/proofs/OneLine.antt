-- Answering one line.
use Rattle.std.proofs.Common.{◌≡◌, ℕ, List, [], ◌∷◌, refl, sym, ap, subst, inl, inr, Ok, Err}
use Rattle.std.specs.Prelude.{Some, None, Result}
use Rattle.std.specs.Io.KnownBytes.{Appends}
use Rattle.std.proofs.KnownBytes.{Appends-nil}
use Rattle.vp_model.specs.Types.{Answer, Call}
use Rattle.vp_outside.specs.Output.{SinkState, AppendsPrefix, HasOutCause}
use Rattle.vp_outside.specs.Links.{LinkState}
use Rattle.vp_outside.specs.declared.sink.OutFault.{OutFault}
use Rattle.vp_outside.specs.declared.sink.OutFault.TheVariants as output
use Rattle.vp_client.specs.Asked.{Asks}
use Rattle.vp_client.specs.declared.asking.AskFault.TheVariants as faults
use Rattle.vp_gateway.specs.declared.end.GateEnd.{GateEnd}
use Rattle.vp_gateway.specs.declared.end.GateEnd.TheVariants as ends
use Rattle.vp_gateway.specs.declared.asked.LineRequest.{LineRequest}
use Rattle.vp_gateway.specs.declared.asked.LineRequest.TheVariants as asked
use Rattle.vp_gateway.specs.Ends.{end_of_output}
use Rattle.vp_gateway.specs.Lines.{said_line, bad_line, long_line}
use Rattle.vp_gateway.specs.Sessions.{IsSession, talk}
use Rattle.vp_gateway.specs.Answering.{Says, AnswersLine}
use Rattle.vp_gateway.proofs.Talking.{asked_one, bad_one, long_one, no_lines, none_prefix}

module _ (port site turns : ℕ) where
  -- ---- the text of the answer

  module _ {T : Type 0} (view : T → List ℕ) (text : T) (old new : LinkState) where
    pub says_answer : (words : Call) (a : Answer) → Asks port site words turns old new (Ok a) → view text ≡ said_line (Some a) → Says port site turns view (asked.Call words) old new (Ok text)
    says_answer words a h is = subst (λ (t : List ℕ). IsSession port site turns (asked.Call words ∷ []) t old new) (sym is) (asked_one port site turns old new words (Some a) h)

    pub says_none : (words : Call) (count : ℕ) → Asks port site words turns old new (Err (faults.NoAnswer count)) → view text ≡ said_line None → Says port site turns view (asked.Call words) old new (Ok text)
    says_none words count h is =
        subst (λ (t : List ℕ). IsSession port site turns (asked.Call words ∷ []) t old new) (sym is) (asked_one port site turns old new words None (refl, h.1))

    pub says_bad : (line : LineRequest) (at : ℕ) → line ≡ asked.Bad at → new ≡ old → view text ≡ bad_line at → Says port site turns view line old new (Ok text)
    says_bad line at line_is same is =
        subst (λ (a : LineRequest). IsSession port site turns (a ∷ []) (view text) old new) (sym line_is)
        (subst (λ (t : List ℕ). IsSession port site turns (asked.Bad at ∷ []) t old new) (sym is) (bad_one port site turns old new at same))

    pub says_long : (line : LineRequest) → line ≡ asked.Long → new ≡ old → view text ≡ long_line → Says port site turns view line old new (Ok text)
    says_long line line_is same is =
        subst (λ (a : LineRequest). IsSession port site turns (a ∷ []) (view text) old new) (sym line_is)
        (subst (λ (t : List ℕ). IsSession port site turns (asked.Long ∷ []) t old new) (sym is) (long_one port site turns old new same))

  -- the answer to a line that asks this
  pub says_as : {T : Type 0} (view : T → List ℕ) (line words : LineRequest) (old new : LinkState) (r : Result T GateEnd) → line ≡ words → Says port site turns view words old new r → Says port site turns view line old new r
  says_as view line words old new r same h = subst (λ (a : LineRequest). Says port site turns view a old new r) (sym same) h

  -- memory ran out, while the answer was printed
  pub forgets_answer : {T : Type 0} (view : T → List ℕ) (old new : LinkState) (words : Call) (a : Answer) → Asks port site words turns old new (Ok a) → Says port site turns view (asked.Call words) old new (Err ends.NoMemory)
  forgets_answer view old new words a h = inr (inr (said_line (Some a), asked_one port site turns old new words (Some a) h))

  pub forgets_none : {T : Type 0} (view : T → List ℕ) (old new : LinkState) (words : Call) (count : ℕ) → Asks port site words turns old new (Err (faults.NoAnswer count)) → Says port site turns view (asked.Call words) old new (Err ends.NoMemory)
  forgets_none view old new words count h = inr (inr (said_line None, asked_one port site turns old new words None (refl, h.1)))

  -- ---- what is put to the sink

  module _ {T : Type 0} (view : T → List ℕ) (line : LineRequest) (sink sink' : SinkState) (old new : LinkState) where
    pub unsaid : (end : GateEnd) → sink' ≡ sink → Says port site turns view line old new (Err end) → AnswersLine port site turns line (talk sink sink' old new) (Err end)
    unsaid ends.LinkFault same h = record {
      front = [];
      words = h.0;
      back = [];
      parts = ap (λ (a : LineRequest). a ∷ []) h.1;
      text = [];
      now = old;
      session = no_lines port site turns old old refl;
      asks = h.2;
      writes = subst (λ (s : SinkState). Appends sink.held s.held []) (sym same) (Appends-nil sink.held);
    }
    unsaid ends.NoMemory same (inl still) = record {
      front = [];
      back = line ∷ [];
      parts = refl;
      text = [];
      now = old;
      session = no_lines port site turns old old refl;
      last = inl still;
      writes = subst (λ (s : SinkState). AppendsPrefix sink.held s.held []) (sym same) (none_prefix port site turns sink.held []);
    }
    unsaid ends.NoMemory same (inr (inl h)) = record {
      front = [];
      back = line ∷ [];
      parts = refl;
      text = [];
      now = old;
      session = no_lines port site turns old old refl;
      last = inr (h.0, [], ap (λ (a : LineRequest). a ∷ []) h.1, h.2);
      writes = subst (λ (s : SinkState). AppendsPrefix sink.held s.held []) (sym same) (none_prefix port site turns sink.held []);
    }
    unsaid ends.NoMemory same (inr (inr h)) = record {
      front = line ∷ [];
      back = [];
      parts = refl;
      text = h.0;
      now = new;
      session = h.1;
      last = inl refl;
      writes = subst (λ (s : SinkState). AppendsPrefix sink.held s.held h.0) (sym same) (none_prefix port site turns sink.held h.0);
    }
    unsaid ends.Done same h = absurd h
    unsaid (ends.BadLine l at) same h = absurd h
    unsaid (ends.Twice l) same h = absurd h
    unsaid (ends.TooMany l limit) same h = absurd h
    unsaid ends.NoSite same h = absurd h
    unsaid ends.ReadFault same h = absurd h
    unsaid ends.WriteFault same h = absurd h
    unsaid ends.Limit same h = absurd h

    module _ (text : T) (h : Says port site turns view line old new (Ok text)) where
      pub put_whole : (u : Unit {0}) → Appends sink.held sink'.held (view text) → sink'.faults ≡ sink.faults → AnswersLine port site turns line (talk sink sink' old new) (Ok u)
      put_whole u writes same = (record { text = view text; session = h; writes = writes }, same)

      pub put_part : (e : OutFault) → AppendsPrefix sink.held sink'.held (view text) → HasOutCause {T = Unit {0}} sink.faults sink'.faults (Err e) → AnswersLine port site turns line (talk sink sink' old new) (Err (end_of_output e))
      put_part output.Failed writes cause = (record { front = line ∷ []; back = []; parts = refl; text = view text; session = h; writes = writes }, cause.failed refl)
      put_part output.NoMemory writes cause = record { front = line ∷ []; back = []; parts = refl; text = view text; now = new; session = h; last = inl refl; writes = writes }
