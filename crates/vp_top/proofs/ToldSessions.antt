-- What a gateway prints for the bytes that its source has.
use Rattle.std.proofs.Common.{◌≡◌, ◌∙◌, ◌⊎◌, ℕ, ◌+◌, List, [], ◌++◌, length, take, refl, sym, ap, subst, arith, append-nil, inl, inr}
use Rattle.std.specs.Prelude.{Option, Some, None}
use Rattle.std.specs.Io.KnownBytes.{Appends, Consumes}
use Rattle.std.proofs.KnownBytes.{Appends-nil, Appends-trans}
use Rattle.std.proofs.Math.Seq.{take-append-add}
use Rattle.std.proofs.lemmas.List.{length-append, take_all}
use Rattle.vp_outside.specs.Causes.{Rose}
use Rattle.vp_outside.specs.Input.{SourceState, Took}
use Rattle.vp_outside.specs.Output.{SinkState, AppendsPrefix}
use Rattle.vp_client.specs.declared.asking.AskFault.TheVariants as faults
use Rattle.vp_gateway.specs.Causes.{RisesAt}
use Rattle.vp_gateway.specs.Lines.{all_lines}
use Rattle.vp_gateway.specs.Opening.{HasTaken, IsRefused as HasRefused, LacksHead}
use Rattle.vp_gateway.specs.Served.{Gate, HasBegun, IsUncalled, Serves, bound_at, gate}
use Rattle.vp_gateway.specs.Sessions.{HasLost, HasRunOut, IsSession, Talk, talk}
use Rattle.vp_gateway.specs.declared.asked.LineRequest.{LineRequest}
use Rattle.vp_gateway.specs.declared.end.GateEnd.{GateEnd}
use Rattle.vp_gateway.specs.declared.end.GateEnd.TheVariants as ends
use Rattle.vp_serving.specs.Serving.{Outside}
use Rattle.vp_status.specs.Printing.{Prints}
use Rattle.vp_status.specs.declared.status.Status.{Status}
use Rattle.vp_status.specs.declared.status.Status.TheVariants as status
use Rattle.vp_words.specs.Commands.{command_of}
use Rattle.vp_words.specs.declared.words.Command.{Command}
use Rattle.vp_words.specs.declared.words.Command.TheVariants as commands
use Rattle.vp_top.specs.Asked.{IsUnbound}
use Rattle.vp_top.specs.Ends.{Ends, EndsInText, IsCut, IsPrinted}
use Rattle.vp_top.specs.GatewayEnds.{PrintsLine, last_line, status_of}
use Rattle.vp_top.specs.Program.{MayCall, Reads}
use Rattle.vp_top.specs.SessionTexts.{AnswersSo, IsBroken, IsFront, IsOpened, IsRefused, IsTaken, IsToldSession, IsUnasked, IsUnopened, line_after}
use Rattle.vp_top.proofs.Answering.{answer_defined, answer_to, are_of, no_disk, same_command, taken_all}

-- ---- one text after another

prefix_after : (a b c : Option (List ℕ)) (t u : List ℕ) → Appends a b t → AppendsPrefix b c u → AppendsPrefix a c (t ++ u)
prefix_after a b c t u h k = (
  length t + k.0,
  let n = k.1 in omega (arith, n, length-append t u),
  subst (Appends a c) (sym (take-append-add t u k.0)) (Appends-trans a b c t (take k.0 u) h k.2),
)

none_prefix : (a : Option (List ℕ)) (t : List ℕ) → AppendsPrefix a a t
none_prefix a t = (0, omega arith, Appends-nil a)

-- the line is printed after what was said
lined : (sink mid sink' : SinkState) (end told : Status) (said : List ℕ) (line : Option (List ℕ)) → Appends sink.held mid.held said → mid.faults ≡ sink.faults → PrintsLine end line mid sink' told
    → Prints end (said ++ line_after line) sink sink' told
lined sink mid sink' end told said None a same t =
    inl (t.0, subst (λ (s : SinkState). Appends sink.held s.held (said ++ [])) (sym t.1) (subst (Appends sink.held mid.held) (sym (append-nil said)) a), ap (λ (s : SinkState). s.faults) t.1 ∙ same)
lined sink mid sink' end told said (Some text) a same (inl all) = inl (all.0, Appends-trans sink.held mid.held sink'.held said text a all.1, all.2 ∙ same)
lined sink mid sink' end told said (Some text) a same (inr (inl failed)) =
    inr (inl (failed.0, prefix_after sink.held mid.held sink'.held said text a failed.1, subst (λ n. Rose n sink'.faults) same failed.2))
lined sink mid sink' end told said (Some text) a same (inr (inr memory)) =
    inr (inr (memory.0, prefix_after sink.held mid.held sink'.held said text a memory.1, memory.2 ∙ same))

-- a text that was cut, after which there is no line
cut_short : (sink mid sink' : SinkState) (said : List ℕ) → AppendsPrefix sink.held mid.held said → sink' ≡ mid → AppendsPrefix sink.held sink'.held (said ++ [])
cut_short sink mid sink' said a same =
    subst (λ (s : SinkState). AppendsPrefix sink.held s.held (said ++ [])) (sym same) (subst (AppendsPrefix sink.held mid.held) (sym (append-nil said)) a)

-- what was taken of what there was, and what is left
taken_of : (left after : Option (List ℕ)) (given bytes : List ℕ) → left ≡ Some given → Consumes left after bytes → (rest : List ℕ) × (given ≡ bytes ++ rest) × (after ≡ Some rest)
taken_of None after given bytes e gone = absurd cc
taken_of (Some xs) None given bytes e gone = absurd gone
taken_of (Some xs) (Some ys) given bytes e gone = let same : given ≡ xs = cc in (ys, same ∙ gone, refl)

module _ (words : List (List ℕ)) (own turns site : ℕ) (bytes : List ℕ) (w : command_of words ≡ Some (commands.Gateway own turns site))
    (source source' : SourceState) (o : Outside) (left : source.left ≡ Some bytes) where
  abbrev Of : Status → Type 0
  Of told = IsToldSession own turns site bytes source source' o told

  abbrev taking : (taken : List ℕ) → Took taken source source' → IsTaken bytes source'
  taking taken t =
      let it = taken_of source.left source'.left bytes taken left t.bytes_gone in
      record { taken = taken; rest = it.0; parts = it.1; left = it.2 }

  -- ---- no text is printed

  no_text : (end : Status) → IsPrinted words source source' o.link o.link' o.sink o.sink' end → ⊥
  no_text end p = (answer_to words source source' o (commands.Gateway own turns site) w end p (λ long. are_of words source source' o (commands.Gateway own turns site) w Reads long.0)).1

  no_cut : IsCut words source source' o.link o.link' o.sink o.sink' → ⊥
  no_cut cut = (answer_defined words source source' o (commands.Gateway own turns site) w cut.end cut.text cut.defines (λ long. are_of words source source' o (commands.Gateway own turns site) w Reads long.0)).1

  text_told : (end : Status) → EndsInText words source source' o.link o.link' o.sink o.sink' end → Of end
  text_told status.SourceFault e = absurd (are_of words source source' o (commands.Gateway own turns site) w Reads e.0)
  text_told status.SinkFault e = absurd (no_cut e.1)
  text_told status.NoMemory (inl cut) = absurd (no_cut cut)
  text_told status.NoMemory (inr e) = record {
    end = ends.NoMemory;
    said = [];
    answers = inl (record {
      none_said = refl;
      uncalled = elim e.1 [
        | inl same ↦ same
        | inr m ↦ subst (λ (c : Command). MayCall c m.2.0 o.link o.link') (same_command words (commands.Gateway own turns site) m.0 w m.1) m.2.2
      ];
    });
    prints = inr (inr (refl, subst (λ (s : SinkState). AppendsPrefix o.sink.held s.held []) (sym e.0) (none_prefix o.sink.held []), ap (λ (s : SinkState). s.faults) e.0));
  }
  text_told _ e = absurd (no_text _ e)

  -- ---- the session is served

  module _ (mid : SinkState) where
    abbrev g : Gate
    g = gate source source' o.sink mid o.link o.link'

    abbrev opened : HasBegun own site turns g → IsOpened own turns site bytes source source' o
    opened b = record { it = taking b.bytes b.took; head = b.head; port = b.port; is = b.is; body = b.body; split = b.parts }

    unasked : IsUncalled own site turns g → IsUnasked own turns site bytes source source' o []
    unasked u = record { none_said = refl; uncalled = u.link }

    abbrev unopened : IsUncalled own site turns g → (h : HasTaken source source') → LacksHead site (take 16777216 h.bytes) → IsUnopened own turns site bytes source source' o []
    unopened u h lacks = record { it = taking h.bytes h.took; lacks = lacks; unasked = unasked u }

    refused : (end : GateEnd) → IsUncalled own site turns g → HasRefused site source source' end → IsRefused own turns site bytes source source' o end []
    refused end u r = record { it = taking r.bytes r.took; few = r.few; refused = r.refused; unasked = unasked u }

    silent : mid ≡ o.sink → Appends o.sink.held mid.held []
    silent same = subst (λ (s : SinkState). Appends o.sink.held s.held []) (sym same) (Appends-nil o.sink.held)

    -- all that was said was put, and then the line was printed
    whole : (end : GateEnd) (told : Status) (said : List ℕ) → AnswersSo own turns site bytes source source' o end said → Appends o.sink.held mid.held said → mid.faults ≡ o.sink.faults
        → PrintsLine (status_of end) (last_line end) mid o.sink' told → Of told
    whole end told said a put same t = record { end = end; said = said; answers = a; prints = lined o.sink mid o.sink' (status_of end) told said (last_line end) put same t }

    -- memory ran out, and nothing was printed after that
    short : (told : Status) (said : List ℕ) → AnswersSo own turns site bytes source source' o ends.NoMemory said → AppendsPrefix o.sink.held mid.held said → mid.faults ≡ o.sink.faults
        → PrintsLine status.NoMemory None mid o.sink' told → Of told
    short told said a put same t = record {
      end = ends.NoMemory;
      said = said;
      answers = a;
      prints = inr (inr (t.0, cut_short o.sink mid o.sink' said put t.1, ap (λ (s : SinkState). s.faults) t.1 ∙ same));
    }

    broken : (port : ℕ) (lines : List LineRequest) (t : Talk) (h : HasLost port site turns t lines) → IsBroken port site turns lines h.text t.link t.link' faults.LinkFault
    broken port lines t h = record { front = h.front; words = h.words; back = h.back; parts = h.parts; now = h.now; session = h.session; asks = h.asks }

    ran_out : (port : ℕ) (lines : List LineRequest) (t : Talk) (h : HasRunOut port site turns t lines) → IsFront port site turns lines h.text t.link t.link' ⊎ IsBroken port site turns lines h.text t.link t.link' faults.NoMemory
    ran_out port lines t h = elim h.last [
      | inl same ↦ inl (record { front = h.front; back = h.back; parts = h.parts; session = subst (IsSession port site turns h.front h.text t.link) (sym same) h.session })
      | inr x ↦ inr (record { front = h.front; words = x.0; back = x.1; parts = h.parts ∙ ap (λ (l : List LineRequest). h.front ++ l) x.2; now = h.now; session = h.session; asks = x.3 })
    ]

    served : (end : GateEnd) (told : Status) → Serves own site turns g end → RisesAt ends.WriteFault end o.sink.faults mid.faults → PrintsLine (status_of end) (last_line end) mid o.sink' told → Of told
    served ends.Done told s r t =
        let b = s.0 in
        let all = sym (taken_all source.left source'.left bytes b.bytes left b.took.bytes_gone s.2.1) ∙ sym (take_all 16777216 b.bytes s.1) ∙ b.parts in
        whole ends.Done told s.3.text (opened b, all, s.2, s.3.session) s.3.writes (r.same (λ (e : ends.Done ≡ ends.WriteFault). cc)) t
    served (ends.BadLine line at) told s r t =
        whole (ends.BadLine line at) told [] (refused (ends.BadLine line at) s.0 s.1) (silent s.0.sink) (r.same (λ (e : ends.BadLine line at ≡ ends.WriteFault). cc)) t
    served (ends.Twice line) told s r t =
        whole (ends.Twice line) told [] (refused (ends.Twice line) s.0 s.1) (silent s.0.sink) (r.same (λ (e : ends.Twice line ≡ ends.WriteFault). cc)) t
    served (ends.TooMany line limit) told s r t =
        whole (ends.TooMany line limit) told [] (refused (ends.TooMany line limit) s.0 s.1) (silent s.0.sink) (r.same (λ (e : ends.TooMany line limit ≡ ends.WriteFault). cc)) t
    served ends.NoSite told s r t =
        whole ends.NoSite told [] (refused ends.NoSite s.0 s.1) (silent s.0.sink) (r.same (λ (e : ends.NoSite ≡ ends.WriteFault). cc)) t
    served ends.ReadFault told (inl s) r t =
        whole ends.ReadFault told [] (s.1.0, inl (unopened s.0 s.1.1.0 s.1.1.1)) (silent s.0.sink) (r.same (λ (e : ends.ReadFault ≡ ends.WriteFault). cc)) t
    served ends.ReadFault told (inr s) r t =
        let a = s.1.1 in
        whole ends.ReadFault told a.text (s.0, inr (opened s.1.0, a.session)) a.writes (r.same (λ (e : ends.ReadFault ≡ ends.WriteFault). cc)) t
    served ends.Limit told (inl s) r t =
        whole ends.Limit told [] (inl (unopened s.0 s.1.0 s.1.2, s.1.1)) (silent s.0.sink) (r.same (λ (e : ends.Limit ≡ ends.WriteFault). cc)) t
    served ends.Limit told (inr s) r t =
        let a = s.2 in
        whole ends.Limit told a.text (inr (opened s.0, s.1, a.session)) a.writes (r.same (λ (e : ends.Limit ≡ ends.WriteFault). cc)) t
    served ends.WriteFault told s r t =
        let cut = s.1.1 in
        let rose = subst (λ (k : SinkState). Rose o.sink.faults k.faults) (sym t.1) s.0 in
        record {
          end = ends.WriteFault;
          said = cut.text;
          answers = (rose, (opened s.1.0, record { front = cut.front; back = cut.back; parts = cut.parts; session = cut.session }));
          prints = inr (inl (t.0, cut_short o.sink mid o.sink' cut.text cut.writes t.1, rose));
        }
    served ends.LinkFault told s r t =
        let b = s.0 in
        let same = r.same (λ (e : ends.LinkFault ≡ ends.WriteFault). cc) in
        elim s.1 [
          | inl u ↦
              let unbound : IsUnbound own o.link o.link' = record { asked = u.asked; unbound = u.unbound; rose = u.rose; none_came = u.gives_none; none_sent = u.hands_none } in
              whole ends.LinkFault told [] (opened b, inl (unbound, refl)) (silent u.sink) same t
          | inr h ↦ whole ends.LinkFault told h.text (opened b, inr (broken b.port (all_lines b.body) (talk o.sink mid (bound_at own o.link) o.link') h)) h.writes same t
        ]
    served ends.NoMemory told (inl s) r t =
        let same = r.same (λ (e : ends.NoMemory ≡ ends.WriteFault). cc) in
        short told [] (inl (unasked s.0)) (subst (λ (k : SinkState). AppendsPrefix o.sink.held k.held []) (sym s.0.sink) (none_prefix o.sink.held [])) same t
    served ends.NoMemory told (inr s) r t =
        let b = s.0 in
        let h = s.1 in
        let same = r.same (λ (e : ends.NoMemory ≡ ends.WriteFault). cc) in
        short told h.text (inr (opened b, ran_out b.port (all_lines b.body) (talk o.sink mid (bound_at own o.link) o.link') h)) h.writes same t

  pub session_told : (end : Status) → Ends words source source' o end → Of end
  session_told end (inl e) = text_told end e
  session_told end (inr (inl disk)) = absurd (no_disk words source source' o (commands.Gateway own turns site) w (λ is. is) end disk)
  session_told end (inr (inr gateway)) =
      let same : commands.Gateway gateway.own gateway.turns gateway.site ≡ commands.Gateway own turns site = same_command words (commands.Gateway own turns site) (commands.Gateway gateway.own gateway.turns gateway.site) w gateway.words_are in
      let owns : gateway.own ≡ own = cc in
      let turns_are : gateway.turns ≡ turns = cc in
      let sites : gateway.site ≡ site = cc in
      let e = gateway.ends in
      served e.sink e.end end
      (subst (λ (n : ℕ). Serves n site turns (g e.sink) e.end) owns (subst (λ (n : ℕ). Serves gateway.own n turns (g e.sink) e.end) sites (subst (λ (n : ℕ). Serves gateway.own gateway.site n (g e.sink) e.end) turns_are e.serves)))
      e.put
      e.tells
