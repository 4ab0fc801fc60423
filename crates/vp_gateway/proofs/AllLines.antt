-- The lines of a session are answered one by one.
use Rattle.std.proofs.Common.{◌≡◌, ◌∙◌, ℕ, ◌+◌, ◌-◌, ◌≤◌, ◌<◌, Bool, true, false, List, [], ◌∷◌, ◌++◌, length, take, refl, sym, ap, subst, arith, append_assoc, append-nil, inl, inr, Result, Ok, Err}
use Rattle.std.specs.Prelude.{Option}
use Rattle.std.proofs.lemmas.List.{length-append, length-take, take_all}
use Rattle.vp_text.specs.Documents.{HasNoNewline}
use Rattle.vp_outside.specs.Causes.{Rose}
use Rattle.vp_outside.specs.Input.{SourceState, Took}
use Rattle.vp_outside.specs.Output.{SinkState}
use Rattle.vp_outside.specs.Links.{LinkState, Binds}
use Rattle.vp_outside.specs.declared.datagram.Datagram.{Datagram}
use Rattle.vp_outside.specs.declared.datagram.Dispatch.{Dispatch}
use Rattle.vp_outside.specs.declared.source.InputFault.{InputFault}
use Rattle.vp_outside.specs.declared.source.InputFault.TheVariants as input
use Rattle.vp_lines.specs.Ahead.{Ahead, fitting, rest_found, HasLine, HasNoLine, HasRest, Finds}
use Rattle.vp_lines.specs.declared.unread.LineFound.{LineFound}
use Rattle.vp_lines.specs.declared.unread.LineFound.TheVariants as found
use Rattle.vp_lines.proofs.Finding.{take_none, took_none, took_then, fitting_more}
use Rattle.vp_gateway.specs.declared.end.GateEnd.{GateEnd}
use Rattle.vp_gateway.specs.declared.end.GateEnd.TheVariants as ends
use Rattle.vp_gateway.specs.declared.asked.LineRequest.{LineRequest}
use Rattle.vp_gateway.specs.Ends.{end_of, end_of_input}
use Rattle.vp_gateway.specs.Lines.{line_as, whole_lines, last_line, all_lines}
use Rattle.vp_gateway.specs.Sessions.{Talk, talk, HasAnswered, HasLost, HasCut, HasRunOut}
use Rattle.vp_gateway.specs.Opening.{most, HasTaken, HasOpened, Opens}
use Rattle.vp_gateway.specs.Answering.{AnswersLine, AnswersLines}
use Rattle.vp_gateway.specs.Served.{Gate, gate, bound_at, IsUncalled, HasBegun, Serves}
use Rattle.vp_gateway.proofs.Splitting.{Asks, asks_none, asks_more, none_whole, last_alone, kept_as}
use Rattle.vp_gateway.proofs.Talking.{nothing_answered, answered_then, lost_then, cut_then, run_out_then, run_out_here}

module _ (port site turns : ℕ) (old : Ahead) (source : SourceState) (sink : SinkState) (link : LinkState) where
  -- These bytes were taken, and the lines that came so far are answered.
  pub record Going (source' : SourceState) (now : Ahead) (sink' : SinkState) (link' : LinkState) : Type 0 where
    pub bytes : List ℕ
    pub took : Took bytes source source'
    pub left : now.credit ≡ old.credit - length bytes
    pub front : List ℕ
    pub parts : old.unread ++ fitting old.credit bytes ≡ front ++ now.unread
    pub done : List LineRequest
    pub asks : Asks front done
    pub answered : HasAnswered port site turns (talk sink sink' link link') done
    pub same_source : source'.faults ≡ source.faults
    pub same_sink : sink'.faults ≡ sink.faults

  pub begun : Going source old sink link
  begun = record {
    bytes = [];
    took = took_none source;
    left = omega arith;
    front = [];
    parts = ap (λ (l : List ℕ). old.unread ++ l) (take_none (old.credit - 1)) ∙ append-nil old.unread;
    done = [];
    asks = asks_none;
    answered = nothing_answered port site turns sink link link refl;
    same_source = refl;
    same_sink = refl;
  }

  module _ (source' : SourceState) (now : Ahead) (sink' : SinkState) (link' : LinkState) (h : Going source' now sink' link') (source'' : SourceState) (now' : Ahead) (line : List ℕ) where
    abbrev body : List ℕ → List ℕ
    body more = old.unread ++ fitting old.credit (h.bytes ++ more)

    joined : (more : List ℕ) → body more ≡ h.front ++ (now.unread ++ fitting now.credit more)
    joined more =
        ap (λ (l : List ℕ). old.unread ++ l) (fitting_more old.credit h.bytes more ∙ ap (λ n. fitting old.credit h.bytes ++ fitting n more) (sym h.left))
        ∙ sym (append_assoc old.unread (fitting old.credit h.bytes) (fitting now.credit more)) ∙ ap (λ (l : List ℕ). l ++ fitting now.credit more) h.parts ∙ append_assoc h.front now.unread (fitting now.credit more)

    abbrev taken : (more : List ℕ) → Took more source' source'' → HasTaken source source''
    taken more t = record { bytes = h.bytes ++ more; took = took_then h.bytes more source source' source'' h.took t }

    -- ---- no line was found

    none_behind : (n : HasNoLine 4097 now now' line source' source'') → whole_lines (body n.more) ≡ h.done
    none_behind n =
        let rest = now.unread ++ fitting now.credit n.more in
        ap whole_lines (joined n.more) ∙ h.asks.whole rest ∙ ap (λ (l : List LineRequest). h.done ++ l) (none_whole rest n.plain) ∙ append-nil h.done

    answered_before : (more : List ℕ) → whole_lines (body more) ≡ h.done → HasAnswered port site turns (talk sink sink' link link') (whole_lines (body more))
    answered_before more same = subst (HasAnswered port site turns (talk sink sink' link link')) (sym same) h.answered

    pub unfound : (e : InputFault) → Finds 4097 now now' line source' source'' (Err e) → AnswersLines port site turns old source source'' (talk sink sink' link link') (Err (end_of_input e))
    unfound input.Failed f = (taken f.0.more f.0.took, subst (λ n. Rose n source''.faults) h.same_source f.1, answered_before f.0.more (none_behind f.0))
    unfound input.TooLong f = (
      taken f.0.more f.0.took,
      let l = h.left in let c = f.1 in omega (arith, l, c, length-append h.bytes f.0.more),
      answered_before f.0.more (none_behind f.0),
    )
    unfound input.NoMemory f =
        let more = f.0.0 in
        let rest = now.unread ++ fitting now.credit more in (
          taken more f.0.1,
          subst (HasRunOut port site turns (talk sink sink' link link')) (sym (ap all_lines (joined more) ∙ h.asks.all rest))
              (run_out_here port site turns sink sink' link link' h.done (all_lines rest) h.answered),
        )

    -- ---- a line was found, and answered

    module _ (f : HasLine 4097 now now' line source' source'') (sink'' : SinkState) (link'' : LinkState) where
      abbrev asked : LineRequest
      asked = line_as true f.body

      same_asked : line_as true line ≡ asked
      same_asked = ap (line_as true) f.kept ∙ kept_as true f.body

      abbrev now_talk : Talk
      now_talk = talk sink' sink'' link' link''

      in_place : body f.more ≡ (h.front ++ (f.body ++ 10 ∷ [])) ++ now'.unread
      in_place =
          joined f.more ∙ ap (λ (l : List ℕ). h.front ++ l) (f.parts ∙ sym (append_assoc f.body (10 ∷ []) now'.unread)) ∙ sym (append_assoc h.front (f.body ++ 10 ∷ []) now'.unread)

      all_are : all_lines (body f.more) ≡ h.done ++ asked ∷ all_lines now'.unread
      all_are =
          ap all_lines in_place ∙ (asks_more h.front h.done f.body f.plain h.asks).all now'.unread ∙ append_assoc h.done (asked ∷ []) (all_lines now'.unread)

      pub goes_on : (u : Unit {0}) → AnswersLine port site turns (line_as true line) now_talk (Ok u) → Going source'' now' sink'' link''
      goes_on u a = record {
        bytes = h.bytes ++ f.more;
        took = took_then h.bytes f.more source source' source'' h.took f.took;
        left = let l = f.left in let k = h.left in omega (arith, l, k, length-append h.bytes f.more);
        front = h.front ++ (f.body ++ 10 ∷ []);
        parts = in_place;
        done = h.done ++ asked ∷ [];
        asks = asks_more h.front h.done f.body f.plain h.asks;
        answered = answered_then port site turns sink sink' sink'' link link' link'' h.done asked h.answered (subst (λ (x : LineRequest). HasAnswered port site turns now_talk (x ∷ [])) same_asked a.0);
        same_source = f.same_faults ∙ h.same_source;
        same_sink = a.1 ∙ h.same_sink;
      }

      broken : (end : GateEnd) → AnswersLine port site turns asked now_talk (Err end) → AnswersLines port site turns old source source'' (talk sink sink'' link link'') (Err end)
      broken ends.WriteFault a = (
        taken f.more f.took,
        subst (λ n. Rose n sink''.faults) h.same_sink a.1,
        subst (HasCut port site turns (talk sink sink'' link link'')) (sym all_are) (cut_then port site turns sink sink' sink'' link link' link'' h.done asked h.answered (all_lines now'.unread) a.0),
      )
      broken ends.LinkFault a = (
        taken f.more f.took,
        subst (HasLost port site turns (talk sink sink'' link link'')) (sym all_are) (lost_then port site turns sink sink' sink'' link link' link'' h.done asked h.answered (all_lines now'.unread) a),
      )
      broken ends.NoMemory a = (
        taken f.more f.took,
        subst (HasRunOut port site turns (talk sink sink'' link link'')) (sym all_are) (run_out_then port site turns sink sink' sink'' link link' link'' h.done asked h.answered (all_lines now'.unread) a),
      )
      broken ends.Done a = absurd a
      broken (ends.BadLine l at) a = absurd a
      broken (ends.Twice l) a = absurd a
      broken (ends.TooMany l limit) a = absurd a
      broken ends.NoSite a = absurd a
      broken ends.ReadFault a = absurd a
      broken ends.Limit a = absurd a

      pub breaks : (end : GateEnd) → AnswersLine port site turns (line_as true line) now_talk (Err end) → AnswersLines port site turns old source source'' (talk sink sink'' link link'') (Err end)
      breaks end a = broken end (subst (λ (x : LineRequest). AnswersLine port site turns x now_talk (Err end)) same_asked a)

      pub smaller : length now'.unread + now'.credit < length now.unread + now.credit
      smaller =
          let l = f.left in
          omega (arith, l, ap length f.parts, length-append now.unread (fitting now.credit f.more), length-append f.body (10 ∷ now'.unread), length-take (now.credit - 1) f.more)

    -- ---- the input has ended

    abbrev rest_of : {what : LineFound} → HasRest 4097 now now' line source' source'' what → List ℕ
    rest_of f = now.unread ++ f.none.more

    module _ (what : LineFound) (f : HasRest 4097 now now' line source' source'' what) where
      rest_there : body f.none.more ≡ h.front ++ rest_of f
      rest_there =
          let few = f.few in
          joined f.none.more ∙ ap (λ (l : List ℕ). h.front ++ (now.unread ++ l)) (take_all (now.credit - 1) f.none.more (omega (arith, few)))

      plain_there : HasNoNewline (rest_of f)
      plain_there =
          let few = f.few in
          subst HasNoNewline (ap (λ (l : List ℕ). now.unread ++ l) (take_all (now.credit - 1) f.none.more (omega (arith, few)))) f.none.plain

      few_there : length (h.bytes ++ f.none.more) < old.credit
      few_there = let few = f.few in let l = h.left in omega (arith, few, l, length-append h.bytes f.none.more)

      last_there : all_lines (body f.none.more) ≡ h.done ++ last_line (rest_of f)
      last_there = ap all_lines rest_there ∙ h.asks.all (rest_of f) ∙ ap (λ (l : List LineRequest). h.done ++ l) (last_alone (rest_of f) plain_there)

    pub ended : (u : Unit {0}) → HasRest 4097 now now' line source' source'' found.End → AnswersLines port site turns old source source'' (talk sink sink' link link') (Ok u)
    ended u f = (
      taken f.none.more f.none.took,
      few_there found.End f,
      f.ended,
      subst (HasAnswered port site turns (talk sink sink' link link')) (sym (last_there found.End f ∙ ap (λ (l : List LineRequest). h.done ++ l) (none (rest_of f) f.is) ∙ append-nil h.done)) h.answered,
    )
      where
        none : (rest : List ℕ) → found.End ≡ rest_found rest → last_line rest ≡ []
        none [] e = refl
        none (c ∷ cs) e = absurd (let no : found.End ≡ found.Rest = e in cc)

    module _ (f : HasRest 4097 now now' line source' source'' found.Rest) (sink'' : SinkState) (link'' : LinkState) where
      abbrev last : LineRequest
      last = line_as false (rest_of f)

      same_last : line_as false line ≡ last
      same_last = ap (line_as false) f.kept ∙ kept_as false (rest_of f)

      all_there : all_lines (body f.none.more) ≡ h.done ++ last ∷ []
      all_there = last_there found.Rest f ∙ ap (λ (l : List LineRequest). h.done ++ l) (some (rest_of f) f.is)
        where
          some : (rest : List ℕ) → found.Rest ≡ rest_found rest → last_line rest ≡ line_as false rest ∷ []
          some [] e = absurd (let no : found.Rest ≡ found.End = e in cc)
          some (c ∷ cs) e = refl

      abbrev last_talk : Talk
      last_talk = talk sink' sink'' link' link''

      by : (r : Result (Unit {0}) GateEnd) → AnswersLine port site turns last last_talk r → AnswersLines port site turns old source source'' (talk sink sink'' link link'') r
      by (Ok u) a = (
        taken f.none.more f.none.took,
        few_there found.Rest f,
        f.ended,
        subst (HasAnswered port site turns (talk sink sink'' link link'')) (sym all_there) (answered_then port site turns sink sink' sink'' link link' link'' h.done last h.answered a.0),
      )
      by (Err ends.WriteFault) a = (
        taken f.none.more f.none.took,
        subst (λ n. Rose n sink''.faults) h.same_sink a.1,
        subst (HasCut port site turns (talk sink sink'' link link'')) (sym all_there) (cut_then port site turns sink sink' sink'' link link' link'' h.done last h.answered [] a.0),
      )
      by (Err ends.LinkFault) a = (
        taken f.none.more f.none.took,
        subst (HasLost port site turns (talk sink sink'' link link'')) (sym all_there) (lost_then port site turns sink sink' sink'' link link' link'' h.done last h.answered [] a),
      )
      by (Err ends.NoMemory) a = (
        taken f.none.more f.none.took,
        subst (HasRunOut port site turns (talk sink sink'' link link'')) (sym all_there) (run_out_then port site turns sink sink' sink'' link link' link'' h.done last h.answered [] a),
      )
      by (Err ends.Done) a = absurd a
      by (Err (ends.BadLine l at)) a = absurd a
      by (Err (ends.Twice l)) a = absurd a
      by (Err (ends.TooMany l limit)) a = absurd a
      by (Err ends.NoSite) a = absurd a
      by (Err ends.ReadFault) a = absurd a
      by (Err ends.Limit) a = absurd a

      pub ends_with : (r : Result (Unit {0}) GateEnd) → AnswersLine port site turns (line_as false line) last_talk r → AnswersLines port site turns old source source'' (talk sink sink'' link link'') r
      ends_with r a = by r (subst (λ (x : LineRequest). AnswersLine port site turns x last_talk r) same_last a)

-- ---- the whole

abbrev link_of : Option (List Datagram) → ℕ → Option (List Dispatch) → Option ℕ → Bool → ℕ → ℕ → LinkState
link_of left given handed asked bound faults losses =
    record { left = left; given = given; handed = handed; asked = asked; bound = bound; faults = faults; losses = losses }

link_same : {l l' : Option (List Datagram)} {g g' : ℕ} {h h' : Option (List Dispatch)} {a a' : Option ℕ} {b b' : Bool} {f f' : ℕ} {s s' : ℕ} →
    l ≡ l' → g ≡ g' → h ≡ h' → a ≡ a' → b ≡ b' → f ≡ f' → s ≡ s' → link_of l g h a b f s ≡ link_of l' g' h' a' b' f' s'
link_same p q r t u v w = rw (p, q, r, t, u, v, w) refl

module _ (own site turns : ℕ) (source source' : SourceState) (sink : SinkState) (link : LinkState) where
  uncalled : IsUncalled own site turns (gate source source' sink sink link link)
  uncalled = record { sink = refl; link = refl }

  pub unopened : (ahead : Ahead) (end : GateEnd) → Opens site ahead source source' (Err end) → Serves own site turns (gate source source' sink sink link link) end
  unopened ahead (ends.BadLine line at) h = (uncalled, h)
  unopened ahead (ends.Twice line) h = (uncalled, h)
  unopened ahead (ends.TooMany line limit) h = (uncalled, h)
  unopened ahead ends.NoSite h = (uncalled, h)
  unopened ahead ends.ReadFault h = inl (uncalled, h)
  unopened ahead ends.Limit h = inl (uncalled, h)
  unopened ahead ends.NoMemory h = inl (uncalled, h)
  unopened ahead ends.Done h = absurd h
  unopened ahead ends.WriteFault h = absurd h
  unopened ahead ends.LinkFault h = absurd h

  module _ (ahead : Ahead) (port : ℕ) (o : HasOpened site port ahead source source') (link1 : LinkState) where
    -- after the head comes what is unread, and more that is taken
    abbrev with_more : (source'' : SourceState) (sink' : SinkState) (link' : LinkState) (h : HasTaken source' source'') → HasBegun own site turns (gate source source'' sink sink' link link')
    with_more source'' sink' link' h = record {
      bytes = o.bytes ++ h.bytes;
      took = took_then o.bytes h.bytes source source' source'' o.took h.took;
      head = o.head;
      port = port;
      is = o.is;
      body = ahead.unread ++ fitting ahead.credit h.bytes;
      parts =
          fitting_more 16777217 o.bytes h.bytes ∙ ap (λ n. take most o.bytes ++ fitting n h.bytes) (sym o.left) ∙ ap (λ (l : List ℕ). l ++ fitting ahead.credit h.bytes) o.parts
          ∙ append_assoc o.head ahead.unread (fitting ahead.credit h.bytes);
    }

    pub unbound : {E : Type 0} (e : E) → Binds {T = Unit {0}} own link link1 (Err e) → Serves own site turns (gate source source' sink sink link link1) ends.LinkFault
    unbound e b = (
      record { bytes = o.bytes; took = o.took; head = o.head; port = port; is = o.is; body = ahead.unread; parts = o.parts },
      inl (record { sink = refl; asked = b.asked; unbound = b.bound; rose = b.cause.failed; gives_none = b.gives_none; hands_none = b.hands_none }),
    )

    bound_is : {E : Type 0} (u : Unit {0}) → Binds {E = E} own link link1 (Ok u) → link1 ≡ bound_at own link
    bound_is u b = link_same b.gives_none.same_left b.gives_none.same_given b.hands_none.same_handed b.asked b.bound b.cause.ok b.hands_none.same_losses

    module _ {E : Type 0} (u : Unit {0}) (b : Binds {E = E} own link link1 (Ok u)) (source'' : SourceState) (sink' : SinkState) (link' : LinkState) where
      abbrev it : Gate
      it = gate source source'' sink sink' link link'

      fits : (h : HasTaken source' source'') → length h.bytes < ahead.credit → length (o.bytes ++ h.bytes) ≤ most
      fits h few = let l = o.left in omega (arith, l, few, length-append o.bytes h.bytes)

      too_many : (h : HasTaken source' source'') → ahead.credit ≤ length h.bytes → most < length (o.bytes ++ h.bytes)
      too_many h many = let l = o.left in omega (arith, l, many, length-append o.bytes h.bytes)

      ends_so : (r : Result (Unit {0}) GateEnd) → AnswersLines port site turns ahead source' source'' (talk sink sink' (bound_at own link) link') r → Serves own site turns it (end_of r)
      ends_so (Ok v) a = (with_more source'' sink' link' a.0, fits a.0 a.1, a.2, a.3)
      ends_so (Err ends.ReadFault) a = inr (subst (λ n. Rose n source''.faults) o.same_faults a.1, (with_more source'' sink' link' a.0, a.2))
      ends_so (Err ends.Limit) a = inr (with_more source'' sink' link' a.0, too_many a.0 a.1, a.2)
      ends_so (Err ends.WriteFault) a = (a.1, (with_more source'' sink' link' a.0, a.2))
      ends_so (Err ends.LinkFault) a = (with_more source'' sink' link' a.0, inr a.1)
      ends_so (Err ends.NoMemory) a = inr (with_more source'' sink' link' a.0, a.1)
      ends_so (Err ends.Done) a = absurd a
      ends_so (Err (ends.BadLine l at)) a = absurd a
      ends_so (Err (ends.Twice l)) a = absurd a
      ends_so (Err (ends.TooMany l limit)) a = absurd a
      ends_so (Err ends.NoSite) a = absurd a

      pub served : (r : Result (Unit {0}) GateEnd) → AnswersLines port site turns ahead source' source'' (talk sink sink' link1 link') r → Serves own site turns it (end_of r)
      served r a = ends_so r (subst (λ (l : LinkState). AnswersLines port site turns ahead source' source'' (talk sink sink' l link') r) (bound_is u b) a)
