-- Sessions that continue.
use Rattle.std.proofs.Common.{◌≡◌, ◌∙◌, ℕ, ◌+◌, List, [], ◌∷◌, ◌++◌, length, take, refl, sym, ap, subst, arith, append_assoc, append-nil, inl, inr}
use Rattle.std.specs.Prelude.{Option}
use Rattle.std.specs.Io.KnownBytes.{Appends}
use Rattle.std.proofs.KnownBytes.{Appends-trans, Appends-nil}
use Rattle.std.proofs.Math.Seq.{take-append-add}
use Rattle.std.proofs.lemmas.List.{length-append, take_all}
use Rattle.vp_model.specs.Types.{Answer, Call}
use Rattle.vp_outside.specs.Output.{SinkState, AppendsPrefix}
use Rattle.vp_outside.specs.Links.{LinkState}
use Rattle.vp_client.specs.Asked.{Asks}
use Rattle.vp_client.specs.Conversations.{Exchange, as_asked}
use Rattle.vp_client.proofs.Conversations.{conversations_join}
use Rattle.vp_gateway.specs.declared.asked.LineRequest.{LineRequest}
use Rattle.vp_gateway.specs.declared.asked.LineRequest.TheVariants as asked
use Rattle.vp_gateway.specs.Lines.{said_line, bad_line, long_line}
use Rattle.vp_gateway.specs.Sessions.{Answers, IsSession, Talk, talk, HasAnswered, HasLost, HasCut, HasRunOut}

-- ---- sessions of one line

module _ (port site turns : ℕ) (old new : LinkState) where
  pub asked_one : (words : Call) (said : Option Answer) → Asks port site words turns old new (as_asked turns said) → IsSession port site turns (asked.Call words ∷ []) (said_line said) old new
  asked_one words said h = record {
    exchanges = (words, said) ∷ [];
    answers = subst (Answers (asked.Call words ∷ []) ((words, said) ∷ [])) (append-nil (said_line said)) (Answers.asks words said [] [] [] Answers.none);
    conversed = (new, h, refl);
  }

  pub bad_one : (at : ℕ) → new ≡ old → IsSession port site turns (asked.Bad at ∷ []) (bad_line at) old new
  bad_one at same = record {
    exchanges = [];
    answers = subst (Answers (asked.Bad at ∷ []) []) (append-nil (bad_line at)) (Answers.bad at [] [] [] Answers.none);
    conversed = same;
  }

  pub long_one : new ≡ old → IsSession port site turns (asked.Long ∷ []) long_line old new
  long_one same = record { exchanges = []; answers = Answers.long [] [] [] Answers.none; conversed = same }

  pub no_lines : new ≡ old → IsSession port site turns [] [] old new
  no_lines same = record { exchanges = []; answers = Answers.none; conversed = same }

-- ---- one after the other

answers_join : (xs ys : List LineRequest) (ex ey : List Exchange) (t u : List ℕ) → Answers xs ex t → Answers ys ey u → Answers (xs ++ ys) (ex ++ ey) (t ++ u)
answers_join _ ys _ ey _ u Answers.none k = k
answers_join _ ys _ ey _ u (Answers.asks words said more exchanges text h) k =
    subst (Answers (asked.Call words ∷ (more ++ ys)) ((words, said) ∷ (exchanges ++ ey))) (sym (append_assoc (said_line said) text u))
    (Answers.asks words said (more ++ ys) (exchanges ++ ey) (text ++ u) (answers_join more ys exchanges ey text u h k))
answers_join _ ys _ ey _ u (Answers.bad at more exchanges text h) k =
    subst (Answers (asked.Bad at ∷ (more ++ ys)) (exchanges ++ ey)) (sym (append_assoc (bad_line at) text u))
    (Answers.bad at (more ++ ys) (exchanges ++ ey) (text ++ u) (answers_join more ys exchanges ey text u h k))
answers_join _ ys _ ey _ u (Answers.long more exchanges text h) k =
    subst (Answers (asked.Long ∷ (more ++ ys)) (exchanges ++ ey)) (sym (append_assoc long_line text u))
    (Answers.long (more ++ ys) (exchanges ++ ey) (text ++ u) (answers_join more ys exchanges ey text u h k))

module _ (port site turns : ℕ) where
  sessions_join : (xs ys : List LineRequest) (t u : List ℕ) (old mid new : LinkState) → IsSession port site turns xs t old mid → IsSession port site turns ys u mid new → IsSession port site turns (xs ++ ys) (t ++ u) old new
  sessions_join xs ys t u old mid new h k = record {
    exchanges = h.exchanges ++ k.exchanges;
    answers = answers_join xs ys h.exchanges k.exchanges t u h.answers k.answers;
    conversed = conversations_join port site turns h.exchanges k.exchanges old mid new h.conversed k.conversed;
  }

  prefix_after : (a b c : Option (List ℕ)) (t u : List ℕ) → Appends a b t → AppendsPrefix b c u → AppendsPrefix a c (t ++ u)
  prefix_after a b c t u h k = (
    length t + k.0,
    let n = k.1 in omega (arith, n, length-append t u),
    subst (Appends a c) (sym (take-append-add t u k.0)) (Appends-trans a b c t (take k.0 u) h k.2),
  )

  -- a text that is appended whole is a beginning of itself
  pub whole_prefix : (a b : Option (List ℕ)) (t : List ℕ) → Appends a b t → AppendsPrefix a b t
  whole_prefix a b t h = (length t, omega arith, subst (Appends a b) (sym (take_all (length t) t (omega arith))) h)

  -- nothing is a beginning of a text
  pub none_prefix : (a : Option (List ℕ)) (t : List ℕ) → AppendsPrefix a a t
  none_prefix a t = (0, omega arith, Appends-nil a)

  pub nothing_answered : (sink : SinkState) (link link' : LinkState) → link' ≡ link → HasAnswered port site turns (talk sink sink link link') []
  nothing_answered sink link link' same = record { text = []; session = no_lines port site turns link link' same; writes = Appends-nil sink.held }

  module _ (sink sink1 sink2 : SinkState) (link link1 link2 : LinkState) (done : List LineRequest) (line : LineRequest) (h : HasAnswered port site turns (talk sink sink1 link link1) done) where
    abbrev now : Talk
    now = talk sink1 sink2 link1 link2

    abbrev all : Talk
    all = talk sink sink2 link link2

    pub answered_then : HasAnswered port site turns now (line ∷ []) → HasAnswered port site turns all (done ++ line ∷ [])
    answered_then k = record {
      text = h.text ++ k.text;
      session = sessions_join done (line ∷ []) h.text k.text link link1 link2 h.session k.session;
      writes = Appends-trans sink.held sink1.held sink2.held h.text k.text h.writes k.writes;
    }

    -- more lines come after the one that is answered
    regrouped : (front back more : List LineRequest) → line ∷ [] ≡ front ++ back → done ++ line ∷ more ≡ (done ++ front) ++ (back ++ more)
    regrouped front back more e = ap (λ (l : List LineRequest). done ++ (l ++ more)) e ∙ ap (λ (l : List LineRequest). done ++ l) (append_assoc front back more) ∙ sym (append_assoc done front (back ++ more))

    pub lost_then : (more : List LineRequest) → HasLost port site turns now (line ∷ []) → HasLost port site turns all (done ++ line ∷ more)
    lost_then more k = record {
      front = done ++ k.front;
      words = k.words;
      back = k.back ++ more;
      parts = regrouped k.front (asked.Call k.words ∷ k.back) more k.parts;
      text = h.text ++ k.text;
      now = k.now;
      session = sessions_join done k.front h.text k.text link link1 k.now h.session k.session;
      asks = k.asks;
      writes = Appends-trans sink.held sink1.held sink2.held h.text k.text h.writes k.writes;
    }

    pub cut_then : (more : List LineRequest) → HasCut port site turns now (line ∷ []) → HasCut port site turns all (done ++ line ∷ more)
    cut_then more k = record {
      front = done ++ k.front;
      back = k.back ++ more;
      parts = regrouped k.front k.back more k.parts;
      text = h.text ++ k.text;
      session = sessions_join done k.front h.text k.text link link1 link2 h.session k.session;
      writes = prefix_after sink.held sink1.held sink2.held h.text k.text h.writes k.writes;
    }

    pub run_out_then : (more : List LineRequest) → HasRunOut port site turns now (line ∷ []) → HasRunOut port site turns all (done ++ line ∷ more)
    run_out_then more k = record {
      front = done ++ k.front;
      back = k.back ++ more;
      parts = regrouped k.front k.back more k.parts;
      text = h.text ++ k.text;
      now = k.now;
      session = sessions_join done k.front h.text k.text link link1 k.now h.session k.session;
      last = elim k.last [ inl same ↦ inl same | inr x ↦ inr (x.0, x.1 ++ more, ap (λ (l : List LineRequest). l ++ more) x.2, x.3) ];
      writes = prefix_after sink.held sink1.held sink2.held h.text k.text h.writes k.writes;
    }

  -- memory ran out before the first of these lines
  pub run_out_here : (sink sink' : SinkState) (link link' : LinkState) (done more : List LineRequest) → HasAnswered port site turns (talk sink sink' link link') done → HasRunOut port site turns (talk sink sink' link link') (done ++ more)
  run_out_here sink sink' link link' done more h = record {
    front = done;
    back = more;
    parts = refl;
    text = h.text;
    now = link';
    session = h.session;
    last = inl refl;
    writes = whole_prefix sink.held sink'.held h.text h.writes;
  }
