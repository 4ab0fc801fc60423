-- The answers of worked sessions.
use Rattle.std.proofs.Common.{◌≡◌, ◌∙◌, ℕ, List, [], ◌∷◌, ◌++◌, length, take, drop, replicate, refl, sym, ap, subst, arith}
use Rattle.std.specs.Prelude.{Option, Some, None}
use Rattle.std.specs.Fmt.{digits}
use Rattle.std.proofs.lemmas.List.{length-append}
use Rattle.vp_text.specs.Reading.{literal_at, word_at, number_at, begins_number}
use Rattle.vp_base.specs.Reading.{txn_at}
use Rattle.vp_model.specs.Types.{Answer, Call}
use Rattle.vp_outside.specs.Links.{LinkState, Gave, nothing}
use Rattle.vp_outside.specs.declared.datagram.Datagram.{Datagram}
use Rattle.vp_runs.specs.Asking.{first_answer}
use Rattle.vp_schedule.specs.Reading.{begin_at, regroup_at, bare_at, read_at, write_at, delete_at, removal_at, weigh_at, other_change_at, commit_at, abort_at, ending_at, change_at, deed_at, numbered_at, call_at}
use Rattle.vp_schedule.specs.TableReading.{share_at, shares_at, table_at}
use Rattle.vp_client.specs.Asked.{Asks}
use Rattle.vp_client.specs.Conversations.{Exchange, as_asked, Conversed}
use Rattle.vp_gateway.specs.declared.asked.LineRequest.{LineRequest}
use Rattle.vp_gateway.specs.declared.asked.LineRequest.TheVariants as asked
use Rattle.vp_gateway.specs.Lines.{said_line, bad_line, long_line}
use Rattle.vp_gateway.specs.Sessions.{Answers, IsSession}

-- what reads a line: a proof that names this definition computes through all of these
unfoldable pub reads : Unit {0}
unfolding literal_at word_at number_at begins_number txn_at begin_at regroup_at bare_at read_at write_at delete_at removal_at weigh_at other_change_at share_at shares_at table_at commit_at abort_at ending_at change_at deed_at numbered_at call_at digits
reads = tt

-- ---- one line after the other

-- the text of the first line, and what comes of the others
abbrev pub Parts : List LineRequest → List Exchange → List ℕ → Type 0
Parts [] exchanges text = (exchanges ≡ []) × (text ≡ [])
Parts (asked.Call words ∷ more) exchanges text =
    (said : Option Answer) × (others : List Exchange) × (rest : List ℕ) × (exchanges ≡ (words, said) ∷ others) × (text ≡ said_line said ++ rest) × Answers more others rest
Parts (asked.Bad at ∷ more) exchanges text = (rest : List ℕ) × (text ≡ bad_line at ++ rest) × Answers more exchanges rest
Parts (asked.Long ∷ more) exchanges text = (rest : List ℕ) × (text ≡ long_line ++ rest) × Answers more exchanges rest

parts : (lines : List LineRequest) (exchanges : List Exchange) (text : List ℕ) → Answers lines exchanges text → Parts lines exchanges text
parts _ _ _ Answers.none = (refl, refl)
parts _ _ _ (Answers.asks words said more exchanges text h) = (said, exchanges, text, refl, refl, h)
parts _ _ _ (Answers.bad at more exchanges text h) = (text, refl, h)
parts _ _ _ (Answers.long more exchanges text h) = (text, refl, h)

module _ (port site turns : ℕ) (old new : LinkState) (text : List ℕ) where
  pub none_more : IsSession port site turns [] text old new → text ≡ []
  none_more s = (parts [] s.exchanges text s.answers).1

  pub bad_more : (at : ℕ) (more : List LineRequest) → IsSession port site turns (asked.Bad at ∷ more) text old new → (rest : List ℕ) × (text ≡ bad_line at ++ rest) × IsSession port site turns more rest old new
  bad_more at more s =
      let p = parts (asked.Bad at ∷ more) s.exchanges text s.answers in
      (p.0, p.1, record { exchanges = s.exchanges; answers = p.2; conversed = s.conversed })

  pub long_more : (more : List LineRequest) → IsSession port site turns (asked.Long ∷ more) text old new → (rest : List ℕ) × (text ≡ long_line ++ rest) × IsSession port site turns more rest old new
  long_more more s =
      let p = parts (asked.Long ∷ more) s.exchanges text s.answers in
      (p.0, p.1, record { exchanges = s.exchanges; answers = p.2; conversed = s.conversed })

-- ---- a call, if one datagram is waited for

one_given : (d : Datagram) (left : List Datagram) (after : Option (List Datagram)) (given : List Datagram) → Gave (Some (d ∷ left)) after given → length given ≡ 1 → (given ≡ d ∷ []) × (after ≡ Some left)
one_given d left None given gave one = absurd gave
one_given d left (Some rest) given gave one = (
  gave.0 ∙ ap (λ n. take n ((d ∷ left) ++ replicate n nothing)) one,
  ap (λ (l : List Datagram). Some l) (gave.1 ∙ ap (λ n. drop n (d ∷ left)) one),
)

given_in : (a b : Option (List Datagram)) (given left : List Datagram) → a ≡ Some left → Gave a b given → Gave (Some left) b given
given_in a b given left same gave = subst (λ (o : Option (List Datagram)). Gave o b given) same gave

module _ (port site : ℕ) (words : Call) (d : Datagram) (left : List Datagram) (old new : LinkState) (has : old.left ≡ Some (d ∷ left)) where
  one_asked : (said : Option Answer) → Asks port site words 1 old new (as_asked 1 said) → (said ≡ first_answer port site words (d ∷ [])) × (new.left ≡ Some left)
  one_asked (Some a) h =
      let few = h.came.few in
      let one : length (h.front ++ h.last ∷ []) ≡ 1 = omega (arith, few, length-append h.front (h.last ∷ [])) in
      let g = one_given d left new.left (h.front ++ h.last ∷ []) (given_in old.left new.left (h.front ++ h.last ∷ []) (d ∷ left) has h.came.gave) one in
      (sym h.is ∙ ap (first_answer port site words) g.0, g.1)
  one_asked None h =
      let u = h.1.1 in
      let g = one_given d left new.left h.1.0 (given_in old.left new.left h.1.0 (d ∷ left) has u.came.gave) h.1.2 in
      (sym u.none ∙ ap (first_answer port site words) g.0, g.1)

module _ (port site : ℕ) (words : Call) (d : Datagram) (left : List Datagram) (more : List LineRequest) (text : List ℕ) (old last : LinkState) where
  -- The text begins with the answer in the first datagram, and the other lines are answered by those that are left then.
  pub record GoesOn : Type 0 where
    pub mid : LinkState
    pub rest : List ℕ
    pub text_is : text ≡ said_line (first_answer port site words (d ∷ [])) ++ rest
    pub left_is : mid.left ≡ Some left
    pub session : IsSession port site 1 more rest mid last

  pub call_more : old.left ≡ Some (d ∷ left) → IsSession port site 1 (asked.Call words ∷ more) text old last → GoesOn
  call_more has s =
      let p = parts (asked.Call words ∷ more) s.exchanges text s.answers in
      let c = subst (λ (x : List Exchange). Conversed port site 1 x old last) p.3 s.conversed in
      let o = one_asked port site words d left old c.0 has p.0 c.1 in
      record {
        mid = c.0;
        rest = p.2;
        text_is = p.4 ∙ ap (λ (a : Option Answer). said_line a ++ p.2) o.0;
        left_is = o.1;
        session = record { exchanges = p.1; answers = p.5; conversed = c.2 };
      }
