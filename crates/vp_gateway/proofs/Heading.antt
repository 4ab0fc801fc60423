-- Reading the head of a session, line by line.
use Rattle.std.proofs.Common.{◌≡◌, ◌∙◌, ◌⊎◌, ℕ, ◌+◌, ◌-◌, ◌≤◌, ◌<◌, Bool, true, false, ◌==◌, List, [], ◌∷◌, ◌++◌, length, take, refl, sym, ap, subst, arith, append_assoc, append-nil, inl, inr, Ok, Err}
use Rattle.std.specs.Prelude.{codes, Some, None}
use Rattle.std.proofs.lemmas.Bool.{false≢true, ne_eqb, eqb-true}
use Rattle.std.proofs.lemmas.List.{length-append, length-take, take_all}
use Rattle.vp_text.specs.Meaning.{IsLongest}
use Rattle.vp_text.specs.Documents.{HasNoNewline, IsLine, first_line, IsFaultyLine}
use Rattle.vp_text.proofs.Items.{all_at}
use Rattle.vp_text.proofs.Newlines.{key_line}
use Rattle.vp_text.proofs.Determined.{same_line, Divided, IsLast}
use Rattle.vp_model.specs.Words.{value_at}
use Rattle.vp_model.specs.Catalogue.{Catalogue}
use Rattle.vp_model.specs.Texts.Schedule.{catalogue_text}
use Rattle.vp_catalog.specs.Document.{IsCatalogueSoFar, IsCatalogue}
use Rattle.vp_catalog.specs.declared.fault.CatalogFault.{CatalogFault}
use Rattle.vp_catalog.specs.declared.fault.CatalogFault.TheVariants as faults
use Rattle.vp_outside.specs.Causes.{Rose}
use Rattle.vp_outside.specs.Input.{SourceState, IsEnded, Took}
use Rattle.vp_outside.specs.declared.source.InputFault.{InputFault}
use Rattle.vp_outside.specs.declared.source.InputFault.TheVariants as input
use Rattle.vp_lines.specs.Ahead.{Ahead, ahead_at_start, fitting, HasLine, HasNoLine, HasRest, Finds}
use Rattle.vp_lines.specs.declared.unread.LineFound.{LineFound}
use Rattle.vp_lines.specs.declared.unread.LineFound.TheVariants as found
use Rattle.vp_lines.proofs.Finding.{take_none, took_none, took_then, fitting_more}
use Rattle.vp_heads.specs.declared.line.HeadLine.{HeadLine}
use Rattle.vp_heads.specs.declared.head.Head.{Head}
use Rattle.vp_heads.specs.Heads.{LineText, blank, after, Onward, Repeats, Overfills}
use Rattle.vp_heads.proofs.HeadTexts.{IsKey}
use Rattle.vp_heads.proofs.Steps.{said, Lines, part, line_is, head_spelled}
use Rattle.vp_heads.proofs.Apart.{no_head, bad_no_head, repeats_no_head, overfills_no_head, one_head}
use Rattle.vp_gateway.specs.declared.end.GateEnd.{GateEnd}
use Rattle.vp_gateway.specs.declared.end.GateEnd.TheVariants as ends
use Rattle.vp_gateway.specs.Ends.{end_of_input, end_of_catalog}
use Rattle.vp_gateway.specs.Opening.{most, key, IsBad, Refuses, LacksHead, HasTaken, HasTakenTooMany, HasRefused, FindsPort, IsRefused, Opens, end_by_limit, text_of, IsNoLine, TakesLine}

pub key_is : IsKey key
key_is = record { line = key_line (codes "session") refl; no_site = refl; no_record = refl }

-- ---- the first line

pub newline_inside : (text : List ℕ) → IsLine text → HasNoNewline text → ⊥
newline_inside text h plain = all_at (λ c. c ≡ 10 → ⊥) h.0 10 [] (subst HasNoNewline h.2 plain) refl

pub front_plain : (text more : List ℕ) → HasNoNewline (text ++ more) → HasNoNewline text
front_plain [] more h = tt
front_plain (c ∷ text) more h = (h.0, front_plain text more h.1)

first_body : (body more : List ℕ) → HasNoNewline body → first_line ((body ++ 10 ∷ []) ++ more) ≡ body ++ 10 ∷ []
first_body [] more h = refl
first_body (c ∷ body) more h = rw (ne_eqb c 10 h.0) (ap (λ (l : List ℕ). c ∷ l) (first_body body more h.1))

first_is : (text more : List ℕ) → IsLine text → first_line (text ++ more) ≡ text
first_is text more h = ap (λ (l : List ℕ). first_line (l ++ more)) h.2 ∙ first_body h.0 more h.1 ∙ sym h.2

first_plain : (text : List ℕ) → HasNoNewline text → first_line text ≡ text
first_plain [] h = refl
first_plain (c ∷ text) h = rw (ne_eqb c 10 h.0) (ap (λ (l : List ℕ). c ∷ l) (first_plain text h.1))

-- ---- how far the reading is

module _ (source : SourceState) where
  -- These bytes were taken, and these lines of a head were read.
  pub record Heading (source' : SourceState) (ahead : Ahead) (head : Head) (number : ℕ) : Type 0 where
    pub bytes : List ℕ
    pub took : Took bytes source source'
    pub left : ahead.credit ≡ 16777217 - length bytes
    pub lines : List HeadLine
    pub front : List ℕ
    pub lines_are : Lines key lines front
    pub head_is : said key lines ≡ head
    pub parts : take most bytes ≡ front ++ ahead.unread
    pub number_is : length lines + 1 ≡ number
    pub few : number ≤ length front + 1
    pub same_faults : source'.faults ≡ source.faults

  pub begun : Heading source ahead_at_start blank 1
  begun = record {
    bytes = [];
    took = took_none source;
    left = omega arith;
    lines = [];
    front = [];
    lines_are = refl;
    head_is = refl;
    parts = take_none most;
    number_is = omega arith;
    few = omega arith;
    same_faults = refl;
  }

  pub few_lines : (source' : SourceState) (ahead : Ahead) (head : Head) (number : ℕ) → Heading source' ahead head number → number ≤ 16777217
  few_lines source' ahead head number h = let n = h.few in omega (arith, n, ap length h.parts, length-append h.front ahead.unread, length-take most h.bytes)

  pub so_far : (source' : SourceState) (ahead : Ahead) (head : Head) (number : ℕ) → Heading source' ahead head number → IsCatalogueSoFar head.catalog
  so_far source' ahead head number h = subst (λ (d : Head). IsCatalogueSoFar d.catalog) h.head_is (part key h.lines h.front h.lines_are)

  -- This text was taken next: a line, after which fewer bytes are left to take, or the rest of the input.
  pub record Next (size : ℕ) (source' : SourceState) (ahead : Ahead) (front text : List ℕ) : Type 0 where
    pub bytes : List ℕ
    pub took : Took bytes source source'
    pub left : ahead.credit ≡ 16777217 - length bytes
    pub following : List ℕ
    pub parts : take most bytes ≡ front ++ (text ++ following)
    pub whole : (IsLine text × (following ≡ ahead.unread) × (length ahead.unread + ahead.credit < size)) ⊎ (HasNoNewline text × (following ≡ []) × IsEnded source')
    pub same_faults : source'.faults ≡ source.faults

  module _ (source' : SourceState) (ahead : Ahead) (head : Head) (number : ℕ) (h : Heading source' ahead head number) where
    -- how much is left to read and to take
    abbrev pub size : ℕ
    size = length ahead.unread + ahead.credit

    -- what was taken until now, and what is taken next
    joined : (more : List ℕ) → take most (h.bytes ++ more) ≡ h.front ++ (ahead.unread ++ fitting ahead.credit more)
    joined more =
        fitting_more 16777217 h.bytes more ∙ ap (λ n. take most h.bytes ++ fitting n more) (sym h.left) ∙ ap (λ (l : List ℕ). l ++ fitting ahead.credit more) h.parts
        ∙ append_assoc h.front ahead.unread (fitting ahead.credit more)

    abbrev taken : (source'' : SourceState) (more : List ℕ) → Took more source' source'' → HasTaken source source''
    taken source'' more t = record { bytes = h.bytes ++ more; took = took_then h.bytes more source source' source'' h.took t }

    -- a line has no more bytes than it may have
    fits : (more body following : List ℕ) → ahead.unread ++ fitting ahead.credit more ≡ body ++ following → length body ≤ most
    fits more body following e =
        omega (arith, ap length (joined more), length-append h.front (ahead.unread ++ fitting ahead.credit more), ap length e, length-append body following, length-take most (h.bytes ++ more))

    module _ (source'' : SourceState) (ahead' : Ahead) (line : List ℕ) where
      next_line : HasLine most ahead ahead' line source' source'' → Next size source'' ahead' h.front (line ++ 10 ∷ [])
      next_line f =
          let is : line ≡ f.body = f.kept ∙ take_all most f.body (fits f.more f.body (10 ∷ ahead'.unread) f.parts) in
          let left = f.left in
          let less : length ahead'.unread + ahead'.credit < size =
          omega (arith, left, ap length f.parts, length-append ahead.unread (fitting ahead.credit f.more), length-append f.body (10 ∷ ahead'.unread), length-take (ahead.credit - 1) f.more) in
          let there : f.body ++ 10 ∷ ahead'.unread ≡ (line ++ 10 ∷ []) ++ ahead'.unread = ap (λ (l : List ℕ). l ++ 10 ∷ ahead'.unread) (sym is) ∙ sym (append_assoc line (10 ∷ []) ahead'.unread) in
          record {
            bytes = h.bytes ++ f.more;
            took = took_then h.bytes f.more source source' source'' h.took f.took;
            left = let a = f.left in let b = h.left in omega (arith, a, b, length-append h.bytes f.more);
            following = ahead'.unread;
            parts = joined f.more ∙ ap (λ (l : List ℕ). h.front ++ l) (f.parts ∙ there);
            whole = inl ((line, subst HasNoNewline (sym is) f.plain, refl), refl, less);
            same_faults = f.same_faults ∙ h.same_faults;
          }

      next_rest : (what : LineFound) → HasRest most ahead ahead' line source' source'' what → Next size source'' ahead' h.front line
      next_rest what f =
          let more = f.none.more in
          let few = f.few in
          let all : fitting ahead.credit more ≡ more = take_all (ahead.credit - 1) more (omega (arith, few)) in
          let there : ahead.unread ++ fitting ahead.credit more ≡ ahead.unread ++ more = ap (λ (l : List ℕ). ahead.unread ++ l) all in
          let is : line ≡ ahead.unread ++ more = f.kept ∙ take_all most (ahead.unread ++ more) (fits more (ahead.unread ++ more) [] (there ∙ sym (append-nil (ahead.unread ++ more)))) in
          record {
            bytes = h.bytes ++ more;
            took = took_then h.bytes more source source' source'' h.took f.none.took;
            left = let a = f.left in let b = h.left in omega (arith, a, b, length-append h.bytes more);
            following = [];
            parts = joined more ∙ ap (λ (l : List ℕ). h.front ++ l) (there ∙ sym is ∙ sym (append-nil line));
            whole = inr (subst HasNoNewline (there ∙ sym is) f.none.plain, refl, f.ended);
            same_faults = f.same_faults ∙ h.same_faults;
          }

      pub next_text : (what : LineFound) → Finds most ahead ahead' line source' source'' (Ok what) → Next size source'' ahead' h.front (text_of what line)
      next_text found.Line f = next_line f
      next_text found.Rest f = next_rest found.Rest f
      next_text found.End f = next_rest found.End f

      -- ---- nothing was found

      -- after the last newline there is no line
      lacks_head : (site : ℕ) → head.opened ≡ false → (n : HasNoLine most ahead ahead' line source' source'') → LacksHead site (take most (h.bytes ++ n.more))
      lacks_head site off n port text body is parts =
          let rest = ahead.unread ++ fitting ahead.credit n.more in
          let all = take most (h.bytes ++ n.more) in
          let d : Divided blank after (LineText key) Onward all = record { lines = h.lines; front = h.front; rest = rest; lines_are = h.lines_are; parts = joined n.more } in
          let so_far = part key h.lines h.front h.lines_are in
          let last : IsLast blank after (LineText key) Onward d = λ more.
          newline_inside more.line (line_is key key_is (said key h.lines) so_far more.entry more.line more.line_is) (front_plain more.line more.following (subst HasNoNewline more.parts n.plain)) in
          no_head key key_is all d last (ap (λ (d : Head). d.opened) h.head_is ∙ off) is.catalogue is.catalogue_is body (parts ∙ ap (λ (l : List ℕ). l ++ body) is.text)

      pub unfound : (site : ℕ) → head.opened ≡ false → (e : InputFault) → Finds most ahead ahead' line source' source'' (Err e) → FindsPort site ahead' source source'' (Err (end_of_input e))
      unfound site off input.Failed f = (subst (λ n. Rose n source''.faults) h.same_faults f.1, (taken source'' f.0.more f.0.took, lacks_head site off f.0))
      unfound site off input.TooLong f = (
        taken source'' f.0.more f.0.took,
        let l = h.left in let c = f.1 in omega (arith, l, c, length-append h.bytes f.0.more),
        lacks_head site off f.0,
      )
      unfound site off input.NoMemory f = taken source'' f.0.0 f.0.1

    -- ---- a text was taken

    module _ (source'' : SourceState) (ahead' : Ahead) (text : List ℕ) (r : Next size source'' ahead' h.front text) (head' : Head) where
      abbrev so_far_here : IsCatalogueSoFar head.catalog
      so_far_here = so_far source' ahead head number h

      is_line : (e : HeadLine) (t : List ℕ) → LineText key head e t → IsLine t
      is_line e t l = line_is key key_is head so_far_here e t l

      -- an allowed line is whole
      line_whole : (e : HeadLine) → LineText key head e text → r.following ≡ ahead'.unread
      line_whole e l = elim r.whole [ inl x ↦ x.1 | inr x ↦ absurd (newline_inside text (is_line e text l) x.0) ]

      pub added : (u : Unit {0}) → TakesLine head text number head' (Ok u) → Heading source'' ahead' head' (number + 1)
      added u t =
          let back = sym h.head_is in
          let line = is_line t.0 text t.1 in
          let few = h.few in
          record {
            bytes = r.bytes;
            took = r.took;
            left = r.left;
            lines = t.0 ∷ h.lines;
            front = h.front ++ text;
            lines_are = (h.front, text, h.lines_are, subst (λ (d : Head). LineText key d t.0 text) back t.1, subst (λ (d : Head). Onward d t.0) back t.3, refl);
            head_is = ap (λ (d : Head). after d t.0) h.head_is ∙ sym t.2;
            parts = r.parts ∙ sym (append_assoc h.front text r.following) ∙ ap (λ (l : List ℕ). (h.front ++ text) ++ l) (line_whole t.0 t.1);
            number_is = let n = h.number_is in omega (arith, n);
            few = omega (arith, few, length-append h.front text, ap length line.2, length-append line.0 (10 ∷ []));
            same_faults = r.same_faults;
          }

      pub smaller : (u : Unit {0}) → TakesLine head text number head' (Ok u) → length ahead'.unread + ahead'.credit < size
      smaller u t = elim r.whole [ inl x ↦ x.2 | inr x ↦ absurd (newline_inside text (is_line t.0 text t.1) x.0) ]

      pub one : IsLine text ⊎ HasNoNewline text
      one = elim r.whole [ inl x ↦ inl x.0 | inr x ↦ inr x.0 ]

      abbrev all : List ℕ
      all = take most r.bytes

      first_there : first_line (text ++ r.following) ≡ text
      first_there = elim r.whole [
        | inl x ↦ first_is text r.following x.0
        | inr x ↦ ap (λ (l : List ℕ). first_line (text ++ l)) x.1 ∙ ap first_line (append-nil text) ∙ first_plain text x.0
      ]

      -- there is no allowed line, if the text is none
      none_there : (at : ℕ) → IsNoLine head text at → (e : HeadLine) (t more : List ℕ) → LineText key head e t → text ++ r.following ≡ t ++ more → ⊥
      none_there at miss e t more l parts = elim r.whole [
        | inl x ↦
            let same = same_line text r.following t more x.0 (is_line e t l) parts in
            miss.none e t [] l (same.0 ∙ sym (append-nil t))
        | inr x ↦ miss.none e t more l (sym (ap (λ (l : List ℕ). text ++ l) x.1 ∙ append-nil text) ∙ parts)
      ]

      bad_there : (line at : ℕ) → line ≡ number → IsNoLine head text at → IsBad source'' all line at
      bad_there line at same miss =
          let back = sym h.head_is in
          let n = h.number_is in
          record {
            bad = record {
              lines = h.lines;
              front = h.front;
              rest = text ++ r.following;
              lines_are = h.lines_are;
              parts = r.parts;
              number = n ∙ sym same;
              none = subst (λ (d : Head). (e : HeadLine) (t more : List ℕ) → LineText key d e t → text ++ r.following ≡ t ++ more → ⊥) back (none_there at miss);
              longest = (miss.longest.0, miss.longest.1, subst (λ (d : Head). IsLongest (LineText key d) (first_line (text ++ r.following)) miss.longest.0) back (subst (λ (l : List ℕ). IsLongest (LineText key head) l miss.longest.0) (sym first_there) miss.longest.2));
            };
            whole = elim r.whole [ inl x ↦ inl (subst IsLine (sym first_there) x.0) | inr x ↦ inr x.2 ];
          }

      faulty_there : (Fact : Head → HeadLine → Type 0) (line : ℕ) → line ≡ number → (e : HeadLine) → LineText key head e text → Fact head e → IsFaultyLine blank after (LineText key) Onward Fact all line
      faulty_there Fact line same e l fact =
          let back = sym h.head_is in
          record {
            lines = h.lines;
            front = h.front;
            faulty = text;
            rest = r.following;
            entry = e;
            lines_are = h.lines_are;
            faulty_is = subst (λ (d : Head). LineText key d e text) back l;
            fault = subst (λ (d : Head). Fact d e) back fact;
            parts = r.parts;
            number = h.number_is ∙ sym same;
          }

      pub forgotten : HasTaken source source''
      forgotten = record { bytes = r.bytes; took = r.took }

      pub refused : (site : ℕ) (e : CatalogFault) → TakesLine head text number head' (Err e) → FindsPort site ahead' source source'' (Err (end_of_catalog e))
      refused site (faults.BadLine line at) t = record { bytes = r.bytes; took = r.took; left = r.left; refused = bad_there line at t.0 t.1 }
      refused site (faults.Twice line) t = record { bytes = r.bytes; took = r.took; left = r.left; refused = faulty_there Repeats line t.0 t.1.0 t.1.1 t.1.2 }
      refused site (faults.TooMany line limit) t = record { bytes = r.bytes; took = r.took; left = r.left; refused = (t.1, faulty_there Overfills line t.0 t.2.0 t.2.1 t.2.2) }
      refused site faults.NoMemory t = forgotten

    -- ---- the line `session` has come

    module _ (site : ℕ) (on : head.opened ≡ true) where
      abbrev whole_head : IsCatalogue head.catalog × (h.front ≡ catalogue_text head.catalog ++ key)
      whole_head =
          let w = head_spelled key h.lines h.front h.lines_are (ap (λ (d : Head). d.opened) h.head_is ∙ on) in
          subst (λ (d : Head). IsCatalogue d.catalog × (h.front ≡ catalogue_text d.catalog ++ key)) h.head_is w

      pub opened : (port : ℕ) → value_at site head.catalog.sites ≡ Some port → FindsPort site ahead source source' (Ok port)
      opened port there = record {
        bytes = h.bytes;
        took = h.took;
        head = h.front;
        is = record { catalogue = head.catalog; catalogue_is = whole_head.0; text = whole_head.1; there = there };
        parts = h.parts;
        left = h.left;
        same_faults = h.same_faults;
      }

      pub lacking : value_at site head.catalog.sites ≡ None → FindsPort site ahead source source' (Err ends.NoSite)
      lacking none = record {
        bytes = h.bytes;
        took = h.took;
        left = h.left;
        refused = record { catalogue = head.catalog; catalogue_is = whole_head.0; body = ahead.unread; parts = h.parts ∙ ap (λ (l : List ℕ). l ++ ahead.unread) whole_head.1; lacks = none };
      }

-- ---- if too much was taken by then

refused_lacks : (site : ℕ) (source : SourceState) (bytes : List ℕ) (end : GateEnd) → Refuses site source bytes end → LacksHead site bytes
refused_lacks site source bytes (ends.BadLine line at) r port head body is parts =
    bad_no_head key key_is bytes line at r.bad is.catalogue is.catalogue_is body (parts ∙ ap (λ (l : List ℕ). l ++ body) is.text)
refused_lacks site source bytes (ends.Twice line) r port head body is parts =
    repeats_no_head key key_is bytes line r is.catalogue is.catalogue_is body (parts ∙ ap (λ (l : List ℕ). l ++ body) is.text)
refused_lacks site source bytes (ends.TooMany line limit) r port head body is parts =
    overfills_no_head key key_is bytes line r.1 is.catalogue is.catalogue_is body (parts ∙ ap (λ (l : List ℕ). l ++ body) is.text)
refused_lacks site source bytes ends.NoSite r port head body is parts =
    let same = one_head key key_is bytes r.catalogue is.catalogue r.catalogue_is is.catalogue_is r.body body r.parts (parts ∙ ap (λ (l : List ℕ). l ++ body) is.text) in
    let no : None ≡ Some port = sym r.lacks ∙ ap (λ (c : Catalogue). value_at site c.sites) same ∙ is.there in
    cc
refused_lacks site source bytes ends.Done r port head body is parts = r
refused_lacks site source bytes ends.ReadFault r port head body is parts = r
refused_lacks site source bytes ends.WriteFault r port head body is parts = r
refused_lacks site source bytes ends.LinkFault r port head body is parts = r
refused_lacks site source bytes ends.Limit r port head body is parts = r
refused_lacks site source bytes ends.NoMemory r port head body is parts = r

module _ (site : ℕ) (ahead : Ahead) (source source' : SourceState) where
  too_many : (end : GateEnd) → HasRefused site ahead source source' end → ahead.credit ≡ 0 → HasTakenTooMany site source source'
  too_many end r spent = (
    record { bytes = r.bytes; took = r.took },
    let l = r.left in omega (arith, l, spent),
    refused_lacks site source' (take most r.bytes) end r.refused,
  )

  few_enough : (end : GateEnd) → HasRefused site ahead source source' end → (ahead.credit ≡ 0 → ⊥) → IsRefused site source source' end
  few_enough end r left =
      let few : length r.bytes ≤ most = let l = r.left in omega (arith, l, left) in
      record { bytes = r.bytes; took = r.took; few = few; refused = subst (λ (l : List ℕ). Refuses site source' l end) (take_all most r.bytes few) r.refused }

  spent_is : (ahead.credit == 0) ≡ true → ahead.credit ≡ 0
  spent_is e = eqb-true ahead.credit 0 e

  unspent : (ahead.credit == 0) ≡ false → ahead.credit ≡ 0 → ⊥
  unspent e z = let no : true ≡ false = sym (ap (λ n. n == 0) z) ∙ e in false≢true (sym no)

  judged : (b : Bool) → (ahead.credit == 0) ≡ b → (end : GateEnd) → FindsPort site ahead source source' (Err end) → Opens site ahead source source' (Err (end_by_limit b end))
  judged true e (ends.BadLine line at) f = too_many (ends.BadLine line at) f (spent_is e)
  judged true e (ends.Twice line) f = too_many (ends.Twice line) f (spent_is e)
  judged true e (ends.TooMany line limit) f = too_many (ends.TooMany line limit) f (spent_is e)
  judged true e ends.NoSite f = too_many ends.NoSite f (spent_is e)
  judged false e (ends.BadLine line at) f = few_enough (ends.BadLine line at) f (unspent e)
  judged false e (ends.Twice line) f = few_enough (ends.Twice line) f (unspent e)
  judged false e (ends.TooMany line limit) f = few_enough (ends.TooMany line limit) f (unspent e)
  judged false e ends.NoSite f = few_enough ends.NoSite f (unspent e)
  judged true e ends.Done f = f
  judged true e ends.ReadFault f = f
  judged true e ends.WriteFault f = f
  judged true e ends.LinkFault f = f
  judged true e ends.Limit f = f
  judged true e ends.NoMemory f = f
  judged false e ends.Done f = f
  judged false e ends.ReadFault f = f
  judged false e ends.WriteFault f = f
  judged false e ends.LinkFault f = f
  judged false e ends.Limit f = f
  judged false e ends.NoMemory f = f

  pub opens : (end : GateEnd) → FindsPort site ahead source source' (Err end) → Opens site ahead source source' (Err (end_by_limit (ahead.credit == 0) end))
  opens end f = judged (ahead.credit == 0) refl end f
