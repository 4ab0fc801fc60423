-- The lines of a procedure's input are read exactly.
use Rattle.std.proofs.Common.{◌≡◌, ℕ, Bool, true, false, cond, List, [], ◌∷◌, ◌++◌, filter, Ok, refl, sym, ap, subst, ◌∙◌, inl, inr}
use Rattle.std.specs.List.{AllByRecursion}
use Rattle.std.proofs.lemmas.Bool.{false≢true, and_from, and_parts}
use Rattle.vp_text.specs.Meaning.{Begins}
use Rattle.vp_text.specs.Reading.{◌>>=◌}
use Rattle.vp_text.proofs.Exact.{Exact, inhabited, right, exact_from, exact_as, Then, Made, made_exact, then_right, one_value, Follows}
use Rattle.vp_text.proofs.WordChoices.{Among, apart_from, all_apart, among_end, among_exact}
use Rattle.vp_base.specs.Words.{IsName}
use Rattle.vp_base.specs.Reading.{starts_any}
use Rattle.vp_heads.specs.Heads as heads
use Rattle.vp_heads.specs.HeadReading.{head_at}
use Rattle.vp_heads.specs.declared.line.HeadLine.{HeadLine}
use Rattle.vp_heads.specs.declared.line.HeadLine.TheVariants as heads_kind
use Rattle.vp_procedure.specs.declared.procedure.Statement.{Statement}
use Rattle.vp_procedure.specs.declared.procedure.Statement.TheVariants as statement
use Rattle.vp_procedure.specs.declared.draft.ProcedureDraft.{ProcedureDraft}
use Rattle.vp_procedure.specs.declared.line.ProcedureLine.{ProcedureLine}
use Rattle.vp_procedure.specs.declared.line.ProcedureLine.TheVariants as kind
use Rattle.vp_procedure.specs.declared.keyword.Keyword.{Keyword}
use Rattle.vp_procedure.specs.declared.keyword.Keyword.TheVariants as kw
use Rattle.vp_procedure.specs.Procedures.{key, names_of, IsInPlace}
use Rattle.vp_procedure.specs.Keywords.{word, keyword_at}
use Rattle.vp_procedure.specs.StatementReading.{fields_at}
use Rattle.vp_procedure.specs.Drafts.{LineText}
use Rattle.vp_procedure.specs.LineReading.{may_begin, all_first_words, first_words, statement_line_at, head_line_at, line_at}
use Rattle.vp_procedure.proofs.ExprTexts.{IsKeyword, nothing_exact}
use Rattle.vp_procedure.proofs.StatementTexts.{read_exact, write_exact, set_exact, if_exact, fail_exact, result_exact}
use Rattle.vp_procedure.proofs.StatementSpelled.{Fields, keyword_of, fields_to, fields_from, in_place, may_be}

-- ---- the first words

-- those that may come are apart too
one_kept : (p : Keyword → Bool) (w : List ℕ) (k : Keyword) (ks : List Keyword) (b : Bool) → apart_from word w (k ∷ ks) ≡ true → apart_from word w (filter p ks) ≡ true → apart_from word w (cond b (k ∷ filter p ks) (filter p ks)) ≡ true
one_kept p w k ks true e more = and_from _ _ (and_parts _ (apart_from word w ks) e).0 more
one_kept p w k ks false e more = more

kept_apart : (p : Keyword → Bool) (w : List ℕ) (ks : List Keyword) → apart_from word w ks ≡ true → apart_from word w (filter p ks) ≡ true
kept_apart p w [] e = refl
kept_apart p w (k ∷ ks) e = one_kept p w k ks (p k) e (kept_apart p w ks (and_parts _ (apart_from word w ks) e).1)

kept_one : (p : Keyword → Bool) (k : Keyword) (ks : List Keyword) (b : Bool) → apart_from word (word k) (filter p ks) ≡ true → all_apart word (filter p ks) ≡ true → all_apart word (cond b (k ∷ filter p ks) (filter p ks)) ≡ true
kept_one p k ks true first more = and_from _ _ first more
kept_one p k ks false first more = more

kept_all : (p : Keyword → Bool) (ks : List Keyword) → all_apart word ks ≡ true → all_apart word (filter p ks) ≡ true
kept_all p [] e = refl
kept_all p (k ∷ ks) e =
    let parts = and_parts _ (all_apart word ks) e in
    kept_one p k ks (p k) (kept_apart p (word k) ks parts.0) (kept_all p ks parts.1)

to_one : (p : Keyword → Bool) (x k : Keyword) (ks : List Keyword) (b : Bool) → p x ≡ b → (Among (filter p ks) k → p k ≡ true) → Among (cond b (x ∷ filter p ks) (filter p ks)) k → p k ≡ true
to_one p x k ks true e more (inl same) = ap p same ∙ e
to_one p x k ks true e more (inr h) = more h
to_one p x k ks false e more h = more h

among_to : (p : Keyword → Bool) (ks : List Keyword) (k : Keyword) → Among (filter p ks) k → p k ≡ true
among_to p [] k h = absurd h
among_to p (x ∷ ks) k h = to_one p x k ks (p x) refl (λ more. among_to p ks k more) h

from_one : (p : Keyword → Bool) (x k : Keyword) (ks : List Keyword) (b : Bool) → p x ≡ b → p k ≡ true → (Among ks k → Among (filter p ks) k) → Among (x ∷ ks) k → Among (cond b (x ∷ filter p ks) (filter p ks)) k
from_one p x k ks true is e more (inl same) = inl same
from_one p x k ks true is e more (inr h) = inr (more h)
from_one p x k ks false is e more (inl same) = absurd (false≢true (sym is ∙ ap p (sym same) ∙ e))
from_one p x k ks false is e more (inr h) = more h

among_from : (p : Keyword → Bool) (ks : List Keyword) (k : Keyword) → Among ks k → p k ≡ true → Among (filter p ks) k
among_from p [] k h e = absurd h
among_from p (x ∷ ks) k h e = from_one p x k ks (p x) refl e (λ more. among_from p ks k more e) h

first_among : (s : Statement) → Among all_first_words (keyword_of s)
first_among (statement.Read var name rec) = inl refl
first_among (statement.Set var e) = inr (inl refl)
first_among (statement.Write name rec e) = inr (inr (inl refl))
first_among (statement.IfLess a b) = inr (inr (inr (inl refl)))
first_among (statement.IfEqual a b) = inr (inr (inr (inl refl)))
first_among statement.Else = inr (inr (inr (inr (inl refl))))
first_among statement.End = inr (inr (inr (inr (inr (inl refl)))))
first_among (statement.Fail code) = inr (inr (inr (inr (inr (inr (inl refl))))))
first_among (statement.Give e) = inr (inr (inr (inr (inr (inr (inr (inl refl)))))))

some_exact : (ks : List Keyword) (k : Keyword) → Among ks k → all_apart word ks ≡ true → Exact (IsKeyword ks) (keyword_at ks)
some_exact [] k h e = absurd h
some_exact (x ∷ ks) k h e = among_exact word x ks e

-- ---- a statement's line

-- names that may be there, if any is
pub record AreNames (d : ProcedureDraft) : Type 0 where
  pub all : AllByRecursion (λ n. IsName n n) (names_of d.head.catalog)
  pub some : may_begin d kw.Read ≡ true → starts_any (names_of d.head.catalog) [] ≡ true

module _ (d : ProcedureDraft) (named : AreNames d) where
  abbrev names : List (List ℕ)
  names = names_of d.head.catalog

  first_exact : Exact (IsKeyword (first_words d)) (keyword_at (first_words d))
  first_exact = some_exact (first_words d) kw.Set (among_from (may_begin d) all_first_words kw.Set (inr (inl refl)) refl) (kept_all (may_begin d) all_first_words refl)

  abbrev Said : Keyword → Statement → List ℕ → Type 0
  Said k s text = cond (may_begin d k) (Fields names k s text) (text ≡ [])

  fields_exact : (k : Keyword) → may_begin d k ≡ true → Exact (Fields names k) (fields_at names k)
  fields_exact kw.Read may = read_exact names named.all (named.some may)
  fields_exact kw.Set may = set_exact
  fields_exact kw.Write may = write_exact names named.all (named.some may)
  fields_exact kw.If may = if_exact
  fields_exact kw.Else may = nothing_exact statement.Else
  fields_exact kw.End may = nothing_exact statement.End
  fields_exact kw.Fail may = fail_exact
  fields_exact kw.Result may = result_exact
  fields_exact kw.Plus may = absurd (false≢true may)
  fields_exact kw.Minus may = absurd (false≢true may)
  fields_exact kw.Less may = absurd (false≢true may)
  fields_exact kw.Equal may = absurd (false≢true may)
  fields_exact kw.Newline may = absurd (false≢true may)

  -- what follows a word; of one that can't come nothing is read
  said_has : (k : Keyword) (b : Bool) → may_begin d k ≡ b → Begins (λ (s : Statement) (text : List ℕ). cond b (Fields names k s text) (text ≡ [])) []
  said_has k true may = inhabited (fields_exact k may)
  said_has k false may = record { value = statement.End; more = []; spelled = refl }

  said_exact : (k : Keyword) → may_begin d k ≡ true → Exact (Said k) (fields_at names k)
  said_exact k may = subst (λ (b : Bool). Exact (λ (s : Statement) (text : List ℕ). cond b (Fields names k s text) (text ≡ [])) (fields_at names k)) (sym may) (fields_exact k may)

  -- the same, as a line
  abbrev Stated : Keyword → ProcedureLine → List ℕ → Type 0
  Stated k = Made (Said k) (λ s. kind.Statement s)

  stated_follows : Follows (IsKeyword (first_words d)) Stated
  stated_follows = λ k k2 text x r b t before longer after. absurd (among_end word (first_words d) (kept_all (may_begin d) all_first_words refl) k k2 text x r before longer)

  stated_has : (k : Keyword) → Begins (Stated k) []
  stated_has k =
      let h = said_has k (may_begin d k) refl in
      record { value = kind.Statement h.value; more = h.more; spelled = record { from = h.value; spelled = h.spelled; is = refl } }

  abbrev PartsText : ProcedureLine → List ℕ → Type 0
  PartsText = Then (IsKeyword (first_words d)) Stated

  parts_exact : Exact PartsText (λ bytes. keyword_at (first_words d) bytes >>= λ k. fields_at names k.0 k.1 >>= λ s. Ok (kind.Statement s.0, s.1))
  parts_exact = exact_from (λ bytes. then_right (one_value first_exact) stated_follows stated_has (right first_exact bytes)
      (λ k rest e. right (made_exact (λ s. kind.Statement s) (said_exact k (among_to (may_begin d) all_first_words k (first_exact.ok bytes k rest e).spelled.among))) rest))

  -- ---- it is a line of the draft

  module _ (on : d.head.opened ≡ true) where
    statement_to : (e : ProcedureLine) (t : List ℕ) → PartsText e t → LineText d e t
    statement_to e t m =
        let h = m.after in
        let may = among_to (may_begin d) all_first_words m.first m.before.among in
        let f = fields_to d m.first h.from m.back may (subst (λ (b : Bool). cond b (Fields names m.first h.from m.back) (m.back ≡ [])) may h.spelled) in
        let place : IsInPlace d.ifs h.from = in_place d h.from (ap (may_begin d) f.1 ∙ may) in
        subst (λ (e : ProcedureLine). LineText d e t) (sym h.is) (on, f.0, place, m.parts ∙ ap (λ (x : List ℕ). x ++ m.back) m.before.is ∙ f.2)

    statement_from : (s : Statement) (t : List ℕ) → LineText d (kind.Statement s) t → PartsText (kind.Statement s) t
    statement_from s t h =
        let f = fields_from d s h.1 in
        let may = may_be d s h.1 h.2 in
        record {
          first = keyword_of s;
          front = word (keyword_of s);
          back = f.back;
          before = record { is = refl; among = among_from (may_begin d) all_first_words (keyword_of s) (first_among s) may };
          parts = h.3 ∙ f.is;
          after = record {
            from = s;
            spelled = subst (λ (b : Bool). cond b (Fields names (keyword_of s) s f.back) (f.back ≡ [])) (sym may) f.fields;
            is = refl;
          };
        }

    opened_from : (e : ProcedureLine) (t : List ℕ) → LineText d e t → PartsText e t
    opened_from (kind.Head line) t h = absurd (false≢true (sym (opens line h) ∙ on))
      where
        opens : (line : HeadLine) → heads.LineText key d.head line t → d.head.opened ≡ false
        opens (heads_kind.Entry entry) h = h.0
        opens heads_kind.Key h = h.0
    opened_from (kind.Statement s) t h = statement_from s t h

    pub statement_exact : Exact (LineText d) (statement_line_at d)
    unfolding statement_line_at
    statement_exact = exact_as statement_to opened_from parts_exact

-- ---- a line of the head

module _ (d : ProcedureDraft) (off : d.head.opened ≡ false) where
  head_to : (e : ProcedureLine) (t : List ℕ) → Made (heads.LineText key d.head) (λ line. kind.Head line) e t → LineText d e t
  head_to e t h = subst (λ (e : ProcedureLine). LineText d e t) (sym h.is) h.spelled

  head_from : (e : ProcedureLine) (t : List ℕ) → LineText d e t → Made (heads.LineText key d.head) (λ line. kind.Head line) e t
  head_from (kind.Head line) t h = record { from = line; spelled = h; is = refl }
  head_from (kind.Statement s) t h = absurd (false≢true (sym off ∙ h.0))

  pub head_exact : Exact (heads.LineText key d.head) (head_at key d.head.catalog) → Exact (LineText d) (head_line_at d)
  unfolding head_line_at
  head_exact read = exact_as head_to head_from (made_exact (λ line. kind.Head line) read)

-- ---- each line

pub line_exact : (d : ProcedureDraft) → (d.head.opened ≡ false → Exact (heads.LineText key d.head) (head_at key d.head.catalog)) → AreNames d → Exact (LineText d) (line_at d)
unfolding line_at
line_exact d head named = go d.head.opened refl
  where
    go : (b : Bool) → d.head.opened ≡ b → Exact (LineText d) (λ bytes. cond b (statement_line_at d bytes) (head_line_at d bytes))
    go true on = statement_exact d named on
    go false off = head_exact d off (head off)
