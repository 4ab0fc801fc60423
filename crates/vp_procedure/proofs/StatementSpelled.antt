-- What is read of a statement is the text of its line.
use Rattle.std.proofs.Common.{◌≡◌, ℕ, zero, suc, true, false, List, [], ◌∷◌, ◌++◌, length, refl, sym, ap, subst, ◌∙◌, arith, inl, inr, append_assoc}
use Rattle.std.specs.Prelude.{codes, map, nat_lt, slice_index_or}
use Rattle.std.proofs.lemmas.Bool.{false≢true, eqb-true, eq-eqb, lt-ltb, ltb-true}
use Rattle.std.specs.Fmt.{decimal}
use Rattle.vp_text.specs.Tokens.{IsLiteral}
use Rattle.vp_text.proofs.Exact.{Then, Made}
use Rattle.vp_text.proofs.WordChoices.{Among}
use Rattle.vp_base.specs.Words.{IsPlace}
use Rattle.vp_model.specs.Catalogue.{RecordEntry}
use Rattle.vp_procedure.specs.declared.draft.ProcedureDraft.{ProcedureDraft}
use Rattle.vp_procedure.specs.declared.procedure.Expr.{Expr}
use Rattle.vp_procedure.specs.declared.procedure.Statement.{Statement}
use Rattle.vp_procedure.specs.declared.procedure.Statement.TheVariants as statement
use Rattle.vp_procedure.specs.declared.keyword.Keyword.{Keyword}
use Rattle.vp_procedure.specs.declared.keyword.Keyword.TheVariants as kw
use Rattle.vp_procedure.specs.Procedures.{IsExpr, IsInPlace, IsStatement, expr_text, names_of, statement_line}
use Rattle.vp_procedure.specs.LineReading.{may_begin}
use Rattle.vp_procedure.specs.Keywords.{word, ends_of}
use Rattle.vp_procedure.specs.StatementReading.{comparison}
use Rattle.vp_procedure.proofs.ExprTexts.{ExprText, Nothing}
use Rattle.vp_procedure.proofs.StatementTexts.{RecordText, ReadText, WriteText, SetText, IfText, FailText, ResultText}

-- the word that a statement begins with
abbrev pub keyword_of : Statement → Keyword
keyword_of (statement.Read var name rec) = kw.Read
keyword_of (statement.Set var e) = kw.Set
keyword_of (statement.Write name rec e) = kw.Write
keyword_of (statement.IfLess a b) = kw.If
keyword_of (statement.IfEqual a b) = kw.If
keyword_of statement.Else = kw.Else
keyword_of statement.End = kw.End
keyword_of (statement.Fail code) = kw.Fail
keyword_of (statement.Give e) = kw.Result

-- what follows the word; after another word than that of a statement nothing is read
abbrev pub Fields : List (List ℕ) → Keyword → Statement → List ℕ → Type 0
Fields names kw.Read = ReadText names
Fields names kw.Set = SetText
Fields names kw.Write = WriteText names
Fields names kw.If = IfText
Fields names kw.Else = Nothing statement.Else
Fields names kw.End = Nothing statement.End
Fields names kw.Fail = FailText
Fields names kw.Result = ResultText
Fields names other = λ s text. text ≡ []

-- ---- the place of a name

name_at : (names : List (List ℕ)) (i : ℕ) (text : List ℕ) → IsPlace names i text → slice_index_or names i [] ≡ text
name_at [] i text h = absurd h
name_at (name ∷ names) zero text h = sym h
name_at (name ∷ names) (suc i) text h = name_at names i text h.1

module _ (d : ProcedureDraft) where
  abbrev names : List (List ℕ)
  names = names_of d.head.catalog

  -- the statement is over the catalogue, and this is its line
  abbrev pub Spells : Keyword → Statement → List ℕ → Type 0
  Spells k s back = IsStatement d.head.catalog s × (keyword_of s ≡ k) × (word k ++ back ≡ statement_line s)

  line_end : (it : Expr × Keyword) (t : List ℕ) → ExprText false it t → t ≡ expr_text it.0 ++ 10 ∷ []
  line_end it t h = go h.among
    where
      go : Among (ends_of false) it.1 → t ≡ expr_text it.0 ++ 10 ∷ []
      go (inl e) = h.is ∙ ap (λ (k : Keyword). expr_text it.0 ++ word k) e
      go (inr e) = absurd e

  record_to : (rec : List ℕ × ℕ) (t : List ℕ) → RecordText names rec t → IsPlace names rec.1 rec.0 × (t ≡ rec.0)
  record_to rec t h =
      let name = name_at names h.from t h.spelled in
      subst (λ (rec : List ℕ × ℕ). IsPlace names rec.1 rec.0 × (t ≡ rec.0)) (sym h.is) (subst (IsPlace names h.from) (sym name) h.spelled, sym name)

  record_from : (name : List ℕ) (rec : ℕ) → IsPlace names rec name → RecordText names (name, rec) name
  record_from name rec h = record { from = rec; spelled = h; is = ap (λ (n : List ℕ). (n, rec)) (sym (name_at names rec name h)) }

  pub fields_to : (k : Keyword) (s : Statement) (back : List ℕ) → may_begin d k ≡ true → Fields names k s back → Spells k s back
  fields_to kw.Read s back may h =
      let m = h.after.after in
      let r = record_to m.first m.front m.before in
      let text : back ≡ h.first ∷ 32 ∷ (m.first.0 ++ 10 ∷ []) = h.parts ∙ rw (h.before.1, h.after.parts, h.after.before, m.parts, r.1, m.after.spelled) refl in
      subst (λ (s : Statement). Spells kw.Read s back) (sym m.after.is) ((h.before.0, r.0), refl, ap (λ (x : List ℕ). word kw.Read ++ x) text)
  fields_to kw.Set s back may h =
      let m = h.after.after in
      let text : back ≡ h.first ∷ 32 ∷ (expr_text m.from.0 ++ 10 ∷ []) = h.parts ∙ rw (h.before.1, h.after.parts, h.after.before, line_end m.from h.after.back m.spelled) refl in
      subst (λ (s : Statement). Spells kw.Set s back) (sym m.is) ((h.before.0, m.spelled.expr_is), refl, ap (λ (x : List ℕ). word kw.Set ++ x) text)
  fields_to kw.Write s back may h =
      let m = h.after.after in
      let r = record_to h.first h.front h.before in
      let text : back ≡ h.first.0 ++ 32 ∷ (expr_text m.from.0 ++ 10 ∷ []) = h.parts ∙ rw (r.1, h.after.parts, h.after.before, line_end m.from h.after.back m.spelled) refl in
      subst (λ (s : Statement). Spells kw.Write s back) (sym m.is) ((r.0, m.spelled.expr_is), refl, ap (λ (x : List ℕ). word kw.Write ++ x) text)
  fields_to kw.If s back may h = go h.before.among
    where
      b : Expr
      b = h.after.from.0

      text : (k : Keyword) → h.first.1 ≡ k → back ≡ expr_text h.first.0 ++ (word k ++ (expr_text b ++ 10 ∷ []))
      text k e =
          h.parts ∙ ap (λ (x : List ℕ). x ++ h.back) h.before.is ∙ ap (λ (x : List ℕ). (expr_text h.first.0 ++ word h.first.1) ++ x) (line_end h.after.from h.back h.after.spelled)
          ∙ ap (λ (k : Keyword). (expr_text h.first.0 ++ word k) ++ (expr_text b ++ 10 ∷ [])) e ∙ append_assoc (expr_text h.first.0) (word k) (expr_text b ++ 10 ∷ [])

      go : Among (ends_of true) h.first.1 → Spells kw.If s back
      go (inl e) =
          subst (λ (s : Statement). Spells kw.If s back) (sym (h.after.is ∙ ap (λ (k : Keyword). comparison k h.first.0 b) e)) ((h.before.expr_is, h.after.spelled.expr_is), refl, ap (λ (x : List ℕ). word kw.If ++ x) (text kw.Less e))
      go (inr (inl e)) =
          subst (λ (s : Statement). Spells kw.If s back) (sym (h.after.is ∙ ap (λ (k : Keyword). comparison k h.first.0 b) e)) ((h.before.expr_is, h.after.spelled.expr_is), refl, ap (λ (x : List ℕ). word kw.If ++ x) (text kw.Equal e))
      go (inr (inr e)) = absurd e
  fields_to kw.Else s back may h = subst (λ (s : Statement). Spells kw.Else s back) (sym h.0) (tt, refl, ap (λ (x : List ℕ). word kw.Else ++ x) h.1)
  fields_to kw.End s back may h = subst (λ (s : Statement). Spells kw.End s back) (sym h.0) (tt, refl, ap (λ (x : List ℕ). word kw.End ++ x) h.1)
  fields_to kw.Fail s back may h =
      let m = h.after in
      let text : back ≡ decimal h.first ++ 10 ∷ [] = h.parts ∙ rw (h.before.is, m.spelled) refl in
      subst (λ (s : Statement). Spells kw.Fail s back) (sym m.is) (h.before.below, refl, ap (λ (x : List ℕ). word kw.Fail ++ x) text)
  fields_to kw.Result s back may h =
      subst (λ (s : Statement). Spells kw.Result s back) (sym h.is) (h.spelled.expr_is, refl, ap (λ (x : List ℕ). word kw.Result ++ x) (line_end h.from back h.spelled))
  fields_to kw.Plus s back may h = absurd (false≢true may)
  fields_to kw.Minus s back may h = absurd (false≢true may)
  fields_to kw.Less s back may h = absurd (false≢true may)
  fields_to kw.Equal s back may h = absurd (false≢true may)
  fields_to kw.Newline s back may h = absurd (false≢true may)

  -- ---- and the other way

  expr_line : (e : Expr) → IsExpr e → ExprText false (e, kw.Newline) (expr_text e ++ 10 ∷ [])
  expr_line e h = record { expr_is = h; among = inl refl; is = refl }

  -- what follows the word of a statement
  pub record Following (s : Statement) : Type 0 where
    pub back : List ℕ
    pub fields : Fields names (keyword_of s) s back
    pub is : statement_line s ≡ word (keyword_of s) ++ back

  abbrev spaced : {A : Type 0} (M : A → List ℕ → Type 0) → A → List ℕ → Type 0
  spaced M = Then (IsLiteral (32 ∷ [])) (λ _. M)

  after_space : {A : Type 0} (M : A → List ℕ → Type 0) (a : A) (t : List ℕ) → M a t → spaced M a (32 ∷ t)
  after_space M a t h = record { first = tt; front = 32 ∷ []; back = t; before = refl; parts = refl; after = h }

  pub fields_from : (s : Statement) → IsStatement d.head.catalog s → Following s
  fields_from (statement.Read var name rec) h = record {
    back = var ∷ 32 ∷ (name ++ 10 ∷ []);
    is = refl;
    fields = record {
      first = var;
      front = var ∷ [];
      back = 32 ∷ (name ++ 10 ∷ []);
      before = (h.0, refl);
      parts = refl;
      after = after_space (Then (RecordText names) (λ (r : List ℕ × ℕ). Made (IsLiteral (10 ∷ [])) (λ u. statement.Read var r.0 r.1))) (statement.Read var name rec) (name ++ 10 ∷ [])
          (record { first = (name, rec); front = name; back = 10 ∷ []; before = record_from name rec h.1; parts = refl; after = record { from = tt; spelled = refl; is = refl } });
    };
  }
  fields_from (statement.Set var e) h = record {
    back = var ∷ 32 ∷ (expr_text e ++ 10 ∷ []);
    is = refl;
    fields = record {
      first = var;
      front = var ∷ [];
      back = 32 ∷ (expr_text e ++ 10 ∷ []);
      before = (h.0, refl);
      parts = refl;
      after = after_space (Made (ExprText false) (λ (r : Expr × Keyword). statement.Set var r.0)) (statement.Set var e) (expr_text e ++ 10 ∷ []) (record { from = (e, kw.Newline); spelled = expr_line e h.1; is = refl });
    };
  }
  fields_from (statement.Write name rec e) h = record {
    back = name ++ 32 ∷ (expr_text e ++ 10 ∷ []);
    is = refl;
    fields = record {
      first = (name, rec);
      front = name;
      back = 32 ∷ (expr_text e ++ 10 ∷ []);
      before = record_from name rec h.0;
      parts = refl;
      after = after_space (Made (ExprText false) (λ (r : Expr × Keyword). statement.Write name rec r.0)) (statement.Write name rec e) (expr_text e ++ 10 ∷ [])
          (record { from = (e, kw.Newline); spelled = expr_line e h.1; is = refl });
    };
  }
  fields_from (statement.IfLess a b) h = record {
    back = (expr_text a ++ codes " < ") ++ (expr_text b ++ 10 ∷ []);
    is = ap (λ (x : List ℕ). codes "if " ++ x) (sym (append_assoc (expr_text a) (codes " < ") (expr_text b ++ 10 ∷ [])));
    fields = record {
      first = (a, kw.Less);
      front = expr_text a ++ codes " < ";
      back = expr_text b ++ 10 ∷ [];
      before = record { expr_is = h.0; among = inl refl; is = refl };
      parts = refl;
      after = record { from = (b, kw.Newline); spelled = expr_line b h.1; is = refl };
    };
  }
  fields_from (statement.IfEqual a b) h = record {
    back = (expr_text a ++ codes " = ") ++ (expr_text b ++ 10 ∷ []);
    is = ap (λ (x : List ℕ). codes "if " ++ x) (sym (append_assoc (expr_text a) (codes " = ") (expr_text b ++ 10 ∷ [])));
    fields = record {
      first = (a, kw.Equal);
      front = expr_text a ++ codes " = ";
      back = expr_text b ++ 10 ∷ [];
      before = record { expr_is = h.0; among = inr (inl refl); is = refl };
      parts = refl;
      after = record { from = (b, kw.Newline); spelled = expr_line b h.1; is = refl };
    };
  }
  fields_from statement.Else h = record { back = []; is = refl; fields = (refl, refl) }
  fields_from statement.End h = record { back = []; is = refl; fields = (refl, refl) }
  fields_from (statement.Fail code) h = record {
    back = decimal code ++ 10 ∷ [];
    is = refl;
    fields = record {
      first = code;
      front = decimal code;
      back = 10 ∷ [];
      before = record { is = refl; above = omega arith; below = h };
      parts = refl;
      after = record { from = tt; spelled = refl; is = refl };
    };
  }
  fields_from (statement.Give e) h = record { back = expr_text e ++ 10 ∷ []; is = refl; fields = record { from = (e, kw.Newline); spelled = expr_line e h; is = refl } }

  -- ---- in its place

  pub in_place : (s : Statement) → may_begin d (keyword_of s) ≡ true → IsInPlace d.ifs s
  in_place (statement.Read var name rec) may = tt
  in_place (statement.Set var e) may = tt
  in_place (statement.Write name rec e) may = tt
  in_place (statement.IfLess a b) may = ltb-true (length d.ifs) 16 may
  in_place (statement.IfEqual a b) may = ltb-true (length d.ifs) 16 may
  in_place statement.Else may = may
  in_place statement.End may = ltb-true 0 (length d.ifs) may
  in_place (statement.Fail code) may = tt
  in_place (statement.Give e) may = eqb-true (length d.ifs) 0 may

  has_record : (rec : ℕ) (name : List ℕ) → IsPlace names rec name → nat_lt 0 (length d.head.catalog.records) ≡ true
  has_record rec name h = go d.head.catalog.records h
    where
      go : (records : List RecordEntry) → IsPlace (map (λ entry. entry.name) records) rec name → nat_lt 0 (length records) ≡ true
      go [] h = absurd h
      go (r ∷ records) h = lt-ltb 0 (length (r ∷ records)) (omega arith)

  pub may_be : (s : Statement) → IsStatement d.head.catalog s → IsInPlace d.ifs s → may_begin d (keyword_of s) ≡ true
  may_be (statement.Read var name rec) h i = has_record rec name h.1
  may_be (statement.Set var e) h i = refl
  may_be (statement.Write name rec e) h i = has_record rec name h.0
  may_be (statement.IfLess a b) h i = lt-ltb (length d.ifs) 16 i
  may_be (statement.IfEqual a b) h i = lt-ltb (length d.ifs) 16 i
  may_be statement.Else h i = i
  may_be statement.End h i = lt-ltb 0 (length d.ifs) i
  may_be (statement.Fail code) h i = refl
  may_be (statement.Give e) h i = eq-eqb (length d.ifs) 0 i
