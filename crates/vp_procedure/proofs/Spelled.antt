-- The lines up to `result` say only one procedure, and each procedure has lines that say it.
use Rattle.std.proofs.Common.{◌≡◌, ℕ, ◌+◌, ◌<◌, List, [], ◌∷◌, ◌++◌, length, Bool, true, false, refl, sym, ap, subst, ◌∙◌, arith, append_assoc}
use Rattle.std.specs.Prelude.{flat_map}
use Rattle.std.proofs.lemmas.Bool.{false≢true}
use Rattle.std.proofs.lemmas.List.{length-append, append-nil, flat_map_more}
use Rattle.std.proofs.lemmas.List.Concat.{flat_map-cons}
use Rattle.vp_model.specs.Catalogue.{Catalogue}
use Rattle.vp_model.specs.Texts.Schedule.{catalogue_text}
use Rattle.vp_heads.specs.Heads as heads
use Rattle.vp_heads.specs.declared.head.Head.{Head}
use Rattle.vp_heads.specs.declared.line.HeadLine.{HeadLine}
use Rattle.vp_heads.specs.declared.line.HeadLine.TheVariants as heads_kind
use Rattle.vp_heads.proofs.Apart.{head_lines}
use Rattle.vp_heads.proofs.Steps as head
use Rattle.vp_procedure.specs.declared.draft.ProcedureDraft.{ProcedureDraft}
use Rattle.vp_procedure.specs.declared.draft.ProcedureInput.{ProcedureInput}
use Rattle.vp_procedure.specs.declared.line.ProcedureLine.{ProcedureLine}
use Rattle.vp_procedure.specs.declared.line.ProcedureLine.TheVariants as kind
use Rattle.vp_procedure.specs.declared.procedure.Statement.{Statement}
use Rattle.vp_procedure.specs.Procedures.{key, statement_line, IsStatement, IsInPlace, opened_by, is_result, AreStatements}
use Rattle.vp_procedure.specs.Drafts.{LineText, blank, after, Onward, Closes, input_of}
use Rattle.vp_procedure.specs.Document.{IsProcedureText}
use Rattle.vp_procedure.proofs.Steps.{said, Lines, heads_of, head_said, head_text, catalogue_said}
use Rattle.vp_procedure.proofs.Answering.{Stopped}

-- ---- statements before the last one

-- From these open `if`s the statements lead to those, and none of them is `result`.
abbrev Leads : Catalogue → List Bool → List Statement → List Bool → Type 0
Leads c ifs [] now = now ≡ ifs
Leads c ifs (s ∷ rest) now = IsStatement c s × IsInPlace ifs s × (is_result s ≡ false) × Leads c (opened_by s ifs) rest now

lead_push : (c : Catalogue) (ifs mid : List Bool) (ss : List Statement) (s : Statement) → Leads c ifs ss mid → IsStatement c s → IsInPlace mid s → is_result s ≡ false → Leads c ifs (ss ++ s ∷ []) (opened_by s mid)
lead_push c ifs mid [] s h is place other = (is, subst (λ (i : List Bool). IsInPlace i s) h place, other, ap (opened_by s) h)
lead_push c ifs mid (x ∷ ss) s h is place other = (h.0, h.1, h.2, lead_push c (opened_by x ifs) mid ss s h.3 is place other)

lead_end : (c : Catalogue) (ifs mid : List Bool) (ss : List Statement) (s : Statement) → Leads c ifs ss mid → IsStatement c s → IsInPlace mid s → is_result s ≡ true → AreStatements c ifs (ss ++ s ∷ [])
lead_end c ifs mid [] s h is place last = (is, subst (λ (i : List Bool). IsInPlace i s) h place, last)
lead_end c ifs mid (x ∷ []) s h is place last = (h.0, h.1, h.2, lead_end c (opened_by x ifs) mid [] s h.3 is place last)
lead_end c ifs mid (x ∷ y ∷ ss) s h is place last = (h.0, h.1, h.2, lead_end c (opened_by x ifs) mid (y ∷ ss) s h.3 is place last)

-- and each procedure's statements are such, and the last one
record Ending (c : Catalogue) (ifs : List Bool) (ss : List Statement) : Type 0 where
  front : List Statement
  last : Statement
  mid : List Bool
  parts : ss ≡ front ++ last ∷ []
  leads : Leads c ifs front mid
  is : IsStatement c last
  place : IsInPlace mid last
  result : is_result last ≡ true

ending : (c : Catalogue) (ifs : List Bool) (ss : List Statement) → AreStatements c ifs ss → Ending c ifs ss
ending c ifs [] h = absurd h
ending c ifs (s ∷ []) h = record { front = []; last = s; mid = ifs; parts = refl; leads = refl; is = h.0; place = h.1; result = h.2 }
ending c ifs (s ∷ t ∷ rest) h =
    let e = ending c (opened_by s ifs) (t ∷ rest) h.3 in
    record { front = s ∷ e.front; last = e.last; mid = e.mid; parts = ap (λ (x : List Statement). s ∷ x) e.parts; leads = (h.0, h.1, h.2, e.leads); is = e.is; place = e.place; result = e.result }

-- ---- what the lines say

no_statements : (es : List ProcedureLine) (t : List ℕ) → Lines es t → (said es).head.opened ≡ false → ((said es).statements ≡ []) × ((said es).ifs ≡ [])
no_statements [] t h off = (refl, refl)
no_statements (kind.Head (heads_kind.Entry entry) ∷ es) t h off = no_statements es h.0 h.2 h.3.0
no_statements (kind.Head heads_kind.Key ∷ es) t h off = absurd (false≢true (sym off))
no_statements (kind.Statement s ∷ es) t h off = absurd (false≢true (sym off ∙ h.3.0))

closed : (d : ProcedureDraft) (line : HeadLine) (t : List ℕ) → heads.LineText key d.head line t → d.head.opened ≡ false
closed d (heads_kind.Entry entry) t h = h.0
closed d heads_kind.Key t h = h.0

-- the head, and then the lines of the statements
text_said : (es : List ProcedureLine) (t : List ℕ) (h : Lines es t) → t ≡ (head_text es t h).0 ++ flat_map statement_line (said es).statements
unfolding head_text
text_said [] t h = h
text_said (kind.Head line ∷ es) t h =
    let none = (no_statements es h.0 h.2 (closed (said es) line h.1 h.3)).0 in
    let before : h.0 ≡ (head_text es h.0 h.2).0 = text_said es h.0 h.2 ∙ ap (λ (ss : List Statement). (head_text es h.0 h.2).0 ++ flat_map statement_line ss) none ∙ append-nil (head_text es h.0 h.2).0 in
    h.5 ∙ ap (λ (x : List ℕ). x ++ h.1) before ∙ sym (append-nil ((head_text es h.0 h.2).0 ++ h.1)) ∙ ap (λ (ss : List Statement). ((head_text es h.0 h.2).0 ++ h.1) ++ flat_map statement_line ss) (sym none)
text_said (kind.Statement s ∷ es) t h =
    h.5 ∙ ap (λ (x : List ℕ). x ++ h.1) (text_said es h.0 h.2) ∙ ap (λ (x : List ℕ). ((head_text es h.0 h.2).0 ++ flat_map statement_line (said es).statements) ++ x) h.3.3
    ∙ flat_map_more statement_line (head_text es h.0 h.2).0 (said es).statements s

leads_said : (es : List ProcedureLine) (t : List ℕ) → Lines es t → Leads (said es).head.catalog [] (said es).statements (said es).ifs
leads_said [] t h = refl
leads_said (kind.Head line ∷ es) t h =
    let none = no_statements es h.0 h.2 (closed (said es) line h.1 h.3) in
    subst (λ (ss : List Statement). Leads (heads.after (said es).head line).catalog [] ss (said es).ifs) (sym none.0) none.1
leads_said (kind.Statement s ∷ es) t h = lead_push (said es).head.catalog [] (said es).ifs (said es).statements s (leads_said es h.0 h.2) h.3.1 h.3.2 h.4.0

few_said : (es : List ProcedureLine) (t : List ℕ) → Lines es t → length (said es).statements < 256
few_said [] t h = omega arith
few_said (kind.Head line ∷ es) t h = few_said es h.0 h.2
few_said (kind.Statement s ∷ es) t h = let room = h.4.1 in omega (arith, room, length-append (said es).statements (s ∷ []))

-- ---- lines that `result` closes

module _ (text : List ℕ) (line : ℕ) (f : Stopped Closes text line) where
  abbrev d : ProcedureDraft
  d = said f.lines

  closed_says : (e : ProcedureLine) → LineText d e f.faulty → Closes d e → f.rest ≡ [] → IsProcedureText (input_of (after d e)) text
  closed_says (kind.Head line) h c none = absurd c
  closed_says (kind.Statement s) h c none =
      let front = head_text f.lines f.front f.lines_are in
      let on : (head.said key (heads_of f.lines)).opened ≡ true = subst (λ (h : Head). h.opened ≡ true) (head_said f.lines) h.0 in
      let spelled = (head.head_spelled key (heads_of f.lines) front.0 front.1 on).1 ∙ ap (λ (h : Head). catalogue_text h.catalog ++ key) (sym (head_said f.lines)) in
      let lines = flat_map_more statement_line (catalogue_text d.head.catalog ++ key) d.statements s in (
        record {
          catalogue_is = catalogue_said f.lines f.front f.lines_are h.0;
          first_is = refl;
          statements_are = lead_end d.head.catalog [] d.ifs d.statements s (leads_said f.lines f.front f.lines_are) h.1 h.2 c;
          few = (let room = few_said f.lines f.front f.lines_are in omega (arith, room, length-append d.statements (s ∷ [])));
        },
        sym (append_assoc (catalogue_text d.head.catalog) key (flat_map statement_line (d.statements ++ s ∷ []))) ∙ sym lines
            ∙ ap (λ (x : List ℕ). (x ++ flat_map statement_line d.statements) ++ statement_line s) (sym spelled)
            ∙ ap (λ (x : List ℕ). x ++ statement_line s) (sym (text_said f.lines f.front f.lines_are))
            ∙ ap (λ (x : List ℕ). f.front ++ x) (sym h.3) ∙ sym (f.parts ∙ ap (λ (x : List ℕ). f.front ++ (f.faulty ++ x)) none ∙ ap (λ (x : List ℕ). f.front ++ x) (append-nil f.faulty)),
      )

  pub closed_spells : f.rest ≡ [] → IsProcedureText (input_of (after d f.entry)) text
  closed_spells = closed_says f.entry f.faulty_is f.fault

-- ---- the lines of a procedure

-- some lines that say the draft
record LinesOf (d : ProcedureDraft) (text : List ℕ) : Type 0 where
  lines : List ProcedureLine
  lines_are : Lines lines text
  says : said lines ≡ d

abbrev as_lines : List HeadLine → List ProcedureLine
as_lines [] = []
as_lines (line ∷ es) = kind.Head line ∷ as_lines es

said_head : (es : List HeadLine) → said (as_lines es) ≡ record blank { head = head.said key es }
said_head [] = refl
said_head (line ∷ es) = ap (λ (d : ProcedureDraft). after d (kind.Head line)) (said_head es)

lines_head : (es : List HeadLine) (t : List ℕ) → head.Lines key es t → Lines (as_lines es) t
lines_head [] t h = h
lines_head (line ∷ es) t h =
    let back = sym (said_head es) in
    (h.0, h.1, lines_head es h.0 h.2, subst (λ (d : ProcedureDraft). LineText d (kind.Head line) h.1) back h.3, subst (λ (d : ProcedureDraft). Onward d (kind.Head line)) back h.4, h.5)

abbrev draft_of : Catalogue → List Statement → List Bool → ProcedureDraft
draft_of c ss ifs = record { head = record { catalog = c; opened = true }; statements = ss; ifs = ifs }

-- one more statement
statement_more : (c : Catalogue) (ss : List Statement) (ifs : List Bool) (text : List ℕ) (s : Statement) → LinesOf (draft_of c ss ifs) text → IsStatement c s → IsInPlace ifs s → is_result s ≡ false → length ss + 1 < 256
    → LinesOf (draft_of c (ss ++ s ∷ []) (opened_by s ifs)) (text ++ statement_line s)
statement_more c ss ifs text s l is place other room =
    let back = sym l.says in
    record {
      lines = kind.Statement s ∷ l.lines;
      lines_are = (
        text,
        statement_line s,
        l.lines_are,
        subst (λ (d : ProcedureDraft). LineText d (kind.Statement s) (statement_line s)) back (refl, is, place, refl),
        subst (λ (d : ProcedureDraft). Onward d (kind.Statement s)) back (other, room),
        refl,
      );
      says = ap (λ (d : ProcedureDraft). after d (kind.Statement s)) l.says;
    }

statements_more : (c : Catalogue) (ss more : List Statement) (ifs mid : List Bool) (text : List ℕ) → LinesOf (draft_of c ss ifs) text → Leads c ifs more mid → length ss + length more < 256
    → LinesOf (draft_of c (ss ++ more) mid) (text ++ flat_map statement_line more)
statements_more c ss [] ifs mid text l h few =
    subst (λ (ss : List Statement). LinesOf (draft_of c ss mid) (text ++ [])) (sym (append-nil ss))
    (subst (LinesOf (draft_of c ss mid)) (sym (append-nil text)) (subst (λ (ifs : List Bool). LinesOf (draft_of c ss ifs) text) (sym h) l))
statements_more c ss (s ∷ more) ifs mid text l h few =
    let next = statement_more c ss ifs text s l h.0 h.1 h.2 (omega (arith, few)) in
    let all = statements_more c (ss ++ s ∷ []) more (opened_by s ifs) mid (text ++ statement_line s) next h.3 (omega (arith, few, length-append ss (s ∷ []))) in
    let text_all : (text ++ statement_line s) ++ flat_map statement_line more ≡ text ++ flat_map statement_line (s ∷ more) =
    append_assoc text (statement_line s) (flat_map statement_line more) ∙ ap (λ (x : List ℕ). text ++ x) (sym (flat_map-cons statement_line s more)) in
    subst (λ (ss : List Statement). LinesOf (draft_of c ss mid) (text ++ flat_map statement_line (s ∷ more))) (append_assoc ss (s ∷ []) more) (subst (LinesOf (draft_of c ((ss ++ s ∷ []) ++ more) mid)) text_all all)

-- a text that `result` closes, with nothing after it
pub record IsClosed (text : List ℕ) (it : ProcedureInput) : Type 0 where
  pub line : ℕ
  pub closes : Stopped Closes text line
  pub none : closes.rest ≡ []
  pub says : input_of (after (said closes.lines) closes.entry) ≡ it

input_is : (it : ProcedureInput) (ss : List Statement) → it.procedure.first ≡ length it.catalog.sites + length it.catalog.records + 2 → it.procedure.statements ≡ ss
    → record { catalog = it.catalog; procedure = record { first = length it.catalog.sites + length it.catalog.records + 2; statements = ss } } ≡ it
input_is it ss first is = rw (← first, ← is) refl

pub text_closes : (text : List ℕ) (it : ProcedureInput) → IsProcedureText it text → IsClosed text it
text_closes text it h =
    let c = it.catalog in
    let e = ending c [] it.procedure.statements h.0.statements_are in
    let l = head_lines key c h.0.catalogue_is in
    let opened : LinesOf (draft_of c [] []) (catalogue_text c ++ key) =
    record { lines = as_lines l.lines; lines_are = lines_head l.lines (catalogue_text c ++ key) l.lines_are; says = said_head l.lines ∙ ap (λ (h : Head). record blank { head = h }) l.says } in
    let count = ap length e.parts in
    let all = statements_more c [] e.front [] e.mid (catalogue_text c ++ key) opened e.leads (let few = h.0.few in omega (arith, few, count, length-append e.front (e.last ∷ []))) in
    let back = sym all.says in
    let front : List ℕ = (catalogue_text c ++ key) ++ flat_map statement_line e.front in
    record {
      line = length all.lines + 1;
      closes = record {
        lines = all.lines;
        front = front;
        faulty = statement_line e.last;
        rest = [];
        entry = kind.Statement e.last;
        lines_are = all.lines_are;
        faulty_is = subst (λ (d : ProcedureDraft). LineText d (kind.Statement e.last) (statement_line e.last)) back (refl, e.is, e.place, refl);
        fault = e.result;
        parts = sym h.1 ∙ ap (λ (ss : List Statement). catalogue_text c ++ (key ++ flat_map statement_line ss)) e.parts ∙ sym (append_assoc (catalogue_text c) key (flat_map statement_line (e.front ++ e.last ∷ [])))
            ∙ sym (flat_map_more statement_line (catalogue_text c ++ key) e.front e.last) ∙ ap (λ (x : List ℕ). front ++ x) (sym (append-nil (statement_line e.last)));
        number = refl;
      };
      none = refl;
      says = ap (λ (d : ProcedureDraft). input_of (after d (kind.Statement e.last))) all.says ∙ input_is it (e.front ++ e.last ∷ []) h.0.first_is e.parts;
    }
