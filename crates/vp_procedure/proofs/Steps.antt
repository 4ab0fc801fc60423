-- Lines of a procedure's input, one after the other.
use Rattle.std.proofs.Common.{◌≡◌, ℕ, ◌+◌, ◌-◌, ◌≤◌, ◌<◌, List, [], ◌∷◌, ◌++◌, length, refl, sym, ap, subst, Ok, Err, true, arith}
use Rattle.std.specs.Prelude.{codes, map}
use Rattle.std.specs.List.{AllByRecursion}
use Rattle.std.specs.Fmt.{decimal}
use Rattle.std.proofs.lemmas.Bool.Decides.{nat_tests}
use Rattle.vp_text.specs.Classes.{has}
use Rattle.vp_text.specs.declared.class.Class.TheVariants as classes
use Rattle.vp_text.specs.Documents.{HasNoNewline, IsLine, reached, LinesText}
use Rattle.vp_text.proofs.Items.{all_each}
use Rattle.vp_text.proofs.Lists.{Readable, SoFar, so_far_exact, so_far_shorter, so_far_bad}
use Rattle.vp_text.proofs.Newlines.{both, decimal_clean, key_clean, key_line, last_line, line_push}
use Rattle.vp_base.specs.Words.{IsName}
use Rattle.vp_base.specs.Reading.{starts_any}
use Rattle.vp_base.proofs.Among.{place_is_name}
use Rattle.vp_model.specs.Catalogue.{Catalogue, RecordEntry, sites_of}
use Rattle.vp_catalog.specs.Document.{IsCatalogueSoFar, IsCatalogue}
use Rattle.vp_catalog.specs.Entries.{IsRecord}
use Rattle.vp_catalog.proofs.Apart.{sites_few}
use Rattle.vp_heads.specs.Heads as heads
use Rattle.vp_heads.specs.declared.head.Head.{Head}
use Rattle.vp_heads.specs.declared.line.HeadLine.{HeadLine}
use Rattle.vp_heads.specs.declared.line.HeadLine.TheVariants as heads_kind
use Rattle.vp_heads.proofs.HeadTexts.{IsKey}
use Rattle.vp_heads.proofs.Steps as head
use Rattle.vp_procedure.specs.declared.draft.ProcedureDraft.{ProcedureDraft}
use Rattle.vp_procedure.specs.declared.line.ProcedureLine.{ProcedureLine}
use Rattle.vp_procedure.specs.declared.line.ProcedureLine.TheVariants as kind
use Rattle.vp_procedure.specs.declared.procedure.Term.{Term}
use Rattle.vp_procedure.specs.declared.procedure.Term.TheVariants as term
use Rattle.vp_procedure.specs.declared.procedure.Expr.{Expr}
use Rattle.vp_procedure.specs.declared.procedure.Expr.TheVariants as expr
use Rattle.vp_procedure.specs.declared.procedure.Statement.{Statement}
use Rattle.vp_procedure.specs.declared.procedure.Statement.TheVariants as statement
use Rattle.vp_procedure.specs.Procedures.{IsTerm, IsExpr, IsStatement, key, names_of, term_text, expr_text, statement_line}
use Rattle.vp_procedure.specs.Drafts.{LineText, Allows, blank, after, Onward}
use Rattle.vp_procedure.specs.LineReading.{may_begin, line_at}
use Rattle.vp_procedure.specs.declared.keyword.Keyword.TheVariants as kw
use Rattle.vp_procedure.proofs.LineTexts.{AreNames, line_exact}

-- what some lines say
abbrev pub said : List ProcedureLine → ProcedureDraft
said = reached blank after LineText Onward

abbrev pub Lines : List ProcedureLine → List ℕ → Type 0
Lines = LinesText blank after LineText Onward

-- where the reading is
abbrev pub Stands : List ℕ → List ℕ → ProcedureDraft → ℕ → Type 0
Stands = SoFar blank after LineText Onward line_at

pub key_is : IsKey key
key_is = record { line = key_line (codes "procedure") refl; no_site = refl; no_record = refl }

-- ---- the lines of the head among them

abbrev pub heads_of : List ProcedureLine → List HeadLine
heads_of [] = []
heads_of (kind.Head line ∷ es) = line ∷ heads_of es
heads_of (kind.Statement s ∷ es) = heads_of es

pub head_said : (es : List ProcedureLine) → (said es).head ≡ head.said key (heads_of es)
head_said [] = refl
head_said (kind.Head line ∷ es) = ap (λ (h : Head). heads.after h line) (head_said es)
head_said (kind.Statement s ∷ es) = head_said es

unfoldable pub head_text : (es : List ProcedureLine) (t : List ℕ) → Lines es t → (front : List ℕ) × head.Lines key (heads_of es) front
head_text [] t h = ([], refl)
head_text (kind.Head line ∷ es) t h =
    let front = head_text es h.0 h.2 in
    (front.0 ++ h.1, (front.0, h.1, front.1, subst (λ (d : Head). heads.LineText key d line h.1) (head_said es) h.3, subst (λ (d : Head). heads.Onward d line) (head_said es) h.4, refl))
head_text (kind.Statement s ∷ es) t h = head_text es h.0 h.2

pub part : (es : List ProcedureLine) (t : List ℕ) → Lines es t → IsCatalogueSoFar (said es).head.catalog
part es t h = let front = head_text es t h in subst (λ (d : Head). IsCatalogueSoFar d.catalog) (sym (head_said es)) (head.part key (heads_of es) front.0 front.1)

pub catalogue_said : (es : List ProcedureLine) (t : List ℕ) → Lines es t → (said es).head.opened ≡ true → IsCatalogue (said es).head.catalog
catalogue_said es t h on =
    let front = head_text es t h in
    subst (λ (d : Head). IsCatalogue d.catalog) (sym (head_said es)) (head.head_spelled key (heads_of es) front.0 front.1 (subst (λ (d : Head). d.opened ≡ true) (head_said es) on)).0

-- ---- the names of the records

all_names : (sites : List ℕ) (records : List RecordEntry) → AllByRecursion (IsRecord sites) records → AllByRecursion (λ n. IsName n n) (map (λ entry. entry.name) records)
all_names sites [] h = tt
all_names sites (r ∷ records) h = (h.0.name_is, all_names sites records h.1)

some_starts : (c : Catalogue) → (let d : ProcedureDraft = record blank { head = record { catalog = c; opened = true } } in may_begin d kw.Read ≡ true) → starts_any (names_of c) [] ≡ true
some_starts c e = go c.records e
  where
    go : (records : List RecordEntry) → (let d : ProcedureDraft = record blank { head = record { catalog = record c { records = records }; opened = true } } in may_begin d kw.Read ≡ true)
        → starts_any (map (λ entry. entry.name) records) [] ≡ true
    go [] e = absurd cc
    go (r ∷ records) e = refl

pub are_names : (d : ProcedureDraft) → IsCatalogueSoFar d.head.catalog → AreNames d
are_names d h = record { all = all_names (sites_of d.head.catalog) d.head.catalog.records h.records_are; some = λ e. some_starts d.head.catalog e }

-- ---- the lines are lines

term_clean : (a : Term) → IsTerm a → HasNoNewline (term_text a)
term_clean (term.Var letter) h = ((λ e. omega (arith, h.0, e)), tt)
term_clean (term.Number n) h = decimal_clean n (omega (arith, h))

expr_clean : (e : Expr) → IsExpr e → HasNoNewline (expr_text e)
expr_clean (expr.Just a) h = term_clean a h
expr_clean (expr.Sum a b) h = both (term_text a) _ (term_clean a h.0) (both (codes " + ") (term_text b) (key_clean (codes " + ") refl) (term_clean b h.1))
expr_clean (expr.Difference a b) h = both (term_text a) _ (term_clean a h.0) (both (codes " - ") (term_text b) (key_clean (codes " - ") refl) (term_clean b h.1))

-- no newline is in a name
name_byte : (c : ℕ) → has classes.Name c ≡ true → c ≡ 10 → ⊥
name_byte c a e = grind (arith, nat_tests, a, e)

name_clean : (name : List ℕ) → IsName name name → HasNoNewline name
name_clean name h = all_each (λ c. has classes.Name c ≡ true) (λ c. c ≡ 10 → ⊥) name_byte name h.each

expr_end : (e : Expr) → IsExpr e → IsLine (expr_text e ++ 10 ∷ [])
expr_end e h = line_push (expr_text e) (10 ∷ []) (expr_clean e h) last_line

-- a letter and a space before a line
lettered : (var : ℕ) (line : List ℕ) → 97 ≤ var → IsLine line → IsLine (var ∷ 32 ∷ line)
lettered var line h l = line_push (var ∷ 32 ∷ []) line ((λ e. omega (arith, h, e)), ((λ e. omega (arith, e)), tt)) l

spaced : (line : List ℕ) → IsLine line → IsLine (32 ∷ line)
spaced line l = line_push (32 ∷ []) line ((λ e. omega (arith, e)), tt) l

statement_is_line : (c : Catalogue) → AllByRecursion (λ n. IsName n n) (names_of c) → (s : Statement) → IsStatement c s → IsLine (statement_line s)
statement_is_line c names (statement.Read var name rec) h =
    line_push (codes "read ") _ (key_clean (codes "read ") refl) (lettered var (name ++ 10 ∷ []) h.0.0 (line_push name (10 ∷ []) (name_clean name (place_is_name (names_of c) rec name names h.1)) last_line))
statement_is_line c names (statement.Set var e) h = line_push (codes "set ") _ (key_clean (codes "set ") refl) (lettered var (expr_text e ++ 10 ∷ []) h.0.0 (expr_end e h.1))
statement_is_line c names (statement.Write name rec e) h =
    line_push (codes "write ") _ (key_clean (codes "write ") refl)
    (line_push name (32 ∷ (expr_text e ++ 10 ∷ [])) (name_clean name (place_is_name (names_of c) rec name names h.0)) (spaced (expr_text e ++ 10 ∷ []) (expr_end e h.1)))
statement_is_line c names (statement.IfLess a b) h =
    line_push (codes "if ") _ (key_clean (codes "if ") refl) (line_push (expr_text a) _ (expr_clean a h.0) (line_push (codes " < ") _ (key_clean (codes " < ") refl) (expr_end b h.1)))
statement_is_line c names (statement.IfEqual a b) h =
    line_push (codes "if ") _ (key_clean (codes "if ") refl) (line_push (expr_text a) _ (expr_clean a h.0) (line_push (codes " = ") _ (key_clean (codes " = ") refl) (expr_end b h.1)))
statement_is_line c names statement.Else h = key_line (codes "else") refl
statement_is_line c names statement.End h = key_line (codes "end") refl
statement_is_line c names (statement.Fail code) h = line_push (codes "fail ") _ (key_clean (codes "fail ") refl) (line_push (decimal code) (10 ∷ []) (decimal_clean code (omega (arith, h))) last_line)
statement_is_line c names (statement.Give e) h = line_push (codes "result ") _ (key_clean (codes "result ") refl) (expr_end e h)

-- ---- the lines are read

line_is : (es : List ProcedureLine) (t : List ℕ) → Lines es t → (e : ProcedureLine) (u : List ℕ) → LineText (said es) e u → IsLine u
line_is es t h (kind.Head line) u l = head.line_is key key_is (said es).head (part es t h) line u l
line_is es t h (kind.Statement s) u l = subst IsLine (sym l.3) (statement_is_line (said es).head.catalog (are_names (said es) (part es t h)).all s l.1)

pub readable : (most : ℕ) → Readable blank after LineText Onward line_at most
readable most = record {
  exact = λ es t le h. line_exact (said es) (λ off. head.line_ready key key_is (said es).head off (part es t h)) (are_names (said es) (part es t h));
  lines = λ es t le h. line_is es t h;
}

-- ---- the steps

pub stands_room : (text rest : List ℕ) (d : ProcedureDraft) (line : ℕ) → Stands text rest d line → (left : ℕ) → line_at d rest ≡ Err left → left ≤ length rest
stands_room text rest d line s left read = (so_far_bad blank after LineText Onward line_at text rest d line left (readable (length text)) s read).0

pub stands_few : (text rest : List ℕ) (d : ProcedureDraft) (line : ℕ) → Stands text rest d line → length d.head.catalog.sites ≤ 16
stands_few text rest d line s =
    let most = sites_few 0 (said s.lines).head.catalog.sites (part s.lines s.front s.lines_are).sites_are (omega arith) in
    subst (λ (d : ProcedureDraft). length d.head.catalog.sites ≤ 16) s.state_is (omega (arith, most))

allows : (d : ProcedureDraft) (e : ProcedureLine) (t : List ℕ) → LineText d e t → Allows d e
allows d (kind.Head line) t h = head_allows line h
  where
    head_allows : (line : HeadLine) → heads.LineText key d.head line t → heads.Allows d.head line
    head_allows (heads_kind.Entry entry) h = (t, h.1)
    head_allows heads_kind.Key h = tt
allows d (kind.Statement s) t h = tt

pub stands_allowed : (text rest new : List ℕ) (d : ProcedureDraft) (line : ℕ) (e : ProcedureLine) → Stands text rest d line → line_at d rest ≡ Ok (e, new) → Allows d e
stands_allowed text rest new d line e s read =
    let p = (so_far_exact blank after LineText Onward line_at text rest d line (readable (length text)) s).ok rest e new read in
    allows d e p.text p.spelled

pub stands_shorter : (text rest new : List ℕ) (d : ProcedureDraft) (line : ℕ) (e : ProcedureLine) → Stands text rest d line → line_at d rest ≡ Ok (e, new) → length new < length rest
stands_shorter text rest new d line e s read = so_far_shorter blank after LineText Onward line_at text rest new d line e (readable (length text)) s read

pub stands_number : (text rest : List ℕ) (d : ProcedureDraft) (line : ℕ) → Stands text rest d line → line ≤ length text + 1
stands_number text rest d line s = let b = s.bound in omega (arith, b)
