-- Lines one after the other.
use Rattle.std.proofs.Common.{◌≡◌, ℕ, suc, ◌+◌, ◌-◌, ◌^◌, ◌≤◌, ◌<◌, List, [], ◌∷◌, ◌++◌, length, get_or, refl, sym, ap, subst, ◌∙◌, arith, inl, inr, Ok, Err, Result, Bool, true, false}
use Rattle.std.specs.Prelude.{codes, nat_lt, ◌==◌}
use Rattle.std.specs.Fmt.{decimal}
use Rattle.std.proofs.lemmas.Bool.{false≢true, and_parts, ltb-true}
use Rattle.std.proofs.lemmas.List.{length-append, append-nil, nil_from_length}
use Rattle.vp_text.specs.Documents.{reached, LinesText, IsFaultyLine}
use Rattle.vp_text.proofs.Lists.{Readable, SoFar, so_far_exact, so_far_shorter, so_far_more, so_far_bad, so_far_faulty}
use Rattle.vp_base.specs.Words.{IsName}
use Rattle.vp_base.specs.Identifiers.{IsView}
use Rattle.vp_model.specs.Types.{ViewId, Commit}
use Rattle.vp_model.specs.Words.{opening}
use Rattle.vp_onecopy.specs.declared.line.HistoryLine.{HistoryLine}
use Rattle.vp_onecopy.specs.declared.line.HistoryLine.TheVariants as kind
use Rattle.vp_onecopy.specs.declared.map.History.{History}
use Rattle.vp_onecopy.specs.declared.fault.HistoryFault.{HistoryFault}
use Rattle.vp_onecopy.specs.declared.fault.HistoryFault.TheVariants as faults
use Rattle.vp_onecopy.specs.Lines.{AllNames, Before, LineText}
use Rattle.vp_onecopy.specs.Reading.{line_at}
use Rattle.vp_onecopy.specs.History.{last_from, before, empty, after, Allowed, Onward, NamesAgain, IsHistory, IsTooLong, Answered, NextLine, Adds, Finishes}
use Rattle.vp_onecopy.proofs.Exact.{line_exact}
use Rattle.vp_onecopy.proofs.Newlines.{line_is}

abbrev pub reads : History → List ℕ → Result (HistoryLine × List ℕ) ℕ
reads h bytes = line_at (before h) bytes

-- what some lines say
abbrev pub all_said : List HistoryLine → History
all_said = reached empty after Allowed Onward

abbrev pub Lines : List HistoryLine → List ℕ → Type 0
Lines = LinesText empty after Allowed Onward

-- the place that the reading has reached
abbrev pub Stands : List ℕ → List ℕ → History → ℕ → Type 0
Stands = SoFar empty after Allowed Onward reads

-- ---- the last view

pub last_from-push : (view : ViewId) (commits : List Commit) (commit : Commit) → last_from view (commits ++ commit ∷ []) ≡ commit.view
last_from-push view [] commit = refl
last_from-push view (c ∷ commits) commit = last_from-push c.view commits commit

pub last_is : (view : ViewId) (commits : List Commit) (commit : Commit) → 0 < length commits → commit ≡ get_or commits (length commits - 1) commit → commit.view ≡ last_from view commits
last_is view [] commit l is = absurd (omega arith)
last_is view (c ∷ []) commit l is = ap (λ (x : Commit). x.view) is
last_is view (c ∷ d ∷ commits) commit l is =
    let place : length (c ∷ d ∷ commits) - 1 ≡ suc (length (d ∷ commits) - 1) = omega arith in
    last_is c.view (d ∷ commits) commit (omega arith) (is ∙ ap (λ n. get_or (c ∷ d ∷ commits) n commit) place)

-- ---- what the lines so far say

names_push : (names : List (List ℕ)) (name : List ℕ) → AllNames names → IsName name name → AllNames (names ++ name ∷ [])
names_push [] name all h = (h, tt)
names_push (n ∷ names) name all h = (all.0, names_push names name all.1 h)

names_ok : (es : List HistoryLine) (t : List ℕ) → Lines es t → AllNames (all_said es).names
names_ok [] t h = tt
names_ok (kind.Start name value ∷ es) t h = names_push (all_said es).names name (names_ok es h.0 h.2) h.3.name_is
names_ok (kind.Commit commit ∷ es) t h = names_ok es h.0 h.2
names_ok (kind.End ∷ es) t h = absurd h.4

pub few_ok : (es : List HistoryLine) (t : List ℕ) → Lines es t → length (all_said es).names ≤ 256
few_ok [] t h = omega arith
few_ok (kind.Start name value ∷ es) t h =
    let b = before (all_said es) in
    let below = ltb-true (length b.names) 256 (and_parts (b.commits == 0) (nat_lt (length b.names) 256) h.3.allowed).1 in
    omega (arith, below, length-append (all_said es).names (name ∷ []))
few_ok (kind.Commit commit ∷ es) t h = few_ok es h.0 h.2
few_ok (kind.End ∷ es) t h = absurd h.4

view_ok : (es : List HistoryLine) (t : List ℕ) → Lines es t → IsView (before (all_said es)).last
view_ok [] t h = record { number_fits = omega arith; site_fits = omega arith; opening = λ e. refl; made = λ e. absurd (omega arith) }
view_ok (kind.Start name value ∷ es) t h = view_ok es h.0 h.2
view_ok (kind.Commit commit ∷ es) t h = subst IsView (sym (last_from-push opening (all_said es).commits commit)) h.3.view_is.spelled.allowed
view_ok (kind.End ∷ es) t h = absurd h.4

pub line_some : (b : Before) (e : HistoryLine) (t : List ℕ) → LineText b e t → 0 < length t
line_some b (kind.Start name value) t h = omega (arith, ap length h.parts, length-append (codes "start ") (name ++ 32 ∷ (value ++ 10 ∷ [])))
line_some b (kind.Commit commit) t h = omega (arith, ap length h.parts, length-append (codes "commit ") (h.txn ++ 32 ∷ (h.view ++ h.ops)))
line_some b kind.End t h = omega (arith, ap length h, length-append (codes "end ") (decimal b.commits ++ 10 ∷ []))

pub lines_le : (es : List HistoryLine) (t : List ℕ) → Lines es t → length es ≤ length t
lines_le [] t h = omega arith
lines_le (e ∷ es) t h = omega (arith, lines_le es h.0 h.2, line_some (before (all_said es)) e h.1 h.3, ap length h.5, length-append h.0 h.1)

commits_le : (es : List HistoryLine) (t : List ℕ) → Lines es t → length (all_said es).commits ≤ length es
commits_le [] t h = omega arith
commits_le (kind.Start name value ∷ es) t h = omega (arith, commits_le es h.0 h.2)
commits_le (kind.Commit commit ∷ es) t h = omega (arith, commits_le es h.0 h.2, length-append (all_said es).commits (commit ∷ []))
commits_le (kind.End ∷ es) t h = absurd h.4

pub readable : (most : ℕ) → most < 2 ^ 63 → Readable empty after Allowed Onward reads most
readable most small = record {
  exact = λ es t le h. line_exact (before (all_said es)) (names_ok es t h) (view_ok es t h) (omega (arith, commits_le es t h, lines_le es t h));
  lines = λ es t le h. line_is (before (all_said es)) (names_ok es t h) (omega (arith, commits_le es t h, lines_le es t h));
}

-- ---- the steps

pub stands_names : (text rest : List ℕ) (h : History) (line : ℕ) → Stands text rest h line → AllNames h.names
stands_names text rest h line s = subst (λ (h : History). AllNames h.names) s.state_is (names_ok s.lines s.front s.lines_are)

pub stands_few : (text rest : List ℕ) (h : History) (line : ℕ) → Stands text rest h line → length h.names ≤ 256
stands_few text rest h line s = subst (λ (h : History). length h.names ≤ 256) s.state_is (few_ok s.lines s.front s.lines_are)

pub stands_room : (text rest : List ℕ) (h : History) (line : ℕ) → length text < 2 ^ 63 → Stands text rest h line → (left : ℕ) → reads h rest ≡ Err left → left ≤ length rest
stands_room text rest h line small s left read = (so_far_bad empty after Allowed Onward reads text rest h line left (readable (length text) small) s read).0

pub stands_shorter : (text rest new : List ℕ) (h : History) (line : ℕ) (e : HistoryLine) → length text < 2 ^ 63 → Stands text rest h line → reads h rest ≡ Ok (e, new) → length new < length rest
stands_shorter text rest new h line e small s read = so_far_shorter empty after Allowed Onward reads text rest new h line e (readable (length text) small) s read

stands_done : (text rest new : List ℕ) (h : History) (line : ℕ) → length text < 2 ^ 63 → Stands text rest h line → reads h rest ≡ Ok (kind.End, new) → length new ≡ 0 → IsHistory h text
stands_done text rest new h line small s read none =
    let p = (so_far_exact empty after Allowed Onward reads text rest h line (readable (length text) small) s).ok rest kind.End new read in
    record {
      lines = s.lines;
      front = s.front;
      last = p.text;
      lines_are = s.lines_are;
      says = s.state_is;
      last_is = p.spelled;
      parts = s.parts ∙ ap (λ (x : List ℕ). s.front ++ x) (p.parts ∙ ap (λ (x : List ℕ). p.text ++ x) (nil_from_length new none) ∙ append-nil p.text);
    }

stands_long : (text rest new : List ℕ) (h : History) (line : ℕ) → length text < 2 ^ 63 → Stands text rest h line → reads h rest ≡ Ok (kind.End, new) → (length new ≡ 0 → ⊥) → IsTooLong text (line + 1) 1
stands_long text rest new h line small s read some =
    let p = (so_far_exact empty after Allowed Onward reads text rest h line (readable (length text) small) s).ok rest kind.End new read in
    record {
      lines = s.lines;
      front = s.front;
      last = p.text;
      rest = new;
      lines_are = s.lines_are;
      last_is = subst (λ (h : History). Allowed h kind.End p.text) (sym s.state_is) p.spelled;
      parts = s.parts ∙ ap (λ (x : List ℕ). s.front ++ x) p.parts;
      more = some;
      number = omega (arith, s.number);
      first = refl;
    }

-- ---- the results of the loop

pub answered_next : (text rest new : List ℕ) (h : History) (line : ℕ) (e : HistoryFault) → length text < 2 ^ 63 → Stands text rest h line → NextLine h line rest new (Err e) → Answered text (Err e)
answered_next text rest new h line (faults.BadLine l at) small s n =
    let bad = (so_far_bad empty after Allowed Onward reads text rest h line n.1 (readable (length text) small) s n.2).1 in
    inl (rw (n.0, n.3) bad)
answered_next text rest new h line (faults.Twice l) small s n = absurd n
answered_next text rest new h line faults.NoMemory small s n = tt

pub answered_add : (text rest new : List ℕ) (h k : History) (next : HistoryLine) (line : ℕ) (e : HistoryFault) → length text < 2 ^ 63 → Stands text rest h line → reads h rest ≡ Ok (next, new) → Adds h next line k (Err e) → Answered text (Err e)
answered_add text rest new h k next line (faults.BadLine l at) small s read n = absurd n
answered_add text rest new h k next line (faults.Twice l) small s read n =
    subst (IsFaultyLine empty after Allowed Onward NamesAgain text) (sym n.0) (so_far_faulty empty after Allowed Onward reads NamesAgain text rest new h line next (readable (length text) small) s read n.1)
answered_add text rest new h k next line faults.NoMemory small s read n = tt

pub answered_end : (text rest new : List ℕ) (h k : History) (next : HistoryLine) (line : ℕ) (b : Bool) (r : Result History HistoryFault) → length text < 2 ^ 63 → Stands text rest h line → reads h rest ≡ Ok (next, new) → Adds h next line k (Ok b) → b ≡ false → Finishes k line new r → Answered text r
answered_end text rest new h k next line true r small s read n off f = absurd (false≢true (sym off))
answered_end text rest new h k next line false (Ok g) small s read n off f =
    let read_end : reads h rest ≡ Ok (kind.End, new) = read ∙ ap (λ (x : HistoryLine). Ok (x, new)) n.1 in
    subst (λ (h : History). IsHistory h text) (sym n.0 ∙ sym f.0) (stands_done text rest new h line small s read_end f.1)
answered_end text rest new h k next line false (Err (faults.BadLine l at)) small s read n off f =
    let read_end : reads h rest ≡ Ok (kind.End, new) = read ∙ ap (λ (x : HistoryLine). Ok (x, new)) n.1 in
    inr (rw (f.0, f.1) (stands_long text rest new h line small s read_end f.2))
answered_end text rest new h k next line false (Err (faults.Twice l)) small s read n off f = absurd f
answered_end text rest new h k next line false (Err faults.NoMemory) small s read n off f = absurd f

pub stands_more : (text rest new : List ℕ) (h k : History) (next : HistoryLine) (line : ℕ) (b : Bool) → length text < 2 ^ 63 → Stands text rest h line → reads h rest ≡ Ok (next, new) → Adds h next line k (Ok b) → b ≡ true → Stands text new k (line + 1)
stands_more text rest new h k next line true small s read n on = subst (λ (k : History). Stands text new k (line + 1)) (sym n.0) (so_far_more empty after Allowed Onward reads text rest new h line next (readable (length text) small) s read n.1)
stands_more text rest new h k next line false small s read n on = absurd (false≢true on)
