-- What is printed is the text that was read.
use Rattle.std.proofs.Common.{◌≡◌, ℕ, true, zero, suc, List, [], ◌∷◌, ◌++◌, length, get_or, refl, sym, ap, ◌∙◌, arith, append_assoc, eqb, ltb}
use Rattle.std.specs.Prelude.{codes, flat_map, Some, None, Result, Ok, Err, IfOk}
use Rattle.std.specs.Fmt.{decimal}
use Rattle.std.proofs.lemmas.List.{length-append, append-nil, nil_from_length}
use Rattle.std.proofs.lemmas.List.Concat.{flat_map-cons}
use Rattle.std.proofs.lemmas.Bool.{eqb-true, and_parts}
use Rattle.vp_base.specs.Words.{IsPlace}
use Rattle.vp_base.specs.Identifiers.{txn_text, view_text}
use Rattle.vp_model.specs.Types.{Op, Commit}
use Rattle.vp_model.specs.Types.op
use Rattle.vp_model.specs.Texts.History.{op_text, commit_text, start_text, starts_text, history_lines}
use Rattle.vp_onecopy.specs.declared.line.HistoryLine.{HistoryLine}
use Rattle.vp_onecopy.specs.declared.line.HistoryLine.TheVariants as kind
use Rattle.vp_onecopy.specs.declared.map.History.{History}
use Rattle.vp_onecopy.specs.declared.fault.HistoryFault.{HistoryFault}
use Rattle.vp_onecopy.specs.Lines.{Before, OpText, OpsText, CommitText, may_start}
use Rattle.vp_onecopy.specs.History.{before, IsHistory}
use Rattle.vp_onecopy.specs.Passing.{history_line, Passed, Following, IsPrintedIn}
use Rattle.vp_onecopy.proofs.Steps.{Lines, all_said}

starts-push : (names values : List (List ℕ)) (n v : List ℕ) → length names ≡ length values → starts_text (names ++ n ∷ []) (values ++ v ∷ []) ≡ starts_text names values ++ start_text n v
starts-push [] [] n v e = append-nil (start_text n v)
starts-push [] (w ∷ values) n v e = absurd (omega arith)
starts-push (m ∷ names) [] n v e = absurd (omega arith)
starts-push (m ∷ names) (w ∷ values) n v e = ap (λ (x : List ℕ). start_text m w ++ x) (starts-push names values n v (omega arith)) ∙ sym (append_assoc (start_text m w) (starts_text names values) (start_text n v))

-- ---- the text of a line is a function of it

pub place_is : (names : List (List ℕ)) (i : ℕ) (name : List ℕ) → IsPlace names i name → name ≡ get_or names i []
place_is [] i name h = absurd h
place_is (n ∷ names) zero name h = h
place_is (n ∷ names) (suc i) name h = place_is names i name h.1

op_is : (names : List (List ℕ)) (operation : Op) (t : List ℕ) → OpText names operation t → t ≡ op_text names operation
op_is names (op.Read rec None) t h = h.2 ∙ ap (λ (x : List ℕ). codes " a " ++ x) (place_is names rec h.0 h.1)
op_is names (op.Write rec None) t h = h.2 ∙ ap (λ (x : List ℕ). codes " d " ++ x) (place_is names rec h.0 h.1)
op_is names (op.Read rec (Some value)) t h = h.3 ∙ ap (λ (x : List ℕ). codes " r " ++ (x ++ 32 ∷ value)) (place_is names rec h.0 h.1)
op_is names (op.Write rec (Some value)) t h = h.3 ∙ ap (λ (x : List ℕ). codes " w " ++ (x ++ 32 ∷ value)) (place_is names rec h.0 h.1)

ops_are : (names : List (List ℕ)) (ops : List Op) (t : List ℕ) → OpsText names ops t → t ≡ flat_map (op_text names) ops ++ 10 ∷ []
ops_are names [] t h = h
ops_are names (operation ∷ ops) t h =
    h.5 ∙ ap (λ (x : List ℕ). x ++ h.1) (op_is names operation h.0 h.3) ∙ ap (λ (x : List ℕ). op_text names operation ++ x) (ops_are names ops h.1 h.4)
    ∙ sym (append_assoc (op_text names operation) (flat_map (op_text names) ops) (10 ∷ [])) ∙ ap (λ (x : List ℕ). x ++ 10 ∷ []) (sym (flat_map-cons (op_text names) operation ops))

commit_is : (b : Before) (commit : Commit) (t : List ℕ) → CommitText b commit t → t ≡ commit_text b.names commit
commit_is b commit t h =
    h.parts ∙ ap (λ (x : List ℕ). codes "commit " ++ (x ++ 32 ∷ (h.view ++ h.ops))) h.txn_is.is
    ∙ ap (λ (x : List ℕ). codes "commit " ++ (txn_text commit.txn ++ 32 ∷ (x ++ h.ops))) h.view_is.spelled.is
    ∙ ap (λ (x : List ℕ). codes "commit " ++ (txn_text commit.txn ++ 32 ∷ (view_text commit.view ++ x))) (ops_are b.names commit.ops h.ops h.ops_are)

-- ---- the text of lines

pub same_count : (es : List HistoryLine) (t : List ℕ) → Lines es t → length (all_said es).names ≡ length (all_said es).start
same_count [] t h = refl
same_count (kind.Start name value ∷ es) t h = omega (arith, same_count es h.0 h.2, length-append (all_said es).names (name ∷ []), length-append (all_said es).start (value ∷ []))
same_count (kind.Commit commit ∷ es) t h = same_count es h.0 h.2
same_count (kind.End ∷ es) t h = absurd h.4

pub no_commits : (h : History) → may_start (before h) ≡ true → h.commits ≡ []
no_commits h e = nil_from_length h.commits (eqb-true (length h.commits) 0 (and_parts (eqb (length h.commits) 0) (ltb (length h.names) 256) e).0)

flat_map_push : (f : Commit → List ℕ) (xs : List Commit) (x : Commit) → flat_map f (xs ++ x ∷ []) ≡ flat_map f xs ++ f x
flat_map_push f [] x = flat_map-cons f x [] ∙ append-nil (f x)
flat_map_push f (y ∷ xs) x = flat_map-cons f y (xs ++ x ∷ []) ∙ ap (λ (t : List ℕ). f y ++ t) (flat_map_push f xs x) ∙ sym (append_assoc (f y) (flat_map f xs) (f x)) ∙ ap (λ (t : List ℕ). t ++ f x) (sym (flat_map-cons f y xs))

abbrev said_text : History → List ℕ
said_text h = starts_text h.names h.start ++ flat_map (commit_text h.names) h.commits

lines_are : (es : List HistoryLine) (t : List ℕ) → Lines es t → t ≡ said_text (all_said es)
lines_are [] t h = h
lines_are (kind.Start name value ∷ es) t h =
    let b = all_said es in
    let none = no_commits b h.3.allowed in
    let front : h.0 ≡ starts_text b.names b.start = lines_are es h.0 h.2 ∙ ap (λ (x : List Commit). starts_text b.names b.start ++ flat_map (commit_text b.names) x) none ∙ append-nil (starts_text b.names b.start) in
    let all : h.0 ++ h.1 ≡ starts_text (b.names ++ name ∷ []) (b.start ++ value ∷ []) = rw (front, h.3.parts) (sym (starts-push b.names b.start name value (same_count es h.0 h.2))) in
    h.5 ∙ all ∙ sym (append-nil (starts_text (b.names ++ name ∷ []) (b.start ++ value ∷ []))) ∙ ap (λ (x : List Commit). starts_text (b.names ++ name ∷ []) (b.start ++ value ∷ []) ++ flat_map (commit_text (b.names ++ name ∷ [])) x) (sym none)
lines_are (kind.Commit commit ∷ es) t h =
    let b = all_said es in
    let starts = starts_text b.names b.start in
    h.5 ∙ ap (λ (x : List ℕ). x ++ h.1) (lines_are es h.0 h.2) ∙ ap (λ (x : List ℕ). (starts ++ flat_map (commit_text b.names) b.commits) ++ x) (commit_is (before b) commit h.1 h.3)
    ∙ append_assoc starts (flat_map (commit_text b.names) b.commits) (commit_text b.names commit)
    ∙ ap (λ (x : List ℕ). starts ++ x) (sym (flat_map_push (commit_text b.names) b.commits commit))
lines_are (kind.End ∷ es) t h = absurd h.4

pub history_is : (h : History) (text : List ℕ) → IsHistory h text → history_line ++ text ≡ history_lines h.names h.start h.commits
history_is h text s =
    let starts = starts_text h.names h.start in
    let commits = flat_map (commit_text h.names) h.commits in
    let last = codes "end " ++ (decimal (length h.commits) ++ 10 ∷ []) in
    let front : s.front ≡ starts ++ commits = lines_are s.lines s.front s.lines_are ∙ ap said_text s.says in
    ap (λ (x : List ℕ). codes "history\n" ++ x) (s.parts ∙ ap (λ (x : List ℕ). x ++ s.last) front ∙ ap (λ (x : List ℕ). (starts ++ commits) ++ x) s.last_is ∙ append_assoc starts commits last)

pub after_printed : (n : ℕ) (text front rest : List ℕ) (result : Result History HistoryFault) → Passed n front → text ≡ front ++ (history_line ++ rest) → Following n rest result → IfOk result (IsPrintedIn text)
after_printed n text front rest (Ok h) passed parts s = (n, front, passed, parts ∙ ap (λ (x : List ℕ). front ++ x) (history_is h rest s))
after_printed n text front rest (Err e) passed parts s = tt
