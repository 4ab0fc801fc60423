-- The histories that have a text are exactly the whole ones.
use Rattle.std.proofs.Common.{◌≡◌, ◌≢◌, ℕ, true, false, zero, suc, ◌≤◌, ◌<◌, List, [], ◌∷◌, ◌++◌, length, get_or, refl, sym, ap, subst, ◌∙◌, arith, append_assoc, inl}
use Rattle.std.specs.Prelude.{codes, Some, None, Result, Ok, Err, IfOk, All, AllPairs}
use Rattle.std.specs.Fmt.{decimal}
use Rattle.std.proofs.lemmas.List.{length-append, append-nil, get_or_append_left, get_or_at, get_or_default}
use Rattle.std.proofs.lemmas.List.Elements.{All-nil, All-cons, All-head, All-tail, All-push}
use Rattle.std.proofs.lemmas.List.Quantifiers.{all_pairs_push}
use Rattle.std.proofs.lemmas.Bool.Decides.{nat_tests}
use Rattle.vp_base.specs.Words.{IsName, IsValue, IsPlace}
use Rattle.vp_base.specs.Identifiers.{IsView, IsViewFrom, txn_text, view_text}
use Rattle.vp_base.specs.Order.{view_before}
use Rattle.vp_model.specs.Types.{ViewId, Op, Commit}
use Rattle.vp_model.specs.Types.op
use Rattle.vp_model.specs.Words.{opening}
use Rattle.vp_model.specs.Texts.History.{history_lines}
use Rattle.vp_onecopy.specs.declared.line.HistoryLine.{HistoryLine}
use Rattle.vp_onecopy.specs.declared.line.HistoryLine.TheVariants as kind
use Rattle.vp_onecopy.specs.declared.map.History.{History}
use Rattle.vp_onecopy.specs.declared.fault.HistoryFault.{HistoryFault}
use Rattle.vp_onecopy.specs.Playing.{op_record, OpsWithin, CommitsWithin}
use Rattle.vp_onecopy.specs.Lines.{Before, OpText, OpsText, CommitText, some_names, may_start}
use Rattle.vp_onecopy.specs.History.{last_from, before, empty, after, Allowed, IsNamed, Onward, IsHistory}
use Rattle.vp_onecopy.specs.Passing.{history_line, Following, AnsweredAll, IsOnly, IsTaken, IsReadBack}
use Rattle.vp_onecopy.specs.Whole.{op_content, IsContent, IsEntry, IsWhole}
use Rattle.vp_onecopy.proofs.Only.{NoMemory, answered}
use Rattle.vp_onecopy.proofs.Ordered.{not_itself, chain}
use Rattle.vp_onecopy.proofs.Places.{place_below}
use Rattle.vp_onecopy.proofs.Prints.{place_is, no_commits, history_is}
use Rattle.vp_onecopy.proofs.Steps.{Lines, all_said, few_ok}

-- ---- each element and each later one

pairs_head : {X : Type 0} (R : X → X → Type 0) (x : X) (xs : List X) → AllPairs R (x ∷ xs) → All (R x) xs
pairs_head R x xs h k d lt = h zero (suc k) d (omega arith) (omega (arith, lt))

pairs_tail : {X : Type 0} (R : X → X → Type 0) (x : X) (xs : List X) → AllPairs R (x ∷ xs) → AllPairs R xs
pairs_tail R x xs h i j d lt within = h (suc i) (suc j) d (omega (arith, lt)) (omega (arith, within))

pairs_before : {X : Type 0} (R : X → X → Type 0) (xs : List X) (y : X) (ys : List X) → AllPairs R (xs ++ y ∷ ys) → All (λ x. R x y) xs
pairs_before {X = X} R xs y ys h k d lt =
    let pair : R (get_or (xs ++ y ∷ ys) k d) (get_or (xs ++ y ∷ ys) (length xs) d) = h k (length xs) d lt (omega (arith, length-append xs (y ∷ ys))) in
    let at : R (get_or (xs ++ y ∷ ys) k d) y = subst (λ (z : X). R (get_or (xs ++ y ∷ ys) k d) z) (get_or_at xs y ys d (length xs) refl) pair in
    subst (λ (x : X). R x y) (get_or_append_left xs (y ∷ ys) d k lt) at

-- ---- names, no two of which are the same

abbrev Apart : List ℕ → List ℕ → Type 0
Apart a b = a ≢ b

place_first : (names : List (List ℕ)) (i : ℕ) → i < length names → AllPairs Apart names → IsPlace names i (get_or names i [])
place_first [] i lt h = absurd (omega (arith, lt))
place_first (n ∷ names) zero lt h = refl
place_first (n ∷ names) (suc i) lt h =
    let below : i < length names = omega (arith, lt) in
    (λ same. pairs_head Apart n names h i [] below (sym same), place_first names i below (pairs_tail Apart n names h))

unnamed : (names : List (List ℕ)) (name : List ℕ) → AllPairs Apart names → (IsNamed names name → ⊥) → (k : ℕ) (d : List ℕ) → k < length names → get_or names k d ≢ name
unnamed names name h none k d lt same = none (k, subst (IsPlace names k) (get_or_default names k [] d lt ∙ same) (place_first names k lt h))

fresh : (names : List (List ℕ)) (name : List ℕ) (more : List (List ℕ)) → AllPairs Apart (names ++ name ∷ more) → IsNamed names name → ⊥
fresh names name more h named = pairs_before Apart names name more h named.0 [] (place_below names named.0 name named.1) (sym (place_is names named.0 name named.1))

-- ---- views that never fall

abbrev Rises : Commit → Commit → Type 0
Rises a b = view_before b.view a.view ≡ false

last_holds : (P : ViewId → Type 0) (view : ViewId) (commits : List Commit) → P view → All (λ (c : Commit). P c.view) commits → P (last_from view commits)
last_holds P view [] p h = p
last_holds P view (c ∷ commits) p h = last_holds P c.view commits (All-head (λ (c : Commit). P c.view) c commits h) (All-tail (λ (c : Commit). P c.view) c commits h)

before_last : (view : ViewId) (commits : List Commit) → AllPairs Rises commits → All (λ (c : Commit). view_before (last_from view commits) c.view ≡ false) commits
before_last view [] h = All-nil (λ (c : Commit). view_before view c.view ≡ false)
before_last view (c ∷ commits) h = All-cons (λ (d : Commit). view_before (last_from c.view commits) d.view ≡ false) c commits
    (last_holds (λ (v : ViewId). view_before v c.view ≡ false) c.view commits (not_itself c.view) (pairs_head Rises c commits h))
    (before_last c.view commits (pairs_tail Rises c commits h))

not_below : (last view : ViewId) → last.number ≤ view.number → (view.number ≡ last.number → last.site ≤ view.site) → view_before view last ≡ false
not_below last view number site = grind (arith, nat_tests)

view_from : (last view : ViewId) → IsView view → view_before view last ≡ false → IsViewFrom last view (view_text view)
view_from last view good e = record { spelled = record { is = refl; allowed = good }; number_from = grind (arith, nat_tests); site_from = λ same. grind (arith, nat_tests) }

after_opening : (view : ViewId) → view_before view opening ≡ false
after_opening view = grind (arith, nat_tests)

-- ---- what was read is whole

op_below : (names : List (List ℕ)) (operation : Op) (t : List ℕ) → OpText names operation t → op_record operation < length names
op_below names (op.Read rec (Some value)) t h = place_below names rec h.0 h.1
op_below names (op.Read rec None) t h = place_below names rec h.0 h.1
op_below names (op.Write rec (Some value)) t h = place_below names rec h.0 h.1
op_below names (op.Write rec None) t h = place_below names rec h.0 h.1

op_valued : (names : List (List ℕ)) (operation : Op) (t : List ℕ) → OpText names operation t → IsContent (op_content operation)
op_valued names (op.Read rec (Some value)) t h = h.2
op_valued names (op.Read rec None) t h = tt
op_valued names (op.Write rec (Some value)) t h = h.2
op_valued names (op.Write rec None) t h = tt

each_op : (P : Op → Type 0) (names : List (List ℕ)) → ((operation : Op) (t : List ℕ) → OpText names operation t → P operation) → (ops : List Op) (t : List ℕ) → OpsText names ops t → All P ops
each_op P names f [] t h = All-nil P
each_op P names f (operation ∷ ops) t h = All-cons P operation ops (f operation h.0 h.3) (each_op P names f ops h.1 h.4)

entry_read : (b : Before) (commit : Commit) (t : List ℕ) → CommitText b commit t → IsEntry commit
entry_read b commit t h = record {
  txn = h.txn_is.allowed;
  view = h.view_is.spelled.allowed;
  values = each_op (λ operation. IsContent (op_content operation)) b.names (op_valued b.names) commit.ops h.ops h.ops_are;
  no_tables = h.no_tables;
}

said_whole : (es : List HistoryLine) (t : List ℕ) → Lines es t → IsWhole (all_said es)
said_whole [] t h = record {
  few = omega arith;
  named = All-nil (λ (name : List ℕ). IsName name name);
  apart = λ i j d lt within. absurd (omega (arith, within));
  values = refl;
  starting = All-nil (λ (value : List ℕ). IsValue value value);
  entries = All-nil IsEntry;
  places = All-nil (λ (commit : Commit). OpsWithin 0 commit.ops);
  ascending = λ i j d lt within. absurd (omega (arith, within));
}
said_whole (kind.Start name value ∷ es) t h =
    let b = all_said es in
    let w = said_whole es h.0 h.2 in
    let count = length (b.start ++ value ∷ []) in
    record {
      few = few_ok (kind.Start name value ∷ es) t h;
      named = All-push (λ (name : List ℕ). IsName name name) b.names name w.named h.3.name_is;
      apart = all_pairs_push Apart b.names name w.apart (unnamed b.names name w.apart h.4);
      values = omega (arith, w.values, length-append b.names (name ∷ []), length-append b.start (value ∷ []));
      starting = All-push (λ (value : List ℕ). IsValue value value) b.start value w.starting h.3.value_is;
      entries = w.entries;
      places = subst (CommitsWithin count) (sym (no_commits b h.3.allowed)) (All-nil (λ (commit : Commit). OpsWithin count commit.ops));
      ascending = w.ascending;
    }
said_whole (kind.Commit commit ∷ es) t h =
    let b = all_said es in
    let w = said_whole es h.0 h.2 in
    let inside = each_op (λ operation. op_record operation < length b.names) b.names (op_below b.names) commit.ops h.3.ops h.3.ops_are in
    let last = not_below (last_from opening b.commits) commit.view h.3.view_is.number_from h.3.view_is.site_from in
    record {
      few = w.few;
      named = w.named;
      apart = w.apart;
      values = w.values;
      starting = w.starting;
      entries = All-push IsEntry b.commits commit w.entries (entry_read (before b) commit h.1 h.3);
      places = All-push (λ (commit : Commit). OpsWithin (length b.start) commit.ops) b.commits commit w.places (subst (λ (n : ℕ). OpsWithin n commit.ops) (sym w.values) inside);
      ascending = all_pairs_push Rises b.commits commit w.ascending (λ k d lt. chain commit.view (last_from opening b.commits) (get_or b.commits k d).view last (before_last opening b.commits w.ascending k d lt));
    }
said_whole (kind.End ∷ es) t h = absurd h.4

history_whole : (h : History) (text : List ℕ) → IsHistory h text → IsWhole h
history_whole h text s = subst IsWhole s.says (said_whole s.lines s.front s.lines_are)

pub after_whole : (n : ℕ) (rest : List ℕ) (result : Result History HistoryFault) → Following n rest result → IfOk result IsWhole
after_whole n rest (Ok h) s = history_whole h rest s
after_whole n rest (Err e) s = tt

-- ---- what is whole has a text

-- some lines say the history
record Spelled (h : History) : Type 0 where
  lines : List HistoryLine
  front : List ℕ
  lines_are : Lines lines front
  says : all_said lines ≡ h

line_added : (h : History) (line : HistoryLine) (text : List ℕ) → Spelled h → Allowed h line text → Onward h line → Spelled (after h line)
line_added h line text s allowed onward = record {
  lines = line ∷ s.lines;
  front = s.front ++ text;
  lines_are = (s.front, text, s.lines_are, subst (λ (h : History). Allowed h line text) (sym s.says) allowed, subst (λ (h : History). Onward h line) (sym s.says) onward, refl);
  says = ap (λ (h : History). after h line) s.says;
}

abbrev listed : List (List ℕ) → List (List ℕ) → List Commit → History
listed names start commits = record { names = names; start = start; commits = commits }

room : (names values : List (List ℕ)) → length names < 256 → may_start (before (listed names values [])) ≡ true
room names values few = grind (arith, nat_tests)

starts_added : (ns vs names values : List (List ℕ)) → length values ≡ length names → length (ns ++ names) ≤ 256 → All (λ (name : List ℕ). IsName name name) names → All (λ (value : List ℕ). IsValue value value) values → AllPairs Apart (ns ++ names)
    → Spelled (listed ns vs []) → Spelled (listed (ns ++ names) (vs ++ values) [])
starts_added ns vs [] [] same few named valued apart s = rw (append-nil ns, append-nil vs) s
starts_added ns vs [] (value ∷ values) same few named valued apart s = absurd (omega (arith, same))
starts_added ns vs (name ∷ names) [] same few named valued apart s = absurd (omega (arith, same))
starts_added ns vs (name ∷ names) (value ∷ values) same few named valued apart s =
    let together : (ns ++ name ∷ []) ++ names ≡ ns ++ name ∷ names = append_assoc ns (name ∷ []) names in
    let text = codes "start " ++ (name ++ 32 ∷ (value ++ 10 ∷ [])) in
    let one = line_added (listed ns vs []) (kind.Start name value) text s (record {
      allowed = room ns vs (omega (arith, few, length-append ns (name ∷ names)));
      name_is = All-head (λ (name : List ℕ). IsName name name) name names named;
      value_is = All-head (λ (value : List ℕ). IsValue value value) value values valued;
      parts = refl;
    }) (fresh ns name names apart) in
    let rest = starts_added (ns ++ name ∷ []) (vs ++ value ∷ []) names values (omega (arith, same)) (omega (arith, few, ap length together)) (All-tail (λ (name : List ℕ). IsName name name) name names named)
    (All-tail (λ (value : List ℕ). IsValue value value) value values valued) (subst (AllPairs Apart) (sym together) apart) one in
    subst (λ (x : List (List ℕ)). Spelled (listed x (vs ++ value ∷ values) [])) together (subst (λ (x : List (List ℕ)). Spelled (listed ((ns ++ name ∷ []) ++ names) x [])) (append_assoc vs (value ∷ []) values) rest)

-- there is a name wherever an operation is on one
some_from : (names : List (List ℕ)) (i : ℕ) → i < length names → some_names names ≡ true
some_from [] i lt = absurd (omega (arith, lt))
some_from (name ∷ names) i lt = refl

op_spelled : (names : List (List ℕ)) → AllPairs Apart names → (operation : Op) → op_record operation < length names → IsContent (op_content operation) → (t : List ℕ) × OpText names operation t
op_spelled names apart (op.Read rec None) lt good = (codes " a " ++ get_or names rec [], (get_or names rec [], place_first names rec lt apart, refl))
op_spelled names apart (op.Write rec None) lt good = (codes " d " ++ get_or names rec [], (get_or names rec [], place_first names rec lt apart, refl))
op_spelled names apart (op.Read rec (Some value)) lt good = (codes " r " ++ (get_or names rec [] ++ 32 ∷ value), (get_or names rec [], place_first names rec lt apart, good, refl))
op_spelled names apart (op.Write rec (Some value)) lt good = (codes " w " ++ (get_or names rec [] ++ 32 ∷ value), (get_or names rec [], place_first names rec lt apart, good, refl))

ops_spelled : (names : List (List ℕ)) → AllPairs Apart names → (ops : List Op) → OpsWithin (length names) ops → All (λ operation. IsContent (op_content operation)) ops → (t : List ℕ) × OpsText names ops t
ops_spelled names apart [] inside valued = (10 ∷ [], refl)
ops_spelled names apart (operation ∷ ops) inside valued =
    let lt = All-head (λ operation. op_record operation < length names) operation ops inside in
    let front = op_spelled names apart operation lt (All-head (λ operation. IsContent (op_content operation)) operation ops valued) in
    let back = ops_spelled names apart ops (All-tail (λ operation. op_record operation < length names) operation ops inside) (All-tail (λ operation. IsContent (op_content operation)) operation ops valued) in
    (front.0 ++ back.0, (front.0, back.0, some_from names (op_record operation) lt, front.1, back.1, refl))

commits_added : (names values : List (List ℕ)) (done more : List Commit) → AllPairs Apart names → All IsEntry more → CommitsWithin (length names) more → AllPairs Rises (done ++ more) → Spelled (listed names values done) → Spelled (listed names values (done ++ more))
commits_added names values done [] apart entries inside rises s = rw (append-nil done) s
commits_added names values done (commit ∷ more) apart entries inside rises s =
    let together : (done ++ commit ∷ []) ++ more ≡ done ++ commit ∷ more = append_assoc done (commit ∷ []) more in
    let e = All-head IsEntry commit more entries in
    let ops = ops_spelled names apart commit.ops (All-head (λ (commit : Commit). OpsWithin (length names) commit.ops) commit more inside) e.values in
    let last = last_holds (λ (v : ViewId). view_before commit.view v ≡ false) opening done (after_opening commit.view) (pairs_before Rises done commit more rises) in
    let text = codes "commit " ++ (txn_text commit.txn ++ 32 ∷ (view_text commit.view ++ ops.0)) in
    let one = line_added (listed names values done) (kind.Commit commit) text s (record {
      txn = txn_text commit.txn;
      view = view_text commit.view;
      ops = ops.0;
      txn_is = record { is = refl; allowed = e.txn };
      view_is = view_from (last_from opening done) commit.view e.view last;
      ops_are = ops.1;
      no_tables = e.no_tables;
      parts = refl;
    }) tt in
    let rest = commits_added names values (done ++ commit ∷ []) more apart (All-tail IsEntry commit more entries) (All-tail (λ (commit : Commit). OpsWithin (length names) commit.ops) commit more inside) (subst (AllPairs Rises) (sym together) rises) one in
    subst (λ (x : List Commit). Spelled (listed names values x)) together rest

whole_spelled : (h : History) → IsWhole h → Spelled h
whole_spelled h w =
    let nothing : Spelled empty = record { lines = []; front = []; lines_are = refl; says = refl } in
    let starts = starts_added [] [] h.names h.start w.values w.few w.named w.starting w.apart nothing in
    commits_added h.names h.start [] h.commits w.apart w.entries (subst (λ (n : ℕ). CommitsWithin n h.commits) w.values w.places) w.ascending starts

-- the text of such a history, after the line `history`
record ReadBack (h : History) : Type 0 where
  rest : List ℕ
  lines_are : history_lines h.names h.start h.commits ≡ history_line ++ rest
  spelled : IsHistory h rest

whole_text : (h : History) → IsWhole h → ReadBack h
whole_text h w =
    let s = whole_spelled h w in
    let last = codes "end " ++ (decimal (length h.commits) ++ 10 ∷ []) in
    let spelled : IsHistory h (s.front ++ last) = record { lines = s.lines; front = s.front; last = last; lines_are = s.lines_are; says = s.says; last_is = refl; parts = refl } in
    record { rest = s.front ++ last; lines_are = sym (history_is h (s.front ++ last) spelled); spelled = spelled }

pub read_back : (h : History) → IsWhole h → IsReadBack h
read_back h w = let t = whole_text h w in (0, [], t.rest, refl, inl (t.lines_are, t.spelled))

no_fault : (h : History) → answered h ≢ NoMemory
no_fault h e = cc

pub only_taken : (text : List ℕ) (result : Result History HistoryFault) → IsOnly text result → IsTaken text result
only_taken text result only h w p found =
    let t = whole_text h w in
    let answer : AnsweredAll text (answered h) = (p.0, p.1, t.rest, p.2, inl (p.3 ∙ ap (λ (x : List ℕ). p.1 ++ x) t.lines_are, t.spelled)) in
    sym (only (answered h) answer found (no_fault h))
