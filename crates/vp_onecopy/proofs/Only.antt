-- Only one result is right for a text, apart from want of memory.
use Rattle.std.proofs.Common.{◌≡◌, ◌≢◌, ◌⊎◌, ℕ, zero, suc, ◌+◌, ◌^◌, ◌<◌, List, [], ◌∷◌, ◌++◌, length, Result, Ok, Err, refl, sym, ap, subst, ◌∙◌, append_assoc, arith, inl, inr}
use Rattle.std.specs.Prelude.{codes}
use Rattle.std.proofs.lemmas.List.{append-nil, length-append}
use Rattle.vp_text.specs.Documents.{HasNoNewline, IsLine, reached, LinesText, IsBadLine, IsFaultyLine}
use Rattle.vp_text.proofs.Items.{all_at}
use Rattle.vp_text.proofs.Newlines.{key_clean}
use Rattle.vp_text.proofs.Determined.{Plain, plain, Divided, IsLast, Stops, last_same, bad_same, faulty_divided, faulty_last, faulty_same, bad_not_faulty}
use Rattle.vp_onecopy.specs.declared.line.HistoryLine.{HistoryLine}
use Rattle.vp_onecopy.specs.declared.line.HistoryLine.TheVariants as kind
use Rattle.vp_onecopy.specs.declared.map.History.{History}
use Rattle.vp_onecopy.specs.declared.fault.HistoryFault.{HistoryFault}
use Rattle.vp_onecopy.specs.declared.fault.HistoryFault.TheVariants as faults
use Rattle.vp_onecopy.specs.History.{empty, after, Allowed, Onward, NamesAgain, IsHistory, IsTooLong}
use Rattle.vp_onecopy.specs.Passing.{history_line, Passed, Following, IsMissing, AnsweredAll, IsOnly}
use Rattle.vp_onecopy.proofs.Steps.{reads, readable}

-- ---- the lines after the line `history`

abbrev Bad : List ℕ → ℕ → ℕ → Type 0
Bad = IsBadLine empty after Allowed Onward

abbrev Stopped : (History → HistoryLine → Type 0) → List ℕ → ℕ → Type 0
Stopped = IsFaultyLine empty after Allowed Onward

abbrev IsEnd : History → HistoryLine → Type 0
IsEnd h line = line ≡ kind.End

end_stops : Stops empty after Allowed Onward IsEnd
end_stops h line e o = subst (Onward h) e o

again_stops : Stops empty after Allowed Onward NamesAgain
again_stops h (kind.Start name value) named o = o named
again_stops h (kind.Commit commit) named o = named
again_stops h kind.End named o = o

lines_plain : (text : List ℕ) → length text < 2 ^ 63 → Plain empty after Allowed Onward (length text)
lines_plain text small = plain empty after Allowed Onward reads (length text) (readable (length text) small)

abbrev history_stopped : (h : History) (text : List ℕ) (s : IsHistory h text) → Stopped IsEnd text (length s.lines + 1)
history_stopped h text s = record {
  lines = s.lines;
  front = s.front;
  faulty = s.last;
  rest = [];
  entry = kind.End;
  lines_are = s.lines_are;
  faulty_is = subst (λ (h : History). Allowed h kind.End s.last) (sym s.says) s.last_is;
  fault = refl;
  parts = s.parts ∙ ap (λ (x : List ℕ). s.front ++ x) (sym (append-nil s.last));
  number = refl;
}

abbrev long_stopped : (text : List ℕ) (line at : ℕ) (t : IsTooLong text line at) → Stopped IsEnd text (length t.lines + 1)
long_stopped text line at t = record {
  lines = t.lines;
  front = t.front;
  faulty = t.last;
  rest = t.rest;
  entry = kind.End;
  lines_are = t.lines_are;
  faulty_is = t.last_is;
  fault = refl;
  parts = t.parts;
  number = refl;
}

-- the end line is where a line is that repeats a name
end_again : (text : List ℕ) → length text < 2 ^ 63 → (l m : ℕ) → Stopped IsEnd text l → Stopped NamesAgain text m → ⊥
end_again text small l m f g =
    let same = faulty_same empty after Allowed Onward IsEnd NamesAgain end_stops again_stops text (lines_plain text small) l m f g in
    subst (NamesAgain (reached empty after Allowed Onward g.lines)) (sym same.entry ∙ f.fault) g.fault

ok_ok : (text : List ℕ) → length text < 2 ^ 63 → (h g : History) → IsHistory h text → IsHistory g text → h ≡ g
ok_ok text small h g s t =
    let same = faulty_same empty after Allowed Onward IsEnd IsEnd end_stops end_stops text (lines_plain text small) (length s.lines + 1) (length t.lines + 1) (history_stopped h text s) (history_stopped g text t) in
    sym s.says ∙ ap (reached empty after Allowed Onward) same.lines ∙ t.says

ok_bad : (text : List ℕ) → length text < 2 ^ 63 → (h : History) (line at : ℕ) → IsHistory h text → Bad text line at ⊎ IsTooLong text line at → ⊥
ok_bad text small h line at s b = elim b [
  | inl bad ↦ bad_not_faulty empty after Allowed Onward IsEnd end_stops text (lines_plain text small) line (length s.lines + 1) at bad (history_stopped h text s)
  | inr long ↦
      let same = faulty_same empty after Allowed Onward IsEnd IsEnd end_stops end_stops text (lines_plain text small) (length s.lines + 1) (length long.lines + 1) (history_stopped h text s) (long_stopped text line at long) in
      long.more (ap length (sym same.rest))
]

ok_twice : (text : List ℕ) → length text < 2 ^ 63 → (h : History) (line : ℕ) → IsHistory h text → Stopped NamesAgain text line → ⊥
ok_twice text small h line s f = end_again text small (length s.lines + 1) line (history_stopped h text s) f

bad_bad : (text : List ℕ) → length text < 2 ^ 63 → (l m i k : ℕ) → Bad text l i ⊎ IsTooLong text l i → Bad text m k ⊎ IsTooLong text m k → (l ≡ m) × (i ≡ k)
bad_bad text small l m i k a b = elim a [
  | inl bad ↦ elim b [
    | inl other ↦ bad_same empty after Allowed Onward text (lines_plain text small) l m i k bad other
    | inr long ↦ absurd (bad_not_faulty empty after Allowed Onward IsEnd end_stops text (lines_plain text small) l (length long.lines + 1) i bad (long_stopped text m k long))
  ]
  | inr long ↦ elim b [
    | inl bad ↦ absurd (bad_not_faulty empty after Allowed Onward IsEnd end_stops text (lines_plain text small) m (length long.lines + 1) k bad (long_stopped text l i long))
    | inr other ↦
        let same = faulty_same empty after Allowed Onward IsEnd IsEnd end_stops end_stops text (lines_plain text small) (length long.lines + 1) (length other.lines + 1) (long_stopped text l i long) (long_stopped text m k other) in
        (sym long.number ∙ ap (λ (x : List HistoryLine). length x + 2) same.lines ∙ other.number, long.first ∙ sym other.first)
  ]
]

bad_twice : (text : List ℕ) → length text < 2 ^ 63 → (l m i : ℕ) → Bad text l i ⊎ IsTooLong text l i → Stopped NamesAgain text m → ⊥
bad_twice text small l m i b f = elim b [
  | inl bad ↦ bad_not_faulty empty after Allowed Onward NamesAgain again_stops text (lines_plain text small) l m i bad f
  | inr long ↦ end_again text small (length long.lines + 1) m (long_stopped text l i long) f
]

twice_twice : (text : List ℕ) → length text < 2 ^ 63 → (l m : ℕ) → Stopped NamesAgain text l → Stopped NamesAgain text m → l ≡ m
twice_twice text small l m f g =
    let same = faulty_same empty after Allowed Onward NamesAgain NamesAgain again_stops again_stops text (lines_plain text small) l m f g in
    sym f.number ∙ ap (λ (x : List HistoryLine). length x + 1) same.lines ∙ g.number

abbrev pub answered : History → Result History HistoryFault
answered h = Ok h

abbrev pub NoMemory : Result History HistoryFault
NoMemory = Err faults.NoMemory

abbrev pub bad_line : ℕ → ℕ → Result History HistoryFault
bad_line line at = Err (faults.BadLine line at)

abbrev twice : ℕ → Result History HistoryFault
twice line = Err (faults.Twice line)

counted : (n l m line other : ℕ) → line ≡ n + 1 + l → other ≡ n + 1 + m → l ≡ m → line ≡ other
counted n l m line other e f same = omega (arith, e, f, same)

after_same : (n : ℕ) (text : List ℕ) → length text < 2 ^ 63 → (r s : Result History HistoryFault) → Following n text r → Following n text s → r ≢ NoMemory → s ≢ NoMemory → r ≡ s
after_same n text small (Ok h) (Ok g) a b t u = ap answered (ok_ok text small h g a b)
after_same n text small (Ok h) (Err (faults.BadLine m k)) a b t u = absurd (ok_bad text small h b.0 k a b.2)
after_same n text small (Ok h) (Err (faults.Twice m)) a b t u = absurd (ok_twice text small h b.0 a b.2)
after_same n text small (Err (faults.BadLine l i)) (Ok g) a b t u = absurd (ok_bad text small g a.0 i b a.2)
after_same n text small (Err (faults.BadLine l i)) (Err (faults.BadLine m k)) a b t u = let same = bad_bad text small a.0 b.0 i k a.2 b.2 in rw (counted n a.0 b.0 l m a.1 b.1 same.0, same.1) refl
after_same n text small (Err (faults.BadLine l i)) (Err (faults.Twice m)) a b t u = absurd (bad_twice text small a.0 b.0 i a.2 b.2)
after_same n text small (Err (faults.Twice l)) (Ok g) a b t u = absurd (ok_twice text small g a.0 b a.2)
after_same n text small (Err (faults.Twice l)) (Err (faults.BadLine m k)) a b t u = absurd (bad_twice text small b.0 a.0 k b.2 a.2)
after_same n text small (Err (faults.Twice l)) (Err (faults.Twice m)) a b t u = ap twice (counted n a.0 b.0 l m a.1 b.1 (twice_twice text small a.0 b.0 a.2 b.2))
after_same n text small (Err faults.NoMemory) s a b t u = absurd (t refl)
after_same n text small r (Err faults.NoMemory) a b t u = absurd (u refl)

-- ---- the lines before it

abbrev start : Unit {0}
start = tt

abbrev passed : Unit {0} → List ℕ → Unit {0}
passed u line = u

abbrev AnyLine : Unit {0} → List ℕ → List ℕ → Type 0
AnyLine u line text = IsLine text × (line ≡ text)

abbrev Other : Unit {0} → List ℕ → Type 0
Other u line = line ≡ history_line → ⊥

abbrev IsFirst : Unit {0} → List ℕ → Type 0
IsFirst u line = line ≡ history_line

first_stops : Stops start passed AnyLine Other IsFirst
first_stops u line e o = o e

any_plain : (most : ℕ) → Plain start passed AnyLine Other most
any_plain most = record { one = λ es t le h a b u la lb. la.1 ∙ sym lb.1; lines = λ es t le h e u l. l.0 }

-- the passed lines, the last first
record PassedLines (n : ℕ) (front : List ℕ) : Type 0 where
  lines : List (List ℕ)
  lines_are : LinesText start passed AnyLine Other lines front
  count : length lines ≡ n

passed_lines : (n : ℕ) (front : List ℕ) → Passed n front → PassedLines n front
passed_lines zero front h = record { lines = []; lines_are = h; count = refl }
passed_lines (suc n) front h =
    let w = passed_lines n h.0 h.2 in
    record { lines = h.1 ∷ w.lines; lines_are = (h.0, h.1, w.lines_are, (h.3, refl), h.4, h.5); count = ap suc w.count }

history_is_line : IsLine history_line
history_is_line = (codes "history", key_clean (codes "history") refl, refl)

abbrev found : (n : ℕ) (text front rest : List ℕ) (w : PassedLines n front) → text ≡ front ++ (history_line ++ rest) → IsFaultyLine start passed AnyLine Other IsFirst text (length w.lines + 1)
found n text front rest w parts = record {
  lines = w.lines;
  front = front;
  faulty = history_line;
  rest = rest;
  entry = history_line;
  lines_are = w.lines_are;
  faulty_is = (history_is_line, refl);
  fault = refl;
  parts = parts;
  number = refl;
}

abbrev ended : (n : ℕ) (text front rest : List ℕ) (w : PassedLines n front) → text ≡ front ++ rest → Divided start passed AnyLine Other text
ended n text front rest w parts = record { lines = w.lines; front = front; rest = rest; lines_are = w.lines_are; parts = parts }

no_line : (body following rest : List ℕ) → rest ≡ (body ++ 10 ∷ []) ++ following → HasNoNewline rest → ⊥
no_line body following rest e h = all_at (λ c. c ≡ 10 → ⊥) body 10 following (subst HasNoNewline (e ∙ append_assoc body (10 ∷ []) following) h) refl

ended_is_last : (n : ℕ) (text front rest : List ℕ) (w : PassedLines n front) (parts : text ≡ front ++ rest) → HasNoNewline rest → IsLast start passed AnyLine Other (ended n text front rest w parts)
ended_is_last n text front rest w parts clean more =
    no_line more.line_is.0.0 more.following rest (more.parts ∙ ap (λ (x : List ℕ). x ++ more.following) more.line_is.0.2) clean

clean_where_missing : (n : ℕ) (rest : List ℕ) (r : Result History HistoryFault) → r ≢ NoMemory → IsMissing n rest r → HasNoNewline rest
clean_where_missing n rest (Ok h) t m = absurd m
clean_where_missing n rest (Err (faults.BadLine line at)) t m = m.2
clean_where_missing n rest (Err (faults.Twice line)) t m = absurd m
clean_where_missing n rest (Err faults.NoMemory) t m = absurd (t refl)

missing_same : (n : ℕ) (rest : List ℕ) (r s : Result History HistoryFault) → IsMissing n rest r → IsMissing n rest s → r ≢ NoMemory → s ≢ NoMemory → r ≡ s
missing_same n rest (Ok h) s a b t u = absurd a
missing_same n rest (Err (faults.BadLine l i)) (Ok h) a b t u = absurd b
missing_same n rest (Err (faults.BadLine l i)) (Err (faults.BadLine m k)) a b t u = rw (a.0 ∙ sym b.0, a.1 ∙ sym b.1) refl
missing_same n rest (Err (faults.BadLine l i)) (Err (faults.Twice m)) a b t u = absurd b
missing_same n rest (Err (faults.BadLine l i)) (Err faults.NoMemory) a b t u = absurd (u refl)
missing_same n rest (Err (faults.Twice l)) s a b t u = absurd a
missing_same n rest (Err faults.NoMemory) s a b t u = absurd (t refl)

-- the line `history` is there, or no further line is
found_or_ended : (n m : ℕ) (text front rest other tail : List ℕ) → Passed n front → text ≡ front ++ (history_line ++ rest) → Passed m other → text ≡ other ++ tail → HasNoNewline tail → ⊥
found_or_ended n m text front rest other tail p e q f clean =
    let w = passed_lines n front p in
    let v = passed_lines m other q in
    let there = found n text front rest w e in
    let same = last_same start passed AnyLine Other text (any_plain (length text)) (faulty_divided start passed AnyLine Other IsFirst text (length w.lines + 1) there) (ended m text other tail v f)
    (faulty_last start passed AnyLine Other IsFirst first_stops text (any_plain (length text)) (length w.lines + 1) there) (ended_is_last m text other tail v f clean) in
    no_line (codes "history") rest tail (sym same.rest) clean

rest_small : (text front rest : List ℕ) → length text < 2 ^ 63 → text ≡ front ++ (history_line ++ rest) → length rest < 2 ^ 63
rest_small text front rest small e = omega (arith, small, ap length e, length-append front (history_line ++ rest), length-append history_line rest)

found_same : (n m : ℕ) (text front rest other tail : List ℕ) (r s : Result History HistoryFault) → length text < 2 ^ 63 → Passed n front → text ≡ front ++ (history_line ++ rest) → Following n rest r → Passed m other → text ≡ other ++ (history_line ++ tail) → Following m tail s → r ≢ NoMemory → s ≢ NoMemory → r ≡ s
found_same n m text front rest other tail r s small p e a q f b t u =
    let w = passed_lines n front p in
    let v = passed_lines m other q in
    let same = faulty_same start passed AnyLine Other IsFirst IsFirst first_stops first_stops text (any_plain (length text)) (length w.lines + 1) (length v.lines + 1) (found n text front rest w e) (found m text other tail v f) in
    let count : m ≡ n = sym v.count ∙ ap length (sym same.lines) ∙ w.count in
    let here : Following n rest s = subst (λ (k : ℕ). Following k rest s) count (subst (λ (x : List ℕ). Following m x s) (sym same.rest) b) in
    after_same n rest (rest_small text front rest small e) r s a here t u

ended_same : (n m : ℕ) (text front rest other tail : List ℕ) (r s : Result History HistoryFault) → Passed n front → text ≡ front ++ rest → IsMissing n rest r → Passed m other → text ≡ other ++ tail → IsMissing m tail s → r ≢ NoMemory → s ≢ NoMemory → r ≡ s
ended_same n m text front rest other tail r s p e a q f b t u =
    let w = passed_lines n front p in
    let v = passed_lines m other q in
    let same = last_same start passed AnyLine Other text (any_plain (length text)) (ended n text front rest w e) (ended m text other tail v f)
    (ended_is_last n text front rest w e (clean_where_missing n rest r t a)) (ended_is_last m text other tail v f (clean_where_missing m tail s u b)) in
    let count : m ≡ n = sym v.count ∙ ap length (sym same.lines) ∙ w.count in
    let here : IsMissing n rest s = subst (λ (k : ℕ). IsMissing k rest s) count (subst (λ (x : List ℕ). IsMissing m x s) (sym same.rest) b) in
    missing_same n rest r s a here t u

-- ---- the whole text

pub answer_is_only : (text : List ℕ) → length text < 2 ^ 63 → (result : Result History HistoryFault) → AnsweredAll text result → IsOnly text result
answer_is_only text small r a s b t u = elim a.4 [
  | inl here ↦ elim b.4 [
    | inl there ↦ found_same b.0 a.0 text b.1 b.2 a.1 a.2 s r small b.3 there.0 there.1 a.3 here.0 here.1 u t
    | inr there ↦ absurd (found_or_ended a.0 b.0 text a.1 a.2 b.1 b.2 a.3 here.0 b.3 there.0 (clean_where_missing b.0 b.2 s u there.1))
  ]
  | inr here ↦ elim b.4 [
    | inl there ↦ absurd (found_or_ended b.0 a.0 text b.1 b.2 a.1 a.2 b.3 there.0 a.3 here.0 (clean_where_missing a.0 a.2 r t here.1))
    | inr there ↦ ended_same b.0 a.0 text b.1 b.2 a.1 a.2 s r b.3 there.0 there.1 a.3 here.0 here.1 u t
  ]
]
