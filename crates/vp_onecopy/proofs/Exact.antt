-- The lines of a history are read exactly.
use Rattle.std.proofs.Common.{◌≡◌, ℕ, suc, ◌^◌, ◌<◌, Bool, true, false, cond, List, [], ◌∷◌, ◌++◌, length, Some, None, Ok, refl, sym, ap, subst, ◌∙◌, arith, inl, inr}
use Rattle.std.specs.Prelude.{codes, IfSome, Option}
use Rattle.vp_text.specs.Tokens.{IsLiteral, IsNumber, Either}
use Rattle.std.specs.Fmt.{decimal}
use Rattle.std.proofs.lemmas.Bool.{false≢true}
use Rattle.std.proofs.lemmas.Bool.Decides.{nat_tests}
use Rattle.std.proofs.lemmas.List.{length-append}
use Rattle.vp_text.specs.Reading.{is_digit, either, next_at}
use Rattle.vp_text.specs.Classes.{has, most}
use Rattle.vp_text.specs.declared.class.Class.TheVariants as classes
use Rattle.vp_text.proofs.Exact.{Exact, Then, Made, made_exact, exact_as, then_exact, one_value}
use Rattle.vp_text.proofs.Words.{literal_exact}
use Rattle.vp_text.proofs.Classes.{class_exact}
use Rattle.vp_text.proofs.Fields.{literal_then, word_then, number_then, literal_outside, made_outside, Outside}
use Rattle.vp_text.proofs.Choices.{GoesOn, goes_as, then_goes, literal_goes, made_goes, word_goes, either_goes, follows_from, either_exact, clear_keys, literal_opens, IsClear, Opens, clear_or, or_clear}
use Rattle.vp_text.proofs.Repeats.{Repeats, items_exact, next_exact}
use Rattle.vp_base.specs.Words.{IsName, IsValue, IsPlace}
use Rattle.vp_base.specs.Identifiers.{IsView, IsViewFrom, IsTxnText}
use Rattle.vp_base.specs.Reading.{starts_any}
use Rattle.vp_base.proofs.Txns.{txn_exact, txn_goes}
use Rattle.vp_base.proofs.Views.{view_from_exact, view_from_goes}
use Rattle.vp_base.proofs.Among.{among_exact, place_goes}
use Rattle.vp_model.specs.Types.{ViewId, Op, Commit as CommitType}
use Rattle.vp_model.specs.Types.op
use Rattle.vp_onecopy.specs.declared.line.HistoryLine.{HistoryLine}
use Rattle.vp_onecopy.specs.declared.line.HistoryLine.TheVariants.{Start, Commit, End}
use Rattle.vp_onecopy.specs.Lines.{AllNames, Before, OpText, OpsText, some_names, may_start, LineText}
use Rattle.vp_onecopy.specs.Reading.{commit_of, read_at, write_at, absent_at, delete_at, bare_op_at, later_op_at, op_at, ops_at, start_at, commit_at, ending_at, later_at, line_at}

-- ---- an operation

-- key NAME VALUE
abbrev OpParts : List (List ℕ) → List ℕ → (ℕ → List ℕ → Op) → Op → List ℕ → Type 0
OpParts names key make = Then (IsLiteral key) (λ _. Then (IsPlace names) (λ place. Then (IsLiteral (32 ∷ [])) (λ _. Made IsValue (λ value. make place value))))

-- key NAME
abbrev BareParts : List (List ℕ) → List ℕ → (ℕ → Op) → Op → List ℕ → Type 0
BareParts names key make = Then (IsLiteral key) (λ _. Made (IsPlace names) make)

abbrev ReadParts : List (List ℕ) → Op → List ℕ → Type 0
ReadParts names = OpParts names (codes " r ") (λ place value. op.Read place (Some value))

abbrev WriteParts : List (List ℕ) → Op → List ℕ → Type 0
WriteParts names = OpParts names (codes " w ") (λ place value. op.Write place (Some value))

abbrev AbsentParts : List (List ℕ) → Op → List ℕ → Type 0
AbsentParts names = BareParts names (codes " a ") (λ place. op.Read place None)

abbrev DeleteParts : List (List ℕ) → Op → List ℕ → Type 0
DeleteParts names = BareParts names (codes " d ") (λ place. op.Write place None)

abbrev BareChoice : List (List ℕ) → Op → List ℕ → Type 0
BareChoice names = Either (AbsentParts names) (DeleteParts names)

abbrev LaterChoice : List (List ℕ) → Op → List ℕ → Type 0
LaterChoice names = Either (WriteParts names) (BareChoice names)

abbrev OpChoice : List (List ℕ) → Op → List ℕ → Type 0
OpChoice names = Either (ReadParts names) (LaterChoice names)

-- ---- they are read exactly

read_exact : (names : List (List ℕ)) → starts_any names [] ≡ true → AllNames names → Exact (ReadParts names) (read_at names)
unfolding read_at
read_exact names some all =
    literal_then (codes " r ") (then_exact (follows_from (has classes.Name) (place_goes names all) (λ place. literal_outside (has classes.Name) (32 ∷ []) refl)) (among_exact names some)
    (λ place. literal_then (32 ∷ []) (made_exact (λ value. op.Read place (Some value)) (class_exact classes.Value))))

write_exact : (names : List (List ℕ)) → starts_any names [] ≡ true → AllNames names → Exact (WriteParts names) (write_at names)
unfolding write_at
write_exact names some all =
    literal_then (codes " w ") (then_exact (follows_from (has classes.Name) (place_goes names all) (λ place. literal_outside (has classes.Name) (32 ∷ []) refl)) (among_exact names some)
    (λ place. literal_then (32 ∷ []) (made_exact (λ value. op.Write place (Some value)) (class_exact classes.Value))))

absent_exact : (names : List (List ℕ)) → starts_any names [] ≡ true → Exact (AbsentParts names) (absent_at names)
unfolding absent_at
absent_exact names some = literal_then (codes " a ") (made_exact (λ place. op.Read place None) (among_exact names some))

delete_exact : (names : List (List ℕ)) → starts_any names [] ≡ true → Exact (DeleteParts names) (delete_at names)
unfolding delete_at
delete_exact names some = literal_then (codes " d ") (made_exact (λ place. op.Write place None) (among_exact names some))

-- ---- what they may go on with

op_goes : (names : List (List ℕ)) → starts_any names [] ≡ true → AllNames names → (key : List ℕ) (make : ℕ → List ℕ → Op) → GoesOn (has classes.Value) (OpParts names key make)
op_goes names some all key make =
    literal_goes (has classes.Value) key (then_goes (has classes.Value) (one_value (among_exact names some)) (follows_from (has classes.Name) (place_goes names all) (λ place. literal_outside (has classes.Name) (32 ∷ []) refl))
    (λ place. literal_goes (has classes.Value) (32 ∷ []) (made_goes (has classes.Value) (word_goes (has classes.Value) (most classes.Value)))))

value_byte : (c : ℕ) → has classes.Name c ≡ true → has classes.Value c ≡ true
value_byte c h = grind (arith, nat_tests, h)

bare_goes : (names : List (List ℕ)) → AllNames names → (key : List ℕ) (make : ℕ → Op) → GoesOn (has classes.Value) (BareParts names key make)
bare_goes names all key make =
    literal_goes (has classes.Value) key (made_goes (has classes.Value) (λ a a2 text x r before longer. value_byte x (place_goes names all a a2 text x r before longer)))

-- ---- they begin differently

opens_read : (names : List (List ℕ)) → Opens (codes " r ") (ReadParts names)
opens_read names = literal_opens (codes " r ")

opens_write : (names : List (List ℕ)) → Opens (codes " w ") (WriteParts names)
opens_write names = literal_opens (codes " w ")

opens_absent : (names : List (List ℕ)) → Opens (codes " a ") (AbsentParts names)
opens_absent names = literal_opens (codes " a ")

opens_delete : (names : List (List ℕ)) → Opens (codes " d ") (DeleteParts names)
opens_delete names = literal_opens (codes " d ")

clear_absent : (names : List (List ℕ)) → IsClear (AbsentParts names) (DeleteParts names)
clear_absent names = clear_keys (codes " a ") (codes " d ") refl (opens_absent names) (opens_delete names)

clear_delete : (names : List (List ℕ)) → IsClear (DeleteParts names) (AbsentParts names)
clear_delete names = clear_keys (codes " d ") (codes " a ") refl (opens_delete names) (opens_absent names)

clear_write : (names : List (List ℕ)) → IsClear (WriteParts names) (BareChoice names)
clear_write names = clear_or (WriteParts names) (AbsentParts names) (DeleteParts names)
    (clear_keys (codes " w ") (codes " a ") refl (opens_write names) (opens_absent names))
    (clear_keys (codes " w ") (codes " d ") refl (opens_write names) (opens_delete names))

clear_bare : (names : List (List ℕ)) → IsClear (BareChoice names) (WriteParts names)
clear_bare names = or_clear (WriteParts names) (AbsentParts names) (DeleteParts names)
    (clear_keys (codes " a ") (codes " w ") refl (opens_absent names) (opens_write names))
    (clear_keys (codes " d ") (codes " w ") refl (opens_delete names) (opens_write names))

clear_read : (names : List (List ℕ)) → IsClear (ReadParts names) (LaterChoice names)
clear_read names = clear_or (ReadParts names) (WriteParts names) (BareChoice names)
    (clear_keys (codes " r ") (codes " w ") refl (opens_read names) (opens_write names))
    (clear_or (ReadParts names) (AbsentParts names) (DeleteParts names)
    (clear_keys (codes " r ") (codes " a ") refl (opens_read names) (opens_absent names))
    (clear_keys (codes " r ") (codes " d ") refl (opens_read names) (opens_delete names)))

clear_other : (names : List (List ℕ)) → IsClear (LaterChoice names) (ReadParts names)
clear_other names = or_clear (ReadParts names) (WriteParts names) (BareChoice names)
    (clear_keys (codes " w ") (codes " r ") refl (opens_write names) (opens_read names))
    (or_clear (ReadParts names) (AbsentParts names) (DeleteParts names)
    (clear_keys (codes " a ") (codes " r ") refl (opens_absent names) (opens_read names))
    (clear_keys (codes " d ") (codes " r ") refl (opens_delete names) (opens_read names)))

-- ---- the parts are the operation's text

op_to : (names : List (List ℕ)) (op : Op) (t : List ℕ) → OpChoice names op t → OpText names op t
op_to names op t h =
    elim h [
      | inl r ↦
          let v = r.after.after.after in
          let w : IsValue v.from v.from = subst (λ (x : List ℕ). IsValue v.from x) (sym v.spelled.is) v.spelled in
          subst (λ (x : Op). OpText names x t) (sym v.is) (r.after.front, r.after.before, w, rw (r.parts, r.before, r.after.parts, r.after.after.parts, r.after.after.before, ← v.spelled.is) refl)
      | inr l ↦ elim l [
        | inl r ↦
            let v = r.after.after.after in
            let w : IsValue v.from v.from = subst (λ (x : List ℕ). IsValue v.from x) (sym v.spelled.is) v.spelled in
            subst (λ (x : Op). OpText names x t) (sym v.is) (r.after.front, r.after.before, w, rw (r.parts, r.before, r.after.parts, r.after.after.parts, r.after.after.before, ← v.spelled.is) refl)
        | inr b ↦ elim b [
          | inl a ↦ subst (λ (x : Op). OpText names x t) (sym a.after.is) (a.back, a.after.spelled, rw (a.parts, a.before) refl)
          | inr d ↦ subst (λ (x : Op). OpText names x t) (sym d.after.is) (d.back, d.after.spelled, rw (d.parts, d.before) refl)
        ]
      ]
    ]

op_from : (names : List (List ℕ)) (op : Op) (t : List ℕ) → OpText names op t → OpChoice names op t
op_from names (op.Read rec (Some value)) t h = inl (record {
  first = tt;
  front = codes " r ";
  back = h.0 ++ 32 ∷ value;
  before = refl;
  parts = h.3;
  after = record {
    first = rec;
    front = h.0;
    back = 32 ∷ value;
    before = h.1;
    parts = refl;
    after = record { first = tt; front = 32 ∷ []; back = value; before = refl; parts = refl; after = record { from = value; spelled = h.2; is = refl } };
  };
})
op_from names (op.Write rec (Some value)) t h = inr (inl (record {
  first = tt;
  front = codes " w ";
  back = h.0 ++ 32 ∷ value;
  before = refl;
  parts = h.3;
  after = record {
    first = rec;
    front = h.0;
    back = 32 ∷ value;
    before = h.1;
    parts = refl;
    after = record { first = tt; front = 32 ∷ []; back = value; before = refl; parts = refl; after = record { from = value; spelled = h.2; is = refl } };
  };
}))
op_from names (op.Read rec None) t h =
    inr (inr (inl (record { first = tt; front = codes " a "; back = h.0; before = refl; parts = h.2; after = record { from = rec; spelled = h.1; is = refl } })))
op_from names (op.Write rec None) t h =
    inr (inr (inr (record { first = tt; front = codes " d "; back = h.0; before = refl; parts = h.2; after = record { from = rec; spelled = h.1; is = refl } })))

op_exact : (names : List (List ℕ)) → starts_any names [] ≡ true → AllNames names → Exact (OpText names) (op_at names)
unfolding bare_op_at later_op_at op_at
op_exact names some all =
    exact_as (op_to names) (op_from names)
    (either_exact (clear_read names) (clear_other names) (read_exact names some all)
    (either_exact (clear_write names) (clear_bare names) (write_exact names some all)
    (either_exact (clear_absent names) (clear_delete names) (absent_exact names some) (delete_exact names some))))

text_goes : (names : List (List ℕ)) → starts_any names [] ≡ true → AllNames names → GoesOn (has classes.Value) (OpText names)
text_goes names some all = goes_as (has classes.Value) (op_from names) (either_goes (has classes.Value) (clear_read names) (clear_other names)
    (op_goes names some all (codes " r ") (λ place value. op.Read place (Some value)))
    (either_goes (has classes.Value) (clear_write names) (clear_bare names) (op_goes names some all (codes " w ") (λ place value. op.Write place (Some value)))
    (either_goes (has classes.Value) (clear_absent names) (clear_delete names) (bare_goes names all (codes " a ") (λ place. op.Read place None)) (bare_goes names all (codes " d ") (λ place. op.Write place None)))))

no_op : (op : Op) (t : List ℕ) → OpText [] op t → ⊥
no_op (op.Read rec (Some value)) t h = h.1
no_op (op.Write rec (Some value)) t h = h.1
no_op (op.Read rec None) t h = h.1
no_op (op.Write rec None) t h = h.1

none_goes : GoesOn (has classes.Value) (OpText [])
none_goes = λ a a2 text x r before longer. absurd (no_op a text before)

-- ---- the operations of a commit line

op_opens_at : (names : List (List ℕ)) (op : Op) (t : List ℕ) → OpText names op t → (r : List ℕ) × (t ≡ (32 ∷ []) ++ r)
op_opens_at names (op.Read rec (Some value)) t h = (codes "r " ++ (h.0 ++ 32 ∷ value), h.3)
op_opens_at names (op.Write rec (Some value)) t h = (codes "w " ++ (h.0 ++ 32 ∷ value), h.3)
op_opens_at names (op.Read rec None) t h = (codes "a " ++ h.0, h.2)
op_opens_at names (op.Write rec None) t h = (codes "d " ++ h.0, h.2)

op_opens : (names : List (List ℕ)) → Opens (32 ∷ []) (OpText names)
op_opens names = λ op t h. op_opens_at names op t h

some_starts : (names : List (List ℕ)) → some_names names ≡ true → starts_any names [] ≡ true
some_starts [] e = e
some_starts (name ∷ names) e = refl

op_all_goes : (names : List (List ℕ)) → AllNames names → GoesOn (has classes.Value) (OpText names)
op_all_goes [] all = none_goes
op_all_goes (name ∷ names) all = text_goes (name ∷ names) refl all

ops_repeat : (names : List (List ℕ)) → AllNames names → Repeats (λ (u : Unit {0}). some_names names) (λ u op. u) (λ u. OpText names) (λ u. op_at names) (32 ∷ []) (10 ∷ []) (has classes.Value)
ops_repeat names all = record {
  exact = λ s on. op_exact names (some_starts names on) all;
  opens = λ s. op_opens names;
  goes = λ s. op_all_goes names all;
  apart = refl;
  back = refl;
  key_some = omega arith;
  key_outside = refl;
  ending_outside = refl;
}

ops_exact : (names : List (List ℕ)) → AllNames names → Exact (OpsText names) (λ bytes. ops_at names (suc (length bytes)) bytes)
ops_exact names all = items_exact (λ (u : Unit {0}). some_names names) (λ u op. u) (λ u. OpText names) (λ u. op_at names) (32 ∷ []) (10 ∷ []) (has classes.Value) (ops_repeat names all) tt

pub next_shorter : (names : List (List ℕ)) → AllNames names → (bytes : List ℕ) (op : Op) (rest : List ℕ) → next_at (some_names names) (op_at names) (10 ∷ []) bytes ≡ Ok (Some op, rest) → length rest < length bytes
next_shorter names all bytes op rest h =
    let p = (next_exact (λ (u : Unit {0}). some_names names) (λ u op. u) (λ u. OpText names) (λ u. op_at names) (32 ∷ []) (10 ∷ []) (has classes.Value) (ops_repeat names all) tt).ok bytes (Some op) rest h in
    let o = op_opens_at names op p.text p.spelled.1 in
    omega (arith, ap length p.parts, length-append p.text rest, ap length o.1)

-- ---- the lines

abbrev StartParts : HistoryLine → List ℕ → Type 0
StartParts = Then (IsLiteral (codes "start ")) (λ _. Then IsName (λ name. Then (IsLiteral (32 ∷ [])) (λ _. Then IsValue (λ value. Made (IsLiteral (10 ∷ [])) (λ _. Start name value)))))

start_parts_exact : Exact StartParts start_at
unfolding start_at
start_parts_exact =
    literal_then (codes "start ") (word_then (has classes.Name) (most classes.Name) 97 refl (omega arith) (λ name. literal_outside (has classes.Name) (32 ∷ []) refl)
    (λ name. literal_then (32 ∷ []) (word_then (has classes.Value) (most classes.Value) 97 refl (omega arith) (λ value. made_outside (has classes.Value) (10 ∷ []) refl)
    (λ value. made_exact (λ u. Start name value) (literal_exact (10 ∷ []))))))

abbrev CommitParts : List (List ℕ) → ViewId → HistoryLine → List ℕ → Type 0
CommitParts names last = Then (IsLiteral (codes "commit ")) (λ _. Then IsTxnText (λ txn. Then (IsLiteral (32 ∷ [])) (λ _. Then (IsViewFrom last) (λ view. Made (OpsText names) (λ ops. Commit (commit_of txn view ops))))))

ops_outside : (names : List (List ℕ)) (ops : List Op) (t : List ℕ) → OpsText names ops t → Outside is_digit t
ops_outside names [] t h = subst (Outside is_digit) (sym h) refl
ops_outside names (op ∷ ops) t h =
    let o = op_opens_at names op h.0 h.3 in
    subst (Outside is_digit) (sym (h.5 ∙ ap (λ (z : List ℕ). z ++ h.1) o.1)) refl

commit_parts_exact : (names : List (List ℕ)) (last : ViewId) → AllNames names → IsView last → Exact (CommitParts names last) (commit_at names last)
unfolding commit_at
commit_parts_exact names last all good =
    literal_then (codes "commit ") (then_exact (follows_from is_digit txn_goes (λ txn. literal_outside is_digit (32 ∷ []) refl)) txn_exact
    (λ txn. literal_then (32 ∷ []) (then_exact (follows_from is_digit (view_from_goes last good) (λ view entry t m. ops_outside names m.from t m.spelled)) (view_from_exact last good)
    (λ view. made_exact (λ ops. Commit (commit_of txn view ops)) (ops_exact names all)))))

abbrev EndParts : ℕ → HistoryLine → List ℕ → Type 0
EndParts commits = Then (IsLiteral (codes "end ")) (λ _. Then (IsNumber commits commits) (λ n. Made (IsLiteral (10 ∷ [])) (λ _. End)))

end_parts_exact : (commits : ℕ) → commits < 2 ^ 64 → Exact (EndParts commits) (ending_at commits)
unfolding ending_at
end_parts_exact commits fits =
    literal_then (codes "end ") (number_then commits commits (omega arith) fits (λ n. made_outside is_digit (10 ∷ []) refl) (λ n. made_exact (λ u. End) (literal_exact (10 ∷ []))))

abbrev LaterParts : Before → HistoryLine → List ℕ → Type 0
LaterParts before = Either (CommitParts before.names before.last) (EndParts before.commits)

opens_start : Opens (codes "start ") StartParts
opens_start = literal_opens (codes "start ")

opens_commit : (names : List (List ℕ)) (last : ViewId) → Opens (codes "commit ") (CommitParts names last)
opens_commit names last = literal_opens (codes "commit ")

opens_end : (commits : ℕ) → Opens (codes "end ") (EndParts commits)
opens_end commits = literal_opens (codes "end ")

later_exact : (before : Before) → AllNames before.names → IsView before.last → before.commits < 2 ^ 64 → Exact (LaterParts before) (later_at before)
unfolding later_at
later_exact before all good fits = either_exact
    (clear_keys (codes "commit ") (codes "end ") refl (opens_commit before.names before.last) (opens_end before.commits))
    (clear_keys (codes "end ") (codes "commit ") refl (opens_end before.commits) (opens_commit before.names before.last))
    (commit_parts_exact before.names before.last all good) (end_parts_exact before.commits fits)

clear_start : (before : Before) → IsClear StartParts (LaterParts before)
clear_start before = clear_or StartParts (CommitParts before.names before.last) (EndParts before.commits) (clear_keys (codes "start ") (codes "commit ") refl opens_start (opens_commit before.names before.last)) (clear_keys (codes "start ") (codes "end ") refl opens_start (opens_end before.commits))

clear_later : (before : Before) → IsClear (LaterParts before) StartParts
clear_later before = or_clear StartParts (CommitParts before.names before.last) (EndParts before.commits) (clear_keys (codes "commit ") (codes "start ") refl (opens_commit before.names before.last) opens_start) (clear_keys (codes "end ") (codes "start ") refl (opens_end before.commits) opens_start)

start_to : (before : Before) → may_start before ≡ true → (e : HistoryLine) (t : List ℕ) → StartParts e t → LineText before e t
start_to before on e t h =
    let n = h.after in
    let v = n.after.after in
    let name_is : IsName n.first n.first = subst (λ (x : List ℕ). IsName n.first x) (sym n.before.is) n.before in
    let value_is : IsValue v.first v.first = subst (λ (x : List ℕ). IsValue v.first x) (sym v.before.is) v.before in
    subst (λ (e : HistoryLine). LineText before e t) (sym v.after.is) (record {
      allowed = on;
      name_is = name_is;
      value_is = value_is;
      parts = rw (h.parts, h.before, n.parts, ← n.before.is, n.after.parts, n.after.before, v.parts, ← v.before.is, v.after.spelled) refl;
    })

later_to : (before : Before) (e : HistoryLine) (t : List ℕ) → LaterParts before e t → LineText before e t
later_to before e t h =
    elim h [
      | inl c ↦
          let x = c.after in
          let v = x.after.after in
          subst (λ (e : HistoryLine). LineText before e t) (sym v.after.is) (record {
            txn = x.front;
            view = v.front;
            ops = v.back;
            txn_is = x.before;
            view_is = v.before;
            ops_are = v.after.spelled;
            no_tables = refl;
            parts = rw (c.parts, c.before, x.parts, x.after.parts, x.after.before, v.parts) refl;
          })
      | inr c ↦
          let n = c.after in
          let number : n.front ≡ decimal before.commits = n.before.is ∙ ap decimal (omega (arith, n.before.above, n.before.below)) in
          subst (λ (e : HistoryLine). LineText before e t) (sym n.after.is) (rw (c.parts, c.before, n.parts, number, n.after.spelled) refl)
    ]

-- a commit without tables
bare_commit : (commit : CommitType) → commit.tables ≡ [] → commit ≡ commit_of commit.txn commit.view commit.ops
bare_commit commit none = ap (λ tables. record { txn = commit.txn; view = commit.view; ops = commit.ops; tables = tables }) none

later_from : (before : Before) (e : HistoryLine) (t : List ℕ) → LineText before e t → Either StartParts (LaterParts before) e t
later_from before (Start name value) t h = inl (record {
  first = tt;
  front = codes "start ";
  back = name ++ 32 ∷ (value ++ 10 ∷ []);
  before = refl;
  parts = h.parts;
  after = record {
    first = name;
    front = name;
    back = 32 ∷ (value ++ 10 ∷ []);
    before = h.name_is;
    parts = refl;
    after = record {
      first = tt;
      front = 32 ∷ [];
      back = value ++ 10 ∷ [];
      before = refl;
      parts = refl;
      after = record { first = value; front = value; back = 10 ∷ []; before = h.value_is; parts = refl; after = record { from = tt; spelled = refl; is = refl } };
    };
  };
})
later_from before (Commit commit) t h = inr (inl (record {
  first = tt;
  front = codes "commit ";
  back = h.txn ++ 32 ∷ (h.view ++ h.ops);
  before = refl;
  parts = h.parts;
  after = record {
    first = commit.txn;
    front = h.txn;
    back = 32 ∷ (h.view ++ h.ops);
    before = h.txn_is;
    parts = refl;
    after = record {
      first = tt;
      front = 32 ∷ [];
      back = h.view ++ h.ops;
      before = refl;
      parts = refl;
      after = record { first = commit.view; front = h.view; back = h.ops; before = h.view_is; parts = refl; after = record { from = commit.ops; spelled = h.ops_are; is = ap (λ (c : CommitType). Commit c) (bare_commit commit h.no_tables) } };
    };
  };
}))
later_from before End t h = inr (inr (record {
  first = tt;
  front = codes "end ";
  back = decimal before.commits ++ 10 ∷ [];
  before = refl;
  parts = h;
  after = record { first = before.commits; front = decimal before.commits; back = 10 ∷ []; before = record { is = refl; above = omega arith; below = omega arith }; parts = refl; after = record { from = tt; spelled = refl; is = refl } };
}))

no_start : (before : Before) → may_start before ≡ false → (e : HistoryLine) (t : List ℕ) → LineText before e t → StartParts e t → ⊥
no_start before off (Start name value) t h s = false≢true (sym off ∙ h.allowed)
no_start before off (Commit commit) t h s = let e : Commit commit ≡ Start s.after.first s.after.after.after.first = s.after.after.after.after.is in cc
no_start before off End t h s = let e : End ≡ Start s.after.first s.after.after.after.first = s.after.after.after.after.is in cc

line_to : (before : Before) → may_start before ≡ true → (e : HistoryLine) (t : List ℕ) → Either StartParts (LaterParts before) e t → LineText before e t
line_to before on e t h = elim h [ inl s ↦ start_to before on e t s | inr l ↦ later_to before e t l ]

only_later : (before : Before) → may_start before ≡ false → (e : HistoryLine) (t : List ℕ) → LineText before e t → LaterParts before e t
only_later before off e t h =
    elim (later_from before e t h) [
      | inl s ↦ absurd (no_start before off e t h s)
      | inr l ↦ l
    ]

pub line_exact : (before : Before) → AllNames before.names → IsView before.last → before.commits < 2 ^ 64 → Exact (LineText before) (line_at before)
unfolding line_at
line_exact before all good fits =
    let f : (b : Bool) → may_start before ≡ b → Exact (LineText before) (λ bytes. cond b (either (start_at bytes) (later_at before bytes)) (later_at before bytes)) = λ b. elim b as (λ b. may_start before ≡ b → Exact (LineText before) (λ bytes. cond b (either (start_at bytes) (later_at before bytes)) (later_at before bytes))) [
      | true ↦ λ on. exact_as (line_to before on) (later_from before) (either_exact (clear_start before) (clear_later before) start_parts_exact (later_exact before all good fits))
      | false ↦ λ off. exact_as (later_to before) (only_later before off) (later_exact before all good fits)
    ] in
    f (may_start before) refl

-- ---- what a fault of a part is for the whole

pub some_weaker : (o : Option ℕ) (P Q : ℕ → Type 0) → ((n : ℕ) → P n → Q n) → IfSome o P → IfSome o Q
some_weaker None P Q f h = tt
some_weaker (Some n) P Q f h = f n h
