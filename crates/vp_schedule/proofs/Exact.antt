-- Calls are read exactly, and none goes on to a longer one by a newline.
use Rattle.std.proofs.Common.{◌≡◌, ℕ, ◌-◌, ◌^◌, ◌<◌, Bool, true, false, not, eqb, List, [], ◌∷◌, ◌++◌, length, refl, sym, subst, ◌∙◌, append_assoc, arith, inl, inr}
use Rattle.std.specs.Prelude.{codes}
use Rattle.std.specs.List.{AllByRecursion}
use Rattle.std.specs.Fmt.{decimal}
use Rattle.std.proofs.lemmas.Fmt.{decimal_nonempty}
use Rattle.std.proofs.lemmas.Bool.{false≢true, and_from, le-leb}
use Rattle.vp_text.specs.Tokens.{IsLiteral, IsWord, IsNumber, Either}
use Rattle.vp_text.specs.Reading.{is_digit}
use Rattle.vp_text.specs.Classes.{has, most}
use Rattle.vp_text.specs.declared.class.Class.TheVariants as classes
use Rattle.vp_text.proofs.Exact.{Exact, Then, Made, made_exact, then_exact, exact_as}
use Rattle.vp_text.proofs.Words.{literal_exact}
use Rattle.vp_text.proofs.Classes.{class_exact}
use Rattle.vp_text.proofs.Numbers.{decimal_digits, IsDigit}
use Rattle.vp_text.proofs.Fields.{Outside, IsOutside, literal_then, word_then, number_then, literal_outside, made_outside}
use Rattle.vp_text.proofs.Choices.{IsClear, Opens, differ, either_exact, clear_keys, clear_or, or_clear, literal_opens, made_opens, follows_from}
use Rattle.vp_base.specs.Words.{IsName, IsValue}
use Rattle.vp_base.specs.Identifiers.{IsTxnText, txn_text}
use Rattle.vp_base.proofs.Txns.{txn_exact, txn_goes}
use Rattle.vp_model.specs.Types.{TxnId, Call}
use Rattle.vp_model.specs.Types.call
use Rattle.vp_model.specs.Texts.Fields.{table_text}
use Rattle.vp_base.specs.Calls.{IsNumbered}
use Rattle.vp_schedule.specs.Grammar.{IsCallText}
use Rattle.vp_schedule.specs.Reading.{begin_at, regroup_at, bare_at, read_at, write_at, delete_at, weigh_at, commit_at, abort_at, ending_at, removal_at, other_change_at, change_at, deed_at, numbered_at, call_at}
use Rattle.vp_schedule.proofs.Tables.{TableText, table_exact, table_outside}

-- ---- the parts of each call

abbrev BeginParts : Call → List ℕ → Type 0
BeginParts = Made (IsLiteral (codes "begin")) (λ (u : Unit {0}). call.Begin)

abbrev RegroupParts : Call → List ℕ → Type 0
RegroupParts = Made (IsLiteral (codes "regroup")) (λ (u : Unit {0}). call.Regroup)

abbrev BareParts : Call → List ℕ → Type 0
BareParts = Either BeginParts RegroupParts

abbrev ReadParts : TxnId → ℕ → Call → List ℕ → Type 0
ReadParts txn number = Then (IsLiteral (codes " read ")) (λ _. Made IsName (λ name. call.Read txn number name))

abbrev WriteParts : TxnId → ℕ → Call → List ℕ → Type 0
WriteParts txn number = Then (IsLiteral (codes " write ")) (λ _. Then IsName (λ name. Then (IsLiteral (32 ∷ [])) (λ _. Made IsValue (λ value. call.Write txn number name value))))

abbrev DeleteParts : TxnId → ℕ → Call → List ℕ → Type 0
DeleteParts txn number = Then (IsLiteral (codes " delete ")) (λ _. Made IsName (λ name. call.Delete txn number name))

abbrev CommitParts : TxnId → ℕ → Call → List ℕ → Type 0
CommitParts txn number = Made (IsLiteral (codes " commit")) (λ (u : Unit {0}). call.Commit txn number)

abbrev AbortParts : TxnId → ℕ → Call → List ℕ → Type 0
AbortParts txn number = Made (IsLiteral (codes " abort")) (λ (u : Unit {0}). call.Abort txn number)

abbrev EndingParts : TxnId → ℕ → Call → List ℕ → Type 0
EndingParts txn number = Either (CommitParts txn number) (AbortParts txn number)

abbrev RemovalParts : TxnId → ℕ → Call → List ℕ → Type 0
RemovalParts txn number = Either (DeleteParts txn number) (EndingParts txn number)

abbrev WeighParts : TxnId → ℕ → Call → List ℕ → Type 0
WeighParts txn number = Then (IsLiteral (codes " weigh ")) (λ _. Then IsName (λ name. Made TableText (λ table. call.Weigh txn number name table)))

abbrev OtherChangeParts : TxnId → ℕ → Call → List ℕ → Type 0
OtherChangeParts txn number = Either (WeighParts txn number) (RemovalParts txn number)

abbrev ChangeParts : TxnId → ℕ → Call → List ℕ → Type 0
ChangeParts txn number = Either (WriteParts txn number) (OtherChangeParts txn number)

abbrev DeedParts : TxnId → ℕ → Call → List ℕ → Type 0
DeedParts txn number = Either (ReadParts txn number) (ChangeParts txn number)

abbrev NumberedParts : Call → List ℕ → Type 0
NumberedParts = Then IsTxnText (λ txn. Then (IsLiteral (32 ∷ [])) (λ _. Then (IsNumber 1 (2 ^ 32 - 1)) (λ number. DeedParts txn number)))

abbrev CallParts : Call → List ℕ → Type 0
CallParts = Either BareParts NumberedParts

-- ---- they begin differently

opens_begin : Opens (codes "begin") BeginParts
opens_begin = made_opens (codes "begin")

opens_regroup : Opens (codes "regroup") RegroupParts
opens_regroup = made_opens (codes "regroup")

opens_read : (txn : TxnId) (number : ℕ) → Opens (codes " read ") (ReadParts txn number)
opens_read txn number = literal_opens (codes " read ")

opens_write : (txn : TxnId) (number : ℕ) → Opens (codes " write ") (WriteParts txn number)
opens_write txn number = literal_opens (codes " write ")

opens_delete : (txn : TxnId) (number : ℕ) → Opens (codes " delete ") (DeleteParts txn number)
opens_delete txn number = literal_opens (codes " delete ")

opens_weigh : (txn : TxnId) (number : ℕ) → Opens (codes " weigh ") (WeighParts txn number)
opens_weigh txn number = literal_opens (codes " weigh ")

opens_commit : (txn : TxnId) (number : ℕ) → Opens (codes " commit") (CommitParts txn number)
opens_commit txn number = made_opens (codes " commit")

opens_abort : (txn : TxnId) (number : ℕ) → Opens (codes " abort") (AbortParts txn number)
opens_abort txn number = made_opens (codes " abort")

clear_begin : IsClear BeginParts RegroupParts
clear_begin = clear_keys (codes "begin") (codes "regroup") refl opens_begin opens_regroup

clear_regroup : IsClear RegroupParts BeginParts
clear_regroup = clear_keys (codes "regroup") (codes "begin") refl opens_regroup opens_begin

clear_commit : (txn : TxnId) (number : ℕ) → IsClear (CommitParts txn number) (AbortParts txn number)
clear_commit txn number = clear_keys (codes " commit") (codes " abort") refl (opens_commit txn number) (opens_abort txn number)

clear_abort : (txn : TxnId) (number : ℕ) → IsClear (AbortParts txn number) (CommitParts txn number)
clear_abort txn number = clear_keys (codes " abort") (codes " commit") refl (opens_abort txn number) (opens_commit txn number)

clear_delete : (txn : TxnId) (number : ℕ) → IsClear (DeleteParts txn number) (EndingParts txn number)
clear_delete txn number = clear_or (DeleteParts txn number) (CommitParts txn number) (AbortParts txn number)
    (clear_keys (codes " delete ") (codes " commit") refl (opens_delete txn number) (opens_commit txn number))
    (clear_keys (codes " delete ") (codes " abort") refl (opens_delete txn number) (opens_abort txn number))

clear_ending : (txn : TxnId) (number : ℕ) → IsClear (EndingParts txn number) (DeleteParts txn number)
clear_ending txn number = or_clear (DeleteParts txn number) (CommitParts txn number) (AbortParts txn number)
    (clear_keys (codes " commit") (codes " delete ") refl (opens_commit txn number) (opens_delete txn number))
    (clear_keys (codes " abort") (codes " delete ") refl (opens_abort txn number) (opens_delete txn number))

-- a deed that opens with a key of its own: it begins no delete and no end, and none of these begins it
module _ {D : Call → List ℕ → Type 0} (key : List ℕ) (opens : Opens key D) (txn : TxnId) (number : ℕ) where
  clear_removals : differ key (codes " delete ") ≡ true → differ key (codes " commit") ≡ true → differ key (codes " abort") ≡ true → IsClear D (RemovalParts txn number)
  clear_removals delete commit abort = clear_or D (DeleteParts txn number) (EndingParts txn number)
      (clear_keys key (codes " delete ") delete opens (opens_delete txn number))
      (clear_or D (CommitParts txn number) (AbortParts txn number)
      (clear_keys key (codes " commit") commit opens (opens_commit txn number))
      (clear_keys key (codes " abort") abort opens (opens_abort txn number)))

  removals_clear : differ (codes " delete ") key ≡ true → differ (codes " commit") key ≡ true → differ (codes " abort") key ≡ true → IsClear (RemovalParts txn number) D
  removals_clear delete commit abort = or_clear D (DeleteParts txn number) (EndingParts txn number)
      (clear_keys (codes " delete ") key delete (opens_delete txn number) opens)
      (or_clear D (CommitParts txn number) (AbortParts txn number)
      (clear_keys (codes " commit") key commit (opens_commit txn number) opens)
      (clear_keys (codes " abort") key abort (opens_abort txn number) opens))

clear_weigh : (txn : TxnId) (number : ℕ) → IsClear (WeighParts txn number) (RemovalParts txn number)
clear_weigh txn number = clear_removals (codes " weigh ") (opens_weigh txn number) txn number refl refl refl

clear_removal : (txn : TxnId) (number : ℕ) → IsClear (RemovalParts txn number) (WeighParts txn number)
clear_removal txn number = removals_clear (codes " weigh ") (opens_weigh txn number) txn number refl refl refl

clear_write : (txn : TxnId) (number : ℕ) → IsClear (WriteParts txn number) (OtherChangeParts txn number)
clear_write txn number = clear_or (WriteParts txn number) (WeighParts txn number) (RemovalParts txn number)
    (clear_keys (codes " write ") (codes " weigh ") refl (opens_write txn number) (opens_weigh txn number))
    (clear_removals (codes " write ") (opens_write txn number) txn number refl refl refl)

clear_other_change : (txn : TxnId) (number : ℕ) → IsClear (OtherChangeParts txn number) (WriteParts txn number)
clear_other_change txn number = or_clear (WriteParts txn number) (WeighParts txn number) (RemovalParts txn number)
    (clear_keys (codes " weigh ") (codes " write ") refl (opens_weigh txn number) (opens_write txn number))
    (removals_clear (codes " write ") (opens_write txn number) txn number refl refl refl)

clear_read : (txn : TxnId) (number : ℕ) → IsClear (ReadParts txn number) (ChangeParts txn number)
clear_read txn number = clear_or (ReadParts txn number) (WriteParts txn number) (OtherChangeParts txn number)
    (clear_keys (codes " read ") (codes " write ") refl (opens_read txn number) (opens_write txn number))
    (clear_or (ReadParts txn number) (WeighParts txn number) (RemovalParts txn number)
    (clear_keys (codes " read ") (codes " weigh ") refl (opens_read txn number) (opens_weigh txn number))
    (clear_removals (codes " read ") (opens_read txn number) txn number refl refl refl))

clear_change : (txn : TxnId) (number : ℕ) → IsClear (ChangeParts txn number) (ReadParts txn number)
clear_change txn number = or_clear (ReadParts txn number) (WriteParts txn number) (OtherChangeParts txn number)
    (clear_keys (codes " write ") (codes " read ") refl (opens_write txn number) (opens_read txn number))
    (or_clear (ReadParts txn number) (WeighParts txn number) (RemovalParts txn number)
    (clear_keys (codes " weigh ") (codes " read ") refl (opens_weigh txn number) (opens_read txn number))
    (removals_clear (codes " read ") (opens_read txn number) txn number refl refl refl))

-- ---- a call on a transaction begins with a digit, and the others don't

abbrev Inside : (ℕ → Bool) → List ℕ → Type 0
Inside has [] = ⊥
Inside has (c ∷ cs) = has c ≡ true

never_both : (has : ℕ → Bool) (t r : List ℕ) → Inside has t → Outside has (t ++ r) → ⊥
never_both has [] r h k = h
never_both has (c ∷ t) r h k = false≢true (sym k ∙ h)

never_either : (has : ℕ → Bool) (t r : List ℕ) → Outside has t → Inside has (t ++ r) → ⊥
never_either has [] r h k = h
never_either has (c ∷ t) r h k = false≢true (sym h ∙ k)

inside_append : (has : ℕ → Bool) (t r : List ℕ) → Inside has t → Inside has (t ++ r)
inside_append has [] r h = absurd h
inside_append has (c ∷ t) r h = h

digit_first : (t : List ℕ) → 0 < length t → AllByRecursion IsDigit t → Inside is_digit t
digit_first [] some all = absurd (omega arith)
digit_first (c ∷ t) some all = and_from _ _ (le-leb 48 c all.0.0) (le-leb c 57 all.0.1)

txn_inside : (txn : TxnId) (t : List ℕ) → IsTxnText txn t → Inside is_digit t
txn_inside txn t h =
    let fits : txn.site < 2 ^ 64 = omega (arith, h.allowed.site_fits) in
    let site = digit_first (decimal txn.site) (decimal_nonempty txn.site fits) (decimal_digits txn.site fits) in
    subst (Inside is_digit) (sym h.is) (inside_append is_digit (decimal txn.site) (46 ∷ (decimal txn.life ++ 46 ∷ decimal txn.seq)) site)

numbered_inside : (words : Call) (t : List ℕ) → NumberedParts words t → Inside is_digit t
numbered_inside words t h = subst (Inside is_digit) (sym h.parts) (inside_append is_digit h.front h.back (txn_inside h.first h.front h.before))

bare_outside : IsOutside is_digit BareParts
bare_outside = λ words t h. elim h [
  | inl b ↦ made_outside is_digit (codes "begin") refl words t b
  | inr r ↦ made_outside is_digit (codes "regroup") refl words t r
]

clear_bare : IsClear BareParts NumberedParts
clear_bare = λ a b t r l m. never_either is_digit t r (bare_outside a t l) (numbered_inside b (t ++ r) m)

clear_numbered : IsClear NumberedParts BareParts
clear_numbered = λ a b t r l m. never_both is_digit t r (numbered_inside a t l) (bare_outside b (t ++ r) m)

deed_outside : (txn : TxnId) (number : ℕ) → IsOutside is_digit (DeedParts txn number)
deed_outside txn number = λ words t h. elim h [
  | inl r ↦ literal_outside is_digit (codes " read ") refl words t r
  | inr c ↦ elim c [
    | inl w ↦ literal_outside is_digit (codes " write ") refl words t w
    | inr o ↦ elim o [
      | inl g ↦ literal_outside is_digit (codes " weigh ") refl words t g
      | inr v ↦ elim v [
        | inl d ↦ literal_outside is_digit (codes " delete ") refl words t d
        | inr e ↦ elim e [
          | inl m ↦ made_outside is_digit (codes " commit") refl words t m
          | inr a ↦ made_outside is_digit (codes " abort") refl words t a
        ]
      ]
    ]
  ]
]

-- ---- each is read exactly

begin_exact : Exact BeginParts begin_at
unfolding begin_at
begin_exact = made_exact (λ (u : Unit {0}). call.Begin) (literal_exact (codes "begin"))

regroup_exact : Exact RegroupParts regroup_at
unfolding regroup_at
regroup_exact = made_exact (λ (u : Unit {0}). call.Regroup) (literal_exact (codes "regroup"))

bare_exact : Exact BareParts bare_at
unfolding bare_at
bare_exact = either_exact clear_begin clear_regroup begin_exact regroup_exact

read_exact : (txn : TxnId) (number : ℕ) → Exact (ReadParts txn number) (read_at txn number)
unfolding read_at
read_exact txn number = literal_then (codes " read ") (made_exact (λ name. call.Read txn number name) (class_exact classes.Name))

write_exact : (txn : TxnId) (number : ℕ) → Exact (WriteParts txn number) (write_at txn number)
unfolding write_at
write_exact txn number =
    literal_then (codes " write ") (word_then (has classes.Name) (most classes.Name) 97 refl (omega arith) (λ name. literal_outside (has classes.Name) (32 ∷ []) refl)
    (λ name. literal_then (32 ∷ []) (made_exact (λ value. call.Write txn number name value) (class_exact classes.Value))))

delete_exact : (txn : TxnId) (number : ℕ) → Exact (DeleteParts txn number) (delete_at txn number)
unfolding delete_at
delete_exact txn number = literal_then (codes " delete ") (made_exact (λ name. call.Delete txn number name) (class_exact classes.Name))

commit_exact : (txn : TxnId) (number : ℕ) → Exact (CommitParts txn number) (commit_at txn number)
unfolding commit_at
commit_exact txn number = made_exact (λ (u : Unit {0}). call.Commit txn number) (literal_exact (codes " commit"))

abort_exact : (txn : TxnId) (number : ℕ) → Exact (AbortParts txn number) (abort_at txn number)
unfolding abort_at
abort_exact txn number = made_exact (λ (u : Unit {0}). call.Abort txn number) (literal_exact (codes " abort"))

ending_exact : (txn : TxnId) (number : ℕ) → Exact (EndingParts txn number) (ending_at txn number)
unfolding ending_at
ending_exact txn number = either_exact (clear_commit txn number) (clear_abort txn number) (commit_exact txn number) (abort_exact txn number)

removal_exact : (txn : TxnId) (number : ℕ) → Exact (RemovalParts txn number) (removal_at txn number)
unfolding removal_at
removal_exact txn number = either_exact (clear_delete txn number) (clear_ending txn number) (delete_exact txn number) (ending_exact txn number)

weigh_exact : (txn : TxnId) (number : ℕ) → Exact (WeighParts txn number) (weigh_at txn number)
unfolding weigh_at
weigh_exact txn number =
    literal_then (codes " weigh ") (word_then (has classes.Name) (most classes.Name) 97 refl (omega arith) (λ name words t m. table_outside (has classes.Name) refl m.from t m.spelled)
    (λ name. made_exact (λ table. call.Weigh txn number name table) table_exact))

other_change_exact : (txn : TxnId) (number : ℕ) → Exact (OtherChangeParts txn number) (other_change_at txn number)
unfolding other_change_at
other_change_exact txn number = either_exact (clear_weigh txn number) (clear_removal txn number) (weigh_exact txn number) (removal_exact txn number)

change_exact : (txn : TxnId) (number : ℕ) → Exact (ChangeParts txn number) (change_at txn number)
unfolding change_at
change_exact txn number = either_exact (clear_write txn number) (clear_other_change txn number) (write_exact txn number) (other_change_exact txn number)

deed_exact : (txn : TxnId) (number : ℕ) → Exact (DeedParts txn number) (deed_at txn number)
unfolding deed_at
deed_exact txn number = either_exact (clear_read txn number) (clear_change txn number) (read_exact txn number) (change_exact txn number)

numbered_exact : Exact NumberedParts numbered_at
unfolding numbered_at
numbered_exact =
    then_exact (follows_from is_digit txn_goes (λ txn. literal_outside is_digit (32 ∷ []) refl)) txn_exact
    (λ txn. literal_then (32 ∷ []) (number_then 1 (2 ^ 32 - 1) (omega arith) (omega arith) (λ number. deed_outside txn number) (λ number. deed_exact txn number)))

-- ---- the parts are the call's text

-- the text of a transaction and a number
abbrev Named : TxnId → ℕ → List ℕ → List ℕ → Type 0
Named txn number deed text = IsNumbered txn number × (text ≡ (txn_text txn ++ 32 ∷ decimal number) ++ deed)

named : (words : Call) (t : List ℕ) (h : NumberedParts words t) → Named h.first h.after.after.first h.after.after.back t
named words t h =
    let n = h.after.after.before in (
      record { txn_is = h.before.allowed; some = n.above; fits = omega (arith, n.below) },
      h.parts ∙ rw (h.before.is, h.after.parts, h.after.before, h.after.after.parts, n.is) (sym (append_assoc (txn_text h.first) (32 ∷ decimal h.after.after.first) h.after.after.back)),
    )

word_self : {has : ℕ → Bool} {most : ℕ} (word t : List ℕ) → IsWord has most word t → IsWord has most word word
word_self {has = has} {most = most} word t h = subst (λ (x : List ℕ). IsWord has most word x) (sym h.is) h

bare_to : (words : Call) (t : List ℕ) → BareParts words t → IsCallText words t
bare_to words t h = elim h [
  | inl b ↦ subst (λ (w : Call). IsCallText w t) (sym b.is) (record { is = b.spelled; allowed = tt })
  | inr r ↦ subst (λ (w : Call). IsCallText w t) (sym r.is) (record { is = r.spelled; allowed = tt })
]

deed_to : (txn : TxnId) (number : ℕ) (words : Call) (deed t : List ℕ) → Named txn number deed t → DeedParts txn number words deed → IsCallText words t
deed_to txn number words deed t n h = elim h [
  | inl r ↦
      let v = r.after in
      subst (λ (w : Call). IsCallText w t) (sym v.is) (record { is = n.1 ∙ rw (r.parts, r.before, ← v.spelled.is) refl; allowed = (n.0, word_self v.from r.back v.spelled) })
  | inr c ↦ elim c [
    | inl w ↦
        let name = w.after in
        let v = name.after.after in
        subst (λ (w : Call). IsCallText w t) (sym v.is) (record {
          is = n.1 ∙ rw (w.parts, w.before, name.parts, ← name.before.is, name.after.parts, name.after.before, ← v.spelled.is) refl;
          allowed = (n.0, word_self name.first name.front name.before, word_self v.from name.after.back v.spelled);
        })
    | inr o ↦ elim o [
      | inl g ↦
          let name = g.after in
          let v = name.after in
          subst (λ (w : Call). IsCallText w t) (sym v.is) (record {
            is = n.1 ∙ rw (g.parts, g.before, name.parts, ← name.before.is, v.spelled.1) refl;
            allowed = (n.0, word_self name.first name.front name.before, v.spelled.0);
          })
      | inr v ↦ elim v [
        | inl d ↦
            let v = d.after in
            subst (λ (w : Call). IsCallText w t) (sym v.is) (record { is = n.1 ∙ rw (d.parts, d.before, ← v.spelled.is) refl; allowed = (n.0, word_self v.from d.back v.spelled) })
        | inr e ↦ elim e [
          | inl m ↦ subst (λ (w : Call). IsCallText w t) (sym m.is) (record { is = n.1 ∙ rw m.spelled refl; allowed = n.0 })
          | inr a ↦ subst (λ (w : Call). IsCallText w t) (sym a.is) (record { is = n.1 ∙ rw a.spelled refl; allowed = n.0 })
        ]
      ]
    ]
  ]
]

call_to : (words : Call) (t : List ℕ) → CallParts words t → IsCallText words t
call_to words t h = elim h [
  | inl b ↦ bare_to words t b
  | inr n ↦ deed_to n.first n.after.after.first words n.after.after.back t (named words t n) n.after.after.after
]

numbered_from : (txn : TxnId) (number : ℕ) (words : Call) (deed t : List ℕ) → Named txn number deed t → DeedParts txn number words deed → NumberedParts words t
numbered_from txn number words deed t n h = record {
  first = txn;
  front = txn_text txn;
  back = 32 ∷ (decimal number ++ deed);
  before = record { is = refl; allowed = n.0.txn_is };
  parts = n.1 ∙ append_assoc (txn_text txn) (32 ∷ decimal number) deed;
  after = record {
    first = tt;
    front = 32 ∷ [];
    back = decimal number ++ deed;
    before = refl;
    parts = refl;
    after = record {
      first = number;
      front = decimal number;
      back = deed;
      before = record { is = refl; above = n.0.some; below = omega (arith, n.0.fits) };
      after = h;
      parts = refl;
    };
  };
}

call_from : (words : Call) (t : List ℕ) → IsCallText words t → CallParts words t
call_from call.Begin t h = inl (inl (record { from = tt; spelled = h.is; is = refl }))
call_from call.Regroup t h = inl (inr (record { from = tt; spelled = h.is; is = refl }))
call_from (call.Read txn number name) t h =
    inr (numbered_from txn number (call.Read txn number name) (codes " read " ++ name) t (h.allowed.0, h.is)
    (inl (record { first = tt; front = codes " read "; back = name; before = refl; parts = refl; after = record { from = name; spelled = h.allowed.1; is = refl } })))
call_from (call.Write txn number name value) t h =
    inr (numbered_from txn number (call.Write txn number name value) (codes " write " ++ (name ++ 32 ∷ value)) t (h.allowed.0, h.is)
    (inr (inl (record {
      first = tt;
      front = codes " write ";
      back = name ++ 32 ∷ value;
      before = refl;
      parts = refl;
      after = record {
        first = name;
        front = name;
        back = 32 ∷ value;
        before = h.allowed.1;
        parts = refl;
        after = record { first = tt; front = 32 ∷ []; back = value; before = refl; parts = refl; after = record { from = value; spelled = h.allowed.2; is = refl } };
      };
    }))))
call_from (call.Delete txn number name) t h =
    inr (numbered_from txn number (call.Delete txn number name) (codes " delete " ++ name) t (h.allowed.0, h.is)
    (inr (inr (inr (inl (record { first = tt; front = codes " delete "; back = name; before = refl; parts = refl; after = record { from = name; spelled = h.allowed.1; is = refl } }))))))
call_from (call.Weigh txn number name table) t h =
    inr (numbered_from txn number (call.Weigh txn number name table) (codes " weigh " ++ (name ++ table_text table)) t (h.allowed.0, h.is)
    (inr (inr (inl (record {
      first = tt;
      front = codes " weigh ";
      back = name ++ table_text table;
      before = refl;
      parts = refl;
      after = record {
        first = name;
        front = name;
        back = table_text table;
        before = h.allowed.1;
        parts = refl;
        after = record { from = table; spelled = (h.allowed.2, refl); is = refl };
      };
    })))))
call_from (call.Commit txn number) t h =
    inr (numbered_from txn number (call.Commit txn number) (codes " commit") t (h.allowed, h.is) (inr (inr (inr (inr (inl (record { from = tt; spelled = refl; is = refl })))))))
call_from (call.Abort txn number) t h =
    inr (numbered_from txn number (call.Abort txn number) (codes " abort") t (h.allowed, h.is) (inr (inr (inr (inr (inr (record { from = tt; spelled = refl; is = refl })))))))

pub call_exact : Exact IsCallText call_at
unfolding call_at
call_exact = exact_as call_to call_from (either_exact clear_bare clear_numbered bare_exact numbered_exact)

-- any byte but a newline
abbrev pub in_line : ℕ → Bool
in_line c = not (eqb c 10)
