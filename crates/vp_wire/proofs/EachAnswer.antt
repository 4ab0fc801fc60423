-- The fields of an answer are read exactly, by the version and its kind.
use Rattle.std.proofs.Common.{◌≡◌, ℕ, ◌<◌, ◌^◌, List, [], ◌∷◌, Some, refl, sym, subst}
use Rattle.vp_text.proofs.Exact.{Exact, Made, made_exact}
use Rattle.vp_base.specs.Words.{IsName}
use Rattle.vp_base.specs.Identifiers.{IsView, IsTxn}
use Rattle.vp_base.specs.declared.ids.TxnId.{TxnId}
use Rattle.vp_base.specs.declared.answer.Answer.{Answer}
use Rattle.vp_base.specs.declared.answer.Answer.TheVariants as answer
use Rattle.vp_wire.specs.declared.kind.AnswerKind.{AnswerKind}
use Rattle.vp_wire.specs.declared.kind.AnswerKind.TheVariants as kinds
use Rattle.vp_bytes.specs.Fields.{Spelled, number_bytes, view_bytes, txn_bytes, numbered_bytes, counted_bytes, owner_bytes, maybe_view_bytes, IsSite, IsOwner, IsMaybeView}
use Rattle.vp_wire.specs.Grammar.{answer_fields, IsAnswer}
use Rattle.vp_base.specs.Calls.{IsNumbered}
use Rattle.vp_wire.specs.Answers.{answer_at}
use Rattle.vp_bytes.proofs.Codes.{Nothing, nothing_exact}
use Rattle.vp_wire.specs.Kinds.{answer_code, answer_kind, kind_of_answer}
use Rattle.vp_wire.proofs.Codes.{later_answer}
use Rattle.vp_contents.specs.Values.{value_bytes, IsValueIn}
use Rattle.vp_contents.specs.declared.version.Version.{Version}
use Rattle.vp_contents.proofs.ValuesExact.{value_exact}
use Rattle.vp_bytes.proofs.Pairs.{pair_bytes, PairAllowed, then_field}
use Rattle.vp_bytes.proofs.Identifiers.{view_exact, txn_exact, txn_free, numbered_exact}
use Rattle.vp_bytes.proofs.Marked.{owner_exact, maybe_view_exact}
use Rattle.vp_bytes.proofs.Singles.{view_free, numbered_free, site_exact, site_free, number4_exact, number4_free, number8_exact}
use Rattle.vp_bytes.proofs.Items.{name_exact, name_free}

module _ (version : Version) where
  -- the fields of an answer of this kind
  abbrev pub AnswerOf : AnswerKind → Answer → List ℕ → Type 0
  AnswerOf kinds.Begun = Made (Spelled (pair_bytes txn_bytes view_bytes) (PairAllowed IsTxn IsView)) (λ p. answer.Begun p.0 p.1)
  AnswerOf kinds.Value = Made (Spelled (pair_bytes (λ (numbered : TxnId × ℕ). numbered_bytes numbered.0 numbered.1) (value_bytes version)) (PairAllowed (λ (numbered : TxnId × ℕ). IsNumbered numbered.0 numbered.1) (IsValueIn version))) (λ p. answer.Value p.0.0 p.0.1 p.1)
  AnswerOf kinds.Written = Made (Spelled (λ (numbered : TxnId × ℕ). numbered_bytes numbered.0 numbered.1) (λ (numbered : TxnId × ℕ). IsNumbered numbered.0 numbered.1)) (λ p. answer.Written p.0 p.1)
  AnswerOf kinds.Committed = Made (Spelled (λ (numbered : TxnId × ℕ). numbered_bytes numbered.0 numbered.1) (λ (numbered : TxnId × ℕ). IsNumbered numbered.0 numbered.1)) (λ p. answer.Committed p.0 p.1)
  AnswerOf kinds.Aborted = Made (Spelled (λ (numbered : TxnId × ℕ). numbered_bytes numbered.0 numbered.1) (λ (numbered : TxnId × ℕ). IsNumbered numbered.0 numbered.1)) (λ p. answer.Aborted p.0 p.1)
  AnswerOf kinds.Inviting = Made (Spelled view_bytes IsView) (λ p. answer.Inviting p)
  AnswerOf kinds.NoView = Made (Spelled view_bytes IsView) (λ p. answer.NoView p)
  AnswerOf kinds.Unknown = Made (Spelled txn_bytes IsTxn) (λ p. answer.Unknown p)
  AnswerOf kinds.Skipped = Made (Spelled (λ (numbered : TxnId × ℕ). numbered_bytes numbered.0 numbered.1) (λ (numbered : TxnId × ℕ). IsNumbered numbered.0 numbered.1)) (λ p. answer.Skipped p.0 p.1)
  AnswerOf kinds.Busy = Made (Spelled (λ (numbered : TxnId × ℕ). numbered_bytes numbered.0 numbered.1) (λ (numbered : TxnId × ℕ). IsNumbered numbered.0 numbered.1)) (λ p. answer.Busy p.0 p.1)
  AnswerOf kinds.NoRecord = Made (Spelled (λ (numbered : TxnId × ℕ). numbered_bytes numbered.0 numbered.1) (λ (numbered : TxnId × ℕ). IsNumbered numbered.0 numbered.1)) (λ p. answer.NoRecord p.0 p.1)
  AnswerOf kinds.TooManyOps = Made (Spelled (λ (numbered : TxnId × ℕ). numbered_bytes numbered.0 numbered.1) (λ (numbered : TxnId × ℕ). IsNumbered numbered.0 numbered.1)) (λ p. answer.TooManyOps p.0 p.1)
  AnswerOf kinds.Inaccessible = Made (Spelled (pair_bytes (λ (numbered : TxnId × ℕ). numbered_bytes numbered.0 numbered.1) (pair_bytes counted_bytes (pair_bytes (λ (number : ℕ). number_bytes 4 number) (λ (number : ℕ). number_bytes 4 number)))) (PairAllowed (λ (numbered : TxnId × ℕ). IsNumbered numbered.0 numbered.1) (PairAllowed (λ (name : List ℕ). IsName name name) (PairAllowed (λ (number : ℕ). number < 2 ^ 32) (λ (number : ℕ). number < 2 ^ 32))))) (λ p. answer.Inaccessible p.0.0 p.0.1 p.1.0 p.1.1.0 p.1.1.1)
  AnswerOf kinds.LockHeld = Made (Spelled (pair_bytes (λ (numbered : TxnId × ℕ). numbered_bytes numbered.0 numbered.1) (pair_bytes counted_bytes (pair_bytes (λ (site : ℕ). site ∷ []) owner_bytes))) (PairAllowed (λ (numbered : TxnId × ℕ). IsNumbered numbered.0 numbered.1) (PairAllowed (λ (name : List ℕ). IsName name name) (PairAllowed IsSite IsOwner)))) (λ p. answer.LockHeld p.0.0 p.0.1 p.1.0 p.1.1.0 p.1.1.1)
  AnswerOf kinds.ViewChanged = Made (Spelled (pair_bytes (λ (numbered : TxnId × ℕ). numbered_bytes numbered.0 numbered.1) (pair_bytes (λ (site : ℕ). site ∷ []) (pair_bytes view_bytes maybe_view_bytes))) (PairAllowed (λ (numbered : TxnId × ℕ). IsNumbered numbered.0 numbered.1) (PairAllowed IsSite (PairAllowed IsView IsMaybeView)))) (λ p. answer.ViewChanged p.0.0 p.0.1 p.1.0 p.1.1.0 p.1.1.1)
  AnswerOf kinds.TimedOut = Made (Spelled (pair_bytes (λ (numbered : TxnId × ℕ). numbered_bytes numbered.0 numbered.1) (λ (site : ℕ). site ∷ [])) (PairAllowed (λ (numbered : TxnId × ℕ). IsNumbered numbered.0 numbered.1) IsSite)) (λ p. answer.TimedOut p.0.0 p.0.1 p.1)
  AnswerOf kinds.Spent = Made (Spelled (λ (number : ℕ). number_bytes 8 number) (λ (number : ℕ). number < 2 ^ 64)) (λ p. answer.Spent p)
  AnswerOf kinds.TooManyLive = Nothing answer.TooManyLive
  AnswerOf kinds.Absent = Made (Spelled (λ (numbered : TxnId × ℕ). numbered_bytes numbered.0 numbered.1) (λ (numbered : TxnId × ℕ). IsNumbered numbered.0 numbered.1)) (λ p. answer.Absent p.0 p.1)
  AnswerOf kinds.Deleted = Made (Spelled (λ (numbered : TxnId × ℕ). numbered_bytes numbered.0 numbered.1) (λ (numbered : TxnId × ℕ). IsNumbered numbered.0 numbered.1)) (λ p. answer.Deleted p.0 p.1)
  AnswerOf kinds.Weighed = Made (Spelled (λ (numbered : TxnId × ℕ). numbered_bytes numbered.0 numbered.1) (λ (numbered : TxnId × ℕ). IsNumbered numbered.0 numbered.1)) (λ p. answer.Weighed p.0 p.1)
  AnswerOf kinds.BadTable = Made (Spelled (λ (numbered : TxnId × ℕ). numbered_bytes numbered.0 numbered.1) (λ (numbered : TxnId × ℕ). IsNumbered numbered.0 numbered.1)) (λ p. answer.BadTable p.0 p.1)

  pub answer_fields_exact : (kind : AnswerKind) → Exact (AnswerOf kind) (answer_at version kind)
  unfolding answer_at
  answer_fields_exact kinds.Begun = then_field (λ txn p. answer.Begun txn p) txn_free txn_exact (λ txn. made_exact (λ view. answer.Begun txn view) view_exact)
  answer_fields_exact kinds.Value = then_field (λ numbered p. answer.Value numbered.0 numbered.1 p) numbered_free numbered_exact (λ numbered. made_exact (λ value. answer.Value numbered.0 numbered.1 value) (value_exact version))
  answer_fields_exact kinds.Written = made_exact (λ numbered. answer.Written numbered.0 numbered.1) numbered_exact
  answer_fields_exact kinds.Committed = made_exact (λ numbered. answer.Committed numbered.0 numbered.1) numbered_exact
  answer_fields_exact kinds.Aborted = made_exact (λ numbered. answer.Aborted numbered.0 numbered.1) numbered_exact
  answer_fields_exact kinds.Inviting = made_exact (λ view. answer.Inviting view) view_exact
  answer_fields_exact kinds.NoView = made_exact (λ promise. answer.NoView promise) view_exact
  answer_fields_exact kinds.Unknown = made_exact (λ txn. answer.Unknown txn) txn_exact
  answer_fields_exact kinds.Skipped = made_exact (λ numbered. answer.Skipped numbered.0 numbered.1) numbered_exact
  answer_fields_exact kinds.Busy = made_exact (λ numbered. answer.Busy numbered.0 numbered.1) numbered_exact
  answer_fields_exact kinds.NoRecord = made_exact (λ numbered. answer.NoRecord numbered.0 numbered.1) numbered_exact
  answer_fields_exact kinds.TooManyOps = made_exact (λ numbered. answer.TooManyOps numbered.0 numbered.1) numbered_exact
  answer_fields_exact kinds.Inaccessible = then_field (λ numbered p. answer.Inaccessible numbered.0 numbered.1 p.0 p.1.0 p.1.1) numbered_free numbered_exact (λ numbered. then_field (λ name p. answer.Inaccessible numbered.0 numbered.1 name p.0 p.1) name_free name_exact (λ name. then_field (λ inside p. answer.Inaccessible numbered.0 numbered.1 name inside p) number4_free number4_exact (λ inside. made_exact (λ total. answer.Inaccessible numbered.0 numbered.1 name inside total) number4_exact)))
  answer_fields_exact kinds.LockHeld = then_field (λ numbered p. answer.LockHeld numbered.0 numbered.1 p.0 p.1.0 p.1.1) numbered_free numbered_exact (λ numbered. then_field (λ name p. answer.LockHeld numbered.0 numbered.1 name p.0 p.1) name_free name_exact (λ name. then_field (λ at p. answer.LockHeld numbered.0 numbered.1 name at p) site_free site_exact (λ at. made_exact (λ owner. answer.LockHeld numbered.0 numbered.1 name at owner) owner_exact)))
  answer_fields_exact kinds.ViewChanged = then_field (λ numbered p. answer.ViewChanged numbered.0 numbered.1 p.0 p.1.0 p.1.1) numbered_free numbered_exact (λ numbered. then_field (λ at p. answer.ViewChanged numbered.0 numbered.1 at p.0 p.1) site_free site_exact (λ at. then_field (λ held p. answer.ViewChanged numbered.0 numbered.1 at held p) view_free view_exact (λ held. made_exact (λ now. answer.ViewChanged numbered.0 numbered.1 at held now) maybe_view_exact)))
  answer_fields_exact kinds.TimedOut = then_field (λ numbered p. answer.TimedOut numbered.0 numbered.1 p) numbered_free numbered_exact (λ numbered. made_exact (λ at. answer.TimedOut numbered.0 numbered.1 at) site_exact)
  answer_fields_exact kinds.Spent = made_exact (λ number. answer.Spent number) number8_exact
  answer_fields_exact kinds.TooManyLive = nothing_exact answer.TooManyLive
  answer_fields_exact kinds.Absent = made_exact (λ numbered. answer.Absent numbered.0 numbered.1) numbered_exact
  answer_fields_exact kinds.Deleted = made_exact (λ numbered. answer.Deleted numbered.0 numbered.1) numbered_exact
  answer_fields_exact kinds.Weighed = made_exact (λ numbered. answer.Weighed numbered.0 numbered.1) numbered_exact
  answer_fields_exact kinds.BadTable = made_exact (λ numbered. answer.BadTable numbered.0 numbered.1) numbered_exact

  -- The answer is one of this kind, with these fields.
  abbrev pub IsAnswerOf : AnswerKind → Answer → List ℕ → Type 0
  IsAnswerOf kind m text = (kind_of_answer m ≡ kind) × (text ≡ answer_fields version m) × IsAnswer version m

  pub answer_to : (kind : AnswerKind) (m : Answer) (t : List ℕ) → answer_kind version (answer_code kind) ≡ Some kind → AnswerOf kind m t → IsAnswerOf kind m t
  answer_to kinds.Begun m t found h = subst (λ (m : Answer). IsAnswerOf kinds.Begun m t) (sym h.is) (refl, h.spelled.is, (h.spelled.allowed.0, h.spelled.allowed.1))
  answer_to kinds.Value m t found h = subst (λ (m : Answer). IsAnswerOf kinds.Value m t) (sym h.is) (refl, h.spelled.is, (h.spelled.allowed.0, h.spelled.allowed.1))
  answer_to kinds.Written m t found h = subst (λ (m : Answer). IsAnswerOf kinds.Written m t) (sym h.is) (refl, h.spelled.is, h.spelled.allowed)
  answer_to kinds.Committed m t found h = subst (λ (m : Answer). IsAnswerOf kinds.Committed m t) (sym h.is) (refl, h.spelled.is, h.spelled.allowed)
  answer_to kinds.Aborted m t found h = subst (λ (m : Answer). IsAnswerOf kinds.Aborted m t) (sym h.is) (refl, h.spelled.is, h.spelled.allowed)
  answer_to kinds.Inviting m t found h = subst (λ (m : Answer). IsAnswerOf kinds.Inviting m t) (sym h.is) (refl, h.spelled.is, h.spelled.allowed)
  answer_to kinds.NoView m t found h = subst (λ (m : Answer). IsAnswerOf kinds.NoView m t) (sym h.is) (refl, h.spelled.is, h.spelled.allowed)
  answer_to kinds.Unknown m t found h = subst (λ (m : Answer). IsAnswerOf kinds.Unknown m t) (sym h.is) (refl, h.spelled.is, h.spelled.allowed)
  answer_to kinds.Skipped m t found h = subst (λ (m : Answer). IsAnswerOf kinds.Skipped m t) (sym h.is) (refl, h.spelled.is, h.spelled.allowed)
  answer_to kinds.Busy m t found h = subst (λ (m : Answer). IsAnswerOf kinds.Busy m t) (sym h.is) (refl, h.spelled.is, h.spelled.allowed)
  answer_to kinds.NoRecord m t found h = subst (λ (m : Answer). IsAnswerOf kinds.NoRecord m t) (sym h.is) (refl, h.spelled.is, h.spelled.allowed)
  answer_to kinds.TooManyOps m t found h = subst (λ (m : Answer). IsAnswerOf kinds.TooManyOps m t) (sym h.is) (refl, h.spelled.is, h.spelled.allowed)
  answer_to kinds.Inaccessible m t found h = subst (λ (m : Answer). IsAnswerOf kinds.Inaccessible m t) (sym h.is) (refl, h.spelled.is, (h.spelled.allowed.0, h.spelled.allowed.1.0, h.spelled.allowed.1.1.0, h.spelled.allowed.1.1.1))
  answer_to kinds.LockHeld m t found h = subst (λ (m : Answer). IsAnswerOf kinds.LockHeld m t) (sym h.is) (refl, h.spelled.is, (h.spelled.allowed.0, h.spelled.allowed.1.0, h.spelled.allowed.1.1.0, h.spelled.allowed.1.1.1))
  answer_to kinds.ViewChanged m t found h = subst (λ (m : Answer). IsAnswerOf kinds.ViewChanged m t) (sym h.is) (refl, h.spelled.is, (h.spelled.allowed.0, h.spelled.allowed.1.0, h.spelled.allowed.1.1.0, h.spelled.allowed.1.1.1))
  answer_to kinds.TimedOut m t found h = subst (λ (m : Answer). IsAnswerOf kinds.TimedOut m t) (sym h.is) (refl, h.spelled.is, (h.spelled.allowed.0, h.spelled.allowed.1))
  answer_to kinds.Spent m t found h = subst (λ (m : Answer). IsAnswerOf kinds.Spent m t) (sym h.is) (refl, h.spelled.is, h.spelled.allowed)
  answer_to kinds.TooManyLive m t found h = rw (h.0, h.1) (refl, refl, tt)
  answer_to kinds.Absent m t found h = subst (λ (m : Answer). IsAnswerOf kinds.Absent m t) (sym h.is) (refl, h.spelled.is, (later_answer version kinds.Absent refl found, h.spelled.allowed))
  answer_to kinds.Deleted m t found h = subst (λ (m : Answer). IsAnswerOf kinds.Deleted m t) (sym h.is) (refl, h.spelled.is, (later_answer version kinds.Deleted refl found, h.spelled.allowed))
  answer_to kinds.Weighed m t found h = subst (λ (m : Answer). IsAnswerOf kinds.Weighed m t) (sym h.is) (refl, h.spelled.is, (later_answer version kinds.Weighed refl found, h.spelled.allowed))
  answer_to kinds.BadTable m t found h = subst (λ (m : Answer). IsAnswerOf kinds.BadTable m t) (sym h.is) (refl, h.spelled.is, (later_answer version kinds.BadTable refl found, h.spelled.allowed))

  pub answer_from : (m : Answer) → IsAnswer version m → AnswerOf (kind_of_answer m) m (answer_fields version m)
  answer_from (answer.Begun txn view) a = record { from = (txn, view); spelled = record { is = refl; allowed = (a.0, a.1) }; is = refl }
  answer_from (answer.Value txn number value) a = record { from = ((txn, number), value); spelled = record { is = refl; allowed = (a.0, a.1) }; is = refl }
  answer_from (answer.Written txn number) a = record { from = (txn, number); spelled = record { is = refl; allowed = a }; is = refl }
  answer_from (answer.Committed txn number) a = record { from = (txn, number); spelled = record { is = refl; allowed = a }; is = refl }
  answer_from (answer.Aborted txn number) a = record { from = (txn, number); spelled = record { is = refl; allowed = a }; is = refl }
  answer_from (answer.Inviting view) a = record { from = view; spelled = record { is = refl; allowed = a }; is = refl }
  answer_from (answer.NoView promise) a = record { from = promise; spelled = record { is = refl; allowed = a }; is = refl }
  answer_from (answer.Unknown txn) a = record { from = txn; spelled = record { is = refl; allowed = a }; is = refl }
  answer_from (answer.Skipped txn expected) a = record { from = (txn, expected); spelled = record { is = refl; allowed = a }; is = refl }
  answer_from (answer.Busy txn number) a = record { from = (txn, number); spelled = record { is = refl; allowed = a }; is = refl }
  answer_from (answer.NoRecord txn number) a = record { from = (txn, number); spelled = record { is = refl; allowed = a }; is = refl }
  answer_from (answer.TooManyOps txn number) a = record { from = (txn, number); spelled = record { is = refl; allowed = a }; is = refl }
  answer_from (answer.Inaccessible txn number name inside total) a = record { from = ((txn, number), (name, (inside, total))); spelled = record { is = refl; allowed = (a.0, (a.1, (a.2, a.3))) }; is = refl }
  answer_from (answer.LockHeld txn number name at owner) a = record { from = ((txn, number), (name, (at, owner))); spelled = record { is = refl; allowed = (a.0, (a.1, (a.2, a.3))) }; is = refl }
  answer_from (answer.ViewChanged txn number at held now) a = record { from = ((txn, number), (at, (held, now))); spelled = record { is = refl; allowed = (a.0, (a.1, (a.2, a.3))) }; is = refl }
  answer_from (answer.TimedOut txn number at) a = record { from = ((txn, number), at); spelled = record { is = refl; allowed = (a.0, a.1) }; is = refl }
  answer_from (answer.Spent number) a = record { from = number; spelled = record { is = refl; allowed = a }; is = refl }
  answer_from answer.TooManyLive a = (refl, refl)
  answer_from (answer.Absent txn number) a = record { from = (txn, number); spelled = record { is = refl; allowed = a.1 }; is = refl }
  answer_from (answer.Deleted txn number) a = record { from = (txn, number); spelled = record { is = refl; allowed = a.1 }; is = refl }
  answer_from (answer.Weighed txn number) a = record { from = (txn, number); spelled = record { is = refl; allowed = a.1 }; is = refl }
  answer_from (answer.BadTable txn number) a = record { from = (txn, number); spelled = record { is = refl; allowed = a.1 }; is = refl }
