-- The fields of a log record are read exactly, by its kind.
use Rattle.std.proofs.Common.{◌≡◌, ℕ, ◌<◌, ◌^◌, Bool, List, [], ◌∷◌, refl, sym, subst, arith}
use Rattle.vp_text.proofs.Exact.{Exact, Made, made_exact, one_value}
use Rattle.vp_base.specs.Identifiers.{IsView, IsTxn}
use Rattle.vp_base.specs.declared.entry.LogRecord.{LogRecord}
use Rattle.vp_base.specs.declared.entry.LogRecord.TheVariants as log_record
use Rattle.vp_bytes.specs.Fields.{Spelled, number_bytes, view_bytes, txn_bytes, counted_bytes, outcome_byte, IsRecord, IsSite, IsSites}
use Rattle.vp_bytes.proofs.Free.{IsFree, made_free}
use Rattle.vp_bytes.proofs.Pairs.{pair_bytes, PairAllowed, then_field, pair_free}
use Rattle.vp_bytes.proofs.Identifiers.{view_exact, txn_exact, txn_free}
use Rattle.vp_bytes.proofs.Singles.{view_free, site_exact, site_free, rec_exact, rec_free, number4_exact, number4_free, number8_exact, number8_free, outcome_exact, outcome_free}
use Rattle.vp_contents.proofs.ChangesExact.{writes_exact, writes_free}
use Rattle.vp_contents.proofs.CopiesExact.{stored_exact, stored_free, copies_exact, copies_free}
use Rattle.vp_contents.proofs.DoubtsExact.{doubts_exact, doubts_free}
use Rattle.vp_bytes.proofs.DecisionsExact.{decisions_exact, decisions_free}
use Rattle.vp_bytes.proofs.Items.{sites_exact, sites_free}
use Rattle.vp_records.specs.declared.kind.RecordKind.{RecordKind}
use Rattle.vp_records.specs.declared.kind.RecordKind.TheVariants as kinds
use Rattle.vp_records.proofs.Codes.{kind_code}
use Rattle.vp_records.specs.Records.{record_code, record_fields, IsLogRecord}
use Rattle.vp_contents.specs.Changes.{writes_bytes, IsWrites}
use Rattle.vp_contents.specs.Copies.{stored_bytes, copies_bytes, IsStored, IsCopies}
use Rattle.vp_contents.specs.Doubts.{doubts_bytes, IsDoubts}
use Rattle.vp_contents.specs.declared.version.Version.TheVariants as versions
use Rattle.vp_bytes.specs.Decisions.{decisions_bytes, IsDecisions}
use Rattle.vp_records.specs.Reading.{fields_at}

-- the fields of a log record of this kind
abbrev pub RecordOf : RecordKind → LogRecord → List ℕ → Type 0
RecordOf kinds.Start = Made (Spelled (λ (life : ℕ). number_bytes 4 life) (λ (life : ℕ). life < 2 ^ 32)) (λ p. log_record.Start p)
RecordOf kinds.Promise = Made (Spelled view_bytes IsView) (λ p. log_record.Promise p)
RecordOf kinds.Yes = Made (Spelled (pair_bytes txn_bytes (pair_bytes view_bytes (writes_bytes versions.Second))) (PairAllowed IsTxn (PairAllowed IsView (IsWrites versions.Second)))) (λ p. log_record.Yes p.0 p.1.0 p.1.1)
RecordOf kinds.Outcome = Made (Spelled (pair_bytes txn_bytes (λ (commit : Bool). outcome_byte commit ∷ [])) (PairAllowed IsTxn (λ (commit : Bool). Unit {0}))) (λ p. log_record.Outcome p.0 p.1)
RecordOf kinds.Commit = Made (Spelled (pair_bytes txn_bytes (pair_bytes view_bytes (pair_bytes (writes_bytes versions.Second) counted_bytes))) (PairAllowed IsTxn (PairAllowed IsView (PairAllowed (IsWrites versions.Second) (IsSites 0))))) (λ p. log_record.Commit p.0 p.1.0 p.1.1.0 p.1.1.1)
RecordOf kinds.Copy = Made (Spelled (pair_bytes (λ (rec : ℕ). rec ∷ []) (stored_bytes versions.Second)) (PairAllowed IsRecord (IsStored versions.Second))) (λ p. log_record.Copy p.0 p.1)
RecordOf kinds.Acked = Made (Spelled (pair_bytes txn_bytes (λ (site : ℕ). site ∷ [])) (PairAllowed IsTxn IsSite)) (λ p. log_record.Acked p.0 p.1)
RecordOf kinds.Checkpoint =
    Made (Spelled (pair_bytes (λ (generation : ℕ). number_bytes 8 generation) (pair_bytes (λ (life : ℕ). number_bytes 4 life) (pair_bytes view_bytes (pair_bytes (copies_bytes versions.Second) (pair_bytes (doubts_bytes versions.Second) decisions_bytes))))) (PairAllowed (λ (generation : ℕ). generation < 2 ^ 64) (PairAllowed (λ (life : ℕ). life < 2 ^ 32) (PairAllowed IsView (PairAllowed (IsCopies versions.Second) (PairAllowed (IsDoubts versions.Second) IsDecisions))))))
    (λ p. log_record.Checkpoint p.0 p.1.0 p.1.1.0 p.1.1.1.0 p.1.1.1.1.0 p.1.1.1.1.1)
RecordOf kinds.YesOfValues = Made (Spelled (pair_bytes txn_bytes (pair_bytes view_bytes (writes_bytes versions.First))) (PairAllowed IsTxn (PairAllowed IsView (IsWrites versions.First)))) (λ p. log_record.YesOfValues p.0 p.1.0 p.1.1)
RecordOf kinds.CommitOfValues = Made (Spelled (pair_bytes txn_bytes (pair_bytes view_bytes (pair_bytes (writes_bytes versions.First) counted_bytes))) (PairAllowed IsTxn (PairAllowed IsView (PairAllowed (IsWrites versions.First) (IsSites 0))))) (λ p. log_record.CommitOfValues p.0 p.1.0 p.1.1.0 p.1.1.1)
RecordOf kinds.CopyOfValue = Made (Spelled (pair_bytes (λ (rec : ℕ). rec ∷ []) (stored_bytes versions.First)) (PairAllowed IsRecord (IsStored versions.First))) (λ p. log_record.CopyOfValue p.0 p.1)
RecordOf kinds.CheckpointOfValues =
    Made (Spelled (pair_bytes (λ (generation : ℕ). number_bytes 8 generation) (pair_bytes (λ (life : ℕ). number_bytes 4 life) (pair_bytes view_bytes (pair_bytes (copies_bytes versions.First) (pair_bytes (doubts_bytes versions.First) decisions_bytes))))) (PairAllowed (λ (generation : ℕ). generation < 2 ^ 64) (PairAllowed (λ (life : ℕ). life < 2 ^ 32) (PairAllowed IsView (PairAllowed (IsCopies versions.First) (PairAllowed (IsDoubts versions.First) IsDecisions))))))
    (λ p. log_record.CheckpointOfValues p.0 p.1.0 p.1.1.0 p.1.1.1.0 p.1.1.1.1.0 p.1.1.1.1.1)

pub fields_exact : (kind : RecordKind) → Exact (RecordOf kind) (fields_at kind)
unfolding fields_at
fields_exact kinds.Start = made_exact (λ life. log_record.Start life) number4_exact
fields_exact kinds.Promise = made_exact (λ view. log_record.Promise view) view_exact
fields_exact kinds.Yes = then_field (λ txn p. log_record.Yes txn p.0 p.1) txn_free txn_exact (λ txn. then_field (λ view p. log_record.Yes txn view p) view_free view_exact (λ view. made_exact (λ writes. log_record.Yes txn view writes) (writes_exact versions.Second)))
fields_exact kinds.Outcome = then_field (λ txn p. log_record.Outcome txn p) txn_free txn_exact (λ txn. made_exact (λ commit. log_record.Outcome txn commit) outcome_exact)
fields_exact kinds.Commit =
    then_field (λ txn p. log_record.Commit txn p.0 p.1.0 p.1.1) txn_free txn_exact (λ txn. then_field (λ view p. log_record.Commit txn view p.0 p.1) view_free view_exact (λ view. then_field (λ writes p. log_record.Commit txn view writes p) (writes_free versions.Second) (writes_exact versions.Second) (λ writes. made_exact (λ waiting. log_record.Commit txn view writes waiting) (sites_exact 0 (omega arith)))))
fields_exact kinds.Copy = then_field (λ rec stored. log_record.Copy rec stored) rec_free rec_exact (λ rec. made_exact (λ stored. log_record.Copy rec stored) (stored_exact versions.Second))
fields_exact kinds.Acked = then_field (λ txn p. log_record.Acked txn p) txn_free txn_exact (λ txn. made_exact (λ site. log_record.Acked txn site) site_exact)
fields_exact kinds.Checkpoint =
    then_field (λ generation p. log_record.Checkpoint generation p.0 p.1.0 p.1.1.0 p.1.1.1.0 p.1.1.1.1) number8_free number8_exact (λ generation. then_field (λ life p. log_record.Checkpoint generation life p.0 p.1.0 p.1.1.0 p.1.1.1) number4_free number4_exact (λ life. then_field (λ promise p. log_record.Checkpoint generation life promise p.0 p.1.0 p.1.1) view_free view_exact (λ promise.
    then_field (λ copies p. log_record.Checkpoint generation life promise copies p.0 p.1) (copies_free versions.Second) (copies_exact versions.Second) (λ copies. then_field (λ doubts p. log_record.Checkpoint generation life promise copies doubts p) (doubts_free versions.Second) (doubts_exact versions.Second) (λ doubts. made_exact (λ decisions. log_record.Checkpoint generation life promise copies doubts decisions) decisions_exact)))))
fields_exact kinds.YesOfValues = then_field (λ txn p. log_record.YesOfValues txn p.0 p.1) txn_free txn_exact (λ txn. then_field (λ view p. log_record.YesOfValues txn view p) view_free view_exact (λ view. made_exact (λ writes. log_record.YesOfValues txn view writes) (writes_exact versions.First)))
fields_exact kinds.CommitOfValues =
    then_field (λ txn p. log_record.CommitOfValues txn p.0 p.1.0 p.1.1) txn_free txn_exact (λ txn. then_field (λ view p. log_record.CommitOfValues txn view p.0 p.1) view_free view_exact (λ view. then_field (λ writes p. log_record.CommitOfValues txn view writes p) (writes_free versions.First) (writes_exact versions.First) (λ writes. made_exact (λ waiting. log_record.CommitOfValues txn view writes waiting) (sites_exact 0 (omega arith)))))
fields_exact kinds.CopyOfValue = then_field (λ rec stored. log_record.CopyOfValue rec stored) rec_free rec_exact (λ rec. made_exact (λ stored. log_record.CopyOfValue rec stored) (stored_exact versions.First))
fields_exact kinds.CheckpointOfValues =
    then_field (λ generation p. log_record.CheckpointOfValues generation p.0 p.1.0 p.1.1.0 p.1.1.1.0 p.1.1.1.1) number8_free number8_exact (λ generation. then_field (λ life p. log_record.CheckpointOfValues generation life p.0 p.1.0 p.1.1.0 p.1.1.1) number4_free number4_exact (λ life. then_field (λ promise p. log_record.CheckpointOfValues generation life promise p.0 p.1.0 p.1.1) view_free view_exact (λ promise.
    then_field (λ copies p. log_record.CheckpointOfValues generation life promise copies p.0 p.1) (copies_free versions.First) (copies_exact versions.First) (λ copies. then_field (λ doubts p. log_record.CheckpointOfValues generation life promise copies doubts p) (doubts_free versions.First) (doubts_exact versions.First) (λ doubts. made_exact (λ decisions. log_record.CheckpointOfValues generation life promise copies doubts decisions) decisions_exact)))))

-- fields never go on to longer ones
pub fields_free : (kind : RecordKind) → IsFree (RecordOf kind)
fields_free kinds.Start = made_free number4_free
fields_free kinds.Promise = made_free view_free
fields_free kinds.Yes = made_free (pair_free (one_value txn_exact) txn_free (pair_free (one_value view_exact) view_free (writes_free versions.Second)))
fields_free kinds.Outcome = made_free (pair_free (one_value txn_exact) txn_free outcome_free)
fields_free kinds.Commit = made_free (pair_free (one_value txn_exact) txn_free (pair_free (one_value view_exact) view_free (pair_free (one_value (writes_exact versions.Second)) (writes_free versions.Second) (sites_free 0))))
fields_free kinds.Copy = made_free (pair_free (one_value rec_exact) rec_free (stored_free versions.Second))
fields_free kinds.Acked = made_free (pair_free (one_value txn_exact) txn_free site_free)
fields_free kinds.Checkpoint =
    made_free (pair_free (one_value number8_exact) number8_free (pair_free (one_value number4_exact) number4_free (pair_free (one_value view_exact) view_free (pair_free (one_value (copies_exact versions.Second)) (copies_free versions.Second) (pair_free (one_value (doubts_exact versions.Second)) (doubts_free versions.Second) decisions_free)))))
fields_free kinds.YesOfValues = made_free (pair_free (one_value txn_exact) txn_free (pair_free (one_value view_exact) view_free (writes_free versions.First)))
fields_free kinds.CommitOfValues = made_free (pair_free (one_value txn_exact) txn_free (pair_free (one_value view_exact) view_free (pair_free (one_value (writes_exact versions.First)) (writes_free versions.First) (sites_free 0))))
fields_free kinds.CopyOfValue = made_free (pair_free (one_value rec_exact) rec_free (stored_free versions.First))
fields_free kinds.CheckpointOfValues =
    made_free (pair_free (one_value number8_exact) number8_free (pair_free (one_value number4_exact) number4_free (pair_free (one_value view_exact) view_free (pair_free (one_value (copies_exact versions.First)) (copies_free versions.First) (pair_free (one_value (doubts_exact versions.First)) (doubts_free versions.First) decisions_free)))))

-- The log record is one of this kind, with these fields.
abbrev pub IsRecordOf : RecordKind → LogRecord → List ℕ → Type 0
IsRecordOf kind r text = (record_code r ≡ kind_code kind) × (text ≡ record_fields r) × IsLogRecord r

pub fields_to : (kind : RecordKind) (r : LogRecord) (t : List ℕ) → RecordOf kind r t → IsRecordOf kind r t
fields_to kinds.Start r t h = subst (λ (r : LogRecord). IsRecordOf kinds.Start r t) (sym h.is) (refl, h.spelled.is, h.spelled.allowed)
fields_to kinds.Promise r t h = subst (λ (r : LogRecord). IsRecordOf kinds.Promise r t) (sym h.is) (refl, h.spelled.is, h.spelled.allowed)
fields_to kinds.Yes r t h = subst (λ (r : LogRecord). IsRecordOf kinds.Yes r t) (sym h.is) (refl, h.spelled.is, (h.spelled.allowed.0, h.spelled.allowed.1.0, h.spelled.allowed.1.1))
fields_to kinds.Outcome r t h = subst (λ (r : LogRecord). IsRecordOf kinds.Outcome r t) (sym h.is) (refl, h.spelled.is, h.spelled.allowed.0)
fields_to kinds.Commit r t h = subst (λ (r : LogRecord). IsRecordOf kinds.Commit r t) (sym h.is) (refl, h.spelled.is, (h.spelled.allowed.0, h.spelled.allowed.1.0, h.spelled.allowed.1.1.0, h.spelled.allowed.1.1.1))
fields_to kinds.Copy r t h = subst (λ (r : LogRecord). IsRecordOf kinds.Copy r t) (sym h.is) (refl, h.spelled.is, (h.spelled.allowed.0, h.spelled.allowed.1))
fields_to kinds.Acked r t h = subst (λ (r : LogRecord). IsRecordOf kinds.Acked r t) (sym h.is) (refl, h.spelled.is, (h.spelled.allowed.0, h.spelled.allowed.1))
fields_to kinds.Checkpoint r t h =
    let a = h.spelled.allowed in
    subst (λ (r : LogRecord). IsRecordOf kinds.Checkpoint r t) (sym h.is) (refl, h.spelled.is, (a.0, a.1.0, a.1.1.0, a.1.1.1.0, a.1.1.1.1.0, a.1.1.1.1.1))
fields_to kinds.YesOfValues r t h = subst (λ (r : LogRecord). IsRecordOf kinds.YesOfValues r t) (sym h.is) (refl, h.spelled.is, (h.spelled.allowed.0, h.spelled.allowed.1.0, h.spelled.allowed.1.1))
fields_to kinds.CommitOfValues r t h = subst (λ (r : LogRecord). IsRecordOf kinds.CommitOfValues r t) (sym h.is) (refl, h.spelled.is, (h.spelled.allowed.0, h.spelled.allowed.1.0, h.spelled.allowed.1.1.0, h.spelled.allowed.1.1.1))
fields_to kinds.CopyOfValue r t h = subst (λ (r : LogRecord). IsRecordOf kinds.CopyOfValue r t) (sym h.is) (refl, h.spelled.is, (h.spelled.allowed.0, h.spelled.allowed.1))
fields_to kinds.CheckpointOfValues r t h =
    let a = h.spelled.allowed in
    subst (λ (r : LogRecord). IsRecordOf kinds.CheckpointOfValues r t) (sym h.is) (refl, h.spelled.is, (a.0, a.1.0, a.1.1.0, a.1.1.1.0, a.1.1.1.1.0, a.1.1.1.1.1))

abbrev pub form : LogRecord → RecordKind
form (log_record.Start life) = kinds.Start
form (log_record.Promise view) = kinds.Promise
form (log_record.Yes txn view writes) = kinds.Yes
form (log_record.Outcome txn commit) = kinds.Outcome
form (log_record.Commit txn view writes waiting) = kinds.Commit
form (log_record.Copy rec stored) = kinds.Copy
form (log_record.Acked txn site) = kinds.Acked
form (log_record.Checkpoint generation life promise copies doubts decisions) = kinds.Checkpoint
form (log_record.YesOfValues txn view writes) = kinds.YesOfValues
form (log_record.CommitOfValues txn view writes waiting) = kinds.CommitOfValues
form (log_record.CopyOfValue rec stored) = kinds.CopyOfValue
form (log_record.CheckpointOfValues generation life promise copies doubts decisions) = kinds.CheckpointOfValues

pub fields_from : (r : LogRecord) → IsLogRecord r → RecordOf (form r) r (record_fields r)
fields_from (log_record.Start life) a = record { from = life; spelled = record { is = refl; allowed = a }; is = refl }
fields_from (log_record.Promise view) a = record { from = view; spelled = record { is = refl; allowed = a }; is = refl }
fields_from (log_record.Yes txn view writes) a = record { from = (txn, (view, writes)); spelled = record { is = refl; allowed = (a.0, (a.1, a.2)) }; is = refl }
fields_from (log_record.Outcome txn commit) a = record { from = (txn, commit); spelled = record { is = refl; allowed = (a, tt) }; is = refl }
fields_from (log_record.Commit txn view writes waiting) a = record { from = (txn, (view, (writes, waiting))); spelled = record { is = refl; allowed = (a.0, (a.1, (a.2, a.3))) }; is = refl }
fields_from (log_record.Copy rec stored) a = record { from = (rec, stored); spelled = record { is = refl; allowed = (a.0, a.1) }; is = refl }
fields_from (log_record.Acked txn site) a = record { from = (txn, site); spelled = record { is = refl; allowed = (a.0, a.1) }; is = refl }
fields_from (log_record.Checkpoint generation life promise copies doubts decisions) a =
    record { from = (generation, (life, (promise, (copies, (doubts, decisions))))); spelled = record { is = refl; allowed = (a.0, (a.1, (a.2, (a.3, (a.4, a.5))))) }; is = refl }
fields_from (log_record.YesOfValues txn view writes) a = record { from = (txn, (view, writes)); spelled = record { is = refl; allowed = (a.0, (a.1, a.2)) }; is = refl }
fields_from (log_record.CommitOfValues txn view writes waiting) a = record { from = (txn, (view, (writes, waiting))); spelled = record { is = refl; allowed = (a.0, (a.1, (a.2, a.3))) }; is = refl }
fields_from (log_record.CopyOfValue rec stored) a = record { from = (rec, stored); spelled = record { is = refl; allowed = (a.0, a.1) }; is = refl }
fields_from (log_record.CheckpointOfValues generation life promise copies doubts decisions) a =
    record { from = (generation, (life, (promise, (copies, (doubts, decisions))))); spelled = record { is = refl; allowed = (a.0, (a.1, (a.2, (a.3, (a.4, a.5))))) }; is = refl }

pub code_kept : (r : LogRecord) → IsLogRecord r → kind_code (form r) ≡ record_code r
code_kept (log_record.Start life) a = refl
code_kept (log_record.Promise view) a = refl
code_kept (log_record.Yes txn view writes) a = refl
code_kept (log_record.Outcome txn commit) a = refl
code_kept (log_record.Commit txn view writes waiting) a = refl
code_kept (log_record.Copy rec stored) a = refl
code_kept (log_record.Acked txn site) a = refl
code_kept (log_record.Checkpoint generation life promise copies doubts decisions) a = refl
code_kept (log_record.YesOfValues txn view writes) a = refl
code_kept (log_record.CommitOfValues txn view writes waiting) a = refl
code_kept (log_record.CopyOfValue rec stored) a = refl
code_kept (log_record.CheckpointOfValues generation life promise copies doubts decisions) a = refl
