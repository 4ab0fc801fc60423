-- A durable part is again a durable part after batches.
use Rattle.std.proofs.Common.{◌≡◌, ℕ, suc, zero, Bool, true, false, List, [], ◌∷◌, refl, arith}
use Rattle.std.specs.Prelude.{Option, Some, None, AllPairs}
use Rattle.std.specs.List.{AllByRecursion}
use Rattle.std.proofs.lemmas.List.Elements.{recursion_from_All}
use Rattle.vp_contents.specs.Copies.{IsCopy as IsCopyIn}
use Rattle.vp_contents.specs.Doubts.{IsDoubt as IsDoubtIn}
use Rattle.vp_contents.specs.declared.version.Version.TheVariants as versions
use Rattle.vp_bytes.specs.Decisions.{IsDecision}
use Rattle.vp_records.specs.Batches.{IsBatch}
use Rattle.vp_records.specs.Records.{IsLogRecord}
use Rattle.vp_model.specs.Types.{TxnId, Stored, LogRecord, Doubt}
use Rattle.vp_model.specs.Types.log_record
use Rattle.vp_model.specs.Words.{for_each, replace_at}
use Rattle.vp_model.specs.Catalogue.{Catalogue}
use Rattle.vp_model.specs.Durable.{DurableState, apply, apply_all, doubt_of, with_outcome}
use Rattle.vp_laws.specs.Shapes.{Ascends, AreCopies, IsDurable, doubt_before, decision_before}
use Rattle.vp_laws.proofs.Shapes.Versions.{stored_second, copies_second, writes_second, doubts_second}
use Rattle.vp_laws.proofs.Shapes.Moves.{replace_is, writes_are, doubt_is}
use Rattle.vp_laws.proofs.Shapes.Doubts.{put_doubts, fewer_doubts, with_decisions, fewer_decisions}

ascends_of : {X : Type 0} (before : X → X → Bool) (xs : List X) → AllPairs (λ a b. before a b ≡ true) xs → Ascends before xs
ascends_of before [] h = tt
ascends_of before (x ∷ xs) h = (recursion_from_All (λ b. before x b ≡ true) xs (λ j d within. h zero (suc j) d (omega arith) (omega arith)), ascends_of before xs (λ i j d lt within. h (suc i) (suc j) d (omega arith) (omega arith)))

copies_set : (catalogue : Catalogue) (id : ℕ) (cs copies : List (ℕ × Stored)) → AllByRecursion (IsCopyIn versions.Second) cs → AreCopies catalogue id copies → AreCopies catalogue id (for_each cs (λ c. replace_at c.0 c.1) copies)
copies_set catalogue id [] copies i a = a
copies_set catalogue id (c ∷ cs) copies i a = copies_set catalogue id cs _ i.1 (replace_is catalogue id c.0 c.1 copies i.0.1 a)

outcome_copies : (catalogue : Catalogue) (id : ℕ) (txn : TxnId) (commit : Bool) (d : DurableState) → IsDurable catalogue id d → (o : Option Doubt) → doubt_of txn d.doubts ≡ o → AreCopies catalogue id (with_outcome o commit d.copies)
outcome_copies catalogue id txn true d h None e = h.copies_are
outcome_copies catalogue id txn false d h None e = h.copies_are
outcome_copies catalogue id txn true d h (Some doubt) e = let i = doubt_is txn d.doubts doubt h.doubts_are e in writes_are catalogue id 0 doubt.view doubt.writes d.copies i.1 i.2.1 h.copies_are
outcome_copies catalogue id txn false d h (Some doubt) e = h.copies_are

applied : (catalogue : Catalogue) (id : ℕ) (r : LogRecord) (d : DurableState) → IsLogRecord r → IsDurable catalogue id d → IsDurable catalogue id (apply r d)
unfolding apply
applied catalogue id (log_record.Start life) d i h = record { promise = h.promise; life = i; copies_are = h.copies_are; doubts_are = h.doubts_are; decisions_are = h.decisions_are }
applied catalogue id (log_record.Promise view) d i h = record { promise = i; life = h.life; copies_are = h.copies_are; doubts_are = h.doubts_are; decisions_are = h.decisions_are }
applied catalogue id (log_record.Yes txn view writes) d i h = record { promise = h.promise; life = h.life; copies_are = h.copies_are; doubts_are = put_doubts (record { txn = txn; view = view; writes = writes }) d.doubts i h.doubts_are; decisions_are = h.decisions_are }
applied catalogue id (log_record.Outcome txn commit) d i h = record { promise = h.promise; life = h.life; copies_are = outcome_copies catalogue id txn commit d h (doubt_of txn d.doubts) refl; doubts_are = fewer_doubts txn d.doubts h.doubts_are; decisions_are = h.decisions_are }
applied catalogue id (log_record.Commit txn view writes waiting) d i h = record { promise = h.promise; life = h.life; copies_are = writes_are catalogue id 0 view writes d.copies i.1 i.2.1 h.copies_are; doubts_are = h.doubts_are; decisions_are = with_decisions txn waiting d.decisions i.0 i.3.2 h.decisions_are }
applied catalogue id (log_record.Copy rec stored) d i h = record { promise = h.promise; life = h.life; copies_are = replace_is catalogue id rec stored d.copies i.1 h.copies_are; doubts_are = h.doubts_are; decisions_are = h.decisions_are }
applied catalogue id (log_record.Acked txn site) d i h = record { promise = h.promise; life = h.life; copies_are = h.copies_are; doubts_are = h.doubts_are; decisions_are = fewer_decisions txn site d.decisions h.decisions_are }
applied catalogue id (log_record.Checkpoint generation life promise copies doubts decisions) d i h = record {
  promise = i.2;
  life = i.1;
  copies_are = copies_set catalogue id copies d.copies (recursion_from_All (IsCopyIn versions.Second) copies i.3.1) h.copies_are;
  doubts_are = record { each = recursion_from_All (IsDoubtIn versions.Second) doubts i.4.1; ascend = ascends_of doubt_before doubts i.4.2 };
  decisions_are = record { each = recursion_from_All IsDecision decisions i.5.1; ascend = ascends_of decision_before decisions i.5.2 };
}
applied catalogue id (log_record.YesOfValues txn view writes) d i h = record { promise = h.promise; life = h.life; copies_are = h.copies_are; doubts_are = put_doubts (record { txn = txn; view = view; writes = writes }) d.doubts (i.0, i.1, writes_second writes i.2) h.doubts_are; decisions_are = h.decisions_are }
applied catalogue id (log_record.CommitOfValues txn view writes waiting) d i h = record { promise = h.promise; life = h.life; copies_are = writes_are catalogue id 0 view writes d.copies i.1 (writes_second writes i.2).1 h.copies_are; doubts_are = h.doubts_are; decisions_are = with_decisions txn waiting d.decisions i.0 i.3.2 h.decisions_are }
applied catalogue id (log_record.CopyOfValue rec stored) d i h = record { promise = h.promise; life = h.life; copies_are = replace_is catalogue id rec stored d.copies (stored_second stored i.1) h.copies_are; doubts_are = h.doubts_are; decisions_are = h.decisions_are }
applied catalogue id (log_record.CheckpointOfValues generation life promise copies doubts decisions) d i h = record {
  promise = i.2;
  life = i.1;
  copies_are = copies_set catalogue id copies d.copies (copies_second copies (recursion_from_All (IsCopyIn versions.First) copies i.3.1)) h.copies_are;
  doubts_are = record { each = doubts_second doubts (recursion_from_All (IsDoubtIn versions.First) doubts i.4.1); ascend = ascends_of doubt_before doubts i.4.2 };
  decisions_are = record { each = recursion_from_All IsDecision decisions i.5.1; ascend = ascends_of decision_before decisions i.5.2 };
}

pub all_applied : (catalogue : Catalogue) (id : ℕ) (records : List LogRecord) (d : DurableState) → IsBatch records → IsDurable catalogue id d → IsDurable catalogue id (apply_all records d)
all_applied catalogue id [] d i h = h
all_applied catalogue id (r ∷ records) d i h = all_applied catalogue id records (apply r d) i.1 (applied catalogue id r d i.0 h)
