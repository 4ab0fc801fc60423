-- What is left of a log where a write of an append is cut short.
use Rattle.std.proofs.Common.{◌≡◌, ◌⊎◌, inl, inr, ℕ, ◌+◌, ◌-◌, ◌≤◌, min, List, [], ◌∷◌, ◌++◌, length, replicate, get_or, take, drop, refl, sym, ◌∙◌, ap, arith, append_assoc, length-append, take-append-drop}
use Rattle.std.proofs.lemmas.List.{drop_at, take-take, take-append-le, take_min, length-take-le, length-replicate, length-drop}
use Rattle.std.proofs.lemmas.Bool.{cases_eq}
use Rattle.std.specs.List.{AllByRecursion}
use Rattle.vp_base.specs.declared.entry.LogRecord.{LogRecord}
use Rattle.vp_outside.specs.Disk.{Written, Torn}
use Rattle.vp_stable.specs.Log.{CanStand, sized_batch, open_batches, IsLog}
use Rattle.vp_stable.proofs.Opened.{opened-push, length-opened-push, all_push, length-around, take_before, take_through, drop_through, around}

-- ---- any write

-- a write that is done
pub torn_written : (at : ℕ) (bytes old new : List ℕ) → Written at bytes old new → Torn at (length bytes) old new
torn_written at bytes old new written =
    let zeros : List ℕ = replicate (at - length old) 0 in
    let padded = length-append old zeros in
    let filled = length-replicate {A = ℕ} (at - length old) 0 in
    let front = take at (old ++ zeros) in
    let size : length front ≡ at = length-take-le at (old ++ zeros) (omega (arith, padded, filled)) in
    let head : length (front ++ bytes) ≡ at + length bytes = omega (arith, size, length-append front bytes) in
    let rest = drop (at + length bytes) old in
    let left = length-drop (at + length bytes) old in
    let whole = length-append (front ++ bytes) rest in
    let m = min at (length old) in
    let short : m ≤ length front = omega (arith, size) in
    let kept : take m new ≡ take at old =
    ap (λ (l : List ℕ). take m l) written ∙ take-append-le m (front ++ bytes) rest (omega (arith, head)) ∙ take-append-le m front bytes short
    ∙ take-take m at (old ++ zeros) (omega arith) ∙ take-append-le m old zeros (omega arith) ∙ take_min at old in
    record {
      before = kept;
      after = ap (λ (l : List ℕ). drop (at + length bytes) l) written ∙ drop_at (front ++ bytes) rest (at + length bytes) head;
      no_shorter = omega (arith, ap length written, whole, head, left);
      no_longer = omega (arith, ap length written, whole, head, left);
    }

-- ---- a half of at most 1 byte

pub torn_empty : (old new : List ℕ) → length old ≤ 1 → Torn 0 1 old new → length new ≤ 1
torn_empty old new short torn = omega (arith, short, torn.no_longer)

pub written_empty : (old new : List ℕ) → Written 0 (0 ∷ []) old new → IsLog 0 [] new
written_empty old new written = record { gate = 0; rest = drop 1 old; is = written; closed = λ e. absurd (omega (arith, e)); at = refl; can = tt }

-- ---- the two writes of an append

-- After the gate of a log there is a batch, with a closed gate after it. Its own gate is any byte.
pub record IsStaged (batch : List LogRecord) (place : ℕ) (batches : List (List LogRecord)) (bytes : List ℕ) : Type 0 where
  pub gate : ℕ
  pub rest : List ℕ
  pub is : bytes ≡ open_batches batches ++ gate ∷ (sized_batch batch ++ 0 ∷ rest)
  pub at : place ≡ length (open_batches batches)
  pub can : AllByRecursion CanStand batches

-- its gate decides whether it counts
staged_reads : (batch : List LogRecord) (place : ℕ) (batches : List (List LogRecord)) (bytes : List ℕ) → CanStand batch → IsStaged batch place batches bytes
    → IsLog place batches bytes ⊎ IsLog (place + length (sized_batch batch ++ 0 ∷ [])) (batches ++ batch ∷ []) bytes
staged_reads batch place batches bytes can staged = elim (cases_eq staged.gate 1) [
  | inl is_open ↦
      inr (record {
        gate = 0;
        rest = staged.rest;
        is = staged.is ∙ ap (λ (g : ℕ). open_batches batches ++ g ∷ (sized_batch batch ++ 0 ∷ staged.rest)) is_open ∙ sym (opened-push batches batch (0 ∷ staged.rest));
        closed = λ e. absurd (omega (arith, e));
        at = omega (arith, staged.at, length-append (sized_batch batch) (0 ∷ []), length-opened-push batches batch);
        can = all_push batches batch staged.can can;
      })
  | inr shut ↦ inl (record { gate = staged.gate; rest = sized_batch batch ++ 0 ∷ staged.rest; is = staged.is; closed = shut; at = staged.at; can = staged.can })
]

module _ (place : ℕ) (batches : List (List LogRecord)) (old : List ℕ) (log : IsLog place batches old) where
  log_size : length old ≡ place + 1 + length log.rest
  log_size = ap length log.is ∙ length-around (open_batches batches) log.rest log.gate place log.at

  log_front : take (place + 1) old ≡ open_batches batches ++ log.gate ∷ []
  log_front = ap (λ (l : List ℕ). take (place + 1) l) log.is ∙ take_through (open_batches batches) log.rest log.gate place log.at

  -- what follows the closed gate is not part of the log
  pub torn_after : (n : ℕ) (new : List ℕ) → Torn (place + 1) n old new → IsLog place batches new
  torn_after n new torn =
      let within : place + 1 ≡ min (place + 1) (length old) = omega (arith, log_size) in
      let front : take (place + 1) new ≡ open_batches batches ++ log.gate ∷ [] = ap (λ (k : ℕ). take k new) within ∙ torn.before ∙ log_front in
      record {
        gate = log.gate;
        rest = drop (place + 1) new;
        is = sym (take-append-drop (place + 1) new) ∙ ap (λ (l : List ℕ). l ++ drop (place + 1) new) front ∙ append_assoc (open_batches batches) (log.gate ∷ []) (drop (place + 1) new);
        closed = log.closed;
        at = log.at;
        can = log.can;
      }

  pub written_after : (batch : List LogRecord) (new : List ℕ) → Written (place + 1) (sized_batch batch ++ 0 ∷ []) old new → IsStaged batch place batches new
  written_after batch new written =
      let piece = sized_batch batch ++ 0 ∷ [] in
      let zeros : List ℕ = replicate (place + 1 - length old) 0 in
      let more = drop (place + 1 + length piece) old in
      let front : take (place + 1) (old ++ zeros) ≡ open_batches batches ++ log.gate ∷ [] = take-append-le (place + 1) old zeros (omega (arith, log_size)) ∙ log_front in
      record {
        gate = log.gate;
        rest = more;
        is = written ∙ ap (λ (l : List ℕ). l ++ piece ++ more) front
            ∙ append_assoc (open_batches batches ++ log.gate ∷ []) piece more
            ∙ append_assoc (open_batches batches) (log.gate ∷ []) (piece ++ more)
            ∙ ap (λ (l : List ℕ). open_batches batches ++ log.gate ∷ l) (append_assoc (sized_batch batch) (0 ∷ []) more);
        at = log.at;
        can = log.can;
      }

module _ (batch : List LogRecord) (can : CanStand batch) (place : ℕ) (batches : List (List LogRecord)) (old : List ℕ) (staged : IsStaged batch place batches old) where
  abbrev back : List ℕ
  back = sized_batch batch ++ 0 ∷ staged.rest

  staged_size : length old ≡ place + 1 + length back
  staged_size = ap length staged.is ∙ length-around (open_batches batches) back staged.gate place staged.at

  staged_front : take place old ≡ open_batches batches
  staged_front = ap (λ (l : List ℕ). take place l) staged.is ∙ take_before (open_batches batches) back staged.gate place staged.at

  staged_back : drop (place + 1) old ≡ back
  staged_back = ap (λ (l : List ℕ). drop (place + 1) l) staged.is ∙ drop_through (open_batches batches) back staged.gate place staged.at

  -- the batch is whole whatever became of the write of its gate
  pub torn_gate : (new : List ℕ) → Torn place 1 old new → IsLog place batches new ⊎ IsLog (place + length (sized_batch batch ++ 0 ∷ [])) (batches ++ batch ∷ []) new
  torn_gate new torn =
      let within : place ≡ min place (length old) = omega (arith, staged_size) in
      let front : take place new ≡ open_batches batches = ap (λ (k : ℕ). take k new) within ∙ torn.before ∙ staged_front in
      staged_reads batch place batches new can (record {
        gate = get_or new place 0;
        rest = staged.rest;
        is = around new (open_batches batches) back place front (torn.after ∙ staged_back) (omega (arith, staged_size, torn.no_shorter));
        at = staged.at;
        can = staged.can;
      })

  pub written_gate : (new : List ℕ) → Written place (1 ∷ []) old new → IsLog (place + length (sized_batch batch ++ 0 ∷ [])) (batches ++ batch ∷ []) new
  written_gate new written =
      let zeros : List ℕ = replicate (place - length old) 0 in
      let front : take place (old ++ zeros) ≡ open_batches batches = take-append-le place old zeros (omega (arith, staged_size)) ∙ staged_front in
      record {
        gate = 0;
        rest = staged.rest;
        is = written ∙ ap (λ (l : List ℕ). l ++ (1 ∷ []) ++ drop (place + 1) old) front
            ∙ ap (λ (l : List ℕ). open_batches batches ++ (1 ∷ []) ++ l) staged_back
            ∙ append_assoc (open_batches batches) (1 ∷ []) back
            ∙ sym (opened-push batches batch (0 ∷ staged.rest));
        closed = λ e. absurd (omega (arith, e));
        at = omega (arith, staged.at, length-append (sized_batch batch) (0 ∷ []), length-opened-push batches batch);
        can = all_push batches batch staged.can can;
      }
