-- Bytes hold only one list of batches, or are not a log in only one way.
use Rattle.std.proofs.Common.{◌≡◌, inl, inr, ℕ, ◌≤◌, List, [], ◌∷◌, ◌++◌, length, get_or, drop, refl, sym, ◌∙◌, ap, arith, append_assoc, length-append}
use Rattle.std.specs.List.{AllByRecursion}
use Rattle.vp_base.specs.declared.entry.LogRecord.{LogRecord}
use Rattle.vp_records.specs.Batches.{batch_bytes, IsBatchBytes}
use Rattle.vp_stable.specs.Log.{CanStand, sized_batch, open_batches, StandsFirst, IsLog, HasBatches}
use Rattle.vp_stable.specs.Laws.{BatchesAreOne, PlacesAreOne, BadLogsHaveNoBatches, BadPlacesAreOne}
use Rattle.vp_stable.proofs.Measured.{length-measured, measured_same}

-- the first gates are the same
pub head : (x y : ℕ) (xs ys : List ℕ) → x ∷ xs ≡ y ∷ ys → x ≡ y
head x y xs ys e = ap (λ (l : List ℕ). get_or l 0 0) e

-- and so is what follows them
following : (x y : List LogRecord) (a b : List (List LogRecord)) (r s : List ℕ) → open_batches (x ∷ a) ++ r ≡ open_batches (y ∷ b) ++ s → sized_batch x ++ (open_batches a ++ r) ≡ sized_batch y ++ (open_batches b ++ s)
following x y a b r s e = sym (append_assoc (sized_batch x) (open_batches a) r) ∙ ap (λ (l : List ℕ). drop 1 l) e ∙ append_assoc (sized_batch y) (open_batches b) s

-- at most 1 byte holds no batch
pub none_in : (bs : List (List LogRecord)) (bytes : List ℕ) → length bytes ≤ 1 → HasBatches bs bytes → bs ≡ []
none_in bs bytes short (inl none) = none.1
none_in [] bytes short (inr log) = refl
none_in (b ∷ bs) bytes short (inr log) = absurd (omega (arith, short, ap length log.1.is, length-append (open_batches (b ∷ bs)) (log.1.gate ∷ log.1.rest)))

-- batches and the gate after them begin with a gate
pub record BeginsWithGate (bytes : List ℕ) : Type 0 where
  pub gate : ℕ
  pub rest : List ℕ
  pub is : bytes ≡ gate ∷ rest

pub begins : (a : List (List LogRecord)) (gate : ℕ) (rest : List ℕ) → BeginsWithGate (open_batches a ++ gate ∷ rest)
begins [] gate rest = record { gate = gate; rest = rest; is = refl }
begins (x ∷ a) gate rest = record { gate = 1; rest = sized_batch x ++ open_batches a ++ gate ∷ rest; is = refl }

-- where some batches end with an open gate, and others go on, a batch follows that gate
goes_on : (x : List LogRecord) (a : List (List LogRecord)) (gate : ℕ) (r s : List ℕ) → CanStand x → ((batch : List LogRecord) (next : ℕ) → StandsFirst batch next s → ⊥)
    → open_batches (x ∷ a) ++ gate ∷ r ≡ 1 ∷ s → ⊥
goes_on x a gate r s can none e =
    let first = begins a gate r in
    none x (length (sized_batch x)) (record {
      gate = first.gate;
      rest = first.rest;
      is = sym (ap (λ (l : List ℕ). drop 1 l) e) ∙ append_assoc (sized_batch x) (open_batches a) (gate ∷ r) ∙ ap (λ (l : List ℕ). sized_batch x ++ l) first.is;
      at = refl;
      can = can;
    })

clash : (a b : List (List LogRecord)) (gate : ℕ) (r s : List ℕ) → AllByRecursion CanStand a → AllByRecursion CanStand b → (gate ≡ 1 → ⊥)
    → ((batch : List LogRecord) (next : ℕ) → StandsFirst batch next s → ⊥) → open_batches a ++ gate ∷ r ≡ open_batches b ++ 1 ∷ s → ⊥
clash [] [] gate r s a_can b_can closed none e = closed (head gate 1 r s e)
clash [] (y ∷ b) gate r s a_can b_can closed none e = closed (head gate 1 r (sized_batch y ++ open_batches b ++ 1 ∷ s) e)
clash (x ∷ a) [] gate r s a_can b_can closed none e = goes_on x a gate r s a_can.0 none e
clash (x ∷ a) (y ∷ b) gate r s a_can b_can closed none e =
    clash a b gate r s a_can.1 b_can.1 closed none (measured_same x y (open_batches a ++ gate ∷ r) (open_batches b ++ 1 ∷ s) a_can.0 b_can.0 (following x y a b (gate ∷ r) (1 ∷ s) e)).1

pub bad_logs_have_no_batches : BadLogsHaveNoBatches
bad_logs_have_no_batches place bs bytes bad (inl none) = absurd (omega (arith, bad.some, none.0))
bad_logs_have_no_batches place bs bytes bad (inr log) = clash bs bad.batches log.1.gate log.1.rest bad.rest log.1.can bad.can log.1.closed bad.none (sym log.1.is ∙ bad.is)

places : (a b : List (List LogRecord)) (r s : List ℕ) → AllByRecursion CanStand a → AllByRecursion CanStand b → ((batch : List LogRecord) (next : ℕ) → StandsFirst batch next r → ⊥)
    → ((batch : List LogRecord) (next : ℕ) → StandsFirst batch next s → ⊥) → open_batches a ++ 1 ∷ r ≡ open_batches b ++ 1 ∷ s → length (open_batches a) ≡ length (open_batches b)
places [] [] r s a_can b_can a_none b_none e = refl
places [] (y ∷ b) r s a_can b_can a_none b_none e = absurd (goes_on y b 1 s r b_can.0 a_none (sym e))
places (x ∷ a) [] r s a_can b_can a_none b_none e = absurd (goes_on x a 1 r s a_can.0 b_none e)
places (x ∷ a) (y ∷ b) r s a_can b_can a_none b_none e =
    let same = measured_same x y (open_batches a ++ 1 ∷ r) (open_batches b ++ 1 ∷ s) a_can.0 b_can.0 (following x y a b (1 ∷ r) (1 ∷ s) e) in
    let more = places a b r s a_can.1 b_can.1 a_none b_none same.1 in
    omega (arith, more, ap length same.0, length-measured x, length-measured y, length-append (sized_batch x) (open_batches a), length-append (sized_batch y) (open_batches b))

pub bad_places_are_one : BadPlacesAreOne
bad_places_are_one m n bytes first second = first.at ∙ places first.batches second.batches first.rest second.rest first.can second.can first.none second.none (sym first.is ∙ second.is) ∙ sym second.at

-- ---- where the bytes of a batch are of only one batch

module _ (one : (x y : List LogRecord) (bytes : List ℕ) → IsBatchBytes x bytes → IsBatchBytes y bytes → x ≡ y) where
  same_batches : (a b : List (List LogRecord)) (g h : ℕ) (r s : List ℕ) → AllByRecursion CanStand a → AllByRecursion CanStand b → (g ≡ 1 → ⊥) → (h ≡ 1 → ⊥) → open_batches a ++ g ∷ r ≡ open_batches b ++ h ∷ s → a ≡ b
  same_batches [] [] g h r s a_can b_can g_closed h_closed e = refl
  same_batches [] (y ∷ b) g h r s a_can b_can g_closed h_closed e = absurd (g_closed (head g 1 r (sized_batch y ++ open_batches b ++ h ∷ s) e))
  same_batches (x ∷ a) [] g h r s a_can b_can g_closed h_closed e = absurd (h_closed (head h 1 s (sized_batch x ++ open_batches a ++ g ∷ r) (sym e)))
  same_batches (x ∷ a) (y ∷ b) g h r s a_can b_can g_closed h_closed e =
      let same = measured_same x y (open_batches a ++ g ∷ r) (open_batches b ++ h ∷ s) a_can.0 b_can.0 (following x y a b (g ∷ r) (h ∷ s) e) in
      let first : x ≡ y = one x y (batch_bytes x) (record { is = refl; allowed = a_can.0.records }) (record { is = same.0; allowed = b_can.0.records }) in
      let rest : a ≡ b = same_batches a b g h r s a_can.1 b_can.1 g_closed h_closed same.1 in
      λ i. first i ∷ rest i

  of_logs : (m n : ℕ) (a b : List (List LogRecord)) (bytes : List ℕ) → IsLog m a bytes → IsLog n b bytes → a ≡ b
  of_logs m n a b bytes first second = same_batches a b first.gate second.gate first.rest second.rest first.can second.can first.closed second.closed (sym first.is ∙ second.is)

  pub batches_are_one : BatchesAreOne
  batches_are_one a b bytes (inl none) other = none.1 ∙ sym (none_in b bytes none.0 other)
  batches_are_one a b bytes (inr log) (inl none) = none_in a bytes none.0 (inr log) ∙ sym none.1
  batches_are_one a b bytes (inr log) (inr other) = of_logs log.0 other.0 a b bytes log.1 other.1

  pub places_are_one : PlacesAreOne
  places_are_one m n a b bytes first second = first.at ∙ ap (λ (bs : List (List LogRecord)). length (open_batches bs)) (of_logs m n a b bytes first second) ∙ sym second.at
