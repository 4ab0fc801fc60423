-- The position of a log after a batch is written after its gate.
use Rattle.std.proofs.Common.{◌≡◌, inl, inr, ⊎_elim, ℕ, Bool, true, false, ◌+◌, ◌≤◌, List, [], ◌∷◌, ◌++◌, length, refl, sym, ap, subst, arith, length-append}
use Rattle.vp_base.specs.declared.entry.LogRecord.{LogRecord}
use Rattle.vp_outside.specs.Disk.{Halves, half_of, InHalf}
use Rattle.vp_stable.specs.Log.{sized_batch, open_batches, IsLog}
use Rattle.vp_stable.specs.Halves.{generation_in, generation_of, HasGeneration, IsCurrent, Standing, StandsAt, GainsAt, MayGainAt}
use Rattle.vp_stable.specs.Stops.{StaysPut, PutsWhere, GainsWhere}
use Rattle.vp_stable.specs.Writing.{IsPiece, Puts, MayPut}
use Rattle.vp_stable.proofs.Generations.{log_generation, in_half_step}
use Rattle.vp_stable.proofs.Currents.{other_half, other_stays, below_current, current_above}

-- As long as the generation of the current half doesn't fall, and the other half stays, it stays the current one.
stays_current : (half was now : ℕ) (old new : Halves) → IsCurrent half old → HasGeneration was (half_of half old) → was ≤ now → HasGeneration now (half_of half new)
    → half_of (other_half half) new ≡ half_of (other_half half) old → IsCurrent half new
stays_current half was now old new current has le now_has same =
    let below = below_current half was old current has in
    current_above half now new below.0 now_has (record {
      other = below.1.other;
      of_other = subst (λ (bytes : List ℕ). HasGeneration below.1.other bytes) (sym same) below.1.of_other;
      below = omega (arith, below.1.below, le);
    })

-- one more batch lowers no generation
gains_generation : (batches : List (List LogRecord)) (batch : List LogRecord) → generation_of batches ≤ generation_of (batches ++ batch ∷ [])
gains_generation [] batch = omega arith
gains_generation (b ∷ bs) batch = omega arith

pub standing_same : (a b : Standing) → a.half ≡ b.half → a.generation ≡ b.generation → a.gate ≡ b.gate → a.second ≡ b.second → a ≡ b
standing_same a b half generation gate second = λ i. record { half = half i; generation = generation i; gate = gate i; second = second i }

-- ---- a batch is written after the gate

pub may_stay : (batch : List LogRecord) (from : Standing) (log : Halves) → MayGainAt batch from log log
may_stay batch from log batches stands = inl (from.half, stands.current, inr (from.gate, stands.is_log))

module _ (batch : List LogRecord) (piece : List ℕ) (is : IsPiece batch piece) (from : Standing) where
  -- the first batch ends where its piece does
  piece_ends : length (open_batches (batch ∷ [])) ≡ length piece
  piece_ends = omega (arith, length-append (sized_batch batch) [], length-append (sized_batch batch) (0 ∷ []), ap length is.is)

  current_still : (batches : List (List LogRecord)) (old new : Halves) → StandsAt from batches old → (place : ℕ) (now : List (List LogRecord)) → IsLog place now (half_of from.half new)
      → generation_of batches ≤ generation_of now → half_of (other_half from.half) new ≡ half_of (other_half from.half) old → IsCurrent from.half new
  current_still batches old new stands place now log le same =
      stays_current from.half (generation_of batches) (generation_of now) old new stands.current (log_generation from.gate batches (half_of from.half old) stands.is_log) le
      (log_generation place now (half_of from.half new) log) same

  pub may_gain : (old new : Halves) → InHalf from.half (MayPut piece from.gate) old new → MayGainAt batch from old new
  may_gain old new step batches stands =
      let changed : MayPut piece from.gate (half_of from.half old) (half_of from.half new) × (half_of (other_half from.half) new ≡ half_of (other_half from.half) old) =
      (in_half_step from.half (MayPut piece from.gate) old new step, other_stays from.half (MayPut piece from.gate) old new step) in
      ⊎_elim
      (λ log. inl (from.half, current_still batches old new stands from.gate batches log (omega arith) changed.1, inr (from.gate, log)))
      (λ log. inr (from.half, current_still batches old new stands (from.gate + length piece) (batches ++ batch ∷ []) log (gains_generation batches batch) changed.1, inr (from.gate + length piece, log)))
      (changed.0 batch batches is stands.is_log)

  pub gains_where : (kept : Bool) (old new : Halves) → InHalf from.half (PutsWhere piece from.gate kept) old new → GainsWhere batch from kept old new
  gains_where true old new step batches stands =
      let log = in_half_step from.half (Puts piece from.gate) old new step batch batches is stands.is_log in
      let same = other_stays from.half (Puts piece from.gate) old new step in
      (from.half, current_still batches old new stands (from.gate + length piece) (batches ++ batch ∷ []) log (gains_generation batches batch) same, inr (from.gate + length piece, log))
  gains_where false old new step batches stands =
      let log = in_half_step from.half (StaysPut piece from.gate) old new step batch batches is stands.is_log in
      let same = other_stays from.half (StaysPut piece from.gate) old new step in
      (from.half, current_still batches old new stands from.gate batches log (omega arith) same, inr (from.gate, log))

  -- the position of a log that has batches
  pub gains_more : (to : Standing) → to ≡ record from { gate = from.gate + length piece } → (from.second ≡ 0 → ⊥) → (old new : Halves) → InHalf from.half (Puts piece from.gate) old new → GainsAt batch from to old new
  gains_more to to_is some old new step batches stands = rw to_is (by batches stands)
    where
      changed : Puts piece from.gate (half_of from.half old) (half_of from.half new) × (half_of (other_half from.half) new ≡ half_of (other_half from.half) old)
      changed = (in_half_step from.half (Puts piece from.gate) old new step, other_stays from.half (Puts piece from.gate) old new step)

      by : (batches : List (List LogRecord)) → StandsAt from batches old → StandsAt (record from { gate = from.gate + length piece }) (batches ++ batch ∷ []) new
      by [] stands = absurd (some stands.second)
      by (b ∷ bs) stands =
          let log = changed.0 batch (b ∷ bs) is stands.is_log in
          record { current = current_still (b ∷ bs) old new stands (from.gate + length piece) (b ∷ (bs ++ batch ∷ [])) log (omega arith) changed.1; is_log = log; generation = stands.generation; second = stands.second }

  -- and of one that has none
  pub gains_first : (to : Standing) → to ≡ record from { generation = generation_in batch; gate = from.gate + length piece; second = length piece } → from.second ≡ 0
      → (old new : Halves) → InHalf from.half (Puts piece from.gate) old new → GainsAt batch from to old new
  gains_first to to_is none old new step batches stands = rw to_is (by batches stands)
    where
      changed : Puts piece from.gate (half_of from.half old) (half_of from.half new) × (half_of (other_half from.half) new ≡ half_of (other_half from.half) old)
      changed = (in_half_step from.half (Puts piece from.gate) old new step, other_stays from.half (Puts piece from.gate) old new step)

      by : (batches : List (List LogRecord)) → StandsAt from batches old
          → StandsAt (record from { generation = generation_in batch; gate = from.gate + length piece; second = length piece }) (batches ++ batch ∷ []) new
      by [] stands =
          let log = changed.0 batch [] is stands.is_log in
          record { current = current_still [] old new stands (from.gate + length piece) (batch ∷ []) log (omega arith) changed.1; is_log = log; generation = refl; second = sym piece_ends }
      by (b ∷ bs) stands = absurd (omega (arith, none, stands.second, length-append (1 ∷ sized_batch b) []))
