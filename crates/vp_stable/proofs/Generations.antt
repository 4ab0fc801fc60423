-- Which half of a log is the current one.
use Rattle.std.proofs.Common.{◌≡◌, inl, inr, ℕ, zero, suc, ◌-◌, ◌≤◌, List, [], ◌∷◌, ◌++◌, length, take, drop, refl, sym, ◌∙◌, ap, subst, arith, append_assoc, length-append}
use Rattle.std.proofs.lemmas.List.{take_rest}
use Rattle.vp_base.specs.declared.entry.LogRecord.{LogRecord}
use Rattle.vp_outside.specs.Disk.{Halves, half_of, InHalf}
use Rattle.vp_records.specs.Batches.{batch_bytes}
use Rattle.vp_records.proofs.Batches.{one_batch}
use Rattle.vp_stable.specs.Log.{sized_batch, open_batches, StandsFirst, IsLog, HasBatches}
use Rattle.vp_stable.specs.Halves.{generation_in, generation_of, HasGeneration, higher, IsCurrent, HalvesAreOneLog, BadHalvesHaveNoBatches}
use Rattle.vp_stable.proofs.Measured.{measured_same}
use Rattle.vp_stable.proofs.Determined.{head, begins, batches_are_one, bad_logs_have_no_batches}

-- ---- the generation of a half

-- only one batch is first
first_is_one : (x y : List LogRecord) (p q : ℕ) (bytes : List ℕ) → StandsFirst x p bytes → StandsFirst y q bytes → x ≡ y
first_is_one x y p q bytes a b =
    let same = measured_same x y (a.gate ∷ a.rest) (b.gate ∷ b.rest) a.can b.can (sym a.is ∙ b.is) in
    one_batch x y (batch_bytes x) (record { is = refl; allowed = a.can.records }) (record { is = same.0; allowed = b.can.records })

-- a half has only one generation
pub generations_are_one : (m n : ℕ) (bytes : List ℕ) → HasGeneration m bytes → HasGeneration n bytes → m ≡ n
generations_are_one m n bytes (inl a) (inl b) =
    let rest : b.1.rest ≡ a.1.rest = ap (λ (l : List ℕ). drop 1 l) (sym b.1.open_ ∙ a.1.open_) in
    let same : a.0 ≡ b.0 = first_is_one a.0 b.0 a.1.place b.1.place a.1.rest a.1.stands (subst (λ (l : List ℕ). StandsFirst b.0 b.1.place l) rest b.1.stands) in
    a.2 ∙ ap generation_in same ∙ sym b.2
generations_are_one m n bytes (inl a) (inr b) = absurd (b.0 a.0 a.1)
generations_are_one m n bytes (inr a) (inl b) = absurd (a.0 b.0 b.1)
generations_are_one m n bytes (inr a) (inr b) = a.1 ∙ sym b.1

-- at most 1 byte has no first batch
pub short_generation : (bytes : List ℕ) → length bytes ≤ 1 → HasGeneration 0 bytes
short_generation bytes short = inr (
  λ batch first. omega (arith, short, ap length first.open_, ap length first.stands.is, length-append (sized_batch batch) (first.stands.gate ∷ first.stands.rest)),
  refl,
)

-- where no batch follows the first gate
pub no_generation : (bytes : List ℕ) → ((batch : List LogRecord) (next : ℕ) → StandsFirst batch next (take (length bytes - 1) (drop 1 bytes)) → ⊥) → HasGeneration 0 bytes
no_generation bytes none = inr (
  λ batch first. none batch first.place (subst (λ (l : List ℕ). StandsFirst batch first.place l) (sym (take_rest bytes 1 ∙ ap (λ (l : List ℕ). drop 1 l) first.open_)) first.stands),
  refl,
)

-- the generation of a log is that of its batches
pub log_generation : (place : ℕ) (batches : List (List LogRecord)) (bytes : List ℕ) → IsLog place batches bytes → HasGeneration (generation_of batches) bytes
log_generation place [] bytes log = inr (λ batch first. log.closed (head log.gate 1 log.rest first.rest (sym log.is ∙ first.open_)), refl)
log_generation place (b ∷ bs) bytes log =
    let next = begins bs log.gate log.rest in
    inl (
      b,
      record {
        place = length (sized_batch b);
        rest = sized_batch b ++ (open_batches bs ++ log.gate ∷ log.rest);
        open_ = log.is ∙ ap (λ (l : List ℕ). 1 ∷ l) (append_assoc (sized_batch b) (open_batches bs) (log.gate ∷ log.rest));
        stands = record { gate = next.gate; rest = next.rest; is = ap (λ (l : List ℕ). sized_batch b ++ l) next.is; at = refl; can = log.can.0 };
      },
      refl,
    )

-- ---- the current half

pub current_is_one : (half other : ℕ) (log : Halves) → IsCurrent half log → IsCurrent other log → half ≡ other
current_is_one half other log a b =
    let first = generations_are_one a.first b.first log.0 a.of_first b.of_first in
    let second = generations_are_one a.second b.second log.1 a.of_second b.of_second in
    a.is ∙ (λ i. higher (first i) (second i)) ∙ sym b.is

-- what holds of any current half holds of the one that is known
pub in_current : (P : List ℕ → Type 0) (half other : ℕ) (log : Halves) → IsCurrent half log → IsCurrent other log → P (half_of other log) → P (half_of half log)
in_current P half other log a b h = subst (λ (k : ℕ). P (half_of k log)) (current_is_one other half log b a) h

-- it stays the current one as long as it keeps its generation
pub current_keeps : (half generation : ℕ) (step : List ℕ → List ℕ → Type 0) (old new : Halves) → InHalf half step old new → HasGeneration generation (half_of half old)
    → HasGeneration generation (half_of half new) → IsCurrent half old → IsCurrent half new
current_keeps zero generation step old new change was now current = record {
  first = generation;
  second = current.second;
  of_first = now;
  of_second = subst (λ (l : List ℕ). HasGeneration current.second l) (sym change.1) current.of_second;
  is = current.is ∙ ap (λ (g : ℕ). higher g current.second) (generations_are_one current.first generation old.0 current.of_first was);
}
current_keeps (suc n) generation step old new change was now current = record {
  first = current.first;
  second = generation;
  of_first = subst (λ (l : List ℕ). HasGeneration current.first l) (sym change.1) current.of_first;
  of_second = now;
  is = current.is ∙ ap (λ (g : ℕ). higher current.first g) (generations_are_one current.second generation old.1 current.of_second was);
}

-- the step of a half
pub in_half_step : (half : ℕ) (step : List ℕ → List ℕ → Type 0) (old new : Halves) → InHalf half step old new → step (half_of half old) (half_of half new)
in_half_step zero step old new change = change.0
in_half_step (suc n) step old new change = change.0

-- ---- the laws

pub halves_are_one : HalvesAreOneLog
halves_are_one a b log first second = batches_are_one one_batch a b (half_of first.0 log) first.2 (in_current (HasBatches b) first.0 second.0 log first.1 second.1 second.2)

pub bad_halves_have_no_batches : BadHalvesHaveNoBatches
bad_halves_have_no_batches half place batches log bad has =
    bad_logs_have_no_batches place batches (half_of half log) bad.bad (in_current (HasBatches batches) half has.0 log bad.current has.1 has.2)
