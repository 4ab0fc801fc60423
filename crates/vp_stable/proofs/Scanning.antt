-- Batches that are read one after the other.
use Rattle.std.proofs.Common.{◌≡◌, ℕ, ◌+◌, ◌-◌, ◌<◌, ◌≤◌, List, [], ◌∷◌, ◌++◌, length, get_or, take, drop, sym, ◌∙◌, ap, subst, arith, length-append}
use Rattle.std.proofs.lemmas.List.{drop_at, drop_more, take_rest}
use Rattle.std.specs.List.{AllByRecursion}
use Rattle.vp_base.specs.declared.entry.LogRecord.{LogRecord}
use Rattle.vp_stable.specs.Log.{CanStand, sized_batch, open_batches, StandsFirst, IsBadLog}
use Rattle.vp_stable.proofs.Opened.{opened-push, length-opened-push, all_push}

-- The bytes before the place are these batches, each after an open gate.
pub record IsRead (batches : List (List LogRecord)) (at : ℕ) (bytes : List ℕ) : Type 0 where
  pub within : at < length bytes
  pub is : bytes ≡ open_batches batches ++ drop at bytes
  pub place : at ≡ length (open_batches batches)
  pub can : AllByRecursion CanStand batches

module _ (batches : List (List LogRecord)) (at : ℕ) (bytes : List ℕ) (read : IsRead batches at bytes) (is_open : get_or bytes at 0 ≡ 1) where
  from_gate : bytes ≡ open_batches batches ++ 1 ∷ drop (at + 1) bytes
  from_gate = read.is ∙ ap (λ (l : List ℕ). open_batches batches ++ l) (drop_more bytes at 0 read.within ∙ ap (λ (g : ℕ). g ∷ drop (at + 1) bytes) is_open)

  -- no batch follows the gate
  pub bad_gate : 2 ≤ length bytes → ((batch : List LogRecord) (next : ℕ) → StandsFirst batch next (take (length bytes - (at + 1)) (drop (at + 1) bytes)) → ⊥) → IsBadLog at bytes
  bad_gate some none = record {
    batches = batches;
    rest = drop (at + 1) bytes;
    some = some;
    is = from_gate;
    at = read.place;
    can = read.can;
    none = λ batch next stands. none batch next (subst (λ (l : List ℕ). StandsFirst batch next l) (sym (take_rest bytes (at + 1))) stands);
  }

  -- a batch follows it
  pub one_more : (batch : List LogRecord) (next : ℕ) → StandsFirst batch next (take (length bytes - (at + 1)) (drop (at + 1) bytes)) → IsRead (batches ++ batch ∷ []) (at + (1 + next)) bytes
  one_more batch next stands =
      let following : drop (at + 1) bytes ≡ sized_batch batch ++ stands.gate ∷ stands.rest = sym (take_rest bytes (at + 1)) ∙ stands.is in
      let front = open_batches (batches ++ batch ∷ []) in
      let back = stands.gate ∷ stands.rest in
      let whole : bytes ≡ front ++ back = from_gate ∙ ap (λ (l : List ℕ). open_batches batches ++ 1 ∷ l) following ∙ sym (opened-push batches batch back) in
      let place : at + (1 + next) ≡ length front = omega (arith, read.place, stands.at, length-opened-push batches batch) in
      record {
        within = omega (arith, place, ap length whole, length-append front back);
        is = whole ∙ ap (λ (l : List ℕ). front ++ l) (sym (ap (λ (l : List ℕ). drop (at + (1 + next)) l) whole ∙ drop_at front back (at + (1 + next)) (sym place)));
        place = place;
        can = all_push batches batch read.can stands.can;
      }
