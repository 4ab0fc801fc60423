-- Batches after open gates, as lists of bytes.
use Rattle.std.proofs.Common.{◌≡◌, ℕ, ◌+◌, ◌<◌, List, [], ◌∷◌, ◌++◌, length, get_or, take, drop, refl, sym, ◌∙◌, ap, arith, append_assoc, length-append, take-append-drop}
use Rattle.std.proofs.lemmas.List.{append-nil, take_at, drop_at, drop_more}
use Rattle.std.specs.List.{AllByRecursion}
use Rattle.vp_base.specs.declared.entry.LogRecord.{LogRecord}
use Rattle.vp_stable.specs.Log.{CanStand, sized_batch, open_batches}
use Rattle.vp_stable.specs.Halves.{second_gate}

-- one more batch
pub opened-push : (batches : List (List LogRecord)) (batch : List LogRecord) (rest : List ℕ) → open_batches (batches ++ batch ∷ []) ++ rest ≡ open_batches batches ++ 1 ∷ (sized_batch batch ++ rest)
opened-push [] batch rest = ap (λ (l : List ℕ). 1 ∷ (l ++ rest)) (append-nil (sized_batch batch))
opened-push (b ∷ bs) batch rest =
    ap (λ (l : List ℕ). 1 ∷ l) (append_assoc (sized_batch b) (open_batches (bs ++ batch ∷ [])) rest
    ∙ ap (λ (l : List ℕ). sized_batch b ++ l) (opened-push bs batch rest)
    ∙ sym (append_assoc (sized_batch b) (open_batches bs) (1 ∷ (sized_batch batch ++ rest))))

pub length-opened-push : (batches : List (List LogRecord)) (batch : List LogRecord) → length (open_batches (batches ++ batch ∷ [])) ≡ length (open_batches batches) + 1 + length (sized_batch batch)
length-opened-push batches batch =
    let all : open_batches (batches ++ batch ∷ []) ≡ open_batches batches ++ 1 ∷ sized_batch batch =
    sym (append-nil (open_batches (batches ++ batch ∷ []))) ∙ opened-push batches batch [] ∙ ap (λ (l : List ℕ). open_batches batches ++ 1 ∷ l) (append-nil (sized_batch batch)) in
    omega (arith, ap length all, length-append (open_batches batches) (1 ∷ sized_batch batch))

pub all_push : (batches : List (List LogRecord)) (batch : List LogRecord) → AllByRecursion CanStand batches → CanStand batch → AllByRecursion CanStand (batches ++ batch ∷ [])
all_push [] batch all one = (one, tt)
all_push (b ∷ bs) batch all one = (all.0, all_push bs batch all.1 one)

-- ---- the second gate

-- it is after the first batch
pub second_first : (batches : List (List LogRecord)) (batch : List LogRecord) → second_gate batches ≡ 0 → length (open_batches (batches ++ batch ∷ [])) ≡ second_gate (batches ++ batch ∷ [])
second_first [] batch none = refl
second_first (b ∷ bs) batch none = absurd (omega (arith, none, length-append (1 ∷ sized_batch b) []))

-- it stays after the first batch
pub second_stays : (batches : List (List LogRecord)) (batch : List LogRecord) → (second_gate batches ≡ 0 → ⊥) → second_gate batches ≡ second_gate (batches ++ batch ∷ [])
second_stays [] batch some = absurd (some refl)
second_stays (b ∷ bs) batch some = refl

-- ---- a list with a gate at a place

module _ (front back : List ℕ) (gate place : ℕ) (at : place ≡ length front) where
  pub length-around : length (front ++ gate ∷ back) ≡ place + 1 + length back
  length-around = omega (arith, at, length-append front (gate ∷ back))

  pub take_before : take place (front ++ gate ∷ back) ≡ front
  take_before = take_at front (gate ∷ back) place (sym at)

  through : length (front ++ gate ∷ []) ≡ place + 1
  through = omega (arith, at, length-append front (gate ∷ []))

  pub take_through : take (place + 1) (front ++ gate ∷ back) ≡ front ++ gate ∷ []
  take_through = ap (λ (l : List ℕ). take (place + 1) l) (sym (append_assoc front (gate ∷ []) back)) ∙ take_at (front ++ gate ∷ []) back (place + 1) through

  pub drop_through : drop (place + 1) (front ++ gate ∷ back) ≡ back
  drop_through = ap (λ (l : List ℕ). drop (place + 1) l) (sym (append_assoc front (gate ∷ []) back)) ∙ drop_at (front ++ gate ∷ []) back (place + 1) through

-- what is before a place and what is after it make up the list
pub around : (xs front back : List ℕ) (place : ℕ) → take place xs ≡ front → drop (place + 1) xs ≡ back → place < length xs → xs ≡ front ++ get_or xs place 0 ∷ back
around xs front back place before following within =
    sym (take-append-drop place xs) ∙ ap (λ (l : List ℕ). l ++ drop place xs) before
    ∙ ap (λ (l : List ℕ). front ++ l) (drop_more xs place 0 within ∙ ap (λ (l : List ℕ). get_or xs place 0 ∷ l) following)
