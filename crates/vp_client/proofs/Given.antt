-- An answer among the datagrams that a link has left is the one that is given.
use Rattle.std.proofs.Common.{◌≡◌, ◌∙◌, ℕ, suc, zero, ◌≤◌, List, [], ◌∷◌, ◌++◌, length, take, refl, sym, ap, arith, inl, inr}
use Rattle.std.specs.Prelude.{Option, Some, None, Ok, Err}
use Rattle.vp_model.specs.Types.{Answer, Call}
use Rattle.vp_outside.specs.Links.{Gave, nothing}
use Rattle.vp_outside.specs.declared.datagram.Datagram.{Datagram}
use Rattle.vp_runs.specs.Asking.{first_answer, answer_of}
use Rattle.vp_client.specs.Claims.{AnswersAreGiven}
use Rattle.vp_client.specs.declared.asking.AskFault.TheVariants as faults
use Rattle.vp_outside.proofs.Passed.{firsts, given_firsts}

-- ---- the first datagrams

-- what a link has left, and what it gives after that
firsts_left : (n : ℕ) (left : List Datagram) → (rest : List Datagram) × (firsts n left ≡ take n left ++ rest)
firsts_left zero left = ([], refl)
firsts_left (suc n) [] = (firsts (suc n) [], refl)
firsts_left (suc n) (d ∷ left) = let more = firsts_left n left in (more.0, ap (λ (l : List Datagram). d ∷ l) more.1)

firsts_front : (n m : ℕ) (left : List Datagram) → n ≤ m → (rest : List Datagram) × (firsts m left ≡ firsts n left ++ rest)
firsts_front zero m left h = (firsts m left, refl)
firsts_front (suc n) zero left h = absurd (omega (arith, h))
firsts_front (suc n) (suc m) [] h = let more = firsts_front n m [] (omega (arith, h)) in (more.0, ap (λ (l : List Datagram). nothing ∷ l) more.1)
firsts_front (suc n) (suc m) (d ∷ left) h = let more = firsts_front n m left (omega (arith, h)) in (more.0, ap (λ (l : List Datagram). d ∷ l) more.1)

gave_firsts : (old new : Option (List Datagram)) (left ds : List Datagram) → old ≡ Some left → Gave old new ds → ds ≡ firsts (length ds) left
gave_firsts old (Some left') left ds is gave = (rw is at gave).0 ∙ given_firsts (length ds) (length ds) left (omega arith)
gave_firsts old None left ds is gave = absurd (rw is at gave)

-- ---- the first answer

module _ (port site : ℕ) (words : Call) where
  -- what comes after it doesn't matter
  first_more : (front rest : List Datagram) (a : Answer) → first_answer port site words front ≡ Some a → first_answer port site words (front ++ rest) ≡ Some a
  first_more [] rest a h = let no : None ≡ Some a = h in absurd cc
  first_more (d ∷ front) rest a h = go (answer_of port site words d) refl (first_more front rest a)
    where
      go : (found : Option Answer) → answer_of port site words d ≡ found → (first_answer port site words front ≡ Some a → first_answer port site words (front ++ rest) ≡ Some a) → first_answer port site words (d ∷ front ++ rest) ≡ Some a
      go None e more = rw e (more (rw e at h))
      go (Some b) e more = rw e (rw e at h)

  module _ (turns : ℕ) (left : List Datagram) (a : Answer) (there : first_answer port site words (take turns left) ≡ Some a) where
    in_turns : first_answer port site words (firsts turns left) ≡ Some a
    in_turns = let all = firsts_left turns left in rw all.1 (first_more (take turns left) all.0 a there)

    is_it : (ds : List Datagram) (b : Answer) → ds ≡ firsts (length ds) left → length ds ≤ turns → first_answer port site words ds ≡ Some b → Some b ≡ Some a
    is_it ds b is few found =
        let all = firsts_front (length ds) turns left few in
        let first : first_answer port site words (firsts (length ds) left) ≡ Some b = ap (first_answer port site words) (sym is) ∙ found in
        sym (ap (first_answer port site words) all.1 ∙ first_more (firsts (length ds) left) all.0 b first) ∙ in_turns

    is_found : (ds : List Datagram) → ds ≡ firsts (length ds) left → length ds ≡ turns → first_answer port site words ds ≡ None → ⊥
    is_found ds is all none =
        let no : None ≡ Some a = sym none ∙ ap (first_answer port site words) (is ∙ ap (λ n. firsts n left) all) ∙ in_turns in
        absurd cc

pub answers_are_given : AnswersAreGiven
answers_are_given port site words turns old new (Ok b) left a asks calm is there =
    let e : Some b ≡ Some a = is_it port site words turns left a there _ b (gave_firsts old.left new.left left _ is asks.came.gave) asks.came.few asks.is in
    inl cc
answers_are_given port site words turns old new (Err (faults.NoAnswer count)) left a asks calm is there =
    absurd (is_found port site words turns left a there asks.1.0 (gave_firsts old.left new.left left asks.1.0 is asks.1.1.came.gave) asks.1.2 asks.1.1.none)
answers_are_given port site words turns old new (Err faults.LinkFault) left a asks calm is there = absurd (calm asks.0)
answers_are_given port site words turns old new (Err faults.NoMemory) left a asks calm is there = inr refl
