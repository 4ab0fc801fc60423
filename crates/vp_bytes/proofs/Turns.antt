-- The loops over items, one turn at a time.
use Rattle.std.proofs.Common.{◌≡◌, ℕ, suc, ◌+◌, ◌-◌, ◌<◌, true, false, List, [], ◌∷◌, ◌++◌, length, get_or, take, drop, Result, Ok, Err, refl, sym, ap, subst, ◌∙◌, arith}
use Rattle.std.proofs.lemmas.List.{append-nil, drop_more, take_more, drop_all, length-drop}
use Rattle.vp_text.specs.Classes.{has}
use Rattle.vp_text.specs.declared.class.Class.{Class}
use Rattle.vp_text.proofs.Repeats.{regroup, with_front}
use Rattle.vp_bytes.specs.Reading.{byte_at, run_at, word_run_at}

module _ {X : Type 0} (key : X → ℕ) (item : ℕ → ℕ → List ℕ → Result (X × List ℕ) ℕ) where
  pub run_goes : (front : List X) (n least : ℕ) (bytes : List ℕ) (x : X) (rest : List ℕ) (total : Result (List X × List ℕ) ℕ) → item n least bytes ≡ Ok (x, rest)
      → with_front front (run_at key item (suc n) least bytes) ≡ total → with_front (front ++ x ∷ []) (run_at key item n (suc (key x)) rest) ≡ total
  unfolding run_at
  run_goes front n least bytes x rest total h so_far =
      let one : with_front front (run_at key item (suc n) least bytes) ≡ with_front (front ++ x ∷ []) (run_at key item n (suc (key x)) rest) = rw h (regroup front x (run_at key item n (suc (key x)) rest)) in
      sym one ∙ so_far

  pub run_ends : (front : List X) (least : ℕ) (bytes : List ℕ) (total : Result (List X × List ℕ) ℕ) → with_front front (run_at key item 0 least bytes) ≡ total → total ≡ Ok (front, bytes)
  unfolding run_at
  run_ends front least bytes total so_far = sym so_far ∙ ap (λ (xs : List X). Ok (xs, bytes)) (append-nil front)

  pub run_fails : (front : List X) (n least : ℕ) (bytes : List ℕ) (left : ℕ) (total : Result (List X × List ℕ) ℕ) → item n least bytes ≡ Err left
      → with_front front (run_at key item (suc n) least bytes) ≡ total → total ≡ Err left
  unfolding run_at
  run_fails front n least bytes left total h so_far =
      let one : with_front front (run_at key item (suc n) least bytes) ≡ Err left = rw h refl in
      sym so_far ∙ one

-- ---- the bytes of a word

abbrev WordItem : Class → ℕ → ℕ → List ℕ → Result (ℕ × List ℕ) ℕ
WordItem class n least bytes = byte_at (has class) bytes

word_fuel : (count i : ℕ) → i < count → count - i ≡ suc (count - (i + 1))
word_fuel count i lt = omega (arith, lt)

pub word_goes : (class : Class) (count i : ℕ) (bytes : List ℕ) (total : Result (List ℕ × List ℕ) ℕ) → i < count → i < length bytes → has class (get_or bytes i 0) ≡ true
    → with_front (take i bytes) (word_run_at class (count - i) (drop i bytes)) ≡ total → with_front (take (i + 1) bytes) (word_run_at class (count - (i + 1)) (drop (i + 1) bytes)) ≡ total
word_goes class count i bytes total lt inside good so_far =
    let c = get_or bytes i 0 in
    let read : byte_at (has class) (drop i bytes) ≡ Ok (c, drop (i + 1) bytes) = rw (drop_more bytes i 0 inside, good) refl in
    let so_far = subst (λ (n : ℕ). with_front (take i bytes) (word_run_at class n (drop i bytes)) ≡ total) (word_fuel count i lt) so_far in
    subst (λ (xs : List ℕ). with_front xs (word_run_at class (count - (i + 1)) (drop (i + 1) bytes)) ≡ total) (sym (take_more bytes i 0 inside)) (run_goes (λ _. 0) (WordItem class) (take i bytes) (count - (i + 1)) 1 (drop i bytes) c (drop (i + 1) bytes) total read so_far)

pub word_fails : (class : Class) (count i : ℕ) (bytes : List ℕ) (total : Result (List ℕ × List ℕ) ℕ) → i < count → i < length bytes → has class (get_or bytes i 0) ≡ false
    → with_front (take i bytes) (word_run_at class (count - i) (drop i bytes)) ≡ total → total ≡ Err (length bytes - i)
word_fails class count i bytes total lt inside bad so_far =
    let read : byte_at (has class) (drop i bytes) ≡ Err (length (drop i bytes)) = rw (drop_more bytes i 0 inside, bad) refl in
    let so_far = subst (λ (n : ℕ). with_front (take i bytes) (word_run_at class n (drop i bytes)) ≡ total) (word_fuel count i lt) so_far in
    run_fails (λ _. 0) (WordItem class) (take i bytes) (count - (i + 1)) 1 (drop i bytes) (length (drop i bytes)) total read so_far ∙ ap (λ (n : ℕ). Err n) (length-drop i bytes)

pub word_short : (class : Class) (count i : ℕ) (bytes : List ℕ) (total : Result (List ℕ × List ℕ) ℕ) → i < count → i ≡ length bytes
    → with_front (take i bytes) (word_run_at class (count - i) (drop i bytes)) ≡ total → total ≡ Err (length bytes - i)
word_short class count i bytes total lt over so_far =
    let read : byte_at (has class) (drop i bytes) ≡ Err 0 = rw (drop_all i bytes (omega (arith, over))) refl in
    let so_far = subst (λ (n : ℕ). with_front (take i bytes) (word_run_at class n (drop i bytes)) ≡ total) (word_fuel count i lt) so_far in
    let none : 0 ≡ length bytes - i = omega (arith, over) in
    run_fails (λ _. 0) (WordItem class) (take i bytes) (count - (i + 1)) 1 (drop i bytes) 0 total read so_far ∙ ap (λ (n : ℕ). Err n) none

pub word_all : (class : Class) (count i : ℕ) (bytes : List ℕ) (total : Result (List ℕ × List ℕ) ℕ) → i ≡ count
    → with_front (take i bytes) (word_run_at class (count - i) (drop i bytes)) ≡ total → total ≡ Ok (take count bytes, drop count bytes)
word_all class count i bytes total all so_far =
    let none : count - i ≡ 0 = omega (arith, all) in
    let so_far = subst (λ (n : ℕ). with_front (take i bytes) (word_run_at class n (drop i bytes)) ≡ total) none so_far in
    run_ends (λ _. 0) (WordItem class) (take i bytes) 1 (drop i bytes) total so_far ∙ rw all refl
