-- The loops of a cursor's methods, one turn at a time.
use Rattle.std.proofs.Common.{◌≡◌, ℕ, zero, suc, ◌+◌, ◌*◌, ◌-◌, ◌≤◌, ◌<◌, Bool, true, false, ltb, ◌&&◌, List, [], ◌∷◌, length, get_or, take, drop, Some, None, Result, Ok, Err, refl, sym, ap, ◌∙◌, arith, inl, inr}
use Rattle.std.proofs.lemmas.List.{length-take, drop_more, take_more, drop_all, nil_from_length}
use Rattle.std.proofs.lemmas.Bool.{eq-eqb, ne_eqb, lt-ltb, le-ltb, lt-leb, and_left, and_right, cases_lt}
use Rattle.vp_text.proofs.Scan.{scan_on, scan_off}
use Rattle.vp_text.specs.Reading.{scan, whole_reading, literal_step, literal_done, literal_at, word_step, word_done, word_at, begins_number, is_digit, number_step, meets}

-- ---- a given text

pub literal_turn : (text : List ℕ) (i : ℕ) (bytes : List ℕ) (c : ℕ) (rest : List ℕ) → i < length text → bytes ≡ c ∷ rest → c ≡ get_or text i 0 → literal_at (drop i text) bytes ≡ literal_at (drop (i + 1) text) rest
unfolding literal_at
literal_turn text i bytes c rest lt e same =
    rw (e, drop_more text i 0 lt) (scan_on literal_step literal_done (get_or text i 0 ∷ drop (i + 1) text) c rest (drop (i + 1) text) (rw (eq-eqb (get_or text i 0) c (sym same)) refl))

pub literal_ends : (text : List ℕ) (i : ℕ) (bytes : List ℕ) → i < length text → length bytes ≡ 0 → literal_at (drop i text) bytes ≡ Err (length bytes)
unfolding literal_at
literal_ends text i bytes lt e = rw (nil_from_length bytes e, drop_more text i 0 lt) refl

pub literal_differs : (text : List ℕ) (i : ℕ) (bytes : List ℕ) (c : ℕ) (rest : List ℕ) → i < length text → bytes ≡ c ∷ rest → (c ≡ get_or text i 0 → ⊥) → literal_at (drop i text) bytes ≡ Err (length bytes)
unfolding literal_at
literal_differs text i bytes c rest lt e other =
    rw (e, drop_more text i 0 lt) (scan_off literal_step literal_done (get_or text i 0 ∷ drop (i + 1) text) c rest (rw (ne_eqb (get_or text i 0) c (λ h. other (sym h))) refl))

literal_over : (bytes : List ℕ) → literal_at [] bytes ≡ Ok (tt, bytes)
unfolding literal_at
literal_over [] = refl
literal_over (c ∷ bytes) = refl

pub literal_all : (text : List ℕ) (i : ℕ) (bytes : List ℕ) → length text ≤ i → literal_at (drop i text) bytes ≡ Ok (tt, bytes)
literal_all text i bytes le = rw (drop_all i text le) (literal_over bytes)

-- ---- a word

abbrev pub word_from : (ℕ → Bool) → ℕ → List ℕ → ℕ → Result (List ℕ × List ℕ) ℕ
word_from has most bytes n = scan (word_step has most) word_done (take n bytes) (drop n bytes)

pub word_turn : (has : ℕ → Bool) (most : ℕ) (bytes : List ℕ) (n : ℕ) → n < length bytes → n < most → has (get_or bytes n 0) ≡ true → word_from has most bytes n ≡ word_from has most bytes (n + 1)
word_turn has most bytes n lt room good =
    let short : ltb (length (take n bytes)) most ≡ true = lt-ltb _ _ (omega (arith, length-take n bytes)) in
    let stepped : word_step has most (take n bytes) (get_or bytes n 0) ≡ Some (take (n + 1) bytes) = rw (short, good, take_more bytes n 0 lt) refl in
    ap (scan (word_step has most) word_done (take n bytes)) (drop_more bytes n 0 lt) ∙ scan_on (word_step has most) word_done (take n bytes) (get_or bytes n 0) (drop (n + 1) bytes) (take (n + 1) bytes) stepped

pub word_starts : (has : ℕ → Bool) (most : ℕ) (bytes : List ℕ) → word_at has most bytes ≡ word_from has most bytes 0
unfolding word_at
word_starts has most bytes = refl

stopped : (has : ℕ → Bool) (most : ℕ) (bytes : List ℕ) (n : ℕ) → n < length bytes → (ltb (length (take n bytes)) most && has (get_or bytes n 0)) ≡ false → word_from has most bytes n ≡ whole_reading (word_done (take n bytes)) (drop n bytes)
stopped has most bytes n lt e =
    rw (drop_more bytes n 0 lt) (scan_off (word_step has most) word_done (take n bytes) (get_or bytes n 0) (drop (n + 1) bytes) (rw e refl))

-- no more bytes belong to it
word_stops : (has : ℕ → Bool) (most : ℕ) (bytes : List ℕ) (n : ℕ) → n ≤ length bytes → (n < length bytes → n < most → has (get_or bytes n 0) ≡ false) → word_from has most bytes n ≡ whole_reading (word_done (take n bytes)) (drop n bytes)
word_stops has most bytes n le stops =
    elim (cases_lt n (length bytes)) [
      | inl lt ↦
          elim (cases_lt n most) [
            | inl room ↦ stopped has most bytes n lt (and_right (ltb (length (take n bytes)) most) (has (get_or bytes n 0)) (stops lt room))
            | inr full ↦
                let long : ltb (length (take n bytes)) most ≡ false = le-ltb _ _ (omega (arith, length-take n bytes)) in
                stopped has most bytes n lt (and_left (ltb (length (take n bytes)) most) (has (get_or bytes n 0)) long)
          ]
      | inr over ↦ rw (drop_all n bytes over) refl
    ]

word_is : (w rest : List ℕ) → 0 < length w → whole_reading (word_done w) rest ≡ Ok (w, rest)
word_is [] rest lt = absurd (omega arith)
word_is (c ∷ w) rest lt = refl

pub word_ends : (has : ℕ → Bool) (most : ℕ) (bytes : List ℕ) (n : ℕ) → 0 < n → n ≤ length bytes → (n < length bytes → n < most → has (get_or bytes n 0) ≡ false) → word_from has most bytes n ≡ Ok (take n bytes, drop n bytes)
word_ends has most bytes n some le stops = word_stops has most bytes n le stops ∙ word_is (take n bytes) (drop n bytes) (omega (arith, length-take n bytes))

pub word_fails : (has : ℕ → Bool) (most : ℕ) (bytes : List ℕ) (n : ℕ) → n ≡ 0 → (n < length bytes → n < most → has (get_or bytes n 0) ≡ false) → word_from has most bytes n ≡ Err (length bytes)
word_fails has most bytes n e stops = word_stops has most bytes n (omega arith) stops ∙ rw e refl

-- ---- a number that is too large

begins_past : (least most n : ℕ) → most < suc n → begins_number least most (suc n) ≡ false
unfolding begins_number
begins_past least most n past = rw (lt-ltb most (suc n) past) refl

past_at : (least most v : ℕ) → 0 < v → most < v → begins_number least most v ≡ false
past_at least most zero some past = absurd (omega arith)
past_at least most (suc v) some past = begins_past least most v past

pub number_past : (least most n c : ℕ) → most < n * 10 + (c - 48) → 0 < n → number_step least most (Some n) c ≡ None
number_past least most zero c past some = refl
number_past least most (suc n) c past some =
    rw (and_right (is_digit c) (begins_number least most (suc n * 10 + (c - 48))) (past_at least most (suc n * 10 + (c - 48)) (omega arith) past)) refl

pub meets_turn : (least most i low high : ℕ) → i < 20 → low ≤ most → high < least → meets least most (20 - i) low high ≡ meets least most (20 - (i + 1)) (low * 10) (high * 10 + 9)
meets_turn least most i low high lt inside below =
    let k : 20 - i ≡ suc (20 - (i + 1)) = omega arith in
    rw (k, le-ltb most low inside, lt-leb least high below) refl
