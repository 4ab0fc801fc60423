-- The digits of a datagram are read exactly.
use Rattle.std.proofs.Common.{◌≡◌, ℕ, ◌+◌, ◌-◌, ◌*◌, ◌%◌, ◌<◌, ◌≤◌, Bool, true, false, cond, List, ◌∷◌, [], ◌++◌, length, Option, Some, None, Ok, Err, refl, ap, sym, subst, ◌∙◌, arith, append-nil, length-append, length-drop, get_or, take, drop, ⊎_elim}
use Rattle.std.specs.Prelude.{nat_lt, ◌&&◌}
use Rattle.std.proofs.lemmas.Bool.{and_parts, and_from, lt-ltb, ltb-true, cases_lt, false≢true}
use Rattle.std.proofs.lemmas.List.{drop_more, take_more, length-take-le, drop_all}
use Rattle.hex.specs.Hex.{encode_lower}
use Rattle.vp_text.specs.Meaning.{Begins}
use Rattle.vp_text.specs.Reading.{scan, word_step, whole_reading}
use Rattle.vp_text.proofs.Exact.{Exact}
use Rattle.vp_text.proofs.Items.{all_at, all_push}
use Rattle.vp_text.proofs.Scan.{scan_exact, scan_on, scan_off}
use Rattle.vp_text.proofs.Words.{chose, chose_none}
use Rattle.vp_recording.specs.Hex.{IsHex, is_digit, is_paired, bytes_of, pairs_done, most_digits, bytes_at}
use Rattle.vp_recording.proofs.Digits.{AreDigits, pairs_are, written_are}

-- ---- what was read so far

record Front (s p : List ℕ) : Type 0 where
  is : s ≡ p
  digits : AreDigits p
  fits : length p ≤ most_digits

half_fits : (n m : ℕ) → n ≡ 2 * m → n ≤ 32768 → m ≤ 16384
half_fits n m e le = omega (arith, e, le)

half_some : (n m : ℕ) → n ≡ 2 * m → 1 ≤ n → 1 ≤ m
half_some n m e le = omega (arith, e, le)

-- paired digits are those of a datagram
of_pairs : (p : List ℕ) → AreDigits p → length p ≤ most_digits → is_paired p ≡ true → 1 ≤ length p → IsHex (bytes_of p) p
of_pairs p all fits e some =
    let a = pairs_are p all e in
    record { is = sym a.text; datagram = record { some = half_some _ _ a.count some; fits = half_fits _ _ a.count fits; bytes_are = a.bytes_are } }

-- digits with one more are paired where they are not
odd_more : (p : List ℕ) → is_paired p ≡ false → is_paired (p ++ 48 ∷ []) ≡ true
odd_more [] e = absurd cc
odd_more (a ∷ []) e = refl
odd_more (a ∷ b ∷ p) e = odd_more p e

odd_length : (p : List ℕ) → is_paired p ≡ false → (half : ℕ) × (length p ≡ 2 * half + 1)
odd_length [] e = absurd cc
odd_length (a ∷ []) e = (0, refl)
odd_length (a ∷ b ∷ p) e = let r = odd_length p e in (r.0 + 1, (let z = r.1 in omega (arith, z)))

odd_room : (n half : ℕ) → n ≡ 2 * half + 1 → n ≤ 32768 → n + 1 ≤ 32768
odd_room n half e le = omega (arith, e, le)

viable : (p : List ℕ) → AreDigits p → length p ≤ most_digits → Begins IsHex p
viable [] all fits = record { value = 0 ∷ []; more = 48 ∷ 48 ∷ []; spelled = of_pairs (48 ∷ 48 ∷ []) (refl, (refl, tt)) (omega arith) refl (omega arith) }
viable (c ∷ p) all fits = go (is_paired (c ∷ p)) refl
  where
    go : (b : Bool) → is_paired (c ∷ p) ≡ b → Begins IsHex (c ∷ p)
    go true e = record { value = bytes_of (c ∷ p); more = []; spelled = subst (IsHex (bytes_of (c ∷ p))) (sym (append-nil (c ∷ p))) (of_pairs (c ∷ p) all fits e (omega arith)) }
    go false e =
        let o = odd_length (c ∷ p) e in
        let text = (c ∷ p) ++ 48 ∷ [] in
        let long : length text ≤ most_digits = (let n = length-append (c ∷ p) (48 ∷ []) in let r = odd_room (length (c ∷ p)) o.0 o.1 fits in omega (arith, n, r)) in
        record { value = bytes_of text; more = 48 ∷ []; spelled = of_pairs text (all_push (λ c. is_digit c ≡ true) (c ∷ p) 48 all refl) long (odd_more (c ∷ p) e) (omega arith) }

-- a datagram's text
pub digits_in : (bytes text : List ℕ) → IsHex bytes text → AreDigits text
digits_in bytes text h = subst AreDigits (sym h.is) (written_are bytes h.datagram.bytes_are).digits

long_in : (bytes text : List ℕ) → IsHex bytes text → length text ≤ most_digits
long_in bytes text h =
    let n = (written_are bytes h.datagram.bytes_are).count in
    let e : length text ≡ length (encode_lower bytes) = ap length h.is in
    let le = h.datagram.fits in
    omega (arith, n, e, le)

paired_in : (bytes text : List ℕ) → IsHex bytes text → is_paired text ≡ true
paired_in bytes text h = ap is_paired h.is ∙ (written_are bytes h.datagram.bytes_are).paired

read_in : (bytes text : List ℕ) → IsHex bytes text → bytes_of text ≡ bytes
read_in bytes text h = ap bytes_of h.is ∙ (written_are bytes h.datagram.bytes_are).bytes_are

some_in : (bytes text : List ℕ) → IsHex bytes text → 1 ≤ length text
some_in bytes text h =
    let n = (written_are bytes h.datagram.bytes_are).count in
    let e : length text ≡ length (encode_lower bytes) = ap length h.is in
    let le = h.datagram.some in
    omega (arith, n, e, le)

done_pairs : (p bytes : List ℕ) → pairs_done p ≡ Some bytes → (is_paired p ≡ true) × (bytes_of p ≡ bytes) × (1 ≤ length p)
done_pairs [] bytes e = absurd cc
done_pairs (c ∷ p) bytes e = let h = chose (is_paired (c ∷ p)) (bytes_of (c ∷ p)) bytes e in (h.0, h.1, omega arith)

none_pairs : (p : List ℕ) → pairs_done p ≡ None → 1 ≤ length p → is_paired p ≡ false
none_pairs [] e some = absurd (omega (arith, some))
none_pairs (c ∷ p) e some = chose_none (is_paired (c ∷ p)) (bytes_of (c ∷ p)) e

stops : (p : List ℕ) (c : ℕ) (bytes r : List ℕ) → word_step is_digit most_digits p c ≡ None → IsHex bytes (p ++ c ∷ r) → ⊥
stops p c bytes r e h =
    let off = chose_none (nat_lt (length p) most_digits && is_digit c) (p ++ c ∷ []) e in
    let digit : is_digit c ≡ true = all_at (λ c. is_digit c ≡ true) p c r (digits_in bytes (p ++ c ∷ r) h) in
    let long = long_in bytes (p ++ c ∷ r) h in
    let n = length-append p (c ∷ r) in
    let room : nat_lt (length p) most_digits ≡ true = lt-ltb (length p) most_digits (omega (arith, n, long)) in
    false≢true (sym off ∙ and_from _ _ room digit)

pub bytes_exact : Exact IsHex bytes_at
unfolding bytes_at
bytes_exact = scan_exact {At = Front} (record {
  viable = λ s p at. viable p at.digits at.fits;
  more = λ s p c t at e.
      let h = chose (nat_lt (length s) most_digits && is_digit c) (s ++ c ∷ []) t e in
      let both = and_parts (nat_lt (length s) most_digits) (is_digit c) h.0 in
      let room = ltb-true (length s) most_digits both.0 in
      let same : length s ≡ length p = ap length at.is in
      let n = length-append p (c ∷ []) in
      record { is = sym h.1 ∙ ap (λ (x : List ℕ). x ++ c ∷ []) at.is; digits = all_push (λ c. is_digit c ≡ true) p c at.digits both.1; fits = omega (arith, room, same, n) };
  stop = λ s p c a r at e l. stops p c a r (subst (λ (s : List ℕ). word_step is_digit most_digits s c ≡ None) at.is e) l;
  value = λ s p a at e.
      let d = done_pairs p a (subst (λ (s : List ℕ). pairs_done s ≡ Some a) at.is e) in
      subst (λ (a : List ℕ). IsHex a p) d.1 (of_pairs p at.digits at.fits d.0 d.2);
  none = λ s p a at e l. false≢true (sym (none_pairs p (subst (λ (s : List ℕ). pairs_done s ≡ None) at.is e) (some_in a p l)) ∙ paired_in a p l);
  one = λ a b t la lb. sym (read_in a t la) ∙ read_in b t lb;
}) [] (record { is = refl; digits = tt; fits = omega arith })

-- ---- the loop

abbrev pub bytes_from : List ℕ → ℕ → Type 0
bytes_from bytes n = scan (word_step is_digit most_digits) pairs_done (take n bytes) (drop n bytes) ≡ bytes_at bytes

pub bytes_start : (bytes : List ℕ) → bytes_from bytes 0
unfolding bytes_at
bytes_start bytes = refl

step_some : (bytes : List ℕ) (n : ℕ) → n < length bytes → n < most_digits → is_digit (get_or bytes n 0) ≡ true → word_step is_digit most_digits (take n bytes) (get_or bytes n 0) ≡ Some (take (n + 1) bytes)
step_some bytes n lt room digit =
    let long : length (take n bytes) ≡ n = length-take-le n bytes (omega (arith, lt)) in
    let both = and_from (nat_lt (length (take n bytes)) most_digits) (is_digit (get_or bytes n 0)) (lt-ltb (length (take n bytes)) most_digits (omega (arith, long, room))) digit in
    rw (both, ← take_more bytes n 0 lt) refl

pub bytes_turn : (bytes : List ℕ) (n : ℕ) → n < length bytes → n < most_digits → is_digit (get_or bytes n 0) ≡ true → bytes_from bytes n → bytes_from bytes (n + 1)
bytes_turn bytes n lt room digit h =
    sym (ap (scan (word_step is_digit most_digits) pairs_done (take n bytes)) (drop_more bytes n 0 lt)
    ∙ scan_on (word_step is_digit most_digits) pairs_done (take n bytes) (get_or bytes n 0) (drop (n + 1) bytes) (take (n + 1) bytes) (step_some bytes n lt room digit)) ∙ h

-- ---- where the loop ends

-- no digit more is taken
abbrev pub StopsAt : List ℕ → ℕ → Type 0
StopsAt bytes n = n < length bytes → n < most_digits → is_digit (get_or bytes n 0) ≡ false

step_none : (bytes : List ℕ) (n : ℕ) → n < length bytes → StopsAt bytes n → word_step is_digit most_digits (take n bytes) (get_or bytes n 0) ≡ None
step_none bytes n lt stops =
    let long : length (take n bytes) ≡ n = length-take-le n bytes (omega (arith, lt)) in
    go (nat_lt (length (take n bytes)) most_digits) refl
  where
    digit : n < most_digits → is_digit (get_or bytes n 0) ≡ false
    digit room = stops lt room

    go : (b : Bool) → nat_lt (length (take n bytes)) most_digits ≡ b → cond (b && is_digit (get_or bytes n 0)) (Some (take n bytes ++ get_or bytes n 0 ∷ [])) None ≡ None
    go true e = rw (digit (let z = ltb-true (length (take n bytes)) most_digits e in let y = length-take-le n bytes (omega (arith, lt)) in omega (arith, z, y))) refl
    go false e = refl

bytes_ends : (bytes : List ℕ) (n : ℕ) → n ≤ length bytes → StopsAt bytes n → bytes_from bytes n → bytes_at bytes ≡ whole_reading (pairs_done (take n bytes)) (drop n bytes)
bytes_ends bytes n le stops h = sym h ∙ ⊎_elim
    (λ (lt : n < length bytes). rw (drop_more bytes n 0 lt) (scan_off (word_step is_digit most_digits) pairs_done (take n bytes) (get_or bytes n 0) (drop (n + 1) bytes) (step_none bytes n lt stops)))
    (λ (over : length bytes ≤ n). rw (drop_all n bytes over) refl)
    (cases_lt n (length bytes))

even_paired : (p : List ℕ) → is_paired p ≡ true → (half : ℕ) × (length p ≡ 2 * half)
even_paired [] e = (0, refl)
even_paired (a ∷ []) e = absurd cc
even_paired (a ∷ b ∷ p) e = let r = even_paired p e in (r.0 + 1, (let z = r.1 in omega (arith, z)))

odd_done : (p : List ℕ) → length p % 2 ≡ 1 → pairs_done p ≡ None
odd_done [] e = refl
odd_done (c ∷ p) e = go (is_paired (c ∷ p)) refl
  where
    go : (b : Bool) → is_paired (c ∷ p) ≡ b → cond b (Some (bytes_of (c ∷ p))) None ≡ None
    go true t = absurd (let r = even_paired (c ∷ p) t in let z = r.1 in omega (arith, z, e))
    go false t = refl

even_done : (p : List ℕ) → 1 ≤ length p → (length p % 2 ≡ 1 → ⊥) → pairs_done p ≡ Some (bytes_of p)
even_done [] some n = absurd (omega (arith, some))
even_done (c ∷ p) some n = go (is_paired (c ∷ p)) refl
  where
    go : (b : Bool) → is_paired (c ∷ p) ≡ b → cond b (Some (bytes_of (c ∷ p))) None ≡ Some (bytes_of (c ∷ p))
    go true t = refl
    go false t = absurd (let r = odd_length (c ∷ p) t in let z = r.1 in n (omega (arith, z)))

none_read : (bytes : List ℕ) (n : ℕ) → n ≤ length bytes → pairs_done (take n bytes) ≡ None → StopsAt bytes n → bytes_from bytes n → bytes_at bytes ≡ Err (length bytes - n)
none_read bytes n le none stops h = bytes_ends bytes n le stops h ∙ ap (λ (o : Option (List ℕ)). whole_reading o (drop n bytes)) none ∙ ap (λ (k : ℕ). Err k) (length-drop n bytes)

pub bytes_none : (bytes : List ℕ) (n : ℕ) → n ≤ length bytes → n ≡ 0 → StopsAt bytes n → bytes_from bytes n → bytes_at bytes ≡ Err (length bytes - n)
bytes_none bytes n le none stops h = none_read bytes n le (ap (λ (k : ℕ). pairs_done (take k bytes)) none) stops h

pub bytes_odd : (bytes : List ℕ) (n : ℕ) → n ≤ length bytes → n % 2 ≡ 1 → StopsAt bytes n → bytes_from bytes n → bytes_at bytes ≡ Err (length bytes - n)
bytes_odd bytes n le odd stops h = none_read bytes n le (odd_done (take n bytes) (ap (λ (k : ℕ). k % 2) (length-take-le n bytes le) ∙ odd)) stops h

pub bytes_read : (bytes : List ℕ) (n : ℕ) → n ≤ length bytes → (n ≡ 0 → ⊥) → (n % 2 ≡ 1 → ⊥) → StopsAt bytes n → bytes_from bytes n → bytes_at bytes ≡ Ok (bytes_of (take n bytes), drop n bytes)
bytes_read bytes n le some even stops h =
    let long : length (take n bytes) ≡ n = length-take-le n bytes le in
    bytes_ends bytes n le stops h ∙ ap (λ (o : Option (List ℕ)). whole_reading o (drop n bytes))
    (even_done (take n bytes) (omega (arith, long, some)) (λ odd. even (ap (λ (k : ℕ). k % 2) (sym long) ∙ odd)))

pub bytes_done : (cursor text : List ℕ) (n : ℕ) (decoded : List ℕ) → text ≡ cursor → n ≤ length text → (n ≡ 0 → ⊥) → (n % 2 ≡ 1 → ⊥) → StopsAt text n → bytes_from text n → decoded ≡ bytes_of (take n text)
    → bytes_at cursor ≡ Ok (decoded, drop n cursor)
bytes_done cursor text n decoded same le some even stops h e =
    ap bytes_at (sym same) ∙ bytes_read text n le some even stops h
    ∙ ap (λ (bytes : List ℕ). Ok (bytes, drop n text)) (sym e)
    ∙ ap (λ (text : List ℕ). Ok (decoded, drop n text)) same
